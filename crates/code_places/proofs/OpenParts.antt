-- The code of parts leaves open what was, and begins where it did.
use Rattle.std.proofs.Common.{◌≡◌, ℕ, ◌<◌, ◌≤◌, true, false, length, Option, Some, None, refl, sym, ap, ◌∙◌, subst, inl, inr, arith}
use Rattle.std.specs.Prelude.{◌⊎◌, IfSome, IsSomeAnd}
use Rattle.std.proofs.lemmas.Option.{slice_get_within}
use Rattle.block_ir.specs.declared.code.Act.{Act}
use Rattle.code_places.specs.declared.targets.Back.{Back}
use Rattle.code_places.specs.declared.targets.Loop.{Loop}
use Rattle.code_places.specs.declared.stages.Stages.{Stages}
use Rattle.code_places.specs.declared.lowering.Lowering.{Lowering}
use Rattle.code_places.specs.Labels.{IsHere, is_used, IsOpen, IsTarget, HasNoPlace, Advances, AreAlike, IsFirst}
use Rattle.code_places.specs.Control.{marked, LeadsOn, EndsBusy, Jumps, ActsAt, EndsCall, Begun, Waits, BegunOr}
use Rattle.code_places.specs.Doing.{AreTargets, IsBackTarget, IsOut, IsHead, Heads, Proceeds}
use Rattle.code_places.proofs.LabelSteps.{None_, advances_refl, advances_new, advances_both, target_after}
use Rattle.code_places.proofs.CodeGrowth.{acts_grows, call_shifts, jumps_shifts}
use Rattle.code_places.proofs.HeadPlaces.{come_on, head_same, jumps_heads, acts_heads, call_heads}
use Rattle.code_places.proofs.OpenLabels.{first_marked, jumps_advance, jumps_begun, acts_advance, acts_first, call_advance, call_first}

-- ---- the same labels

module _ (old new : Lowering) (stages : new.stages ≡ old.stages) (reached : new.reached ≡ old.reached) where
  pub begun_same : (start : ℕ) → Begun start old → Begun start new
  begun_same start (inr first) = inr (subst (IsFirst start) (sym stages) first)
  begun_same start (inl h) = inl (record {
    none = ap (λ (z : Stages). z.stages.items) stages ∙ h.none;
    on = reached ∙ h.on;
    label = h.label;
    here = subst (λ (z : Stages). IsHere z h.label) (sym stages) h.here;
    alike = subst (AreAlike start h.label) (sym stages) h.alike;
    unused = subst (λ (z : Stages). (other : ℕ) → HasNoPlace other z → is_used z.used other ≡ false) (sym stages) h.unused;
  })

  waits_same : (Out : ℕ → Type 0) (start : ℕ) → Waits Out start old → Waits Out start new
  waits_same Out start w = record {
    none = ap (λ (z : Stages). z.stages.items) stages ∙ w.none;
    off = reached ∙ w.off;
    label = w.label;
    out = w.out;
    alike = subst (AreAlike start w.label) (sym stages) w.alike;
    used = subst (λ (z : Stages). is_used z.used w.label ≡ true) (sym stages) w.used;
    alone = subst (λ (z : Stages). (other : ℕ) → HasNoPlace other z → is_used z.used other ≡ true → other ≡ w.label) (sym stages) w.alone;
  }

  pub advances_same : Advances None_ old.stages new.stages
  advances_same = subst (Advances None_ old.stages) (sym stages) (advances_refl None_ old.stages)

  pub proceeds_same : new.back ≡ old.back → old.block.steps ≤ new.block.steps → (around : Option Loop) → Proceeds around old new
  proceeds_same back more around = record { back = back; advances = advances_same; begun = by; heads = λ label l. head_same label l old new stages reached more }
    where
      by : (start : ℕ) → BegunOr (IsOut around) start old → BegunOr (IsOut around) start new
      by start (inl b) = inl (begun_same start b)
      by start (inr w) = inr (waits_same (IsOut around) start w)

pub proceeds_refl : (around : Option Loop) (c : Lowering) → Proceeds around c c
proceeds_refl around c = record { back = refl; advances = advances_refl None_ c.stages; begun = λ start b. b; heads = λ label l h. h }

pub proceeds_both : (around : Option Loop) (a b c : Lowering) → Proceeds around a b → Proceeds around b c → Proceeds around a c
proceeds_both around a b c h k = record {
  back = k.back ∙ h.back;
  advances = advances_both None_ a.stages b.stages c.stages h.advances k.advances;
  begun = λ start b. k.begun start (h.begun start b);
  heads = λ label l head. k.heads label l (h.heads label l head);
}

pub back_after : (a b : Lowering) → Advances None_ a.stages b.stages → b.back ≡ a.back → IsBackTarget a.back a.stages → IsBackTarget b.back b.stages
back_after a b h same t = subst (λ o. IsBackTarget o b.stages) (sym same) (by a.back t)
  where
    by : (o : Option Back) → IsBackTarget o a.stages → IsBackTarget o b.stages
    by None target = tt
    by (Some back) target = target_after a.stages b.stages back.label h target

pub targets_after : (around : Option Loop) (a b : Stages) → Advances None_ a b → AreTargets around a → AreTargets around b
targets_after None a b h t = tt
targets_after (Some l) a b h t = (target_after a b l.leaving h t.0, by l.turning t.1)
  where
    by : (o : Option ℕ) → IfSome o (λ turning. IsTarget turning a) → IfSome o (λ turning. IsTarget turning b)
    by None t = tt
    by (Some turning) t = target_after a b turning h t

-- ---- what is reached

pub reached_begun : (Out : ℕ → Type 0) (start : ℕ) (c : Lowering) → c.reached ≡ true → BegunOr Out start c → Begun start c
reached_begun Out start c on (inl b) = b
reached_begun Out start c on (inr w) = absurd (let off = w.off in cc)

waits_more : (Out More : ℕ → Type 0) (start : ℕ) (c : Lowering) → ((label : ℕ) → Out label → More label) → BegunOr Out start c → BegunOr More start c
waits_more Out More start c more (inl b) = inl b
waits_more Out More start c more (inr w) =
    inr (record { none = w.none; off = w.off; label = w.label; out = more w.label w.out; alike = w.alike; used = w.used; alone = w.alone })

pub begun_proceeds : (around : Option Loop) (old new : Lowering) → new.back ≡ old.back → old.reached ≡ true → Advances None_ old.stages new.stages →
    ((start : ℕ) → Begun start old → Begun start new) → ((label l : ℕ) → IsHead label l old → Heads label l new) → Proceeds around old new
begun_proceeds around old new back on h begun heads = record {
  back = back;
  advances = h;
  begun = λ start b. inl (begun start (reached_begun (IsOut around) start old on b));
  heads = λ label l. by label l;
}
  where
    by : (label l : ℕ) → Heads label l old → Heads label l new
    by label l (inl head) = heads label l head
    by label l (inr came) = inr (come_on None_ label l old.stages new.stages h came)

pub acts_proceed : (act : Act) (old mid new : Lowering) → mid.stages ≡ old.stages → mid.reached ≡ old.reached → mid.back ≡ old.back → old.block.steps ≤ mid.block.steps → old.reached ≡ true →
    ActsAt act mid new → (around : Option Loop) → Proceeds around old new
acts_proceed act old mid new stages reached back more on a around =
    proceeds_both around old mid new (proceeds_same old mid stages reached back more around)
    (begun_proceeds around mid new (acts_grows act mid new a).back (reached ∙ on) (acts_advance act mid new a) (λ start b. inr (acts_first act mid new a start b))
    (λ label l head. acts_heads label l act mid new a (inl head)))

pub call_proceeds : (old new : Lowering) → old.reached ≡ true → EndsCall old new → (around : Option Loop) → Proceeds around old new
call_proceeds old new on e around = begun_proceeds around old new (call_shifts old new e).grows.back on (call_advance old new e) (λ start b. inr (call_first old new e start b))
    (λ label l head. call_heads label l old new e (inl head))

jump_proceeds : (around : Option Loop) (label : ℕ) (old new : Lowering) → IsOut around label → old.reached ≡ true → Jumps label old new → Proceeds around old new
jump_proceeds around label old new out on jumps = record {
  back = (jumps_shifts label old new jumps).grows.back;
  advances = jumps_advance label old new jumps;
  begun = λ start b.
      waits_more (λ l. l ≡ label) (IsOut around) start new (λ l e. subst (IsOut around) (sym e) out) (jumps_begun label old new jumps start (reached_begun (IsOut around) start old on b));
  heads = λ head l. jumps_heads head l label old new jumps;
}

pub break_proceeds : (around : Option Loop) (l : Loop) (old new : Lowering) → around ≡ Some l → old.reached ≡ true → Jumps l.leaving old new → Proceeds around old new
break_proceeds around l old new is on jumps = jump_proceeds around l.leaving old new (subst (λ o. IsOut o l.leaving) (sym is) (inl refl)) on jumps

pub continue_proceeds : (around : Option Loop) (l : Loop) (turning : ℕ) (old new : Lowering) → around ≡ Some l → l.turning ≡ Some turning → old.reached ≡ true → Jumps turning old new →
    Proceeds around old new
continue_proceeds around l turning old new is turns on jumps =
    jump_proceeds around turning old new (subst (λ o. IsOut o turning) (sym is) (inr (subst (λ o. IsSomeAnd o (λ t. turning ≡ t)) (sym turns) refl))) on jumps

open_below : (label : ℕ) (s : Stages) → IsOpen label s → label < length s.labels
open_below label s o = slice_get_within s.labels label None o

-- the places that new labels get are no old one's
pub bound_new : (label : ℕ) (a b c : Stages) → length a.labels ≤ label → Advances None_ a b → Advances (λ other. other ≡ label) b c → Advances None_ a c
bound_new label a b c new_ h k = advances_new None_ (λ other. other ≡ label) a b c h k (λ other e o. absurd (let lt = open_below other a o in omega (arith, lt, e, new_)))

-- ---- returns, and calls

pub none_begun : (start : ℕ) (c : Lowering) → BegunOr (IsOut None) start c → Begun start c
none_begun start c (inl b) = b
none_begun start c (inr w) = absurd w.out

-- a block that does something is a stage
busy_first : (label : ℕ) (old new : Lowering) → Jumps label old new → 0 < old.block.steps → (start : ℕ) → Begun start old → IsFirst start new.stages
busy_first label old new p busy start b = by p.way
  where
    by : LeadsOn label (marked label old) new ⊎ EndsBusy label (marked label old) new → IsFirst start new.stages
    by (inl q) = absurd (let idle = q.idle in omega (arith, busy, idle))
    by (inr q) = first_marked label old new new q start b

module _ (label : ℕ) (old mid new : Lowering) (stages : mid.stages ≡ old.stages) (reached : mid.reached ≡ old.reached) (busy : 0 < mid.block.steps) (jumps : Jumps label mid new) where
  back_advance : Advances None_ old.stages new.stages
  back_advance = advances_both None_ old.stages mid.stages new.stages (advances_same old mid stages reached) (jumps_advance label mid new jumps)

  pub back_first : (start : ℕ) → Begun start old → IsFirst start new.stages
  back_first start b = busy_first label mid new jumps busy start (begun_same old mid stages reached start b)

  pub back_proceeds : mid.back ≡ old.back → old.block.steps ≤ mid.block.steps → old.reached ≡ true → (around : Option Loop) → Proceeds around old new
  back_proceeds back more on around =
      begun_proceeds around old new ((jumps_shifts label mid new jumps).grows.back ∙ back) on back_advance (λ start b. inr (back_first start b))
      (λ head l h. jumps_heads head l label mid new jumps (head_same head l old mid stages reached more (inl h)))
