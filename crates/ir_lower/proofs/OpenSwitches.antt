-- The labels of a switch get their places, and the code goes on where it did.
use Rattle.std.proofs.Common.{◌≡◌, ℕ, suc, ◌+◌, ◌<◌, ◌≤◌, true, List, [], ◌∷◌, length, Option, Some, None, refl, sym, ap, ◌∙◌, subst, inl, inr, ⊎_elim, arith, length-append}
use Rattle.std.specs.Prelude.{ℤ, ◌⊎◌, IfSome, IsSomeAnd}
use Rattle.std.proofs.lemmas.Bool.{cases_lt}
use Rattle.std.proofs.lemmas.Option.{slice_get_within}
use Rattle.hls_ints.specs.Types.{IntegerType}
use Rattle.c_program.specs.Tree.{Expression, Statement, Program}
use Rattle.code_blocks.specs.declared.open_block.OpenBlock.{OpenBlock}
use Rattle.code_places.specs.declared.stages.Stages.{Stages}
use Rattle.code_places.specs.declared.targets.Back.{Back}
use Rattle.code_places.specs.declared.targets.Loop.{Loop}
use Rattle.code_places.specs.declared.lowering.Lowering.{Lowering}
use Rattle.code_places.specs.Labels.{IsOpen, IsTarget, Advances, IsFirst}
use Rattle.code_places.specs.Control.{with_label, Binds, Begun}
use Rattle.code_places.specs.Doing.{Relabels, AreTargets, IsBackTarget, IsOut, IsHead, HasCome, Heads, Proceeds}
use Rattle.code_places.proofs.CodeGrowth.{grows_refl, relabels_both, label_relabels, jumps_shifts, binds_shifts}
use Rattle.code_places.proofs.LabelSteps.{None_, advances_refl, advances_new, advances_both, first_after}
use Rattle.code_places.proofs.OpenLabels.{label_open, jumps_advance, binds_advance}
use Rattle.code_places.proofs.HeadPlaces.{come_on, jumps_come}
use Rattle.code_places.proofs.OpenParts.{begun_proceeds, proceeds_both, proceeds_same, none_begun, targets_after, back_after, back_first}
use Rattle.ir_lower.specs.declared.labels.SwitchLabels.{SwitchLabels}
use Rattle.ir_lower.specs.Taken.{turning_of}
use Rattle.ir_lower.specs.Switching.{labels_of, default_label, Comparisons, AreOpen, HasLabels, AreLabels, OpensSwitch, inside, Awaits, LowersCases}
use Rattle.ir_lower.proofs.ComparisonChains.{comparisons_proceed, comparisons_some, default_within}
use Rattle.ir_lower.proofs.SwitchBodies.{advances_all}

-- ---- new labels

pub has_none : (c : Lowering) → HasLabels 0 c c
has_none c = record {
  relabels = record {
    shifts = record {
      grows = grows_refl c;
      site = refl;
      typed = λ S w size good now. now;
    };
    block = refl;
    items = refl;
    here = λ label h. h;
    advances = advances_refl None_ c.stages;
    begun = λ start b. b;
    reached = refl;
  };
  count = omega arith;
  open_ = λ label low high. absurd (omega (arith, low, high));
}

pub has_one : (label : ℕ) (old new : Lowering) → label ≡ length old.stages.labels → new ≡ with_label old → HasLabels 1 old new
has_one label old new number is = record {
  relabels = subst (Relabels old) (sym is) (label_relabels old);
  count = ap (λ (z : Lowering). length z.stages.labels) is ∙ length-append old.stages.labels (None ∷ []);
  open_ = λ other low high. subst (λ n. IsOpen n new.stages) (let e : label ≡ other = omega (arith, low, high, number) in e) (label_open label old new number is);
}

pub has_both : (n m all : ℕ) (a b c : Lowering) → all ≡ n + m → HasLabels n a b → HasLabels m b c → HasLabels all a c
has_both n m all a b c sum h k = record {
  relabels = relabels_both a b c h.relabels k.relabels;
  count = (let x = h.count in let y = k.count in omega (arith, x, y, sum));
  open_ = λ label low high. ⊎_elim
      (λ lt. k.relabels.advances.open_ label (λ m. m) (h.open_ label low lt))
      (λ le. k.open_ label (let x = h.count in omega (arith, le, x)) (let x = h.count in omega (arith, high, sum, x)))
      (cases_lt label (length a.stages.labels + n));
}

pub switch_labelled : (labels : SwitchLabels) (body : Statement) (old mid new : Lowering) → labels.past ≡ length old.stages.labels → mid ≡ with_label old → labels.first ≡ suc labels.past →
    HasLabels (length (labels_of body)) mid new → AreLabels labels body old new
switch_labelled labels body old mid new past is first has = record {
  has = has_both 1 (length (labels_of body)) (suc (length (labels_of body))) old mid new (omega arith) (has_one labels.past old mid past is) has;
  past = past;
  first = first;
}

-- ---- where it may be gone on at

-- a label that is led to is there
target_within : (label : ℕ) (s : Stages) → IsTarget label s → label < length s.labels
target_within label s (inl o) = slice_get_within s.labels label None o
target_within label s (inr o) = slice_get_within s.labels label (Some o.1.number) o.1.bound

target_past : (Bound : ℕ → Type 0) (a b : Stages) (label : ℕ) → Advances Bound a b → (Bound label → ⊥) → IsTarget label a → IsTarget label b
target_past Bound a b label h apart (inl o) = inl (h.open_ label apart o)
target_past Bound a b label h apart (inr o) = inr (o.0, h.at label o.0 o.1, h.busy o.0 o.2)

pub awaits_first : (l n m all : ℕ) (around : Option Loop) (c : Lowering) → all ≡ n + m → Awaits l all around c → Awaits l n around c
awaits_first l n m all around c sum h = record {
  open_ = λ label low high. h.open_ label low (omega (arith, high, sum));
  targets = h.targets;
  back = h.back;
  out = h.out;
  behind = h.behind;
}

module _ (l n m all next : ℕ) (around : Option Loop) (old mid : Lowering) (sum : all ≡ n + m) (h : Awaits l all around old) (next_ : next ≡ l + n)
    (advances : Advances (λ label. (l ≤ label) × (label < next)) old.stages mid.stages) (back_ : mid.back ≡ old.back) where
  stays : (label : ℕ) → label < l → IsTarget label old.stages → IsTarget label mid.stages
  stays label lt target = target_past (λ other. (l ≤ other) × (other < next)) old.stages mid.stages label advances (λ among. (let le = among.0 in omega (arith, lt, le))) target

  stay : (o : Option Loop) → ((label : ℕ) → IsOut o label → label < l) → AreTargets o old.stages → AreTargets o mid.stages
  stay None below targets = tt
  stay (Some out) below targets = (stays out.leaving (below out.leaving (inl refl)) targets.0, by out.turning (λ label is. below label (inr is)) targets.1)
    where
      by : (o : Option ℕ) → ((label : ℕ) → IsSomeAnd o (λ turning. label ≡ turning) → label < l) → IfSome o (λ turning. IsTarget turning old.stages) → IfSome o (λ turning. IsTarget turning mid.stages)
      by None less target = tt
      by (Some turning) less target = stays turning (less turning refl) target

  goes_back : (o : Option Back) → IfSome o (λ (b : Back). b.label < l) → IsBackTarget o old.stages → IsBackTarget o mid.stages
  goes_back None below target = tt
  goes_back (Some b) below target = stays b.label below target

  still_behind : (o : Option Back) → IfSome o (λ (b : Back). b.label < l) → IfSome o (λ (b : Back). b.label < next)
  still_behind None below = tt
  still_behind (Some b) below = (omega (arith, below, next_))

  pub awaits_rest : Awaits next m around mid
  awaits_rest = record {
    open_ = λ label low high. advances.open_ label (λ among. (let lt = among.1 in omega (arith, low, lt))) (h.open_ label (omega (arith, low, next_)) (omega (arith, high, next_, sum)));
    targets = stay around h.out h.targets;
    back = subst (λ o. IsBackTarget o mid.stages) (sym back_) (goes_back old.back h.behind h.back);
    out = λ label is. (let lt = h.out label is in omega (arith, lt, next_));
    behind = subst (λ o. IfSome o (λ (b : Back). b.label < next)) (sym back_) (still_behind old.back h.behind);
  }

-- ---- the head of a switch

-- the label to which it goes where no case is met
pub default_open : (own : SwitchLabels) (body : Statement) (x : ℕ) (old a b c : Lowering) → AreLabels own body old a → b.stages ≡ a.stages → b.reached ≡ true → 0 < b.block.steps →
    Comparisons x (labels_of body) own.first b c → IsOpen (default_label (labels_of body) own.first own.past) c.stages
default_open own body x old a b c has stages on busy compared =
    let past = has.past in
    let first = has.first in
    let within = default_within (labels_of body) own.first own.past (omega (arith, first)) in
    let low = within.0 in
    let high = within.1 in
    let open_ : AreOpen (length old.stages.labels) (suc (length (labels_of body))) b.stages = subst (AreOpen (length old.stages.labels) (suc (length (labels_of body)))) (sym stages) has.has.open_ in
    (comparisons_proceed x (labels_of body) own.first b c compared (λ label le lt. open_ label (omega (arith, past, first, le)) (omega (arith, past, first, lt))) on
    (λ idle. absurd (omega (arith, idle, busy))) None).advances.open_ (default_label (labels_of body) own.first own.past) (λ m. m)
    (open_ (default_label (labels_of body) own.first own.past) (omega (arith, past, low)) (omega (arith, past, first, high)))

relabels_proceed : (around : Option Loop) (old new : Lowering) → old.reached ≡ true → Relabels old new → Proceeds around old new
relabels_proceed around old new on r =
    begun_proceeds around old new r.shifts.grows.back on r.advances r.begun
    (λ label n head. inl (record {
      here = r.here label head.here;
      number = ap (λ stages. length stages.items) r.items ∙ head.number;
      busy = (let some = head.busy in let same = ap (λ (z : OpenBlock). z.steps) r.block in omega (arith, some, same));
      on = r.reached ∙ head.on;
    }))

module _ (ty : IntegerType) (operand : Expression) (body : Statement) (own : SwitchLabels) (old m : Lowering) (on : old.reached ≡ true) (opens : OpensSwitch ty operand body own old m) where
  abbrev a : Lowering
  a = opens.labelled

  abbrev b : Lowering
  b = opens.stepped

  abbrev c : Lowering
  c = opens.compared

  abbrev labels : List (Option ℤ)
  labels = labels_of body

  abbrev other : ℕ
  other = default_label labels own.first own.past

  stages_are : b.stages ≡ a.stages
  stages_are = ap (λ (z : Lowering). z.stages) opens.steps

  busy_b : 0 < b.block.steps
  busy_b = (let t = ap (λ (z : Lowering). z.block.steps) opens.steps in omega (arith, t))

  on_b : b.reached ≡ true
  on_b = ap (λ (z : Lowering). z.reached) opens.steps ∙ opens.labels_.has.relabels.reached ∙ on

  open_b : AreOpen own.first (length labels) b.stages
  open_b = subst (AreOpen own.first (length labels)) (sym stages_are) (λ label low high.
      opens.labels_.has.open_ label (let p = opens.labels_.past in let f = opens.labels_.first in omega (arith, p, f, low)) (let p = opens.labels_.past in let f = opens.labels_.first in omega (arith, p, f, high)))

  module _ (around : Option Loop) where
    old_a : Proceeds around old a
    old_a = relabels_proceed around old a on opens.labels_.has.relabels

    a_b : Proceeds around a b
    a_b = proceeds_same a b stages_are (ap (λ (z : Lowering). z.reached) opens.steps) (ap (λ (z : Lowering). z.back) opens.steps)
        (let t = ap (λ (z : Lowering). z.block.steps) opens.steps in let s = opens.puts.steps in omega (arith, t, s)) around

    b_c : Proceeds around b c
    b_c = comparisons_proceed opens.word labels own.first b c opens.comparisons open_b on_b (λ idle. absurd (omega (arith, idle, busy_b))) around

    old_c : Proceeds around old c
    old_c = proceeds_both around old b c (proceeds_both around old a b old_a a_b) b_c

  old_m : Advances None_ old.stages m.stages
  old_m = advances_both None_ old.stages c.stages m.stages (old_c None).advances (jumps_advance other c m opens.jumps)

  back_m : m.back ≡ old.back
  back_m = (jumps_shifts other c m opens.jumps).grows.back ∙ (old_c None).back

  some_c : (0 < c.block.steps) ⊎ (0 < length c.stages.stages.items)
  some_c = comparisons_some opens.word labels own.first b c opens.comparisons open_b on_b (inl busy_b)

  -- the code has begun
  first_m : (start : ℕ) → Begun start old → IsFirst start m.stages
  first_m start begun = ⊎_elim (λ busy. back_first other c c m refl refl busy opens.jumps start begun_c) (λ some. by some begun_c) some_c
    where
      begun_c : Begun start c
      begun_c = none_begun start c ((old_c None).begun start (inl begun))

      by : 0 < length c.stages.stages.items → Begun start c → IsFirst start m.stages
      by some (inl hand) = absurd (let none = ap length hand.none in omega (arith, some, none))
      by some (inr first) = first_after None_ c.stages m.stages start (jumps_advance other c m opens.jumps) first

  come_m : (label n : ℕ) → IsHead label n old → HasCome label n m.stages
  come_m label n head = by ((old_c None).heads label n (inl head))
    where
      by : Heads label n c → HasCome label n m.stages
      by (inl h) = jumps_come label n other c m opens.jumps h
      by (inr come) = come_on None_ label n c.stages m.stages (jumps_advance other c m opens.jumps) come

  -- the labels are behind those of before
  new_label : (label : ℕ) → label < length old.stages.labels → label < own.first
  new_label label lt = (let p = opens.labels_.past in let f = opens.labels_.first in omega (arith, p, f, lt))

  open_m : AreOpen own.past (suc (length labels)) m.stages
  open_m = λ label low high.
      m_after.open_ label (λ e. e) (opens.labels_.has.open_ label (let p = opens.labels_.past in omega (arith, p, low)) (let p = opens.labels_.past in omega (arith, p, high)))
    where
      m_after : Advances None_ a.stages m.stages
      m_after =
          advances_both None_ a.stages c.stages m.stages (advances_both None_ a.stages b.stages c.stages (a_b None).advances (b_c None).advances) (jumps_advance other c m opens.jumps)

  pub switch_awaits : (around : Option Loop) → AreTargets around old.stages → IsBackTarget old.back old.stages → Awaits own.first (length labels) (Some (inside around own)) m
  switch_awaits around targets back = record {
    open_ = λ label low high. open_m label (let f = opens.labels_.first in omega (arith, f, low)) (let f = opens.labels_.first in omega (arith, f, high));
    targets = (inl (open_m own.past (omega arith) (omega arith)), turns_to around targets);
    back = back_after old m old_m back_m back;
    out = λ label is. out_before around targets label is;
    behind = subst (λ o. IfSome o (λ (x : Back). x.label < own.first)) (sym back_m) (back_before old.back back);
  }
    where
      turns_to : (o : Option Loop) → AreTargets o old.stages → IfSome (turning_of o) (λ turning. IsTarget turning m.stages)
      turns_to None targets = tt
      turns_to (Some out) targets = (targets_after (Some out) old.stages m.stages old_m targets).1

      turns_before : (o : Option ℕ) → IfSome o (λ turning. IsTarget turning old.stages) → (label : ℕ) → IsSomeAnd o (λ turning. label ≡ turning) → label < own.first
      turns_before None target label is = absurd is
      turns_before (Some turning) target label is = subst (λ n. n < own.first) (sym is) (new_label turning (target_within turning old.stages target))

      turning_targets : (o : Option Loop) → AreTargets o old.stages → IfSome (turning_of o) (λ turning. IsTarget turning old.stages)
      turning_targets None targets = tt
      turning_targets (Some out) targets = targets.1

      out_before : (o : Option Loop) → AreTargets o old.stages → (label : ℕ) → (label ≡ own.past) ⊎ IsSomeAnd (turning_of o) (λ turning. label ≡ turning) → label < own.first
      out_before o targets label (inl is) = (let f = opens.labels_.first in omega (arith, f, is))
      out_before o targets label (inr is) = turns_before (turning_of o) (turning_targets o targets) label is

      back_before : (o : Option Back) → IsBackTarget o old.stages → IfSome o (λ (x : Back). x.label < own.first)
      back_before None target = tt
      back_before (Some x) target = new_label x.label (target_within x.label old.stages target)

  -- ---- and its body

  module _ (P : Program) (around : Option Loop) (next : ℕ) (e : Lowering) (cases : LowersCases P (Some (inside around own)) body own.first next m e) where
    pub past_open : IsOpen own.past e.stages
    past_open = cases.advances.open_ own.past (λ among. (let le = among.0 in let f = opens.labels_.first in omega (arith, le, f))) (open_m own.past (omega arith) (omega arith))

    module _ (new : Lowering) (binds : Binds own.past e new) where
      old_e : Advances None_ old.stages e.stages
      old_e = advances_new None_ (λ label. (own.first ≤ label) × (label < next)) old.stages m.stages e.stages old_m cases.advances
          (λ label among o. (let le = among.0 in let lt = new_label label (slice_get_within old.stages.labels label None o) in omega (arith, le, lt)))

      old_new : Advances None_ old.stages new.stages
      old_new = advances_new None_ (λ label. label ≡ own.past) old.stages e.stages new.stages old_e (binds_advance own.past e new binds)
          (λ label is o. (let lt = slice_get_within old.stages.labels label None o in let p = opens.labels_.past in omega (arith, is, lt, p)))

      m_new : Advances (λ label. own.past ≤ label) m.stages new.stages
      m_new = advances_all (λ label. (own.first ≤ label) × (label < next)) (λ label. label ≡ own.past) (λ label. own.past ≤ label) m.stages e.stages new.stages
          (λ label among. (let le = among.0 in let f = opens.labels_.first in omega (arith, le, f))) (λ label is. omega (arith, is)) cases.advances (binds_advance own.past e new binds)

      pub switch_proceeds : Proceeds around old new
      switch_proceeds =
          begun_proceeds around old new ((binds_shifts own.past e new binds).grows.back ∙ cases.back ∙ back_m) on old_new
          (λ start begun. inr (first_after (λ label. own.past ≤ label) m.stages new.stages start m_new (first_m start begun)))
          (λ label n head. inr (come_on (λ other. own.past ≤ other) label n m.stages new.stages m_new (come_m label n head)))
