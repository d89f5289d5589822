-- The place of a block that takes a step comes to that block's stage.
use Rattle.std.proofs.Common.{◌≡◌, ℕ, ◌+◌, ◌<◌, ◌≤◌, true, false, [], ◌∷◌, length, Some, None, refl, sym, ap, ◌∙◌, subst, inl, inr, arith}
use Rattle.std.specs.Prelude.{◌⊎◌, slice_get}
use Rattle.lists.proofs.Places.{get_front}
use Rattle.block_ir.specs.declared.block.Next.{Next}
use Rattle.block_ir.specs.declared.block.Next.TheVariants.{Jump}
use Rattle.block_ir.specs.declared.code.Act.{Act}
use Rattle.block_ir.specs.declared.code.Act.TheVariants.{Return}
use Rattle.block_ir.specs.declared.code.Stage.TheVariants as stage
use Rattle.code_places.specs.declared.stages.Stages.{Stages}
use Rattle.code_places.specs.declared.lowering.Lowering.{Lowering}
use Rattle.code_places.specs.Labels.{IsHere, IsAt, IsBusy, Advances}
use Rattle.code_places.specs.Control.{marked, placed, with_label, EndsAt, LeadsOn, EndsBusy, Jumps, Begins, Binds, Leaps, BeginsStage, ActsAt, EndsCall}
use Rattle.code_places.specs.Doing.{IsHead, HasCome, Heads}
use Rattle.code_places.proofs.LabelSteps.{binds_label, pushed_is, pushed_busy, busy_takes}
use Rattle.code_places.proofs.LabelTargets.{open_ended}
use Rattle.code_places.proofs.OpenLabels.{begins_advance, jumps_advance, acts_after, call_after, stage_advance}

pub come_on : (Bound : ℕ → Type 0) (label l : ℕ) (a b : Stages) → Advances Bound a b → HasCome label l a → HasCome label l b
come_on Bound label l a b h came = record { at = h.at label l came.at; busy = h.busy l came.busy }

module _ (label l : ℕ) where
  -- the block ends
  pub ends_come : (next : Next) (old new : Lowering) → EndsAt next old new → IsHead label l old → HasCome label l new.stages
  ends_come next old new e head = record {
    at = subst (λ n. IsAt label n new.stages) head.number (pushed_is (stage.Run e.block) old.stages new.stages e.pushes label head.here);
    busy = subst (λ n. IsBusy n new.stages) head.number
        (pushed_busy (stage.Run e.block) old.stages new.stages e.pushes
        (busy_takes e.block (let steps = e.closes.steps in let some = head.busy in omega (arith, steps, some))));
  }

  pub head_same : (old new : Lowering) → new.stages ≡ old.stages → new.reached ≡ old.reached → old.block.steps ≤ new.block.steps → Heads label l old → Heads label l new
  head_same old new stages reached more (inl head) = inl (record {
    here = subst (λ (z : Stages). IsHere z label) (sym stages) head.here;
    number = ap (λ (z : Stages). length z.stages.items) stages ∙ head.number;
    busy = (let some = head.busy in omega (arith, more, some));
    on = reached ∙ head.on;
  })
  head_same old new stages reached more (inr came) = inr (subst (HasCome label l) (sym stages) came)

  head_marked : (other : ℕ) (c : Lowering) → IsHead label l c → IsHead label l (marked other c)
  head_marked other c head = record { here = head.here; number = head.number; busy = head.busy; on = head.on }

  pub jumps_come : (to : ℕ) (old new : Lowering) → Jumps to old new → IsHead label l old → HasCome label l new.stages
  jumps_come to old new p head = by p.way
    where
      by : LeadsOn to (marked to old) new ⊎ EndsBusy to (marked to old) new → HasCome label l new.stages
      by (inl q) = absurd (let idle = q.idle in let some = head.busy in omega (arith, idle, some))
      by (inr q) = ends_come (Jump to) (marked to old) new q.ends (head_marked to old head)

  pub jumps_heads : (to : ℕ) (old new : Lowering) → Jumps to old new → Heads label l old → Heads label l new
  jumps_heads to old new p (inl head) = inr (jumps_come to old new p head)
  jumps_heads to old new p (inr came) = inr (come_on (λ other. ⊥) label l old.stages new.stages (jumps_advance to old new p) came)

  pub leaps_heads : (to : ℕ) (old new : Lowering) → Leaps to old new → Heads label l old → Heads label l new
  leaps_heads to old new (inl p) h = subst (Heads label l) (sym p.same) h
  leaps_heads to old new (inr p) h = jumps_heads to old new p.jumps h

  pub begins_come : (to : ℕ) (old new : Lowering) → Begins to old new → IsHead label l old → HasCome label l new.stages
  begins_come to old new (inl p) head = absurd (let idle = p.idle head.on in let some = head.busy in omega (arith, idle, some))
  begins_come to old new (inr p) head =
      subst (λ (z : Lowering). HasCome label l z.stages) (sym p.same)
      (come_on (λ other. other ≡ to) label l p.mid.stages (placed to p.mid).stages
      (binds_label to p.mid.stages (placed to p.mid).stages (open_ended (Jump to) to (marked to old) p.mid p.ends.ends p.open_) refl)
      (ends_come (Jump to) (marked to old) p.mid p.ends.ends (head_marked to old head)))

  pub begins_heads : (to : ℕ) (old new : Lowering) → Begins to old new → Heads label l old → Heads label l new
  begins_heads to old new p (inl head) = inr (begins_come to old new p head)
  begins_heads to old new p (inr came) = inr (come_on (λ other. other ≡ to) label l old.stages new.stages (begins_advance to old new p) came)

  pub binds_heads : (to : ℕ) (old new : Lowering) → Binds to old new → Heads label l old → Heads label l new
  binds_heads to old new (inl p) h = subst (Heads label l) (sym p.same) h
  binds_heads to old new (inr p) h = begins_heads to old new p.begins h

  pub head_labelled : (c : Lowering) → IsHead label l c → IsHead label l (with_label c)
  head_labelled c head = record { here = get_front c.stages.labels (None ∷ []) label (Some (length c.stages.places)) head.here; number = head.number; busy = head.busy; on = head.on }

  pub stage_comes : (old new : Lowering) → BeginsStage old new → IsHead label l old → HasCome label l new.stages
  stage_comes old new (inl p) head = absurd (let idle = p.idle in let some = head.busy in omega (arith, idle, some))
  stage_comes old new (inr p) head = begins_come p.next (with_label old) new p.begins (head_labelled old head)

  pub stage_heads : (old new : Lowering) → BeginsStage old new → Heads label l old → Heads label l new
  stage_heads old new p (inl head) = inr (stage_comes old new p head)
  stage_heads old new p (inr came) = inr (come_on (λ other. ⊥) label l old.stages new.stages (stage_advance old new p) came)

  begun_come : (old mid : Lowering) → BeginsStage old mid → Heads label l old → HasCome label l mid.stages
  begun_come old mid p (inl head) = stage_comes old mid p head
  begun_come old mid p (inr came) = come_on (λ other. ⊥) label l old.stages mid.stages (stage_advance old mid p) came

  pub acts_heads : (act : Act) (old new : Lowering) → ActsAt act old new → Heads label l old → Heads label l new
  acts_heads act old new a h = inr (come_on (λ other. ⊥) label l a.mid.stages new.stages (acts_after act old new a) (begun_come old a.mid a.begins h))

  pub call_heads : (old new : Lowering) → EndsCall old new → Heads label l old → Heads label l new
  call_heads old new e h = inr (come_on (λ other. ⊥) label l e.mid.stages new.stages (call_after old new e) (begun_come old e.mid e.begins h))
