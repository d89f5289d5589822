-- The code of calls and of returns leaves open what was, and begins where it did.
use Rattle.std.proofs.Common.{◌≡◌, ℕ, suc, ◌<◌, ◌≤◌, true, List, [], ◌∷◌, length, Option, Some, None, refl, sym, ap, ◌∙◌, subst, inl, inr, arith}
use Rattle.std.specs.Prelude.{slice_get}
use Rattle.lists.proofs.Places.{get_front}
use Rattle.c_program.specs.declared.tree.ReturnType.{ReturnType}
use Rattle.c_program.specs.declared.tree.ReturnType.TheVariants.{Void, Integer, Pointer}
use Rattle.c_program.specs.Tree.{Expression, Function}
use Rattle.block_ir.specs.declared.operand.Operand.{Operand}
use Rattle.code_places.specs.declared.targets.Back.{Back}
use Rattle.code_places.specs.declared.lowering.Caller.{Caller as CallerCode}
use Rattle.code_places.specs.declared.targets.Loop.{Loop}
use Rattle.code_places.specs.declared.lowering.Lowering.{Lowering}
use Rattle.code_blocks.specs.declared.open_block.OpenBlock.{OpenBlock}
use Rattle.code_places.specs.declared.stages.Stages.{Stages}
use Rattle.code_places.specs.Labels.{IsHere, IsOpen, Advances, IsFirst}
use Rattle.code_places.specs.Control.{with_label, Begun}
use Rattle.code_places.specs.Doing.{IsBackTarget, HasCome, Heads, Proceeds}
use Rattle.code_calls.specs.Calling.{variable_for, PutsReturned, Returns, StepsBack, ReturnsNothing, Closes, OpensCall, ClosesCall}
use Rattle.code_places.proofs.LabelSteps.{None_, advances_refl, advances_both, first_after, labels_more}
use Rattle.code_places.proofs.CodeGrowth.{begins_shifts, begun_reached}
use Rattle.code_places.proofs.HeadPlaces.{come_on, stage_comes, jumps_come}
use Rattle.code_places.proofs.OpenLabels.{label_begun, begins_advance, call_first, call_after}
use Rattle.code_places.proofs.OpenParts.{call_proceeds, back_first, back_proceeds, bound_new, begun_proceeds, begun_same, back_after, none_begun}

-- a step and a return of nothing
steps_busy : (old : Lowering) (new : Lowering) (p : StepsBack old new) → 0 < p.stepped.block.steps
steps_busy old new p = (let e = ap (λ (z : Lowering). z.block.steps) p.is in omega (arith, e))

pub nothing_proceeds : (old new : Lowering) → ReturnsNothing old new → old.reached ≡ true → (around : Option Loop) → Proceeds around old new
nothing_proceeds old new (inl p) on around = call_proceeds old new on p.ends around
nothing_proceeds old new (inr p) on around =
    back_proceeds p.back.label old p.stepped new (ap (λ (z : Lowering). z.stages) p.is) (ap (λ (z : Lowering). z.reached) p.is) (steps_busy old new p) p.jumps
    (ap (λ (z : Lowering). z.back) p.is) (let e = ap (λ (z : Lowering). z.block.steps) p.is in omega (arith, e)) on around

puts_steps : (into : Option ℕ) (returns : ReturnType) (value : Operand) (old new : OpenBlock) → PutsReturned into returns value old new → new.steps ≡ old.steps
puts_steps (Some variable) (Integer ty) value old new puts = puts.steps
puts_steps (Some variable) Void value old new puts = ap (λ (z : OpenBlock). z.steps) puts
puts_steps (Some variable) Pointer value old new puts = ap (λ (z : OpenBlock). z.steps) puts
puts_steps None returns value old new puts = ap (λ (z : OpenBlock). z.steps) puts

-- a return of a value
pub returns_proceed : (b : Back) (value : Operand) (old code new : Lowering) → code.stages ≡ old.stages → code.reached ≡ old.reached → code.back ≡ old.back → old.block.steps ≤ code.block.steps →
    Returns b value code new → old.reached ≡ true →
    (around : Option Loop) → Proceeds around old new
returns_proceed b value old code new stages reached back more p on around =
    back_proceeds b.label old p.stepped new (ap (λ (z : Lowering). z.stages) p.is ∙ stages) (ap (λ (z : Lowering). z.reached) p.is ∙ reached)
    (let e = ap (λ (z : Lowering). z.block.steps) p.is in omega (arith, e)) p.jumps (ap (λ (z : Lowering). z.back) p.is ∙ back)
    (let e = ap (λ (z : Lowering). z.block.steps) p.is in let put = puts_steps b.into b.returns value code.block p.put p.puts in omega (arith, e, put, more)) on around

pub closed_reached : (caller : CallerCode) (done new : Lowering) → ClosesCall caller done new → new.reached ≡ true
closed_reached caller done new closes =
    begun_reached caller.label (record closes.closed { homes = caller.homes; back = caller.back; site = caller.site }) new closes.begins

-- the closing brace
pub closes_all : (old new : Lowering) → Closes old new → Advances None_ old.stages new.stages
closes_all old new (inl p) = subst (λ (z : Lowering). Advances None_ old.stages z.stages) (sym p.same) (advances_refl None_ old.stages)
closes_all old new (inr p) = (nothing_proceeds old new p.returns p.on None).advances

pub closes_first : (old new : Lowering) → Closes old new → (start : ℕ) → Begun start old → IsFirst start new.stages
closes_first old new (inl p) start (inr f) = subst (λ (z : Lowering). IsFirst start z.stages) (sym p.same) f
closes_first old new (inl p) start (inl h) = absurd (let off = p.off in let on = h.on in cc)
closes_first old new (inr p) start b = by p.returns
  where
    by : ReturnsNothing old new → IsFirst start new.stages
    by (inl q) = call_first old new q.ends start b
    by (inr q) = back_first q.back.label old q.stepped new (ap (λ (z : Lowering). z.stages) q.is) (ap (λ (z : Lowering). z.reached) q.is) (steps_busy old new q) q.jumps start b

closes_come : (label l : ℕ) (old new : Lowering) → Closes old new → Heads label l old → HasCome label l new.stages
closes_come label l old new closes (inr came) = come_on None_ label l old.stages new.stages (closes_all old new closes) came
closes_come label l old new (inl p) (inl head) = absurd (let off = p.off in let on = head.on in cc)
closes_come label l old new (inr p) (inl head) = by p.returns
  where
    by : ReturnsNothing old new → HasCome label l new.stages
    by (inl q) =
        come_on None_ label l q.ends.mid.stages new.stages (call_after old new q.ends) (stage_comes label l old q.ends.mid q.ends.begins head)
    by (inr q) =
        jumps_come label l q.back.label q.stepped new q.jumps (record {
          here = subst (λ (z : Lowering). IsHere z.stages label) (sym q.is) head.here;
          number = ap (λ (z : Lowering). length z.stages.stages.items) q.is ∙ head.number;
          busy = steps_busy old new q;
          on = ap (λ (z : Lowering). z.reached) q.is ∙ head.on;
        })

-- a call: the label where the caller goes on is new, and stays open in the code of the function
module _ (into : Option ℕ) (number : ℕ) (f : Function) (es : List Expression) (caller : CallerCode) (old begun : Lowering) (opens : OpensCall into number f es caller old begun)
    (open_ : IsOpen caller.label begun.stages) where
  abbrev stepped : Lowering
  stepped = record old { block = record opens.passed { steps = suc opens.passed.steps } }

  begun_stages : begun.stages ≡ (with_label stepped).stages
  begun_stages = ap (λ (z : Lowering). z.stages) opens.new_is

  begun_back : begun.back ≡ Some (record { label = caller.label; returns = f.returns; into = variable_for old.homes into })
  begun_back = ap (λ (z : Lowering). z.back) opens.new_is

  pub call_back_target : IsBackTarget begun.back begun.stages
  call_back_target = subst (λ o. IsBackTarget o begun.stages) (sym begun_back) (inl open_)

  call_begins : Advances None_ old.stages begun.stages
  call_begins = subst (Advances None_ old.stages) (sym begun_stages) (labels_more old.stages (with_label stepped).stages refl)

  call_begun : (start : ℕ) → Begun start old → Begun start begun
  call_begun start b = begun_same (with_label stepped) begun begun_stages (ap (λ (z : Lowering). z.reached) opens.new_is) start (label_begun start stepped (begun_same old stepped refl refl start b))

  module _ (done : Lowering) (inner : Proceeds None begun done) where
    pub done_open : IsOpen caller.label done.stages
    done_open = inner.advances.open_ caller.label (λ m. m) open_

    pub done_back : IsBackTarget done.back done.stages
    done_back = back_after begun done inner.advances inner.back call_back_target

    module _ (new : Lowering) (closes : ClosesCall caller done new) where
      abbrev back_in : Lowering
      back_in = record closes.closed { homes = caller.homes; back = caller.back; site = caller.site }

      old_closed : Advances None_ old.stages closes.closed.stages
      old_closed =
          advances_both None_ old.stages done.stages closes.closed.stages (advances_both None_ old.stages begun.stages done.stages call_begins inner.advances)
          (closes_all done closes.closed closes.closes)

      call_advances : length old.stages.labels ≤ caller.label → Advances None_ old.stages new.stages
      call_advances new_ = bound_new caller.label old.stages closes.closed.stages new.stages new_ old_closed (begins_advance caller.label back_in new closes.begins)

      call_first_there : (start : ℕ) → Begun start old → IsFirst start new.stages
      call_first_there start b =
          first_after (λ other. other ≡ caller.label) closes.closed.stages new.stages start (begins_advance caller.label back_in new closes.begins)
          (closes_first done closes.closed closes.closes start (none_begun start done (inner.begun start (inl (call_begun start b)))))

      -- the step of the call is in a block that ends with a return, or before
      pub call_comes : (label l : ℕ) → IsHere old.stages label → length old.stages.stages.items ≡ l → old.reached ≡ true → HasCome label l new.stages
      call_comes label l here number on =
          come_on (λ other. other ≡ caller.label) label l closes.closed.stages new.stages (begins_advance caller.label back_in new closes.begins)
          (closes_come label l done closes.closed closes.closes (inner.heads label l (inl (record {
            here = subst (λ (z : Stages). IsHere z label) (sym begun_stages) (get_front old.stages.labels (None ∷ []) label (Some (length old.stages.places)) here);
            number = ap (λ (z : Stages). length z.stages.items) begun_stages ∙ number;
            busy = (let e = ap (λ (z : Lowering). z.block.steps) opens.new_is in omega (arith, e));
            on = ap (λ (z : Lowering). z.reached) opens.new_is ∙ on;
          }))))

      pub calls_proceed : length old.stages.labels ≤ caller.label → old.reached ≡ true → (around : Option Loop) → Proceeds around old new
      calls_proceed new_ on around =
          begun_proceeds around old new ((begins_shifts caller.label back_in new closes.begins).grows.back ∙ ap (λ (z : CallerCode). z.back) opens.caller_is) on (call_advances new_)
          (λ start b. inr (call_first_there start b))
          (λ label l head. inr (call_comes label l head.here head.number head.on))
