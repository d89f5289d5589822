-- What the next step of a thread acts on, by the code's plan of it.
use Rattle.std.proofs.Common.{◌≡◌, ℕ, List, [], ◌∷◌, refl, ap, sym, ◌∙◌}
use Rattle.std.specs.Prelude.{ℤ, Option}
use Rattle.c_program.specs.Tree.{Program}
use Rattle.thread_semantics.specs.State.{Frame, State}
use Rattle.thread_semantics.specs.Move.{Move, move, returned}
use Rattle.thread_semantics.specs.Step.{object_operand}
use Rattle.run_races.specs.Order.{move_in, next_move}
use Rattle.c_step_parts.specs.declared.plan.Plan.{Plan}
use Rattle.c_step_parts.specs.declared.plan.Plan.TheVariants as plan
use Rattle.c_step_parts.specs.Plan.{erased, plan_of}
use Rattle.c_step_parts.specs.Planned.{IsPlan}
use Rattle.run_check.specs.declared.class.Class.TheVariants as class
use Rattle.run_check.specs.Class.{class_of, plan_class}

erased_class : (m : Move) → class_of (erased m) ≡ class_of m
erased_class (Move.Moves frames reads write) = refl
erased_class (Move.Acts offset act operands frames) = refl
erased_class (Move.Ends offset reads) = refl
erased_class (Move.Faults offset cause) = refl
erased_class Move.Impossible = refl

returned_class : (P : Program) (offset : ℕ) (v : Option ℤ) (f : Frame) (fs : List Frame) → class_of (erased (returned P offset v [] f fs)) ≡ class.Plain
returned_class P offset v f [] = refl
returned_class P offset v f (g ∷ gs) = refl

plan_is : (P : Program) (p : Plan) (f : Frame) (fs : List Frame) → class_of (plan_of P p f fs) ≡ plan_class p (object_operand f.kept)
plan_is P (plan.Onward work kept change) f fs = refl
plan_is P (plan.Enter work callee) f fs = refl
plan_is P (plan.Return offset value) f fs = returned_class P offset value f fs
plan_is P (plan.Perform offset act work) f fs = refl
plan_is P (plan.Fault offset cause) f fs = refl
plan_is P plan.Impossible f fs = refl

pub planned_class : (P : Program) (s : State) (i : ℕ) (p : Plan) (x : IsPlan P s i p) →
    plan_class p (object_operand x.call.kept) ≡ class_of (next_move P s i)
planned_class P s i p x =
    let is : next_move P s i ≡ move P s.globals (x.call ∷ x.callers) = ap (move_in P s) x.running in
    sym (plan_is P p x.call x.callers) ∙ ap class_of x.planned ∙ erased_class (move P s.globals (x.call ∷ x.callers)) ∙ ap class_of (sym is)
