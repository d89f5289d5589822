-- The parts of a step, put together.
use Rattle.std.proofs.Common.{◌≡◌, ℕ, List, [], ◌∷◌, refl, ap, sym, ◌∙◌, Some, None, Option, ℤ}
use Rattle.std.specs.Prelude.{Result, Ok, Err, OnErr}
use Rattle.c_program.specs.Tree.{Program}
use Rattle.thread_semantics.specs.State.{Frame, Running, State}
use Rattle.thread_semantics.specs.Work.{Work, Do, ThenBoth, ThenEither, ThenOpposite, Choose, Turn, Note, Next, Past, Take, Perform, settled, Onward}
use Rattle.thread_semantics.specs.Move.{Move, Moves, Acts, Ends, Faults, Impossible, move, keep_in, resumed, returned}
use Rattle.thread_semantics.specs.Step.{Steps, with_slot, moved, step}
use Rattle.c_interpreter.specs.declared.step.Rest.{Rest}
use Rattle.c_step_parts.specs.declared.plan.Plan.{Plan}
use Rattle.c_step_parts.specs.Plan.{erased, plan_of}
use Rattle.c_step_parts.specs.Planned.{IsPlan}
use Rattle.c_step_parts.proofs.RunningStep.{step_runs}
use Rattle.c_interpreter.specs.Stepping.{rest_frame, taken_into, after_taking, Resumes}

pub moved-erased : (P : Program) (s : State) (i : ℕ) (m : Move) → moved P s i (erased m) ≡ moved P s i m
moved-erased P s i (Moves frames reads write) = refl
moved-erased P s i (Acts offset act operands frames) = refl
moved-erased P s i (Ends offset reads) = refl
moved-erased P s i (Faults offset cause) = refl
moved-erased P s i Impossible = refl

pub step_planned : (P : Program) (s : State) (i : ℕ) (plan : Plan) (p : IsPlan P s i plan) → moved P s i (plan_of P plan p.call p.callers) ≡ step P s i
step_planned P s i plan p =
    ap (moved P s i) p.planned
    ∙ moved-erased P s i (move P s.globals (p.call ∷ p.callers))
    ∙ sym (step_runs P s i (p.call ∷ p.callers) p.running p.calm)

pub no_caller : (P : Program) (v : Option ℤ) (f : Frame) (fs : List Frame) → Resumes P v f fs None → fs ≡ []
no_caller P v f [] h = refl
no_caller P v f (g ∷ gs) h = absurd h

pub return_resumes : (P : Program) (s new : State) (i offset : ℕ) (v : Option ℤ) (f : Frame) (fs : List Frame) (rest : Rest) → Resumes P v f fs (Some rest) →
    ((g : Frame) (gs : List Frame) → fs ≡ g ∷ gs → new ≡ with_slot s i (Running (rest_frame rest g ∷ gs))) → Steps new ≡ moved P s i (erased (returned P offset v [] f fs))
return_resumes P s new i offset v f [] rest r h = absurd r
return_resumes P s new i offset v f (g ∷ gs) rest r h =
    ap Steps (h g gs refl ∙ ap (λ x. with_slot s i (Running (x ∷ gs))) r)

pub on_any_err : {A E : Type 0} {Fact : Type 0} (r : Result A E) → Fact → OnErr r Fact
on_any_err (Ok v) fact = tt
on_any_err (Err e) fact = fact

-- a caller goes on: the value is kept where it waits for it, and its work behind that is next
pub resumed_is : (v : Option ℤ) (k : List Work) (f : Frame) →
    record f { locals = keep_in (taken_into k) v f.locals; work = settled Onward (after_taking k); kept = [] } ≡ resumed v k f
resumed_is v [] f = refl
resumed_is v (Take into ∷ k) f = refl
resumed_is v (Do statement ∷ k) f = refl
resumed_is v (ThenBoth second ∷ k) f = refl
resumed_is v (ThenEither second ∷ k) f = refl
resumed_is v (ThenOpposite ∷ k) f = refl
resumed_is v (Choose consequent alternative ∷ k) f = refl
resumed_is v (Turn loop ∷ k) f = refl
resumed_is v (Note slot ∷ k) f = refl
resumed_is v (Next loop ∷ k) f = refl
resumed_is v (Past ∷ k) f = refl
resumed_is v (Perform offset act ∷ k) f = refl
