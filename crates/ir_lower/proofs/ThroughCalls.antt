-- A call is come through.
use Rattle.std.proofs.Common.{◌≡◌, ℕ, true, List, length, Option, None, refl, inr}
use Rattle.c_program.specs.Tree.{Expression, Function}
use Rattle.code_places.specs.declared.lowering.Caller.{Caller as CallerCode}
use Rattle.code_places.specs.declared.lowering.Lowering.{Lowering}
use Rattle.code_places.specs.Labels.{IsOpen}
use Rattle.code_places.specs.Doing.{Proceeds}
use Rattle.code_calls.specs.Calling.{OpensCall, ClosesCall}
use Rattle.code_calls.proofs.OpenCalls.{closed_reached, call_comes}
use Rattle.code_control.specs.Deciding.{ComesThrough}

pub call_through : (into : Option ℕ) (number : ℕ) (f : Function) (es : List Expression) (caller : CallerCode) (old begun : Lowering) (opens : OpensCall into number f es caller old begun) →
    (open_ : IsOpen caller.label begun.stages) (done : Lowering) → (inner : Proceeds None begun done) (new : Lowering) → ClosesCall caller done new → old.reached ≡ true → ComesThrough old new
call_through into number f es caller old begun opens open_ done inner new closes on = record {
  reached = closed_reached caller done new closes;
  comes = λ label here. inr (call_comes into number f es caller old begun opens open_ done inner new closes label (length old.stages.stages.items) here refl on);
}
