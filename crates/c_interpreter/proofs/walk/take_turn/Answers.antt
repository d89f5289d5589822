use Rattle.std.proofs.Common.{◌≡◌, ◌+◌, ℕ, Some, arith, sym, subst}
use Rattle.std.specs.Prelude.{slice_get}
use Rattle.c_program.specs.Plain.{program_of}
use Rattle.c_state.specs.View.{state_of}
use Rattle.c_interpreter.specs.Walk.{IsAt}
use Rattle.c_interpreter.proofs.walk.take_turn.Goals as goal

pub loop-k-init : goal.loop-k-init
loop-k-init c list at lists =
    let none : c.args.first + 0 ≡ c.args.first = omega arith in
    subst (λ (n : ℕ). IsAt (program_of c.args.program.now) list n (state_of c.args.s.now)) (sym none) at

pub loop-k-preserved : goal.loop-k-preserved
loop-k-preserved c list at lists =
    let P = program_of c.args.program.now in
    let before = subst (λ (n : ℕ). IsAt P list (c.args.first + n) (state_of c.loop-k.s)) (sym c.from.ensures) (c.loop-k.invariant list at lists) in
    let here = subst (λ (n : ℕ). slice_get list (c.args.first + n) ≡ Some c.args.turn.thread) (sym c.from.ensures) (lists c.loop-k.k c.loop-k-test.true) in
    let on = rw c.in-None.is at (c.in_ok-end.ensures list before here) in
    let next : c.args.first + c.from.result + 1 ≡ c.args.first + (c.loop-k.k + 1) = omega (arith, c.from.ensures) in
    subst (λ (n : ℕ). IsAt P list n (state_of c.take_step.new.s)) next on

pub returns-in-Some : goal.returns-in-Some
returns-in-Some c list at lists =
    let P = program_of c.args.program.now in
    let before = subst (λ (n : ℕ). IsAt P list (c.args.first + n) (state_of c.loop-k.s)) (sym c.from.ensures) (c.loop-k.invariant list at lists) in
    let here = subst (λ (n : ℕ). slice_get list (c.args.first + n) ≡ Some c.args.turn.thread) (sym c.from.ensures) (lists c.loop-k.k c.loop-k-test.true) in
    rw c.in-Some.is at (c.in_ok-end.ensures list before here)

pub returns : goal.returns
returns c list at lists =
    let all : c.loop-k.k ≡ c.args.turn.steps = omega arith in
    subst (λ (n : ℕ). IsAt (program_of c.args.program.now) list (c.args.first + n) (state_of c.loop-k.s)) all (c.loop-k.invariant list at lists)
