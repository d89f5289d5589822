use Rattle.std.proofs.Common.{◌≡◌, ◌≤◌, ◌+◌, ℕ, length, take, get_or, add-one, arith, ap, sym, subst, refl, rules, ◌∙◌}
use Rattle.std.proofs.lemmas.List.{take_all}
use Rattle.c_program.specs.Plain.{program_of}
use Rattle.turns.specs.declared.Turn.{Turn}
use Rattle.turns.specs.Turns.{threads_of}
use Rattle.thread_semantics.specs.State.{State}
use Rattle.c_state.specs.View.{state_of}
use Rattle.c_interpreter.specs.Walk.{IsAt, Lists}
use Rattle.c_interpreter.proofs.LongerWalks.{start_at, lists_at, threads_more}
use Rattle.c_interpreter.proofs.walk.walk.Goals as goal

pub loop-turn-init : goal.loop-turn-init
loop-turn-init c = record {
  so_far =
      let P = program_of c.args.program.now in
      subst (λ (s : State). IsAt P (threads_of c.args.turns.now) 0 s) (sym c.in_ok-s.ensures)
      (start_at P (threads_of c.args.turns.now));
  count = refl;
  fits = omega arith;
}

pub loop-turn-preserved : goal.loop-turn-preserved
loop-turn-preserved c =
    let list = c.args.turns.now in
    let i = c.loop-turn.turn-index in
    let d : Turn = record { thread = 0; steps = 0 } in
    let there = subst (λ (n : ℕ). Lists (threads_of list) n (get_or list i d)) (sym c.loop-turn.invariant.count) (lists_at list i d c.loop-turn-test.true) in
    let on = rw c.in-None.is at (c.in_ok-end.ensures (threads_of list) c.loop-turn.invariant.so_far there) in
    let steps : c.loop-turn.steps + (get_or list i d).steps ≡ c.loop-turn.steps + c.from-steps.result = omega (arith, c.from-steps.ensures) in
    let more = threads_more list i d c.loop-turn-test.true in
    record {
      so_far =
          subst (λ (n : ℕ). IsAt (program_of c.args.program.now) (threads_of list) n (state_of c.take_turn.new.s)) steps on;
      count = rw add-one (omega (arith, more, c.loop-turn.invariant.count, c.from-steps.ensures));
      fits = omega arith;
    }

pub returns-in-Some : goal.returns-in-Some
returns-in-Some c =
    let list = c.args.turns.now in
    let i = c.loop-turn.turn-index in
    let d : Turn = record { thread = 0; steps = 0 } in
    let there = subst (λ (n : ℕ). Lists (threads_of list) n (get_or list i d)) (sym c.loop-turn.invariant.count) (lists_at list i d c.loop-turn-test.true) in
    rw c.in-Some.is at (c.in_ok-end.ensures (threads_of list) c.loop-turn.invariant.so_far there)

pub returns : goal.returns
returns c =
    let list = c.args.turns.now in
    let past : length list ≤ c.loop-turn.turn-index = search rules in
    let all : take c.loop-turn.turn-index list ≡ list = take_all c.loop-turn.turn-index list past in
    let steps : c.loop-turn.steps ≡ length (threads_of list) = c.loop-turn.invariant.count ∙ ap (λ x. length (threads_of x)) all in
    (state_of c.loop-turn.s, (c.loop-turn.invariant.so_far.so_far, c.loop-turn.invariant.so_far.running, steps), refl)
