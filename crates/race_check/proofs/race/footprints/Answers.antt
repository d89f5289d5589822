use Rattle.std.proofs.Common.{◌≡◌, ◌+◌, ◌<◌, ◌∷◌, ◌++◌, [], ℕ, sym, subst, length, refl, arith}
use Rattle.std.proofs.Common.{length-append}
use Rattle.c_program.specs.Plain.{program_of}
use Rattle.thread_semantics.specs.Races.{footprint}
use Rattle.c_state.specs.View.{state_of}
use Rattle.race_check.specs.First.{row}
use Rattle.race_check.proofs.FirstRace.{footprints_more, footprints_all}
use Rattle.race_check.proofs.race.footprints.Goals as goal

pub loop-thread-preserved : goal.loop-thread-preserved
loop-thread-preserved c =
    let P = program_of c.args.program.now in
    let s = state_of c.args.state.now in
    let rows = c.loop-thread.all in
    let x = c.in_ok-list.list in
    let n = c.loop-thread.thread in
    let long : length (rows ++ x ∷ []) ≡ n + 1 = omega (arith, length-append rows (x ∷ []), c.loop-thread.invariant.0) in
    subst (λ all. (length all ≡ n + 1) × ((i : ℕ) → i < n + 1 → row all i ≡ footprint P s i)) (sym c.in_ok-push.ensures.ok)
    (long, footprints_more P s rows x n c.loop-thread.invariant.0 c.in_ok-list.ensures c.loop-thread.invariant.1)

pub returns : goal.returns
returns c =
    let slots = c.args.state.now.slots.items in
    let long : length c.loop-thread.all ≡ length slots = omega (arith, c.loop-thread.invariant.0) in
    footprints_all (program_of c.args.program.now) (state_of c.args.state.now) slots c.loop-thread.all refl long
    (λ i h. c.loop-thread.invariant.1 i (omega (arith, c.loop-thread.invariant.0)))
