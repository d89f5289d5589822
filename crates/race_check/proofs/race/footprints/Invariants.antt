use Rattle.std.proofs.Common.{◌≡◌, ◌<◌, ℕ, length}
use Rattle.c_program.specs.Plain.{program_of}
use Rattle.thread_semantics.specs.Races.{footprint}
use Rattle.c_state.specs.View.{state_of}
use Rattle.race_check.specs.First.{row}
use Rattle.race_check.proofs.race.footprints.Given as goal

abbrev pub invariant-loop-thread : goal.invariant-loop-thread
invariant-loop-thread l =
    (length l.all ≡ l.thread) × ((i : ℕ) → i < l.thread → row l.all i ≡ footprint (program_of l.program) (state_of l.state) i)
