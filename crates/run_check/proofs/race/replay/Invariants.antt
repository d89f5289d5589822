use Rattle.std.proofs.Common.{take}
use Rattle.c_program.specs.Plain.{program_of}
use Rattle.c_state.specs.View.{state_of}
use Rattle.run_check.specs.Race.{LeadsTo}
use Rattle.run_check.proofs.race.replay.Given as goal

abbrev pub invariant-loop-turn : goal.invariant-loop-turn
invariant-loop-turn l = LeadsTo (program_of l.program) (take l.turn-index l.turns) (state_of l.state)
