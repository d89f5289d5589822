use Rattle.std.proofs.Common.{◌≡◌, rules}
use Rattle.std.specs.Prelude.{true}
use Rattle.c_program.specs.Plain.{program_of}
use Rattle.turns.specs.declared.Turn.{Turn}
use Rattle.c_state.specs.View.{state_of}
use Rattle.run_check.proofs.Runs.{leads_more}
use Rattle.run_check.proofs.race.replay.Goals as goal

pub loop-turn-preserved : goal.loop-turn-preserved
loop-turn-preserved c =
    let d : Turn = record { thread = 0; steps = 0 } in
    let ok : c.in_ok-take_turn.field-0 ≡ true = search rules in
    leads_more (program_of c.args.program.now) c.args.turns.now c.loop-turn.turn-index d (state_of c.loop-turn.state) (state_of c.take_turn.new.state)
    c.loop-turn-test.true c.loop-turn.invariant (c.in_ok-take_turn.ensures ok)
