use Rattle.std.proofs.Common.{sym, subst}
use Rattle.sim_command.specs.Simulated.{Fails}
use Rattle.sim_command.proofs.TextRun.{fails}
use Rattle.sim_command.proofs.sim.net_of.Goals as goal

pub returns-in-Err-clause-fails : goal.returns-in-Err-clause-fails
returns-in-Err-clause-fails c =
    subst (Fails c.args.text.now) (sym c.not_read.ensures) (fails c.args.text.now c.in-Err.error c.in-Err.ensures.not_net c.in-Err.ensures.every)
