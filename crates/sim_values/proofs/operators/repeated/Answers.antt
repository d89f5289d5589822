use Rattle.sim_values.proofs.Words.{repeated_next}
use Rattle.sim_values.proofs.operators.repeated.Goals as goal

pub loop-copy-preserved : goal.loop-copy-preserved
loop-copy-preserved c =
    repeated_next c.loop-copy._copy c.args.width c.args.number c.loop-copy.above c.beside-above.result c.loop-copy.invariant c.beside-above.ensures
