use Rattle.slot_sim.proofs.Loopless.{no_loop}
use Rattle.slot_sim.proofs.opening.open_threaded.Goals as goal

pub memory_alone-requires : goal.memory_alone-requires
memory_alone-requires c = no_loop c.args.modules.now c.args.threads c.requires.threaded c.in-Err.error c.in-Err.ensures.cause
