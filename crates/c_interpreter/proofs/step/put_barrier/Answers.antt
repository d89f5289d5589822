use Rattle.std.proofs.lemmas.List.{map-set}
use Rattle.c_state.specs.View.{barrier_of}
use Rattle.c_interpreter.proofs.step.put_barrier.Goals as goal

pub returns-then-n-len : goal.returns-then-n-len
returns-then-n-len c = map-set barrier_of c.args.barriers.now.items c.args.n c.args.barrier
