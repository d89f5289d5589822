use Rattle.std.proofs.lemmas.List.{map-set}
use Rattle.c_state.specs.View.{slot_of}
use Rattle.c_interpreter.proofs.step.put_slot.Goals as goal

pub returns-then-n-len : goal.returns-then-n-len
returns-then-n-len c = map-set slot_of c.args.slots.now.items c.args.n c.args.slot
