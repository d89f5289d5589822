use Rattle.verilog_writer.proofs.items.item.Goals as goal

pub returns-in-Memory-clause-text : goal.returns-in-Memory-clause-text
returns-in-Memory-clause-text c = rw c.in-Memory.is c.memory.ensures.text
