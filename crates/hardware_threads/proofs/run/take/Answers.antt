use Rattle.hardware_threads.proofs.run.take.Goals as goal

pub copy_slot-requires : goal.copy_slot-requires
copy_slot-requires g c = c.in-Thread.ensures.next.holds.2.within

pub returns-in-Thread : goal.returns-in-Thread
returns-in-Thread g c = (c.in-Thread.ensures.next.holds.2.within, c.copy_slot.ensures)
