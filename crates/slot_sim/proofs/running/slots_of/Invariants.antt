use Rattle.std.proofs.Common.{◌≡◌, length}
use Rattle.slot_sim.proofs.ThreadsStand.{AreFirst}
use Rattle.slot_sim.proofs.running.slots_of.Given as goal

abbrev pub invariant-loop-thread : goal.invariant-loop-thread
invariant-loop-thread l = record {
  long : length l.slots.items ≡ l.thread;
  are : AreFirst l.sim.modules l.sim.parts l.slots.items;
}
