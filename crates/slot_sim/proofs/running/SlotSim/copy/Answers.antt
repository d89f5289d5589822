use Rattle.std.proofs.Common.{List, sym, subst}
use Rattle.sim_layout.specs.Running.{Running}
use Rattle.slot_sim.specs.declared.slot.Slot.{Slot}
use Rattle.slot_sim.specs.Slots.{AreCopied, AreSlots}
use Rattle.slot_sim.proofs.ThreadsStand.{slots_copied}
use Rattle.slot_sim.proofs.running.SlotSim.copy.Goals as goal

pub invariant_of-result : goal.invariant_of-result
invariant_of-result c =
    let r : Running = c.self.inside.sim in
    let copies = c.in_ok-copied_slots.field-0.items in
    let are : AreCopied c.self.inside.slots.items copies = subst (λ (l : List Slot). AreCopied l copies) c.as_slice.ensures.value c.in_ok-copied_slots.ensures in
    subst (λ (x : Running). AreSlots x.modules x.parts copies) (sym c.in_ok-copy.ensures) (slots_copied r.modules r.parts c.self.inside.slots.items copies are c.self.invariant)
