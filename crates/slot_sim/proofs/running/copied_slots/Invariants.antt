use Rattle.std.proofs.Common.{◌≡◌, ℕ, length, slice_get, Some}
use Rattle.slot_sim.specs.declared.slot.Slot.{Slot}
use Rattle.slot_sim.specs.Slots.{IsSlotCopy}
use Rattle.slot_sim.proofs.running.copied_slots.Given as goal

abbrev pub invariant-loop-number : goal.invariant-loop-number
invariant-loop-number l = record {
  long : length l.copies.items ≡ l.number;
  are : (k : ℕ) (c : Slot) → slice_get l.copies.items k ≡ Some c → (s : Slot) × (slice_get l.slots k ≡ Some s) × IsSlotCopy s c;
}
