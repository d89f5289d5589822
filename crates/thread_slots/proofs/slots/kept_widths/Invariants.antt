use Rattle.thread_slots.specs.Slots.{AreKeptWidths}
use Rattle.thread_slots.specs.Wired.{AreFit}
use Rattle.thread_slots.proofs.slots.kept_widths.Given as goal

abbrev pub invariant-loop-number : goal.invariant-loop-number
invariant-loop-number l = record { widths : AreKeptWidths l.globals l.code l.planned l.number l.widths; fit : AreFit l.widths }
