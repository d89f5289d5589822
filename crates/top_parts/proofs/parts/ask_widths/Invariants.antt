use Rattle.std.proofs.Common.{◌≡◌, ◌++◌, take}
use Rattle.top_parts.specs.Parts.{group_widths, ask_widths}
use Rattle.top_parts.proofs.parts.ask_widths.Given as goal

abbrev pub invariant-loop-core : goal.invariant-loop-core
invariant-loop-core l = l.widths ≡ ask_widths (take l.core-index l.cores)

abbrev pub invariant-loop-group : goal.invariant-loop-group
invariant-loop-group l = l.widths ≡ l.initial.widths ++ group_widths (take l.group-index l.group-items)
