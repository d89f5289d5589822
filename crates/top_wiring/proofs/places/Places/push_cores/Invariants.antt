use Rattle.std.proofs.Common.{◌≡◌, ◌++◌, take, length}
use Rattle.top_parts.specs.Parts.{each_from, ask_widths}
use Rattle.top_wiring.specs.Top.{core_instance}
use Rattle.top_wiring.proofs.places.Places.push_cores.Given as goal

abbrev pub invariant-loop-number : goal.invariant-loop-number
invariant-loop-number l =
    (l.instances ≡ l.initial.instances
    ++ each_from (λ k c. core_instance l.self.starts l.self.threads l.self.cores l.self.parts (length (ask_widths (take k l.cores))) k c) 0 (take l.number l.cores))
    × (l.asked ≡ ask_widths (take l.number l.cores))
