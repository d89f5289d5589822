use Rattle.std.proofs.Common.{◌≡◌, ◌+◌, ◌++◌, length}
use Rattle.circuit.specs.Rows.{spread}
use Rattle.circuit.specs.Table.{place, signal_at}
use Rattle.circuit.proofs.table.lay_each.Given as goal

abbrev pub invariant-loop-number : goal.invariant-loop-number
invariant-loop-number l =
    l.signals ≡ l.initial.signals ++ spread (λ k. signal_at l.threads (place l.threads l.rows) (length l.initial.signals + k) l.role l.width l.form k) 0 l.number
