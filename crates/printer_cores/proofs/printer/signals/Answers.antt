use Rattle.std.proofs.Common.{◌≡◌, List, subst}
use Rattle.std.specs.Prelude.{IfOk}
use Rattle.circuit.specs.declared.table.Row.{Row}
use Rattle.circuit.specs.Table.{laid}
use Rattle.printer_cores.proofs.printer.signals.Goals as goal

pub returns : goal.returns
returns c = subst (λ (rows : List Row). IfOk c.lay.result (λ signals. signals ≡ laid c.args.shape.now.threads rows)) c.rows.ensures c.lay.ensures
