use Rattle.std.proofs.Common.{◌≡◌, List, subst}
use Rattle.std.specs.Prelude.{IfOk}
use Rattle.circuit.specs.declared.table.Row.{Row}
use Rattle.circuit.specs.Table.{laid}
use Rattle.thread_id_cores.proofs.thread_ids.signals.Goals as goal

pub returns : goal.returns
returns c = subst (λ (rows : List Row). IfOk c.lay.result (λ signals. signals ≡ laid c.args.threads rows)) c.rows.ensures c.lay.ensures
