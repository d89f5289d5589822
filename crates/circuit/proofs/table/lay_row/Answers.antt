use Rattle.std.proofs.Common.{◌≡◌, ◌++◌, length, sym, subst}
use Rattle.std.specs.Prelude.{OnOk}
use Rattle.std.proofs.lemmas.Result.{on_ok_weaker}
use Rattle.circuit.specs.declared.table.Row.{Row}
use Rattle.circuit.specs.Table.{place, row_signals}
use Rattle.circuit.proofs.TableRows.{chains_grow}
use Rattle.circuit.proofs.table.lay_row.Goals as goal

pub returns-in_ok-lay_each-in-Chains : goal.returns-in_ok-lay_each-in-Chains
returns-in_ok-lay_each-in-Chains c =
    let n = c.args.threads in
    let starts = place n c.args.rows.now in
    let before = c.args.signals.now in
    let steps = c.lay_each-in-Chains-2 in
    let row = c.in-Chains in
    subst (λ (r : Row). OnOk steps.result (steps.new.signals ≡ before ++ row_signals n starts (length before) r)) (sym row.is)
    (on_ok_weaker steps.result
    (chains_grow n starts before c.lay_each-in-Chains.new.signals steps.new.signals row.count row.role row.width row.first row.step c.in_ok-lay_each-in-Chains.ensures)
    steps.ensures)
