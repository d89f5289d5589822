use Rattle.std.proofs.Common.{◌∙◌, ◌++◌, sym, ap}
use Rattle.std.specs.List.{flat_map}
use Rattle.netlist.specs.NetlistOf.{statement_actions}
use Rattle.net_netlist.specs.Actions.{with_condition}
use Rattle.net_netlist.proofs.Cases.{actions_if}
use Rattle.net_netlist.proofs.actions.+actions.Goals as goal

pub add_statement-returns-in_ok-add_statements-in-If : goal.add_statement-returns-in_ok-add_statements-in-If
add_statement-returns-in_ok-add_statements-in-If t c =
    let before = c.args.actions.now in
    let conditions = c.args.conditions.now in
    let signals = c.args.signals.now in
    let memories = c.args.memories.now in
    let inner = c.as_slice-inner.ensures ∙ c.in_ok-inner-in-If.ensures ∙ ap (with_condition conditions) c.of_name-in-If.ensures in
    c.in_ok-add_statements-in-If.ensures
    ∙ ap (λ b. before ++ flat_map (λ s. statement_actions signals memories s c.as_slice-inner.result.now) b) c.as_slice-body.ensures
    ∙ ap (λ l. before ++ flat_map (λ s. statement_actions signals memories s l) c.in-If.body) inner
    ∙ ap (λ l. before ++ l) (sym (actions_if signals memories _ _ conditions))
    ∙ ap (λ s. before ++ statement_actions signals memories s conditions) (sym c.in-If.is)
