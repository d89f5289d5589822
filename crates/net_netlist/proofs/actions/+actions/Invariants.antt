use Rattle.std.proofs.Common.{◌≡◌, ◌++◌, drop}
use Rattle.std.specs.List.{flat_map}
use Rattle.netlist.specs.NetlistOf.{statement_actions}
use Rattle.net_netlist.proofs.actions.+actions.Given as goal

abbrev pub invariant-add_statements-loop-statement : goal.invariant-add_statements-loop-statement
invariant-add_statements-loop-statement l =
    l.actions ++ flat_map (λ s. statement_actions l.signals l.memories s l.conditions) (drop l.statement-index l.statements)
    ≡ l.initial.actions ++ flat_map (λ s. statement_actions l.signals l.memories s l.conditions) l.statements
