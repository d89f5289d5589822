use Rattle.std.proofs.Common.{◌≡◌, sym, ◌∙◌, ap}
use Rattle.std.specs.Prelude.{None}
use Rattle.std.specs.Option.{option_copied}
use Rattle.verilog_tree.specs.Facts as fact
use Rattle.verilog_tree.specs.WellFormed as well
use Rattle.net_rules.specs.Interfaces.{seen_as}
use Rattle.net_check.proofs.Distinct.{no_outputs}
use Rattle.net_check.proofs.facts.drive.Goals as goal

pub returns-in-None-clause-new : goal.returns-in-None-clause-new
returns-in-None-clause-new c =
    let none : fact.interface_named c.args.interfaces.now c.in-Instance.x.module_name ≡ None =
    sym c.get.ensures ∙ ap (λ o. seen_as c.in-Instance.x.module_name (option_copied o)) c.in-None.is in
    sym (ap (λ n. well.are_new c.args.driven.now (fact.drives c.args.interfaces.now n)) c.in-Instance.is
    ∙ ap (λ o. well.are_new c.args.driven.now (fact.outputs (fact.ports_of o) c.in-Instance.x.connections)) none
    ∙ ap (well.are_new c.args.driven.now) (no_outputs c.in-Instance.x.connections))

pub returns-in-None-clause-driven : goal.returns-in-None-clause-driven
returns-in-None-clause-driven c =
    let none : fact.interface_named c.args.interfaces.now c.in-Instance.x.module_name ≡ None =
    sym c.get.ensures ∙ ap (λ o. seen_as c.in-Instance.x.module_name (option_copied o)) c.in-None.is in
    sym (ap (λ n. fact.after fact.with_name c.args.driven.now (fact.drives c.args.interfaces.now n)) c.in-Instance.is
    ∙ ap (λ o. fact.after fact.with_name c.args.driven.now (fact.outputs (fact.ports_of o) c.in-Instance.x.connections)) none
    ∙ ap (fact.after fact.with_name c.args.driven.now) (no_outputs c.in-Instance.x.connections))
