use Rattle.std.proofs.Common.{◌∙◌, ap}
use Rattle.std.specs.Option.{option_copied}
use Rattle.verilog_tree.specs.Rules.{port_named}
use Rattle.net_rules.specs.Tables.{named}
use Rattle.net_rules.proofs.PortTables.{lookup-ports, table-named}
use Rattle.net_rules.proofs.interfaces.Ports.get.Goals as goal

pub returns : goal.returns
returns c =
    ap option_copied (c.copied.ensures ∙ c.get.ensures.value) ∙ lookup-ports c.args.name.now c.self.inside.named.entries ∙ ap (λ ds. named ds c.args.name.now) c.self.invariant
    ∙ table-named c.self.inside.list.now c.args.name.now ∙ ap (λ ps. port_named ps c.args.name.now) c.self.view_is
