use Rattle.std.proofs.Common.{◌≡◌, sym, ◌∙◌}
use Rattle.verilog_tree.specs.Facts.{interface_named}
use Rattle.net_rules.specs.Interfaces.{seen_as}
use Rattle.net_rules.proofs.PortTables.{lookup-seen}
use Rattle.net_rules.proofs.interfaces.Interfaces.get.Goals as goal

pub returns : goal.returns
returns c =
    let name : c.as_bytes.result.now ≡ c.args.name.now = c.as_bytes.ensures.value ∙ c.as_str.ensures.bytes in
    (λ i. seen_as (sym name i) (c.get.ensures.value i)) ∙ lookup-seen c.as_bytes.result.now c.self.inside.named.entries ∙ (λ i. interface_named (c.self.view_is i) (name i))
