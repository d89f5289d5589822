use Rattle.std.proofs.Common.{◌≡◌, ◌∙◌}
use Rattle.verilog_tree.specs.Scope.{kind_of}
use Rattle.net_rules.proofs.Tables.{lookup-plain}
use Rattle.net_rules.proofs.names.Scope.kind.Goals as goal

pub returns : goal.returns
returns c =
    let name : c.as_bytes.result.now ≡ c.args.name.now = c.as_bytes.ensures.value ∙ c.as_str.ensures.bytes in
    c.copied.ensures ∙ c.get.ensures.value ∙ lookup-plain c.as_bytes.result.now c.self.inside.kinds.entries ∙ (λ i. kind_of (c.self.view_is i) (name i))
