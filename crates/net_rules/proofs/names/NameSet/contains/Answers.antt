use Rattle.std.proofs.Common.{◌≡◌, sym, ◌∙◌}
use Rattle.std.specs.Str.{bytes_eq}
use Rattle.verilog_tree.specs.Scope.{is_known}
use Rattle.net_rules.proofs.Tables.{any-map}
use Rattle.net_rules.proofs.names.NameSet.contains.Goals as goal

pub returns : goal.returns
returns c =
    let name : c.as_bytes.result.now ≡ c.args.name.now = c.as_bytes.ensures.value ∙ c.as_str.ensures.bytes in
    c.contains.ensures ∙ sym (any-map (λ k. k.now) (bytes_eq c.as_bytes.result.now) c.self.inside.names.keys) ∙ (λ i. is_known (c.self.view_is i) (name i))
