use Rattle.std.proofs.Common.{◌≡◌, ◌++◌, ◌∷◌, [], None, ◌∙◌, ap, map}
use Rattle.std.specs.Str.{bytes_eq}
use Rattle.std.specs.Map.{lookup}
use Rattle.std.proofs.lemmas.List.{map_push}
use Rattle.verilog_tree.specs.Facts.{interface_named}
use Rattle.net_rules.specs.Interfaces.{seen, seen_at}
use Rattle.net_rules.proofs.Tables.{new-entry}
use Rattle.net_rules.proofs.PortTables.{lookup-seen, seen_none}
use Rattle.net_rules.proofs.interfaces.Interfaces.add.Goals as goal

pub returns : goal.returns
returns c =
    let name : c.as_bytes.result.now ≡ c.args.name.now = c.as_bytes.ensures.value ∙ c.as_str.ensures.bytes in
    let none : lookup (λ k. bytes_eq c.as_bytes.result.now k.now) c.self.inside.named.entries ≡ None =
    seen_none c.as_bytes.result.now _ (lookup-seen c.as_bytes.result.now c.self.inside.named.entries ∙ (λ i. interface_named (c.self.view_is i) (name i)) ∙ c.requires) in
    ap (map seen_at) (c.in_ok-insert.ensures.entries ∙ new-entry c.as_bytes.result c.args.interface c.self.inside.named.entries none)
    ∙ map_push seen_at c.self.inside.named.entries (c.as_bytes.result, c.args.interface) ∙ (λ i. c.self.view_is i ++ seen (name i) c.args.interface ∷ [])
