use Rattle.std.proofs.Common.{◌≡◌, ◌++◌, ◌∷◌, [], None, false, sym, ◌∙◌, ap, map}
use Rattle.std.specs.Prelude.{is_some, if◌then◌else◌}
use Rattle.std.specs.Str.{bytes_eq}
use Rattle.std.specs.Map.{lookup}
use Rattle.std.proofs.lemmas.List.{map_push}
use Rattle.lists.proofs.Places.{none_of}
use Rattle.verilog_tree.specs.Scope.{Scope, kind_of, is_declared}
use Rattle.net_rules.specs.Tables.{plain}
use Rattle.net_rules.proofs.Tables.{lookup-plain, new-entry}
use Rattle.net_rules.proofs.names.Scope.declare.Goals as goal

pub returns-clause-scope : goal.returns-clause-scope
returns-clause-scope c =
    let name : c.as_bytes.result.now ≡ c.args.name.now = c.as_bytes.ensures.value ∙ c.as_str.ensures.bytes in
    let unknown : is_declared c.args.self.now c.args.name.now ≡ false = ap is_some (sym c.kind.ensures) ∙ sym c.is_some.ensures ∙ c.if-is_some.false in
    let none : lookup (λ k. bytes_eq c.as_bytes.result.now k.now) c.self.inside.kinds.entries ≡ None =
    lookup-plain c.as_bytes.result.now c.self.inside.kinds.entries ∙ (λ i. kind_of (c.self.view_is i) (name i)) ∙ none_of (kind_of c.args.self.now c.args.name.now) unknown in
    let added : Scope = c.args.self.now ++ (c.args.name.now, c.args.kind) ∷ [] in
    ap (map plain) (c.in_ok-insert.ensures.entries ∙ new-entry c.as_bytes.result c.args.kind c.self.inside.kinds.entries none)
    ∙ map_push plain c.self.inside.kinds.entries (c.as_bytes.result, c.args.kind) ∙ (λ i. c.self.view_is i ++ (name i, c.args.kind) ∷ [])
    ∙ sym (ap (λ b. if b then c.args.self.now else added) unknown)
