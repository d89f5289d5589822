use Rattle.std.proofs.Common.{◌≡◌, ◌++◌, ◌∷◌, [], sym, ◌∙◌, ap, map, Bor, List, ℕ}
use Rattle.std.specs.Prelude.{if◌then◌else◌, not}
use Rattle.std.specs.List.{list_any}
use Rattle.std.specs.Str.{bytes_eq}
use Rattle.verilog_tree.specs.Scope.{is_known}
use Rattle.net_rules.proofs.Tables.{any-map, with-map}
use Rattle.net_rules.proofs.names.NameSet.add.Goals as goal

pub returns-clause-new : goal.returns-clause-new
returns-clause-new c =
    let name : c.as_bytes.result.now ≡ c.args.name.now = c.as_bytes.ensures.value ∙ c.as_str.ensures.bytes in
    c.in_ok-insert.ensures.added
    ∙ ap not (sym (any-map (λ k. k.now) (bytes_eq c.as_bytes.result.now) c.self.inside.names.keys) ∙ (λ i. is_known (c.self.view_is i) (name i)))

pub returns-clause-names : goal.returns-clause-names
returns-clause-names c =
    let keys = c.self.inside.names.keys in
    let name : c.as_bytes.result.now ≡ c.args.name.now = c.as_bytes.ensures.value ∙ c.as_str.ensures.bytes in
    let known : list_any (λ (k : Bor (List ℕ)). bytes_eq c.as_bytes.result.now k.now) keys ≡ is_known c.args.self.now c.args.name.now =
    sym (any-map (λ k. k.now) (bytes_eq c.as_bytes.result.now) keys) ∙ (λ i. is_known (c.self.view_is i) (name i)) in
    ap (map (λ k. k.now)) c.in_ok-insert.ensures.keys ∙ with-map (λ k. k.now) _ keys c.as_bytes.result
    ∙ (λ i. if known i then c.self.view_is i else c.self.view_is i ++ name i ∷ [])
