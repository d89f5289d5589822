use Rattle.std.proofs.Common.{◌≡◌, ◌++◌, ◌∷◌, [], sym, ◌∙◌, ap, map, Bor, List, Option, ℕ}
use Rattle.std.specs.Prelude.{if◌then◌else◌, not}
use Rattle.std.specs.List.{list_any}
use Rattle.verilog_tree.specs.Facts.{is_place, same_place}
use Rattle.net_rules.proofs.Tables.{any-map, with-map}
use Rattle.net_rules.proofs.names.PlaceSet.add.Goals as goal

pub returns-clause-new : goal.returns-clause-new
returns-clause-new c =
    let name : c.as_bytes.result.now ≡ c.args.name.now = c.as_bytes.ensures.value ∙ c.as_str.ensures.bytes in
    c.in_ok-insert.ensures.added
    ∙ ap not (sym (any-map (λ k. (k.0.now, k.1)) (same_place (c.as_bytes.result.now, c.args.word)) c.self.inside.places.keys)
    ∙ (λ i. is_place (c.self.view_is i) (name i, c.args.word)))

pub returns-clause-places : goal.returns-clause-places
returns-clause-places c =
    let keys = c.self.inside.places.keys in
    let name : c.as_bytes.result.now ≡ c.args.name.now = c.as_bytes.ensures.value ∙ c.as_str.ensures.bytes in
    let known : list_any (λ (k : Bor (List ℕ) × Option ℕ). same_place (c.as_bytes.result.now, c.args.word) (k.0.now, k.1)) keys ≡ is_place c.args.self.now
    (c.args.name.now, c.args.word) =
    sym (any-map (λ k. (k.0.now, k.1)) (same_place (c.as_bytes.result.now, c.args.word)) keys) ∙ (λ i. is_place (c.self.view_is i) (name i, c.args.word)) in
    ap (map (λ k. (k.0.now, k.1))) c.in_ok-insert.ensures.keys ∙ with-map (λ k. (k.0.now, k.1)) _ keys (c.as_bytes.result, c.args.word)
    ∙ (λ i. if known i then c.self.view_is i else c.self.view_is i ++ (name i, c.args.word) ∷ [])
