use Rattle.std.proofs.Common.{◌≡◌, sym, ◌∙◌}
use Rattle.verilog_tree.specs.Facts.{is_place, same_place}
use Rattle.net_rules.proofs.Tables.{any-map}
use Rattle.net_rules.proofs.names.PlaceSet.contains.Goals as goal

pub returns : goal.returns
returns c =
    let name : c.as_bytes.result.now ≡ c.args.name.now = c.as_bytes.ensures.value ∙ c.as_str.ensures.bytes in
    c.contains.ensures ∙ sym (any-map (λ k. (k.0.now, k.1)) (same_place (c.as_bytes.result.now, c.args.word)) c.self.inside.places.keys)
    ∙ (λ i. is_place (c.self.view_is i) (name i, c.args.word))
