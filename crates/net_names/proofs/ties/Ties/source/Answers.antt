use Rattle.std.proofs.Common.{◌∙◌, ap, sym}
use Rattle.std.specs.Prelude.{option_map, slice_get}
use Rattle.std.proofs.lemmas.Option.{slice_get-map}
use Rattle.netlist.specs.NetlistOf.{place}
use Rattle.net_names.specs.Ties.{tied_of, ties_of, tied_source}
use Rattle.net_names.proofs.FoundParts.{source_at, tied_at}
use Rattle.net_names.proofs.ties.Ties.source.Goals as goal

pub returns-in-Some : goal.returns-in-Some
returns-in-Some c =
    let list = c.self.inside.list in
    let x = c.args.name.now in
    ap (λ o. source_at (option_map tied_of o)) c.in-Some.ensures.value ∙ ap source_at (sym (slice_get-map tied_of list c.of_name.result))
    ∙ ap (λ k. source_at (slice_get (ties_of list) k)) (c.of_name.ensures ∙ ap (λ names. place names x) c.self.invariant)
    ∙ tied_at (ties_of list) x ∙ ap (λ l. tied_source l x) c.self.view_is

pub returns-in-None : goal.returns-in-None
returns-in-None c =
    let list = c.self.inside.list in
    let x = c.args.name.now in
    ap (λ o. source_at (option_map tied_of o)) c.in-None.ensures.value ∙ ap source_at (sym (slice_get-map tied_of list c.of_name.result))
    ∙ ap (λ k. source_at (slice_get (ties_of list) k)) (c.of_name.ensures ∙ ap (λ names. place names x) c.self.invariant)
    ∙ tied_at (ties_of list) x ∙ ap (λ l. tied_source l x) c.self.view_is
