use Rattle.std.proofs.Common.{◌∙◌, ap, sym}
use Rattle.std.specs.Prelude.{unwrap_or}
use Rattle.std.proofs.lemmas.List.{length-map}
use Rattle.netlist.specs.NetlistOf.{place}
use Rattle.net_names.specs.Tables.{names_of, number_of}
use Rattle.net_names.proofs.NumberTables.{place_found}
use Rattle.net_names.proofs.places.Places.at.Goals as goal

pub returns : goal.returns
returns c =
    let names = c.self.inside.names in
    let x = c.args.name.now in
    c.unwrap_or.ensures ∙ ap (λ o. unwrap_or o c.len.result) (c.copied.ensures ∙ c.get.ensures.value)
    ∙ ap (number_of c.self.inside.places.entries x) (c.len.ensures ∙ sym (length-map names (λ b. b.now)))
    ∙ place_found c.self.inside.places.entries (names_of names) x c.self.invariant ∙ ap (λ l. place l x) c.self.view_is
