use Rattle.std.proofs.Common.{Some, sym, ap, ◌∙◌, arith}
use Rattle.std.proofs.lemmas.Option.{slice_get-get_or}
use Rattle.core_places.proofs.CoresLaid.{one_laid}
use Rattle.core_places.proofs.CoresPlaced.{placed_count}
use Rattle.core_places.proofs.layout.laid_cores.Goals as goal

pub places_from-at-requires-clause-few_banks : goal.places_from-at-requires-clause-few_banks
places_from-at-requires-clause-few_banks c = let n = placed_count c.args.wanted.now in let f = c.requires.few_cores in omega (arith, n, f)

pub loop-k-preserved : goal.loop-k-preserved
loop-k-preserved c =
    let kinds = c.as_slice-kinds.result.now in
    let k = c.loop-k.k in
    one_laid c.args.wanted.now c.args.first kinds k c.index-kinds-k.result c.places_from-at.result c.place.result c.number.result c.in_ok-core.core c.loop-k.cores c.push.new.self
    (slice_get-get_or kinds k _ c.loop-k-test.true ∙ ap Some (sym c.index-kinds-k.is)) c.places_from-at.ensures c.place.ensures c.number.ensures c.in_ok-core.ensures c.loop-k.invariant
    c.in_ok-push.ensures.ok
