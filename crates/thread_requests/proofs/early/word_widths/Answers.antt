use Rattle.std.proofs.Common.{map, ap, sym, ◌∙◌}
use Rattle.std.specs.Prelude.{option_map}
use Rattle.std.proofs.lemmas.Option.{slice_get-map, slice_get-get_or}
use Rattle.hls_ints.specs.Types.{width_of}
use Rattle.thread_requests.proofs.SpreadBanks.{spread_more}
use Rattle.thread_requests.proofs.early.word_widths.Goals as goal

pub loop-number-preserved : goal.loop-number-preserved
loop-number-preserved c =
    spread_more c.loop-number.widths c.append.new.self c.args.spreads.now (map width_of c.args.globals.now) c.loop-number.number _ (option_map width_of c.type_at.result)
    c.in_ok-copies.copies c.loop-number.invariant (slice_get-get_or c.args.spreads.now c.loop-number.number _ c.loop-number-test.true)
    (ap (option_map width_of) c.type_at.ensures ∙ sym (slice_get-map width_of c.args.globals.now c.loop-number.number)) c.in_ok-copies.ensures c.in_ok-append.ensures
