use Rattle.std.proofs.Common.{ap, ◌∙◌}
use Rattle.std.specs.Prelude.{slice_index}
use Rattle.std.proofs.lemmas.Option.{slice_get-get_or}
use Rattle.thread_requests.proofs.OutputPorts.{banks_more}
use Rattle.thread_requests.proofs.outputs.add_banks.Goals as goal

pub loop-number-preserved : goal.loop-number-preserved
loop-number-preserved c =
    banks_more c.args.rows.now c.loop-number.rows c.add_bank.new.rows c.args.asks.now c.args.banks.now c.args.words.now c.loop-number.number _ c.place_at-ask.result
    c.place_at-writes.result c.place_at-address.result c.place_at-value.result c.loop-number.invariant (slice_get-get_or c.args.words.now c.loop-number.number _ c.loop-number-test.true)
    c.place_at-ask.ensures (c.place_at-writes.ensures ∙ ap (λ l. slice_index l c.loop-number.number) c.as_slice.ensures)
    (c.place_at-address.ensures ∙ ap (λ l. slice_index l c.loop-number.number) c.as_slice-in-loop-number.ensures)
    (c.place_at-value.ensures ∙ ap (λ l. slice_index l c.loop-number.number) c.as_slice-in-loop-number-2.ensures) c.in_ok-add_bank.ensures
