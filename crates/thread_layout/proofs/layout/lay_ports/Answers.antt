use Rattle.std.proofs.Common.{◌≡◌, ℕ, ◌+◌, List, length, map, ap, subst, ◌∙◌}
use Rattle.hls_ints.specs.Types.{IntegerType, width_of}
use Rattle.bank_partition.specs.declared.banks.Spread.{Spread}
use Rattle.netlist.specs.declared.netlist.Source.TheVariants.{Input}
use Rattle.thread_slots.specs.Inputs.{LaysInputs}
use Rattle.thread_slots.specs.Services.{services}
use Rattle.thread_slots.specs.Slots.{LaysAll}
use Rattle.thread_slots.specs.Wired.{AreFit, Behind, IsInnerInput}
use Rattle.thread_requests.specs.Early.{spread_out}
use Rattle.thread_layout.proofs.layout.lay_ports.Goals as goal

pub returns : goal.returns
returns c =
    let shape = c.args.shape.now in
    let a = c.args.wires.now.signals in
    let b = c.lay_inputs.new.wires.signals in
    let d = c.lay_words.new.wires.signals in
    let own = spread_out shape.spreads (map width_of shape.globals) in
    let made : c.in_ok-widths.widths ≡ own =
    c.in_ok-widths.ensures ∙ ap (λ (z : List Spread). spread_out z (map width_of c.as_slice-globals.result.now)) c.as_slice.ensures
    ∙ ap (λ (z : List IntegerType). spread_out shape.spreads (map width_of z)) c.as_slice-globals.ensures in
    let widths : c.as_slice-2.result.now ≡ own = c.as_slice-2.ensures ∙ made in
    let count : c.len.result + c.in_ok-others.others ≡ length own + length (services shape.served) =
    ap (λ n. n + c.in_ok-others.others) (c.len.ensures ∙ ap length made) ∙ ap (λ n. length own + n) c.in_ok-others.ensures in
    record {
      with_grants = b;
      with_words = d;
      inputs = subst (λ n. LaysInputs n a b c.in_ok-inputs.inputs) count c.in_ok-inputs.ensures.lays;
      inputs_behind = c.in_ok-inputs.ensures.wired;
      told = subst (λ (z : List ℕ). LaysAll Input b d z (length z) c.in_ok-words.words) widths c.in_ok-words.ensures.lays;
      told_behind = subst (λ (z : List ℕ). AreFit z → Behind IsInnerInput b d) widths c.in_ok-words.ensures.wired;
      news = c.in_ok-news.ensures.lays;
      news_behind = c.in_ok-news.ensures.wired;
    }
