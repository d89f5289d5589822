use Rattle.std.proofs.Common.{◌≡◌, ◌-◌, max, ap, ◌∙◌}
use Rattle.loop_datapath.proofs.InsideStages.{stages_told, stages_wired}
use Rattle.loop_datapath.proofs.stage_bits.stage_bits.Goals as goal

pub returns-clause-shows : goal.returns-clause-shows
returns-clause-shows c =
    let count : c.saturating_sub-ahead.result ≡ max 2 c.args.times.now.stages - 1 = c.saturating_sub-ahead.ensures ∙ ap (λ n. n - 1) c.round_count.ensures in
    stages_told c.args.wires.now.signals c.running_bit.new.wires.signals c.inside_bits.new.wires.signals c.any_of.new.wires.signals c.both.new.self.signals
    c.args.registers.now c.args.times.now c.args.comparison c.args.words.now c.args.states.now c.in_ok-running.running c.in_ok-goes_round.goes_round c.place_at.result
    c.place_at-2.result c.in_ok-is_last.is_last c.saturating_sub-ahead.result c.saturating_sub-end.result c.as_slice-rounds.result.now c.in_ok-inside.inside
    c.as_slice-stages.result.now c.first_bits.result.now c.place_at.ensures c.place_at-2.ensures c.as_slice-rounds.ensures c.as_slice-stages.ensures c.first_bits.ensures count
    c.saturating_sub-end.ensures c.in_ok-running.ensures.shows c.in_ok-inside.ensures.shows c.in_ok-goes_round.ensures.shows c.in_ok-is_last.ensures.shows

pub returns-clause-wired : goal.returns-clause-wired
returns-clause-wired c =
    let inside = c.in_ok-inside.ensures.shows in
    stages_wired c.args.wires.now.signals c.running_bit.new.wires.signals c.inside_bits.new.wires.signals c.any_of.new.wires.signals c.both.new.self.signals
    c.args.registers.now c.args.times.now c.args.words.now c.args.states.now c.in_ok-running.running c.in_ok-goes_round.goes_round c.place_at.result
    c.place_at-2.result c.in_ok-is_last.is_last c.saturating_sub-ahead.result c.saturating_sub-end.result c.as_slice-rounds.result.now c.in_ok-inside.inside
    c.as_slice-stages.result.now c.first_bits.result.now c.place_at.ensures c.place_at-2.ensures c.as_slice-rounds.ensures c.as_slice-stages.ensures c.first_bits.ensures
    c.saturating_sub-end.ensures inside.count c.in_ok-running.ensures.wired c.in_ok-inside.ensures.wired c.in_ok-goes_round.ensures.wired c.in_ok-is_last.ensures.wired
