use Rattle.std.proofs.Common.{◌∙◌, ap}
use Rattle.hls_ints.specs.Types.{width_of}
use Rattle.thread_promise.specs.Types.{operand_type}
use Rattle.loop_datapath.proofs.OperandRounds.{further_shown}
use Rattle.loop_datapath.proofs.RoundWires.{further_wired}
use Rattle.loop_datapath.proofs.rounds.further_place.Goals as goal

pub returns-clause-shows : goal.returns-clause-shows
returns-clause-shows c =
    further_shown c.choice.result c.args.registers.now c.args.types.now c.args.turn.now c.args.times.now c.args.words.now c.args.rounds.now c.args.operand.now
    c.args.wires.now.signals c.operand_ahead.new.wires.signals c.choice.new.self.signals c.args.at c.args.depth c.from-width.result c.args.place c.place_at-round.result
    c.in_ok-later.later (c.from-width.ensures ∙ c.bits.ensures.value ∙ ap width_of c.operand_type.ensures) c.place_at-round.ensures c.in_ok-later.ensures.shows
    c.choice.ensures.shows

pub returns-clause-wired : goal.returns-clause-wired
returns-clause-wired c =
    further_wired c.args.types.now c.args.registers.now c.args.words.now c.args.rounds.now c.choice.result c.args.wires.now.signals c.operand_ahead.new.wires.signals
    c.choice.new.self.signals c.args.at.begun c.place_at-round.result c.from-width.result c.args.place (operand_type c.args.operand.now) c.in_ok-later.later
    (c.from-width.ensures ∙ c.bits.ensures.value ∙ ap width_of c.operand_type.ensures) c.place_at-round.ensures c.in_ok-later.ensures.wired c.choice.ensures.wired
