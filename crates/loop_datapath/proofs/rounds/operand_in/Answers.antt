use Rattle.std.proofs.Common.{◌≡◌, ◌∙◌, ◌+◌, ◌<◌, refl, ap, arith}
use Rattle.hls_ints.specs.Types.{IntegerType, width_of}
use Rattle.thread_promise.specs.Types.{operand_type}
use Rattle.loop_datapath.specs.declared.times.RoundPhase.{RoundPhase}
use Rattle.loop_datapath.proofs.OperandRounds.{first_shown, more_shown, all_shown}
use Rattle.loop_datapath.proofs.RoundWires.{first_place, more_place, place_word}
use Rattle.loop_datapath.proofs.rounds.operand_in.Goals as goal

pub loop-depth-init : goal.loop-depth-init
loop-depth-init c = (
  first_shown c.args.registers.now c.args.types.now c.args.turn.now c.args.times.now c.args.words.now c.args.rounds.now c.args.time.stage c.args.time.phase c.args.operand.now
      c.args.wires.now.signals c.operand_ahead.new.wires.signals (record { begun = c.args.time.stage; phase = c.args.time.phase }) c.in_ok-first.first refl refl
      c.in_ok-first.ensures.shows,
  first_place c.args.types.now c.args.registers.now c.args.words.now c.args.rounds.now c.args.wires.now.signals c.operand_ahead.new.wires.signals c.args.times.now.stages
      (operand_type c.args.operand.now) c.in_ok-first.first c.in_ok-first.ensures.wired,
)

pub loop-depth-preserved : goal.loop-depth-preserved
loop-depth-preserved c =
    let s = c.args.time.stage in
    let d = c.loop-depth.depth in
    let within = c.reach_in-depth-end.ensures.within in
    let more = c.loop-depth-test.true in
    let small : s + d + 1 < c.args.times.now.stages = omega (arith, within, more) in
    let at : RoundPhase = record { begun = s + d + 1; phase = c.args.time.phase } in
    let sum : s + d + 1 ≡ s + (d + 1) = omega arith in (
      more_shown c.args.registers.now c.args.types.now c.args.turn.now c.args.times.now c.args.words.now c.args.rounds.now s c.args.time.phase c.args.operand.now
          c.args.wires.now.signals c.loop-depth.wires.signals c.further_place.new.wires.signals at d c.loop-depth.place c.in_ok-place.place sum refl small
          c.loop-depth.invariant.0 c.in_ok-place.ensures.shows,
      more_place c.args.types.now c.args.registers.now c.args.words.now c.args.rounds.now c.args.wires.now.signals c.loop-depth.wires.signals c.further_place.new.wires.signals
          c.args.times.now.stages (s + d + 1) (operand_type c.args.operand.now) c.loop-depth.place c.in_ok-place.place small c.loop-depth.invariant.1 c.in_ok-place.ensures.wired,
    )

pub returns-clause-shows : goal.returns-clause-shows
returns-clause-shows c =
    let d = c.loop-depth.depth in
    let done : d ≡ c.reach_in-depth-end.result = omega (arith, c.loop-depth-test.false, c.loop-depth.auto.depth-end) in
    all_shown c.args.registers.now c.args.types.now c.args.turn.now c.args.times.now c.args.words.now c.args.rounds.now c.args.time.stage c.args.time.phase c.args.operand.now
    c.args.wires.now.signals c.loop-depth.wires.signals d c.loop-depth.place c.of_type.result (done ∙ c.reach_in-depth-end.ensures.value) c.of_type.ensures.place
    (c.of_type.ensures.width ∙ ap width_of c.operand_type.ensures) (c.of_type.ensures.signed ∙ ap (λ (ty : IntegerType). ty.signed) c.operand_type.ensures)
    c.loop-depth.invariant.0

pub returns-clause-wired : goal.returns-clause-wired
returns-clause-wired c =
    place_word c.args.types.now c.args.registers.now c.args.words.now c.args.rounds.now c.args.wires.now.signals c.loop-depth.wires.signals c.args.times.now.stages
    (operand_type c.args.operand.now) c.loop-depth.place c.of_type.result c.of_type.ensures.place (c.of_type.ensures.width ∙ ap width_of c.operand_type.ensures)
    (c.of_type.ensures.signed ∙ ap (λ (ty : IntegerType). ty.signed) c.operand_type.ensures) c.loop-depth.invariant.1
