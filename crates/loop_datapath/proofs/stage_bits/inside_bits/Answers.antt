use Rattle.std.proofs.Common.{◌≡◌, ◌+◌, max, subst, arith, refl}
use Rattle.loop_datapath.specs.StageBits.{ShowsInside}
use Rattle.loop_datapath.proofs.InsideStages.{inside_first, inside_more, inside_wired_first, inside_wired_more}
use Rattle.loop_datapath.proofs.stage_bits.inside_bits.Goals as goal

pub loop-stage-init : goal.loop-stage-init
loop-stage-init c = record {
  some = omega arith;
  most = omega arith;
  shows = inside_first c.args.wires.now.signals c.args.registers.now c.args.times.now c.args.running c.args.rounds.now c.new-inside.result c.push.new.self c.new-inside.ensures
      c.in_ok-push.ensures.ok;
  wired =
      inside_wired_first c.args.wires.now.signals c.args.registers.now c.args.times.now c.args.running c.args.rounds.now c.new-inside.result c.push.new.self c.new-inside.ensures
      c.in_ok-push.ensures.ok;
}

pub loop-stage-preserved : goal.loop-stage-preserved
loop-stage-preserved c = record {
  some = omega arith;
  most = omega arith;
  shows =
      inside_more c.args.wires.now.signals c.loop-stage.wires.signals c.flag_bit.new.wires.signals c.both.new.self.signals c.args.registers.now c.args.times.now c.args.running
      c.loop-stage.stage c.place_at.result c.in_ok-known.known c.in_ok-bit.bit (c.args.times.now.bits + c.loop-stage.stage) c.args.rounds.now c.loop-stage.inside
      c.push-in-loop-stage.new.self c.loop-stage.invariant.some c.place_at.ensures refl c.loop-stage.invariant.shows c.in_ok-known.ensures.shows c.in_ok-bit.ensures.shows
      c.in_ok-push-2.ensures.ok;
  wired =
      inside_wired_more c.args.wires.now.signals c.loop-stage.wires.signals c.flag_bit.new.wires.signals c.both.new.self.signals c.args.registers.now c.args.times.now
      c.args.running c.loop-stage.stage c.place_at.result c.in_ok-known.known c.in_ok-bit.bit c.args.rounds.now c.loop-stage.inside c.push-in-loop-stage.new.self
      c.loop-stage-test.true c.place_at.ensures c.loop-stage.invariant.wired c.in_ok-known.ensures.wired c.in_ok-bit.ensures.wired c.in_ok-push-2.ensures.ok;
}

pub returns-clause-shows : goal.returns-clause-shows
returns-clause-shows c =
    let all : c.loop-stage.stage ≡ max 1 c.args.times.now.stages = omega arith in
    subst (λ n. ShowsInside c.args.wires.now.signals c.loop-stage.wires.signals c.args.registers.now c.args.times.now c.args.running c.args.rounds.now n c.loop-stage.inside) all
    c.loop-stage.invariant.shows

pub returns-clause-wired : goal.returns-clause-wired
returns-clause-wired c = c.loop-stage.invariant.wired
