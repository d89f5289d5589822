use Rattle.std.proofs.Common.{◌≡◌, ◌+◌, ◌-◌, ℕ, List, slice_index, max, subst, refl, ap, ◌∙◌, arith}
use Rattle.loop_datapath.specs.declared.times.OperationTime.{OperationTime}
use Rattle.loop_datapath.specs.Chains.{KeepsStages}
use Rattle.loop_datapath.proofs.ChainWires.{stage_wired_first, stage_wired_more}
use Rattle.loop_datapath.proofs.KeptChains.{stages_first, stages_more}
use Rattle.loop_datapath.proofs.chains.keep_stages.Goals as goal

pub loop-stage-init : goal.loop-stage-init
loop-stage-init c =
    let runs : c.place_at-runs.result ≡ slice_index c.args.bits.now.inside 0 = c.place_at-runs.ensures ∙ ap (λ (l : List ℕ). slice_index l 0) c.as_slice-inside.ensures in
    record {
      some = omega arith;
      most = omega arith;
      shows =
          stages_first c.args.registers.now c.args.times.now c.args.comparison c.args.bits.now c.args.states.now c.args.wires.now.signals c.keep_bit.new.wires.signals
          c.args.nexts.now c.keep_bit.new.nexts c.args.times.now.bits c.phase-compares.result c.place_at-runs.result c.time_at.result.phase refl
          (ap (λ (t : OperationTime). t.phase) c.time_at.ensures) c.phase-compares.ensures runs c.in_ok-keep_bit.ensures.shows;
      wired =
          stage_wired_first c.args.wires.now.signals c.keep_bit.new.wires.signals c.args.registers.now c.args.times.now c.args.bits.now c.args.states.now c.args.nexts.now
          c.keep_bit.new.nexts c.phase-compares.result c.place_at-runs.result c.time_at.result.phase c.phase-compares.ensures runs c.in_ok-keep_bit.ensures.wired;
    }

pub loop-stage-preserved : goal.loop-stage-preserved
loop-stage-preserved c =
    let before : c.place_at-before.result ≡ slice_index c.args.bits.now.inside (c.loop-stage.stage - 1) =
    c.place_at-before.ensures ∙ ap (λ (l : List ℕ). slice_index l (c.loop-stage.stage - 1)) c.as_slice-inside.ensures in
    record {
      some = omega arith;
      most = omega arith;
      shows =
          stages_more c.args.registers.now c.args.times.now c.args.comparison c.args.bits.now c.args.states.now c.args.wires.now.signals c.loop-stage.wires.signals
          c.keep_bit-in-loop-stage.new.wires.signals c.args.nexts.now c.loop-stage.nexts c.keep_bit-in-loop-stage.new.nexts c.loop-stage.stage
          (c.args.times.now.bits + c.loop-stage.stage) c.phase-end.result c.place_at-before.result c.saturating_sub.result c.loop-stage.invariant.some refl
          c.saturating_sub.ensures c.phase-end.ensures before c.loop-stage.invariant.shows c.in_ok-keep_bit-2.ensures.shows;
      wired =
          stage_wired_more c.args.wires.now.signals c.loop-stage.wires.signals c.keep_bit-in-loop-stage.new.wires.signals c.args.registers.now c.args.times.now c.args.bits.now
          c.args.states.now c.args.nexts.now c.loop-stage.nexts c.keep_bit-in-loop-stage.new.nexts c.loop-stage.stage c.phase-end.result c.place_at-before.result
          c.saturating_sub.result c.loop-stage-test.true c.phase-end.ensures before c.loop-stage.invariant.wired c.in_ok-keep_bit-2.ensures.wired;
    }

pub returns-clause-shows : goal.returns-clause-shows
returns-clause-shows c =
    let all : c.loop-stage.stage ≡ max 1 c.args.times.now.stages = omega arith in
    subst (λ n. KeepsStages c.args.wires.now.signals c.loop-stage.wires.signals c.args.registers.now c.args.times.now c.args.comparison c.args.bits.now c.args.states.now
    c.args.nexts.now c.loop-stage.nexts n) all c.loop-stage.invariant.shows

pub returns-clause-wired : goal.returns-clause-wired
returns-clause-wired c = c.loop-stage.invariant.wired
