use Rattle.std.proofs.Common.{◌≡◌, ◌-◌, length, subst, ap, ◌∙◌, arith}
use Rattle.std.proofs.lemmas.Option.{slice_get-get_or}
use Rattle.loop_datapath.specs.declared.times.OperationTime.{OperationTime}
use Rattle.loop_datapath.specs.Times.{time_at}
use Rattle.loop_datapath.specs.States.{phase_bit}
use Rattle.loop_datapath.specs.Chains.{KeepsChains}
use Rattle.loop_datapath.proofs.ChainWires.{chains_none, chains_wired}
use Rattle.loop_datapath.proofs.KeptChains.{chains_begin, chains_more}
use Rattle.loop_datapath.proofs.chains.keep_chains.Goals as goal

pub loop-number-init : goal.loop-number-init
loop-number-init c = record {
  shows = chains_begin c.args.registers.now c.args.times.now c.args.states.now c.args.words.now c.args.wires.now.signals c.args.nexts.now;
  wired = chains_none c.args.wires.now.signals c.args.registers.now c.args.words.now c.args.states.now c.args.nexts.now;
}

pub loop-number-preserved : goal.loop-number-preserved
loop-number-preserved c =
    let here = slice_get-get_or c.args.words.now c.loop-number.number _ c.loop-number-test.true in
    let phase : c.phase-here.result ≡ phase_bit c.args.states.now (time_at c.args.times.now.operations c.loop-number.number).phase =
    c.phase-here.ensures ∙ ap (λ (t : OperationTime). phase_bit c.args.states.now t.phase) c.time_at-time.ensures in
    let copies : c.saturating_sub-copies.result ≡ c.args.times.now.stages - (time_at c.args.times.now.operations c.loop-number.number).stage =
    c.saturating_sub-copies.ensures ∙ ap (λ (t : OperationTime). c.args.times.now.stages - t.stage) c.time_at-time.ensures in
    record {
      shows =
          chains_more c.args.registers.now c.args.times.now c.args.states.now c.args.words.now c.args.wires.now.signals c.loop-number.wires.signals
          c.keep_copies.new.wires.signals c.args.nexts.now c.loop-number.nexts c.keep_copies.new.nexts c.loop-number.number c.phase-here.result c.saturating_sub-copies.result
          c.time_at-time.result.chain _ here phase copies (ap (λ (t : OperationTime). t.chain) c.time_at-time.ensures) c.loop-number.invariant.shows
          c.in_ok-keep_copies.ensures.shows;
      wired =
          chains_wired c.args.wires.now.signals c.loop-number.wires.signals c.keep_copies.new.wires.signals c.args.registers.now c.args.words.now c.args.states.now
          c.args.nexts.now c.loop-number.nexts c.keep_copies.new.nexts c.loop-number.number c.phase-here.result c.time_at-time.result.phase _ here c.phase-here.ensures
          c.loop-number.invariant.wired c.in_ok-keep_copies.ensures.wired;
    }

pub returns-clause-shows : goal.returns-clause-shows
returns-clause-shows c =
    let all : c.loop-number.number ≡ length c.args.words.now = omega arith in
    subst (λ n. KeepsChains c.args.wires.now.signals c.loop-number.wires.signals c.args.registers.now c.args.times.now c.args.states.now c.args.nexts.now c.loop-number.nexts
    c.args.words.now n) all c.loop-number.invariant.shows

pub returns-clause-wired : goal.returns-clause-wired
returns-clause-wired c = c.loop-number.invariant.wired
