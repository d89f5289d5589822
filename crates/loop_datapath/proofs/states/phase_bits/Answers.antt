use Rattle.std.proofs.Common.{◌≡◌, subst, arith}
use Rattle.thread_slots.specs.Bits.{MakesBits}
use Rattle.thread_slots.proofs.BitLists.{bits_none}
use Rattle.loop_datapath.specs.declared.states.StateSet.TheVariants.{Phase}
use Rattle.loop_datapath.specs.States.{PartOf}
use Rattle.loop_datapath.proofs.StateBits.{part_more, some_wired_none, some_wired_more}
use Rattle.loop_datapath.proofs.states.phase_bits.Goals as goal

pub loop-phase-preserved : goal.loop-phase-preserved
loop-phase-preserved c = record {
  shows =
      part_more c.args.wires.now.signals c.loop-phase.wires.signals c.any_state.new.wires.signals c.args.never c.args.states.now (Phase c.args.interval) c.loop-phase.phase
      c.in_ok-bit.bit c.loop-phase.bits c.push.new.self c.loop-phase.invariant.shows c.in_ok-bit.ensures.shows c.in_ok-push.ensures.ok;
  wired =
      some_wired_more c.args.wires.now.signals c.loop-phase.wires.signals c.any_state.new.wires.signals c.args.never c.in_ok-bit.bit c.args.states.now c.loop-phase.bits
      c.push.new.self c.loop-phase.invariant.wired c.in_ok-bit.ensures.wired c.in_ok-push.ensures.ok;
}

pub loop-phase-init : goal.loop-phase-init
loop-phase-init c = record {
  shows = bits_none (PartOf c.args.never c.args.states.now (Phase c.args.interval)) c.args.wires.now.signals c.new-bits.result c.new-bits.ensures;
  wired = some_wired_none c.args.wires.now.signals c.args.never c.args.states.now c.new-bits.result c.new-bits.ensures;
}

pub returns-clause-shows : goal.returns-clause-shows
returns-clause-shows c =
    let all : c.loop-phase.phase ≡ c.args.interval = omega arith in
    subst (λ n. MakesBits c.args.wires.now.signals c.loop-phase.wires.signals n c.loop-phase.bits (PartOf c.args.never c.args.states.now (Phase c.args.interval))) all
    c.loop-phase.invariant.shows

pub returns-clause-wired : goal.returns-clause-wired
returns-clause-wired c = c.loop-phase.invariant.wired
