use Rattle.std.proofs.Common.{◌≡◌, subst, arith}
use Rattle.thread_slots.specs.Bits.{MakesBits}
use Rattle.thread_slots.proofs.BitLists.{bits_none}
use Rattle.loop_datapath.specs.States.{StateOf}
use Rattle.loop_datapath.proofs.StateBits.{state_more, states_wired_none, states_wired_more}
use Rattle.loop_datapath.proofs.states.state_bits.Goals as goal

pub loop-state-preserved : goal.loop-state-preserved
loop-state-preserved c = record {
  shows =
      state_more c.args.wires.now.signals c.loop-state.wires.signals c.in_state.new.wires.signals c.args.registers.now c.args.at c.args.states c.loop-state.state c.in_ok-bit.bit
      c.loop-state.bits c.push.new.self c.loop-state.invariant.shows c.loop-state-test.true c.in_ok-bit.ensures.shows c.in_ok-push.ensures.ok;
  wired =
      states_wired_more c.args.wires.now.signals c.loop-state.wires.signals c.in_state.new.wires.signals c.args.registers.now c.args.at c.args.states c.loop-state.state
      c.in_ok-bit.bit c.loop-state.bits c.push.new.self c.loop-state.invariant.wired c.in_ok-bit.ensures.wired c.in_ok-push.ensures.ok;
}

pub loop-state-init : goal.loop-state-init
loop-state-init c = record {
  shows = bits_none (StateOf c.args.registers.now c.args.at c.args.states) c.args.wires.now.signals c.new-bits.result c.new-bits.ensures;
  wired = states_wired_none c.args.wires.now.signals c.args.registers.now c.args.at c.args.states c.new-bits.result c.new-bits.ensures;
}

pub returns-clause-shows : goal.returns-clause-shows
returns-clause-shows c =
    let all : c.loop-state.state ≡ c.args.states = omega arith in
    subst (λ n. MakesBits c.args.wires.now.signals c.loop-state.wires.signals n c.loop-state.bits (StateOf c.args.registers.now c.args.at c.args.states)) all
    c.loop-state.invariant.shows

pub returns-clause-wired : goal.returns-clause-wired
returns-clause-wired c = c.loop-state.invariant.wired
