use Rattle.thread_slots.specs.Bits.{MakesAny, AddsAny}
use Rattle.loop_datapath.specs.States.{contains}
use Rattle.loop_datapath.proofs.states.any_state.Given as goal

abbrev pub invariant-loop-state : goal.invariant-loop-state
invariant-loop-state l = record {
  shows : MakesAny l.fn.wires.signals l.wires.signals l.first l.states (contains l.some) l.state l.any;
  wired : AddsAny l.fn.wires.signals l.wires.signals l.first l.states l.any;
}
