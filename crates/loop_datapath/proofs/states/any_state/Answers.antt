use Rattle.std.proofs.Common.{◌≡◌, length, subst, arith}
use Rattle.std.proofs.lemmas.Option.{slice_get-get_or}
use Rattle.operator_wires.proofs.BuiltWires.{wires_none}
use Rattle.thread_slots.specs.Bits.{MakesAny}
use Rattle.thread_slots.proofs.BitLists.{any_none, adds_any}
use Rattle.loop_datapath.proofs.StateBits.{any_further}
use Rattle.loop_datapath.specs.States.{contains}
use Rattle.loop_datapath.proofs.states.any_state.Goals as goal

pub loop-state-preserved : goal.loop-state-preserved
loop-state-preserved c =
    let here = slice_get-get_or c.args.states.now c.loop-state.state _ c.loop-state-test.true in
    record {
      shows =
          any_further c.args.wires.now.signals c.loop-state.wires.signals c.either_if.new.wires.signals c.args.first c.args.states.now (contains c.args.some) c.loop-state.state _
          c.loop-state.any c.in_ok-next.next c.contains.result c.contains.ensures c.loop-state.invariant.shows here c.in_ok-next.ensures.shows;
      wired =
          adds_any c.args.wires.now.signals c.loop-state.wires.signals c.either_if.new.wires.signals c.args.first c.loop-state.any c.in_ok-next.next _ c.loop-state.state
          c.args.states.now c.loop-state.invariant.wired here c.in_ok-next.ensures.wired;
    }

pub loop-state-init : goal.loop-state-init
loop-state-init c = record {
  shows = any_none c.args.wires.now.signals c.args.first c.args.states.now (contains c.args.some);
  wired = λ base stand one. record { wires = wires_none base c.args.wires.now.signals; stands = one };
}

pub returns-clause-shows : goal.returns-clause-shows
returns-clause-shows c =
    let all : c.loop-state.state ≡ length c.args.states.now = omega arith in
    subst (λ n. MakesAny c.args.wires.now.signals c.loop-state.wires.signals c.args.first c.args.states.now (contains c.args.some) n c.loop-state.any) all
    c.loop-state.invariant.shows
