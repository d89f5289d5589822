use Rattle.std.proofs.Common.{arith}
use Rattle.unit_datapath.proofs.WorkStates.{work_one, work_more}
use Rattle.unit_datapath.proofs.states.at_work.Goals as goal

pub loop-offset-preserved : goal.loop-offset-preserved
loop-offset-preserved c =
    let n = c.loop-offset.offset in
    work_more c.args.registers.now c.args.end c.args.start c.args.wires.now.signals c.loop-offset.wires.signals c.in_state-in-loop-offset.new.wires.signals
    c.either.new.self.signals n
    c.saturating_add-state.result c.loop-offset.place c.in_ok-here.here c.in_ok-place-2.place c.moment_of-in-loop-offset.result c.loop-offset.invariant
    (λ low. omega arith) c.moment_of-in-loop-offset.ensures
    c.in_ok-here.ensures.shows c.in_ok-here.ensures.wired c.in_ok-place-2.ensures.shows c.in_ok-place-2.ensures.wired

pub loop-offset-init : goal.loop-offset-init
loop-offset-init c =
    work_one c.args.registers.now c.args.end c.args.start c.args.wires.now.signals c.in_state.new.wires.signals c.moment_of.result c.in_ok-place.place c.moment_of.ensures
    c.in_ok-place.ensures.shows c.in_ok-place.ensures.wired
