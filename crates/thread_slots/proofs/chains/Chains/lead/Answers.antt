use Rattle.std.proofs.Common.{refl}
use Rattle.operator_wires.proofs.BuiltWires.{stands_after}
use Rattle.thread_slots.proofs.Linked.{lead_linked}
use Rattle.thread_slots.proofs.chains.Chains.lead.Goals as goal

pub returns-clause-wired : goal.returns-clause-wired
returns-clause-wired c = λ base code linked last target.
    let before = c.args.self.now in
    let stage = c.args.registers.now.stage in
    let t = c.in_ok-is_last.ensures.wired base linked.is_last last in
    let u = c.in_ok-stage.ensures.wired base (stands_after c.args.wires.now.signals c.either.new.self.signals base c.args.last 1 t.wires.grows last)
    (stands_after c.args.wires.now.signals c.either.new.self.signals base c.args.target stage.width t.wires.grows target)
    (stands_after c.args.wires.now.signals c.either.new.self.signals base before.stage stage.width t.wires.grows linked.stage) in
    lead_linked base c.args.wires.now.signals c.either.new.self.signals c.choice.new.self.signals code c.args.registers.now before
    (record before { is_last = c.in_ok-is_last.is_last; stage = c.in_ok-stage.stage }) linked t u refl
