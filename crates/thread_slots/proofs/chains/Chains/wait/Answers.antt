use Rattle.std.proofs.Common.{refl}
use Rattle.thread_slots.proofs.Linked.{wait_linked}
use Rattle.thread_slots.proofs.chains.Chains.wait.Goals as goal

pub returns-clause-wired : goal.returns-clause-wired
returns-clause-wired c = λ base code registers linked bit.
    let before = c.args.self.now in
    let t = c.in_ok-waits.ensures.wired base linked.waits bit in
    wait_linked base c.args.wires.now.signals c.either.new.self.signals c.either.new.self.signals code registers before
    (record before { waits = c.in_ok-waits.waits }) linked t refl
