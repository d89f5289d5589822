use Rattle.std.proofs.lemmas.Result.{on_ok_weaker}
use Rattle.block_datapath.specs.declared.requests.BankRequests.{BankRequests}
use Rattle.block_datapath.specs.Chains.{SetsNext}
use Rattle.block_datapath.specs.Wired.{IsLinked}
use Rattle.block_datapath.proofs.BankRequests.{one_asked, one_wired}
use Rattle.block_datapath.proofs.requests.ask_one.Goals as goal

pub returns-clause-shows : goal.returns-clause-shows
returns-clause-shows c =
    let after : BankRequests =
    record { wants = c.set_next.new.nexts; writes = c.set_next-2.new.nexts; addresses = c.set_next-3.new.nexts; values = c.set_next-4.new.nexts }
    in
    on_ok_weaker c.set_next-4.result
    (λ (last : SetsNext c.set_next-3.new.wires.signals c.set_next-4.new.wires.signals c.args.chains.now.values c.set_next-4.new.nexts c.args.number c.in_ok-here.here
    c.args.access.value). one_asked c.args.wires.now.signals c.both.new.self.signals c.constant.new.self.signals c.set_next.new.wires.signals c.set_next-2.new.wires.signals
    c.set_next-3.new.wires.signals c.set_next-4.new.wires.signals c.args.chains.now after c.args.number c.in_ok-here.here c.in_ok-one.one c.args.chosen c.args.access
    c.in_ok-here.ensures.shows c.in_ok-one.ensures.shows c.in_ok-set_next.ensures.shows c.in_ok-set_next-2.ensures.shows c.in_ok-set_next-3.ensures.shows last)
    c.set_next-4.ensures.shows

pub returns-clause-wired : goal.returns-clause-wired
returns-clause-wired c =
    let after : BankRequests =
    record { wants = c.set_next.new.nexts; writes = c.set_next-2.new.nexts; addresses = c.set_next-3.new.nexts; values = c.set_next-4.new.nexts }
    in
    on_ok_weaker c.set_next-4.result
    (λ (last : IsLinked c.set_next-3.new.wires.signals c.set_next-4.new.wires.signals c.args.number c.args.width c.in_ok-here.here c.args.access.value
    c.args.chains.now.values c.set_next-4.new.nexts). one_wired c.args.wires.now.signals c.both.new.self.signals c.constant.new.self.signals c.set_next.new.wires.signals c.set_next-2.new.wires.signals
    c.set_next-3.new.wires.signals c.set_next-4.new.wires.signals c.args.chains.now after c.args.number c.args.width c.in_ok-here.here c.in_ok-one.one c.args.chosen c.args.access
    c.in_ok-here.ensures.wired c.in_ok-one.ensures.wired c.in_ok-set_next.ensures.wired c.in_ok-set_next-2.ensures.wired c.in_ok-set_next-3.ensures.wired last)
    c.set_next-4.ensures.wired
