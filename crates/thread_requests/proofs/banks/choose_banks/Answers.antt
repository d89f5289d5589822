use Rattle.operator_wires.proofs.MadeWords.{of_ok}
use Rattle.thread_requests.specs.Banks.{AreChosen, AreOwnWants}
use Rattle.thread_requests.proofs.BankAsks.{banks_chosen}
use Rattle.thread_requests.proofs.banks.choose_banks.Goals as goal

pub returns : goal.returns
returns c =
    let a = c.args.wires.now.signals in
    let b = c.wire.new.self.signals in
    let d = c.constant.new.self.signals in
    let e = c.choose_each.new.wires.signals in
    of_ok c.choose_each.result (AreChosen d e c.args.want c.in_ok-last.last c.in_ok-never.never c.args.bits c.args.count)
    (AreOwnWants a e c.args.want c.args.index c.args.count)
    (λ l t. banks_chosen a b d e c.args.want c.args.index c.in_ok-last.last c.in_ok-never.never c.args.bits c.args.count l c.requires.low c.requires.high c.requires.power
    c.in_ok-last.ensures.shows c.in_ok-last.ensures.wired c.in_ok-never.ensures.shows c.in_ok-never.ensures.wired t)
    c.choose_each.ensures
