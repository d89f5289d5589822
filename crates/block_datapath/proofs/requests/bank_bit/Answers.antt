use Rattle.std.proofs.Common.{arith}
use Rattle.block_datapath.proofs.BankRequests.{bank_told, told_wired}
use Rattle.block_datapath.proofs.requests.bank_bit.Goals as goal

pub returns-in_ok-last-clause-shows : goal.returns-in_ok-last-clause-shows
returns-in_ok-last-clause-shows c =
    bank_told c.is_number.result c.args.wires.now.signals c.resized.new.self.signals c.is_number.new.self.signals c.args.index c.args.bits c.args.number c.in_ok-last.last
    (omega arith) c.requires c.in_ok-last.ensures.shows c.is_number.ensures.shows

pub returns-in_ok-last-clause-wired : goal.returns-in_ok-last-clause-wired
returns-in_ok-last-clause-wired c =
    told_wired c.is_number.result c.args.wires.now.signals c.resized.new.self.signals c.is_number.new.self.signals c.args.index c.args.bits c.args.number c.in_ok-last.last
    (omega arith) c.requires c.in_ok-last.ensures.wired c.is_number.ensures.wired
