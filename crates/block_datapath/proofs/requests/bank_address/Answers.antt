use Rattle.std.proofs.Common.{arith}
use Rattle.block_datapath.proofs.BankRequests.{whole_wired, bank_addressed, address_wired}
use Rattle.block_datapath.proofs.requests.bank_address.Goals as goal

pub returns-then-bits-eq0-clause-wired : goal.returns-then-bits-eq0-clause-wired
returns-then-bits-eq0-clause-wired c = whole_wired c.args.wires.now.signals c.args.index

pub returns-in_ok-first-clause-shows : goal.returns-in_ok-first-clause-shows
returns-in_ok-first-clause-shows c =
    bank_addressed c.resized.result c.args.wires.now.signals c.wire.new.self.signals c.resized.new.self.signals c.args.index c.args.bits c.in_ok-first.first (omega arith)
    c.requires c.in_ok-first.ensures.shows c.resized.ensures.shows

pub returns-in_ok-first-clause-wired : goal.returns-in_ok-first-clause-wired
returns-in_ok-first-clause-wired c =
    address_wired c.resized.result c.args.wires.now.signals c.wire.new.self.signals c.resized.new.self.signals c.args.index c.args.bits c.in_ok-first.first (omega arith)
    c.requires c.in_ok-first.ensures.wired c.resized.ensures.wired
