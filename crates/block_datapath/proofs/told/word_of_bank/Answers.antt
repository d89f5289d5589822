use Rattle.std.proofs.Common.{◌≡◌, Some, None, slice_get}
use Rattle.block_datapath.proofs.ToldWords.{number_told, number_missing, number_wired, missing_wired}
use Rattle.block_datapath.proofs.told.word_of_bank.Goals as goal

pub returns-in-Some-clause-shows : goal.returns-in-Some-clause-shows
returns-in-Some-clause-shows c =
    let listed : slice_get c.args.registers.now.words c.args.bank ≡ Some c.in-Some.held = cc in
    number_told c.args.registers.now c.resized.result c.args.wires.now.signals c.resized.new.self.signals c.args.bank c.args.width c.in-Some.held listed c.resized.ensures.shows

pub returns-in-Some-clause-wired : goal.returns-in-Some-clause-wired
returns-in-Some-clause-wired c =
    let listed : slice_get c.args.registers.now.words c.args.bank ≡ Some c.in-Some.held = cc in
    number_wired c.args.registers.now c.resized.result c.args.wires.now.signals c.resized.new.self.signals c.args.bank c.args.width c.in-Some.held listed c.resized.ensures.wired

pub returns-in-None-clause-shows : goal.returns-in-None-clause-shows
returns-in-None-clause-shows c =
    let none : slice_get c.args.registers.now.words c.args.bank ≡ None = cc in
    number_missing c.args.registers.now c.constant.result c.args.wires.now.signals c.constant.new.self.signals c.args.bank c.args.width none c.constant.ensures.shows

pub returns-in-None-clause-wired : goal.returns-in-None-clause-wired
returns-in-None-clause-wired c = missing_wired c.args.registers.now c.constant.result c.args.wires.now.signals c.constant.new.self.signals c.args.width c.constant.ensures.wired
