use Rattle.std.proofs.Common.{◌≡◌, ◌+◌, ◌-◌, false, slice_get, Some, None, refl}
use Rattle.operator_wires.specs.Added.{ResizedAdds, ConstantAdds}
use Rattle.operator_wires.specs.Gives.{Gives}
use Rattle.operator_wires.specs.Words.{Resizes}
use Rattle.operator_wires.proofs.MadeWords.{of_ok}
use Rattle.loop_datapath.specs.Chains.{Copies}
use Rattle.loop_datapath.specs.Wired.{IsCopy}
use Rattle.loop_datapath.proofs.ChainWires.{word_copied, held_copied, none_copied}
use Rattle.loop_datapath.proofs.KeptChains.{copies_word, copies_held, copies_none}
use Rattle.loop_datapath.proofs.chains.copied.Goals as goal

pub returns-then-copy-eq0-clause-shows : goal.returns-then-copy-eq0-clause-shows
returns-then-copy-eq0-clause-shows c =
    of_ok c.resized.result (Resizes c.args.wires.now.signals c.resized.new.self.signals c.args.word.place c.args.word.width c.args.width false)
    (Copies c.args.wires.now.signals c.resized.new.self.signals c.args.registers.now c.args.chain c.args.word c.args.copy c.args.width)
    (λ place t. copies_word c.args.wires.now.signals c.resized.new.self.signals c.args.registers.now c.args.chain c.args.word c.args.width place c.args.copy c.if-copy-eq0.true t)
    c.resized.ensures.shows

pub returns-then-copy-eq0-clause-wired : goal.returns-then-copy-eq0-clause-wired
returns-then-copy-eq0-clause-wired c =
    of_ok c.resized.result (ResizedAdds c.args.wires.now.signals c.resized.new.self.signals c.args.word.place c.args.word.width c.args.width false)
    (IsCopy c.args.wires.now.signals c.resized.new.self.signals c.args.registers.now c.args.word c.args.width)
    (λ place t. word_copied c.args.wires.now.signals c.resized.new.self.signals c.args.registers.now c.args.word c.args.width place t) c.resized.ensures.wired

pub returns-in-Some-clause-shows : goal.returns-in-Some-clause-shows
returns-in-Some-clause-shows c =
    let held = c.in-Some.held in
    let before = c.args.chain + (c.args.copy - 1) in
    let listed : slice_get c.args.registers.now.kept before ≡ Some held = cc in
    of_ok c.resized-in-Some.result (Resizes c.args.wires.now.signals c.resized-in-Some.new.self.signals held.register held.width c.args.width false)
    (Copies c.args.wires.now.signals c.resized-in-Some.new.self.signals c.args.registers.now c.args.chain c.args.word c.args.copy c.args.width)
    (λ place t. copies_held c.args.wires.now.signals c.resized-in-Some.new.self.signals c.args.registers.now c.args.chain c.args.word c.args.width place c.args.copy before held
    c.if-copy-eq0.false refl listed t)
    c.resized-in-Some.ensures.shows

pub returns-in-Some-clause-wired : goal.returns-in-Some-clause-wired
returns-in-Some-clause-wired c =
    let held = c.in-Some.held in
    let before = c.args.chain + (c.args.copy - 1) in
    let listed : slice_get c.args.registers.now.kept before ≡ Some held = cc in
    of_ok c.resized-in-Some.result (ResizedAdds c.args.wires.now.signals c.resized-in-Some.new.self.signals held.register held.width c.args.width false)
    (IsCopy c.args.wires.now.signals c.resized-in-Some.new.self.signals c.args.registers.now c.args.word c.args.width)
    (λ place t. held_copied c.args.wires.now.signals c.resized-in-Some.new.self.signals c.args.registers.now c.args.word c.args.width place before held listed t)
    c.resized-in-Some.ensures.wired

pub returns-in-None-clause-shows : goal.returns-in-None-clause-shows
returns-in-None-clause-shows c =
    let before = c.args.chain + (c.args.copy - 1) in
    let missing : slice_get c.args.registers.now.kept before ≡ None = cc in
    of_ok c.constant.result (λ place. Gives c.args.wires.now.signals c.constant.new.self.signals place c.args.width (λ m r. 0))
    (Copies c.args.wires.now.signals c.constant.new.self.signals c.args.registers.now c.args.chain c.args.word c.args.copy c.args.width)
    (λ place t. copies_none c.args.wires.now.signals c.constant.new.self.signals c.args.registers.now c.args.chain c.args.word c.args.width place c.args.copy before
    c.if-copy-eq0.false refl missing t)
    c.constant.ensures.shows

pub returns-in-None-clause-wired : goal.returns-in-None-clause-wired
returns-in-None-clause-wired c =
    of_ok c.constant.result (ConstantAdds c.args.wires.now.signals c.constant.new.self.signals c.args.width 0)
    (IsCopy c.args.wires.now.signals c.constant.new.self.signals c.args.registers.now c.args.word c.args.width)
    (λ place t. none_copied c.args.wires.now.signals c.constant.new.self.signals c.args.registers.now c.args.word c.args.width place t) c.constant.ensures.wired
