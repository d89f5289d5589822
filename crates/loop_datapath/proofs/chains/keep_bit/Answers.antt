use Rattle.std.proofs.Common.{◌≡◌, slice_get, Some, None}
use Rattle.std.proofs.lemmas.Result.{on_ok_weaker}
use Rattle.loop_datapath.proofs.ChainWires.{bit_none, bit_wired}
use Rattle.loop_datapath.proofs.KeptChains.{bit_missing, bit_linked}
use Rattle.loop_datapath.proofs.chains.keep_bit.Goals as goal

pub returns-in_default-clause-shows : goal.returns-in_default-clause-shows
returns-in_default-clause-shows c =
    let missing : slice_get c.args.registers.now.kept c.args.number ≡ None = cc in
    bit_missing c.args.registers.now c.args.number c.args.condition c.args.bit c.args.wires.now.signals c.args.nexts.now missing

pub returns-in_default-clause-wired : goal.returns-in_default-clause-wired
returns-in_default-clause-wired c = bit_none c.args.wires.now.signals c.args.registers.now c.args.condition c.args.bit c.args.nexts.now

pub returns-clause-shows : goal.returns-clause-shows
returns-clause-shows c =
    let listed : slice_get c.args.registers.now.kept c.args.number ≡ Some c.in-Some.held = cc in
    on_ok_weaker c.set_next.result
    (λ v. bit_linked c.args.registers.now c.args.number c.args.condition c.args.bit c.args.wires.now.signals c.resized.new.self.signals c.set_next.new.wires.signals
    c.args.nexts.now c.set_next.new.nexts c.in_ok-source.source c.in-Some.held listed c.in_ok-source.ensures.shows v)
    c.set_next.ensures.shows

pub returns-clause-wired : goal.returns-clause-wired
returns-clause-wired c =
    let listed : slice_get c.args.registers.now.kept c.args.number ≡ Some c.in-Some.held = cc in
    on_ok_weaker c.set_next.result
    (λ v. bit_wired c.args.wires.now.signals c.resized.new.self.signals c.set_next.new.wires.signals c.args.registers.now c.args.condition c.args.bit c.in_ok-source.source
    c.args.number c.args.nexts.now c.set_next.new.nexts c.in-Some.held listed c.in_ok-source.ensures.wired v)
    c.set_next.ensures.wired
