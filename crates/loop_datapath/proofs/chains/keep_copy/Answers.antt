use Rattle.std.proofs.Common.{◌≡◌, ◌+◌, slice_get, Some, None}
use Rattle.std.proofs.lemmas.Result.{on_ok_weaker}
use Rattle.loop_datapath.proofs.ChainWires.{copy_none, copy_wired}
use Rattle.loop_datapath.proofs.KeptChains.{copy_missing, copy_linked}
use Rattle.loop_datapath.proofs.chains.keep_copy.Goals as goal

pub returns-in_default-clause-shows : goal.returns-in_default-clause-shows
returns-in_default-clause-shows c =
    let missing : slice_get c.args.registers.now.kept (c.args.chain + c.args.copy) ≡ None = cc in
    copy_missing c.args.registers.now c.args.chain c.args.word c.args.here c.args.wires.now.signals c.args.nexts.now c.args.copy missing

pub returns-in_default-clause-wired : goal.returns-in_default-clause-wired
returns-in_default-clause-wired c = copy_none c.args.wires.now.signals c.args.registers.now c.args.word c.args.here c.args.nexts.now

pub returns-clause-shows : goal.returns-clause-shows
returns-clause-shows c =
    let listed : slice_get c.args.registers.now.kept (c.args.chain + c.args.copy) ≡ Some c.in-Some.held = cc in
    on_ok_weaker c.set_next.result
    (λ v. copy_linked c.args.registers.now c.args.chain c.args.word c.args.here c.args.wires.now.signals c.copied.new.wires.signals c.set_next.new.wires.signals
    c.args.nexts.now c.set_next.new.nexts c.args.copy c.in_ok-source.source c.in-Some.held listed c.in_ok-source.ensures.shows v)
    c.set_next.ensures.shows

pub returns-clause-wired : goal.returns-clause-wired
returns-clause-wired c =
    let listed : slice_get c.args.registers.now.kept (c.args.chain + c.args.copy) ≡ Some c.in-Some.held = cc in
    on_ok_weaker c.set_next.result
    (λ v. copy_wired c.args.wires.now.signals c.copied.new.wires.signals c.set_next.new.wires.signals c.args.registers.now c.args.word c.args.here c.in_ok-source.source
    (c.args.chain + c.args.copy) c.args.nexts.now c.set_next.new.nexts c.in-Some.held listed c.in_ok-source.ensures.wired v)
    c.set_next.ensures.wired
