use Rattle.std.proofs.Common.{◌≡◌, subst, arith}
use Rattle.loop_datapath.specs.Chains.{KeepsCopies}
use Rattle.loop_datapath.proofs.ChainWires.{copy_none, copies_wired}
use Rattle.loop_datapath.proofs.KeptChains.{copies_begin, copies_more}
use Rattle.loop_datapath.proofs.chains.keep_copies.Goals as goal

pub loop-copy-init : goal.loop-copy-init
loop-copy-init c = record {
  shows = copies_begin c.args.registers.now c.args.chain c.args.word c.args.here c.args.wires.now.signals c.args.nexts.now;
  wired = copy_none c.args.wires.now.signals c.args.registers.now c.args.word c.args.here c.args.nexts.now;
}

pub loop-copy-preserved : goal.loop-copy-preserved
loop-copy-preserved c = record {
  shows =
      copies_more c.args.registers.now c.args.chain c.args.word c.args.here c.args.wires.now.signals c.loop-copy.wires.signals c.keep_copy.new.wires.signals c.args.nexts.now
      c.loop-copy.nexts c.keep_copy.new.nexts c.loop-copy.copy c.loop-copy.invariant.shows c.in_ok-keep_copy.ensures.shows;
  wired =
      copies_wired c.args.wires.now.signals c.loop-copy.wires.signals c.keep_copy.new.wires.signals c.args.registers.now c.args.word c.args.here c.args.nexts.now
      c.loop-copy.nexts c.keep_copy.new.nexts c.loop-copy.invariant.wired c.in_ok-keep_copy.ensures.wired;
}

pub returns-clause-shows : goal.returns-clause-shows
returns-clause-shows c =
    let all : c.loop-copy.copy ≡ c.args.copies = omega arith in
    subst (λ n. KeepsCopies c.args.wires.now.signals c.loop-copy.wires.signals c.args.registers.now c.args.chain c.args.word c.args.here c.args.nexts.now c.loop-copy.nexts n) all
    c.loop-copy.invariant.shows

pub returns-clause-wired : goal.returns-clause-wired
returns-clause-wired c = c.loop-copy.invariant.wired
