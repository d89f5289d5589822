use Rattle.block_datapath.specs.Requests.{ShowsZeros}
use Rattle.block_datapath.proofs.ZeroChains.{AreFirstZeros}
use Rattle.block_datapath.proofs.requests.zeros.Given as goal

abbrev pub invariant-loop-width : goal.invariant-loop-width
invariant-loop-width l =
    ShowsZeros l.fn.wires.signals l.wires.signals l.width-index l.zeros × AreFirstZeros l.fn.wires.signals l.wires.signals l.widths l.zeros
