use Rattle.block_datapath.specs.Requests.{AsksSome, AreAsksAdded}
use Rattle.block_datapath.proofs.requests.ask_bank.Given as goal

abbrev pub invariant-loop-number : goal.invariant-loop-number
invariant-loop-number l =
    AsksSome l.fn.wires.signals l.wires.signals l.fn.chains l.chains l.spread l.bits l.index l.access l.number
    × AreAsksAdded l.fn.wires.signals l.wires.signals l.spread l.width l.index l.access l.fn.chains l.chains
