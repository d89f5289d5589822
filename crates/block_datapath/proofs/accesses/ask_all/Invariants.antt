use Rattle.block_datapath.specs.Accesses.{AsksFirst, AreAccessLinks}
use Rattle.block_datapath.proofs.accesses.ask_all.Given as goal

abbrev pub invariant-loop-number : goal.invariant-loop-number
invariant-loop-number l =
    AsksFirst l.fn.wires.signals l.wires.signals l.registers l.code.variables l.values l.fn.chains l.chains l.globals l.spreads l.block l.plan l.end l.number
    × AreAccessLinks l.fn.wires.signals l.wires.signals l.registers l.code.variables l.values l.fn.chains l.chains l.globals l.spreads l.end
