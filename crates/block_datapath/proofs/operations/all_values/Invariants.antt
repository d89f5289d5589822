use Rattle.block_datapath.specs.Operations.{ShowsFirst}
use Rattle.block_datapath.specs.Wired.{AreGiven}
use Rattle.block_datapath.proofs.operations.all_values.Given as goal

abbrev pub invariant-loop-operation : goal.invariant-loop-operation
invariant-loop-operation l =
    ShowsFirst l.globals l.code l.registers l.block l.plan l.fn.wires.signals l.wires.signals l.operation-index l.values × AreGiven l.fn.wires.signals l.wires.signals l.code
    l.registers l.values
