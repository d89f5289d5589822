use Rattle.block_datapath.specs.Accesses.{AreRegistered, AreZeros}
use Rattle.block_datapath.proofs.accesses.registered_values.Given as goal

abbrev pub invariant-loop-operation : goal.invariant-loop-operation
invariant-loop-operation l =
    AreRegistered l.globals l.code l.plan l.block l.fn.wires.signals l.wires.signals l.operation-index l.values × AreZeros l.fn.wires.signals l.wires.signals l.values
