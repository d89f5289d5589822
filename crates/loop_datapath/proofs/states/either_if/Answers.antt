use Rattle.operator_wires.proofs.BuiltWires.{wires_none}
use Rattle.loop_datapath.proofs.states.either_if.Goals as goal

pub returns-else-counts-clause-wired : goal.returns-else-counts-clause-wired
returns-else-counts-clause-wired c = λ base any bit. record { wires = wires_none base c.args.wires.now.signals; stands = any }
