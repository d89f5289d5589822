use Rattle.operator_wires.proofs.TypedWords.{low_answer}
use Rattle.operator_wires.proofs.wires.Wires.low_bits.Goals as goal

pub returns-clause-wired : goal.returns-clause-wired
returns-clause-wired c =
    low_answer c.wire.result c.args.self.now.signals c.wire.new.self.signals c.args.of c.args.to c.saturating_sub-high.result c.saturating_sub-high.ensures c.wire.ensures.wired
