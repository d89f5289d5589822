use Rattle.std.proofs.Common.{sym, ◌∙◌}
use Rattle.hls_ints.specs.Words.{word_inclusive_or}
use Rattle.verilog_meaning.specs.Readings.{width}
use Rattle.operator_wires.specs.Gives.{Gives}
use Rattle.operator_wires.proofs.MadeWords.{of_ok}
use Rattle.operator_wires.proofs.BuiltWires.{wires_none}
use Rattle.thread_slots.specs.Bits.{EitherIf, is_in}
use Rattle.thread_slots.proofs.BitLists.{either_some, either_other}
use Rattle.thread_slots.proofs.bits.either_within.Goals as goal

pub returns-then-is_within-clause-shows : goal.returns-then-is_within-clause-shows
returns-then-is_within-clause-shows c =
    of_ok c.either.result
    (λ out. Gives c.args.wires.now.signals c.either.new.self.signals out 1 (λ m r. word_inclusive_or (width m c.args.any) (r.signal c.args.any) (r.signal c.args.bit)))
    (EitherIf c.args.wires.now.signals c.either.new.self.signals c.args.any c.args.bit (is_in c.args.spread c.args.number))
    (λ out t.
    either_some c.args.wires.now.signals c.either.new.self.signals c.args.any c.args.bit out (is_in c.args.spread c.args.number) (sym c.is_within.ensures ∙ c.if-is_within.true) t)
    c.either.ensures.shows

pub returns-else-is_within-clause-shows : goal.returns-else-is_within-clause-shows
returns-else-is_within-clause-shows c =
    either_other c.args.wires.now.signals c.args.any c.args.bit (is_in c.args.spread c.args.number) (sym c.is_within.ensures ∙ c.if-is_within.false)

pub returns-else-is_within-clause-wired : goal.returns-else-is_within-clause-wired
returns-else-is_within-clause-wired c = λ base any bit. record { wires = wires_none base c.args.wires.now.signals; stands = any }
