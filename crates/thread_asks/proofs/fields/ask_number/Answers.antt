use Rattle.std.proofs.Common.{◌<◌, ◌^◌, ℕ, sym, subst}
use Rattle.operator_wires.proofs.MadeWords.{on_two}
use Rattle.block_datapath.specs.Chains.{SetsNext}
use Rattle.thread_asks.specs.Fields.{AsksNumber}
use Rattle.thread_asks.proofs.FieldValues.{number_asked}
use Rattle.thread_asks.proofs.Taken.{SetsFields, number_linked}
use Rattle.thread_asks.proofs.fields.ask_number.Goals as goal

pub returns : goal.returns
returns c =
    on_two c.set_next.result (SetsNext c.resized.new.self.signals c.set_next.new.wires.signals c.args.fields.now c.set_next.new.nexts 0 c.args.at c.in_ok-source.source)
    (SetsFields c.resized.new.self.signals c.set_next.new.wires.signals c.args.fields.now c.set_next.new.nexts 0 c.args.width c.args.at c.in_ok-source.source)
    (AsksNumber c.args.wires.now.signals c.set_next.new.wires.signals c.args.at c.args.fields.now c.set_next.new.nexts c.args.width c.args.number)
    (λ t u.
    number_asked c.args.wires.now.signals c.constant.new.self.signals c.resized.new.self.signals c.set_next.new.wires.signals c.args.at c.args.fields.now c.set_next.new.nexts
    c.args.width
    c.args.number c.from.result c.in_ok-whole.whole c.in_ok-source.source c.from.ensures c.in_ok-whole.ensures.shows c.in_ok-source.ensures.shows t
    (number_linked c.args.wires.now.signals c.constant.new.self.signals c.resized.new.self.signals c.set_next.new.wires.signals c.args.at c.in_ok-whole.whole c.in_ok-source.source
    c.args.width c.from.result c.args.fields.now c.set_next.new.nexts c.in_ok-whole.ensures.wired
    (subst (λ (n : ℕ). n < 2 ^ 32) (sym c.from.ensures) c.ranges.number.fits) c.in_ok-source.ensures.wired u))
    c.set_next.ensures.shows c.set_next.ensures.wired
