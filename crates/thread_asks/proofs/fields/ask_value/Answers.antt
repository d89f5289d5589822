use Rattle.std.proofs.Common.{◌+◌, add-one}
use Rattle.operator_wires.proofs.MadeWords.{on_two}
use Rattle.block_datapath.specs.Chains.{SetsNext}
use Rattle.thread_asks.specs.Fields.{act_type, AsksValue}
use Rattle.thread_asks.proofs.FieldValues.{value_asked}
use Rattle.thread_asks.proofs.Taken.{SetsFields, value_linked}
use Rattle.thread_asks.proofs.fields.ask_value.Goals as goal

pub returns : goal.returns
returns c =
    on_two c.set_next.result (SetsNext c.converted.new.self.signals c.set_next.new.wires.signals c.args.fields.now c.set_next.new.nexts
    (c.args.number + 1) c.args.at c.in_ok-wide.wide.place)
    (SetsFields c.converted.new.self.signals c.set_next.new.wires.signals c.args.fields.now c.set_next.new.nexts (c.args.number + 1) 64 c.args.at c.in_ok-wide.wide.place)
    (AsksValue c.args.code.now c.args.registers.now c.args.wires.now.signals c.set_next.new.wires.signals c.args.at c.args.fields.now c.set_next.new.nexts c.args.number
    c.args.value)
    (λ t u.
    value_asked c.args.wires.now.signals c.act_word.new.wires.signals c.converted.new.self.signals c.set_next.new.wires.signals c.args.code.now c.args.registers.now c.args.at
    c.args.fields.now
    c.set_next.new.nexts c.args.number (c.args.number + 1) c.args.value c.in_ok-word.word c.in_ok-wide.wide
    (add-one c.args.number) c.in_ok-word.ensures c.in_ok-wide.ensures.shows t
    (value_linked c.args.wires.now.signals c.act_word.new.wires.signals c.converted.new.self.signals c.set_next.new.wires.signals c.args.code.now c.args.registers.now c.args.at
    c.args.number
    (c.args.number + 1) (act_type c.args.value) c.in_ok-word.word c.in_ok-wide.wide c.args.fields.now c.set_next.new.nexts (add-one c.args.number) c.in_ok-word.ensures.wired
    c.in_ok-wide.ensures.wired u))
    c.set_next.ensures.shows c.set_next.ensures.wired
