use Rattle.operator_wires.specs.Gives.{Gives}
use Rattle.operator_wires.specs.Added.{ChoiceAdds}
use Rattle.operator_wires.proofs.MadeWords.{of_two}
use Rattle.std.proofs.Common.{nat_eq, if◌then◌else◌}
use Rattle.thread_asks.specs.Fields.{NamesObject}
use Rattle.thread_asks.proofs.FieldValues.{object_named}
use Rattle.thread_asks.proofs.fields.name_object.Goals as goal

pub returns : goal.returns
returns c =
    let a = c.args.wires.now.signals in
    let s = c.converted.new.self.signals in
    let d = c.choice.new.self.signals in
    let wide = c.in_ok-wide.wide in
    of_two c.choice.result (λ place. Gives s d place 64 (λ m r. if nat_eq (r.signal c.args.at) 0 then r.signal c.args.object else r.signal wide.place))
    (ChoiceAdds s d 64 c.args.at wide.place c.args.object)
    (NamesObject c.args.code.now c.args.registers.now a d c.args.at c.args.object c.args.value)
    (λ place t u.
    object_named a c.act_word.new.wires.signals s d c.args.code.now c.args.registers.now c.args.at c.args.object place c.args.value c.in_ok-word.word wide c.in_ok-word.ensures
    c.in_ok-wide.ensures.shows t c.in_ok-wide.ensures.wired u)
    c.choice.ensures.shows c.choice.ensures.wired
