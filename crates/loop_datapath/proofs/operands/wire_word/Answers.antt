use Rattle.std.proofs.Common.{◌≡◌, ◌∙◌, slice_get, Some, None, sym}
use Rattle.loop_datapath.proofs.AheadOperands.{wire_shown, no_wire}
use Rattle.loop_datapath.proofs.AheadWires.{wire_wired}
use Rattle.loop_datapath.proofs.operands.wire_word.Goals as goal

pub returns-in-Some-clause-shows : goal.returns-in-Some-clause-shows
returns-in-Some-clause-shows c =
    let listed : slice_get c.args.words.now c.args.number ≡ Some c.in-Some.word = sym c.word_at.ensures ∙ c.in-Some.is in
    wire_shown c.converted.result c.args.wires.now.signals c.converted.new.self.signals c.args.words.now c.args.number c.args.ty c.in-Some.word listed c.converted.ensures.shows

pub returns-in-Some-clause-wired : goal.returns-in-Some-clause-wired
returns-in-Some-clause-wired c =
    let listed : slice_get c.args.words.now c.args.number ≡ Some c.in-Some.word = sym c.word_at.ensures ∙ c.in-Some.is in
    wire_wired c.converted.result c.args.wires.now.signals c.converted.new.self.signals c.args.words.now c.args.number c.args.ty c.in-Some.word listed c.converted.ensures.wired

pub returns-in-None-clause-shows : goal.returns-in-None-clause-shows
returns-in-None-clause-shows c =
    let none : slice_get c.args.words.now c.args.number ≡ None = sym c.word_at.ensures ∙ c.in-None.is in
    no_wire c.constant_word.result c.args.wires.now.signals c.constant_word.new.self.signals c.args.words.now c.args.number c.args.ty _ none c.constant_word.ensures.shows
