use Rattle.std.proofs.Common.{sym, ◌∙◌}
use Rattle.block_datapath.proofs.BlockEnd.{own_answer}
use Rattle.block_datapath.proofs.LinkWires.{own_converted, own_missing}
use Rattle.block_datapath.proofs.ending.own_word.Goals as goal

pub returns-in-Some-clause-shows : goal.returns-in-Some-clause-shows
returns-in-Some-clause-shows c =
    own_answer c.converted.result c.args.wires.now.signals c.converted.new.self.signals c.args.types.now c.args.number c.args.word c.in-Some.own
    (sym c.type_at.ensures ∙ c.in-Some.is)
    c.converted.ensures.shows

pub returns-in-Some-clause-wired : goal.returns-in-Some-clause-wired
returns-in-Some-clause-wired c =
    own_converted c.converted.result c.args.wires.now.signals c.converted.new.self.signals c.args.types.now c.args.number c.args.word c.in-Some.own
    (sym c.type_at.ensures ∙ c.in-Some.is)
    c.converted.ensures.wired

pub returns-in-None-clause-wired : goal.returns-in-None-clause-wired
returns-in-None-clause-wired c =
    own_missing c.args.wires.now.signals c.args.types.now c.args.number c.args.word (sym c.type_at.ensures ∙ c.in-None.is)
