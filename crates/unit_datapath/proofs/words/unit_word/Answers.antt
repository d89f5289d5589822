use Rattle.hls_ints.specs.Types.{wrapped}
use Rattle.operator_wires.specs.Words.{Becomes}
use Rattle.operator_wires.specs.Added.{IsConverted}
use Rattle.operator_wires.proofs.MadeWords.{of_two}
use Rattle.unit_datapath.specs.Words.{ShowsUnitWord}
use Rattle.unit_datapath.proofs.HeldOperands.{word_shown}
use Rattle.unit_datapath.proofs.words.unit_word.Goals as goal

pub returns : goal.returns
returns c =
    of_two c.converted.result (Becomes c.all_converted.new.wires.signals c.converted.new.self.signals c.in_ok-own.own c.args.ty (wrapped c.args.ty))
    (IsConverted c.all_converted.new.wires.signals c.converted.new.self.signals c.in_ok-own.own c.args.ty)
    (ShowsUnitWord c.args.wires.now.signals c.converted.new.self.signals c.args.registers.now c.args.types.now c.args.plan.now c.args.ty c.args.operand.now)
    (λ out t u.
    word_shown c.args.wires.now.signals c.source_word.new.wires.signals c.all_converted.new.wires.signals c.converted.new.self.signals c.args.registers.now c.args.types.now
    c.as_slice.result.now c.args.plan.now c.args.ty c.args.operand.now c.in_ok-source.source c.in_ok-own.own out c.as_slice.ensures c.in_ok-source.ensures c.in_ok-own.ensures.shows
    c.in_ok-own.ensures.wired t u)
    c.converted.ensures.shows c.converted.ensures.wired
