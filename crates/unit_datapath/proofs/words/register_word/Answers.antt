use Rattle.std.proofs.Common.{◌∙◌, sym, pos}
use Rattle.hls_ints.specs.Types.{wrapped}
use Rattle.operator_wires.specs.Words.{Holds}
use Rattle.operator_wires.specs.Added.{IsConstant}
use Rattle.operator_wires.proofs.MadeWords.{of_ok, of_two}
use Rattle.unit_datapath.specs.Words.{ShowsLow, ShowsRegister}
use Rattle.unit_datapath.proofs.HeldOperands.{register_there, register_missing}
use Rattle.unit_datapath.proofs.words.register_word.Goals as goal

pub returns-in-Some : goal.returns-in-Some
returns-in-Some c =
    of_ok c.low_word.result (ShowsLow c.args.wires.now.signals c.low_word.new.wires.signals c.in-Some.held c.args.ty)
    (ShowsRegister c.args.wires.now.signals c.low_word.new.wires.signals c.args.registers.now c.args.register c.args.ty)
    (λ out t.
    register_there c.args.wires.now.signals c.low_word.new.wires.signals c.args.registers.now c.args.register c.args.ty c.in-Some.held out (sym c.kept_in.ensures ∙ c.in-Some.is) t)
    c.low_word.ensures

pub returns-in-None : goal.returns-in-None
returns-in-None c =
    of_two c.constant_word.result (Holds c.args.wires.now.signals c.constant_word.new.self.signals c.args.ty (wrapped c.args.ty (pos 0)))
    (IsConstant c.args.wires.now.signals c.constant_word.new.self.signals c.args.ty)
    (ShowsRegister c.args.wires.now.signals c.constant_word.new.self.signals c.args.registers.now c.args.register c.args.ty)
    (λ out t u.
    register_missing c.args.wires.now.signals c.constant_word.new.self.signals c.args.registers.now c.args.register c.args.ty (wrapped c.args.ty (pos 0)) out
    (sym c.kept_in.ensures ∙ c.in-None.is) t u)
    c.constant_word.ensures.shows c.constant_word.ensures.wired
