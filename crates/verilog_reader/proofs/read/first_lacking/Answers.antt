use Rattle.std.proofs.Common.{◌≡◌, ◌∙◌, sym, false, refl, length, arith}
use Rattle.std.proofs.lemmas.Option.{slice_get_read}
use Rattle.verilog_reader.proofs.LoopTurns.{one_more, all_of}
use Rattle.verilog_reader.specs.Answers.{lacks_port}
use Rattle.verilog_reader.proofs.read.first_lacking.Goals as goal

pub returns-then-lacks_port : goal.returns-then-lacks_port
returns-then-lacks_port c =
    let modules = c.args.modules.now in
    let m = c.index-modules-number.result in
    (m, slice_get_read modules (length modules) c.loop-number.number m refl c.loop-number-test.true c.index-modules-number.is, sym c.lacks_port.ensures ∙ c.if-lacks_port.true)

pub loop-number-preserved : goal.loop-number-preserved
loop-number-preserved c =
    one_more c.args.modules.now c.loop-number.number (λ m. lacks_port m ≡ false) c.loop-number.invariant c.index-modules-number.result c.index-modules-number.is
    (sym c.lacks_port.ensures ∙ c.if-lacks_port.false)

pub returns : goal.returns
returns c = all_of c.args.modules.now c.loop-number.number (λ m. lacks_port m ≡ false) c.loop-number.invariant (omega arith)
