use Rattle.std.proofs.Common.{◌≡◌, ◌∙◌, sym, true, refl, length, arith}
use Rattle.std.specs.Str.{bytes_eq}
use Rattle.std.proofs.lemmas.Option.{slice_get_read}
use Rattle.verilog_reader.specs.Top.{top}
use Rattle.verilog_reader.proofs.LoopTurns.{one_more, all_of, no_top}
use Rattle.verilog_reader.proofs.read.has_top.Goals as goal

pub returns-then-is_top : goal.returns-then-is_top
returns-then-is_top c =
    let modules = c.args.modules.now in
    let m = c.index-modules-number.result in (
      c.loop-number.number,
      m,
      slice_get_read modules (length modules) c.loop-number.number m refl c.loop-number-test.true c.index-modules-number.is,
      sym c.is_top.ensures
          ∙ c.if-is_top.true,
    )

pub loop-number-preserved : goal.loop-number-preserved
loop-number-preserved c =
    let m = c.index-modules-number.result in
    one_more c.args.modules.now c.loop-number.number (λ x. bytes_eq x.name top ≡ true → ⊥) c.loop-number.invariant m c.index-modules-number.is
    (λ h. no_top (bytes_eq m.name top) c.is_top.result c.is_top.ensures c.if-is_top.false h)

pub returns : goal.returns
returns c = λ h. all_of c.args.modules.now c.loop-number.number (λ m. bytes_eq m.name top ≡ true → ⊥) c.loop-number.invariant (omega arith) h.0 h.1 h.2 h.3
