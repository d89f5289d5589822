use Rattle.std.proofs.Common.{◌≡◌, ◌∙◌, sym, subst, true, None, arith}
use Rattle.std.specs.Str.{bytes_eq}
use Rattle.verilog_reader.specs.Top.{top}
use Rattle.verilog_reader.specs.Ports.{IsUnwanted}
use Rattle.verilog_reader.proofs.LoopTurns.{one_more, no_top, unwanted_here, all_wanted}
use Rattle.verilog_reader.proofs.top.unwanted.Goals as goal
use Rattle.verilog_reader.proofs.top.unwanted.Goals.{then-is_top+in_ok-found+in-None, else-is_top}

pub returns-in-Some : goal.returns-in-Some
returns-in-Some c =
    unwanted_here c.args.net.now.modules c.as_slice-modules.result.now c.as_slice-modules.ensures c.loop-number.number c.loop-number.invariant
    c.index-modules-number.result c.as_slice.result.now
    c.in_ok-found.found c.in-Some.port c.index-modules-number.is c.loop-number-test.true (sym c.is_top.ensures
    ∙ c.if-is_top.true) c.as_slice.ensures c.in_ok-found.ensures c.in-Some.is

pub loop-number-preserved : goal.loop-number-preserved
loop-number-preserved c =
    let modules = c.as_slice-modules.result.now in
    let m = c.index-modules-number.result in
    elim c.if-is_top.branch [
      | then-is_top+in_ok-found+in-None w ↦
          one_more modules c.loop-number.number (λ x. bytes_eq x.name top ≡ true → IsUnwanted x.ports None) c.loop-number.invariant m c.index-modules-number.is
          (λ h. subst (λ l. IsUnwanted l None) w.as_slice.ensures (subst (IsUnwanted w.as_slice.result.now) w.in-None.is w.in_ok-found.ensures))
      | else-is_top w ↦
          one_more modules c.loop-number.number (λ x. bytes_eq x.name top ≡ true → IsUnwanted x.ports None) c.loop-number.invariant m c.index-modules-number.is
          (λ h. absurd (no_top (bytes_eq m.name top) c.is_top.result c.is_top.ensures w.if-is_top.false h))
    ]

pub returns : goal.returns
returns c = all_wanted c.args.net.now.modules c.as_slice-modules.result.now c.as_slice-modules.ensures c.loop-number.number c.loop-number.invariant (omega arith)
