use Rattle.std.proofs.Common.{◌≡◌, ℕ, ◌+◌, ◌++◌, [], ◌∷◌, length, ap, ◌∙◌, length-append}
use Rattle.netlist.specs.declared.netlist.Signal.{Signal}
use Rattle.circuit.specs.Rows.{spread}
use Rattle.circuit.specs.Table.{place, signal_at}
use Rattle.circuit.proofs.Growth.{row_grows, length-spread}
use Rattle.circuit.proofs.table.lay_each.Goals as goal

pub loop-number-preserved : goal.loop-number-preserved
loop-number-preserved c =
    let before = c.args.signals.now in
    let starts = place c.args.threads c.args.rows.now in
    let f : ℕ → Signal = λ k. signal_at c.args.threads starts (length before + k) c.args.role c.args.width c.args.form k in
    let n : length c.loop-number.signals ≡ length before + c.loop-number.number =
    ap length c.loop-number.invariant ∙ length-append before (spread f 0 c.loop-number.number) ∙ ap (λ x. length before + x) (length-spread f 0 c.loop-number.number) in
    row_grows before c.loop-number.signals c.lay_signal.new.signals c.loop-number.number f c.loop-number.invariant
    (c.in_ok-lay_signal.ensures
    ∙ ap (λ x. c.loop-number.signals ++ signal_at c.args.threads starts x c.args.role c.args.width c.args.form c.loop-number.number ∷ []) n)
