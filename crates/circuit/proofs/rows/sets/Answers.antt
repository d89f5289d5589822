use Rattle.std.proofs.Common.{ℕ, ◌+◌, ◌++◌, [], ◌∷◌, List, ap, ◌∙◌}
use Rattle.netlist.specs.declared.netlist.Action.{Action}
use Rattle.netlist.specs.declared.netlist.Effect.TheVariants as effect
use Rattle.circuit.specs.Rows.{set_at}
use Rattle.circuit.proofs.Growth.{more_of}
use Rattle.circuit.proofs.rows.sets.Goals as goal

pub loop-number-preserved : goal.loop-number-preserved
loop-number-preserved c =
    let k = c.loop-number.number in
    let set : List ℕ → Action = λ conditions. record { conditions = conditions; effect = effect.Set (c.args.register + k) (c.args.source + k) } in
    more_of c.loop-number.actions c.push.new.self (set_at c.args.register c.args.source) k c.loop-number.invariant
    (c.in_ok-push.ensures.ok ∙ ap (λ (xs : List ℕ). c.loop-number.actions ++ set xs ∷ []) c.new.ensures)
