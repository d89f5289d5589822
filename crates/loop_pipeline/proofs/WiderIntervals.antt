-- Starts that meet the table at an interval meet it at each greater one.
use Rattle.std.proofs.Common.{◌≡◌, ℕ, ◌*◌, ◌≤◌, List, ℤ, pos, ◌+ℤ◌, ◌≤ℤ◌, refl, arith}
use Rattle.std.specs.Prelude.{◌-ℤ◌}
use Rattle.std.proofs.Math.Nat.{mul-le-mul_left}
use Rattle.std.proofs.lemmas.Int.{ints}
use Rattle.schedule_sdc.specs.declared.constraint.Constraint.{Constraint}
use Rattle.schedule_sdc.specs.Solution.{Meets}
use Rattle.op_graph.specs.declared.node.Node.{Node}
use Rattle.op_graph.specs.Graph.{latency_at}
use Rattle.loop_pipeline.specs.declared.table.Carried.{Carried}
use Rattle.loop_pipeline.specs.Table.{Within, Begins, Tested, Follows, Carries, Shares, MeetsLoop}
use Rattle.loop_pipeline.specs.Pipeline.{HasNoStarts}

-- a gap of a number less another one gets smaller with the other one
smaller_gap : (t : ℕ → ℕ) (c : Constraint) (a b d : ℕ) → b ≤ d → c.gap ≡ pos a -ℤ pos d → (pos (t c.from) +ℤ (pos a -ℤ pos b)) ≤ℤ pos (t c.to) → Meets t c
smaller_gap t c a b d le g m = rw g (omega (arith, ints, m))

module _ (nodes : List Node) (comparison : ℕ) (carried : List Carried) (interval wider : ℕ) (le : interval ≤ wider) where
  abbrev at : ℕ → ℕ → ℤ → Constraint
  at from to gap = record { from = from; to = to; gap = gap }

  wider_meets : (t : ℕ → ℕ) → MeetsLoop nodes comparison carried interval t → MeetsLoop nodes comparison carried wider t
  wider_meets t m c (Within r) = m c (Within r)
  wider_meets t m c (Begins f k g) = m c (Begins f k g)
  wider_meets t m c (Tested f a k g) = m c (Tested f a k g)
  wider_meets t m c (Follows f k g) = smaller_gap t c 1 interval wider le g (m (at c.from c.to (pos 1 -ℤ pos interval)) (Follows f k refl))
  wider_meets t m c (Carries k h f e g) =
      smaller_gap t c (latency_at nodes k.from) (k.turns * interval) (k.turns * wider) (mul-le-mul_left k.turns le) g
      (m (at c.from c.to (pos (latency_at nodes k.from) -ℤ pos (k.turns * interval))) (Carries k h f e refl))
  wider_meets t m c (Shares x v w f k p q o g) =
      smaller_gap t c 1 interval wider le g (m (at c.from c.to (pos 1 -ℤ pos interval)) (Shares x v w f k p q o refl))

  -- where an interval has no solution no smaller one has
  pub none_below : HasNoStarts nodes comparison carried wider → HasNoStarts nodes comparison carried interval
  none_below none t m = none t (wider_meets t m)
