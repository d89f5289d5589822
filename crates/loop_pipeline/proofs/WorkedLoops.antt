-- Two loops worked out: `for (i = 0; i < 8; i++) a[i] = i * i;` and `for (i = 0; i < 4; i++) s = s / 3 + i;`.
use Rattle.std.proofs.Common.{ℕ, zero, suc, ◌*◌, ◌<◌, ◌≤◌, List, [], ◌∷◌, None, Some, true, pos, refl, inl, inr, arith}
use Rattle.std.specs.Prelude.{slice_index, ◌-ℤ◌}
use Rattle.std.proofs.lemmas.Int.{ints}
use Rattle.std.proofs.lemmas.List.Elements.{All-from_recursion}
use Rattle.schedule_sdc.specs.declared.constraint.Constraint.{Constraint}
use Rattle.schedule_sdc.specs.Solution.{Meets, IsSolution}
use Rattle.op_graph.specs.declared.node.Kind.TheVariants.{Simple, Multiply, Divide, Array}
use Rattle.op_graph.specs.declared.node.Node.{Node}
use Rattle.op_graph.specs.Table.{Ends, Awaited}
use Rattle.op_graph.specs.Listed.{row}
use Rattle.op_graph.proofs.Neighbours.{reduced_rows, same_solutions as same_block_solutions}
use Rattle.loop_pipeline.specs.declared.table.Carried.{Carried}
use Rattle.loop_pipeline.specs.Table.{Within, Tested, Carries, MeetsLoop}
use Rattle.loop_pipeline.specs.Listed.{link}
use Rattle.loop_pipeline.specs.Pipeline.{place_starts, AreLoopStarts, HasNoStarts}
use Rattle.loop_pipeline.proofs.LoopRows.{same_solutions}

abbrev simple : Node
simple = record { kind = Simple; left = None; right = None }

abbrev use_of : ℕ → ℕ → Carried
use_of from to = record { from = from; to = to; turns = 1 }

-- ---- the squares: `<`, `*`, the write, `+`

abbrev squares : List Node
squares =
    simple ∷ record { kind = Multiply 32; left = None; right = None } ∷ record { kind = Array 0 true; left = None; right = Some 1 } ∷ simple ∷ []

abbrev squares_uses : List Carried
squares_uses = use_of 3 0 ∷ use_of 3 1 ∷ use_of 3 1 ∷ use_of 3 2 ∷ use_of 3 3 ∷ []

abbrev squares_starts : List ℕ
squares_starts = 0 ∷ 1 ∷ 3 ∷ 1 ∷ []

abbrev squares_within : List Constraint
squares_within = row 1 2 2 ∷ row 0 4 1 ∷ row 1 4 2 ∷ row 2 4 1 ∷ row 3 4 1 ∷ []

abbrev squares_rows : List Constraint
squares_rows =
    row 1 2 2 ∷ row 0 4 1 ∷ row 1 4 2 ∷ row 2 4 1 ∷ row 3 4 1 ∷ row 5 0 0 ∷ row 0 1 1 ∷ row 0 2 1 ∷ row 0 3 1 ∷ link 0 5 (pos 1 -ℤ pos 2)
    ∷ link 3 0 (pos 1 -ℤ pos 2) ∷ link 3 1 (pos 1 -ℤ pos 2) ∷ link 3 1 (pos 1 -ℤ pos 2) ∷ link 3 2 (pos 1 -ℤ pos 2) ∷ link 3 3 (pos 1 -ℤ pos 2)
    ∷ link 2 2 (pos 1 -ℤ pos 2) ∷ link 2 2 (pos 1 -ℤ pos 2) ∷ []

met : IsSolution squares_rows (slice_index (place_starts squares_starts 4))
met = All-from_recursion (Meets (slice_index (place_starts squares_starts 4))) squares_rows (
  omega (arith, ints),
  (
    omega (arith, ints),
    (
      omega (arith, ints),
      (
        omega (arith, ints),
        (
          omega (arith, ints),
          (
            omega (arith, ints),
            (
              omega (arith, ints),
              (
                omega (arith, ints),
                (
                  omega (arith, ints),
                  (
                    omega (arith, ints),
                    (
                      omega (arith, ints),
                      (
                        omega (arith, ints),
                        (omega (arith, ints), (omega (arith, ints), (omega (arith, ints), (omega (arith, ints), (omega (arith, ints), tt))))),
                      ),
                    ),
                  ),
                ),
              ),
            ),
          ),
        ),
      ),
    ),
  ),
)

squares_scheduled : AreLoopStarts squares 0 squares_uses 2 (place_starts squares_starts 4)
squares_scheduled = record {
  count = refl;
  meets =
      (same_solutions squares 0 squares_uses 2 (omega arith) squares_within squares_rows refl (reduced_rows squares squares_within refl)
      (same_block_solutions squares squares_within refl) (slice_index (place_starts squares_starts 4))).0 met;
  least = least;
}
  where
    least : (t : ℕ → ℕ) → MeetsLoop squares 0 squares_uses 2 t → (i : ℕ) → i < 6 → slice_index (place_starts squares_starts 4) i ≤ t i
    least t m zero l = omega arith
    least t m (suc zero) l = let a = m (link 0 1 (pos 1)) (Tested refl (omega arith) (omega arith) refl) in omega (arith, ints, a)
    least t m (suc (suc zero)) l =
        let a = m (link 0 1 (pos 1)) (Tested refl (omega arith) (omega arith) refl) in
        let b = m (row 1 2 2) (Within (Awaited (omega arith) (inr refl) refl refl)) in
        omega (arith, ints, a, b)
    least t m (suc (suc (suc zero))) l = let a = m (link 0 3 (pos 1)) (Tested refl (omega arith) (omega arith) refl) in omega (arith, ints, a)
    least t m (suc (suc (suc (suc zero)))) l =
        let a = m (link 0 1 (pos 1)) (Tested refl (omega arith) (omega arith) refl) in
        let b = m (row 1 2 2) (Within (Awaited (omega arith) (inr refl) refl refl)) in
        let c = m (row 2 4 1) (Within (Ends (omega arith) refl refl)) in
        omega (arith, ints, a, b, c)
    least t m (suc (suc (suc (suc (suc zero))))) l = omega arith
    least t m (suc (suc (suc (suc (suc (suc i)))))) l = absurd (omega arith)

-- the counter is compared, and then goes on: so no interval below 2
squares_no_sooner : HasNoStarts squares 0 squares_uses 1
squares_no_sooner t m =
    let a = m (link 0 3 (pos 1)) (Tested refl (omega arith) (omega arith) refl) in
    let b = m (link 3 0 (pos 1 -ℤ pos (1 * 1))) (Carries (use_of 3 0) (0, omega arith, refl) refl refl refl) in
    omega (arith, ints, a, b)

-- ---- the thirds: `<`, `/`, `+`, `+`

abbrev thirds : List Node
thirds =
    simple ∷ record { kind = Divide 32 true; left = None; right = None } ∷ record { kind = Simple; left = Some 1; right = None } ∷ simple ∷ []

abbrev thirds_uses : List Carried
thirds_uses = use_of 3 0 ∷ use_of 2 1 ∷ use_of 3 2 ∷ use_of 3 3 ∷ []

-- the sum, and so the next quotient, waits for the quotient: so no interval below 9
thirds_no_sooner : (interval : ℕ) → interval < 9 → HasNoStarts thirds 0 thirds_uses interval
thirds_no_sooner interval l t m =
    let a = m (row 1 2 8) (Within (Awaited (omega arith) (inl refl) refl refl)) in
    let b = m (link 2 1 (pos 1 -ℤ pos (1 * interval))) (Carries (use_of 2 1) (1, omega arith, refl) refl refl refl) in
    omega (arith, ints, a, b)

abbrev thirds_starts : List ℕ
thirds_starts = 0 ∷ 1 ∷ 9 ∷ 1 ∷ []

abbrev thirds_within : List Constraint
thirds_within = row 1 2 8 ∷ row 0 4 1 ∷ row 1 4 8 ∷ row 2 4 1 ∷ row 3 4 1 ∷ []

abbrev thirds_rows : List Constraint
thirds_rows =
    row 1 2 8 ∷ row 0 4 1 ∷ row 1 4 8 ∷ row 2 4 1 ∷ row 3 4 1 ∷ row 5 0 0 ∷ row 0 1 1 ∷ row 0 2 1 ∷ row 0 3 1 ∷ link 0 5 (pos 1 -ℤ pos 9)
    ∷ link 3 0 (pos 1 -ℤ pos 9) ∷ link 2 1 (pos 1 -ℤ pos 9) ∷ link 3 2 (pos 1 -ℤ pos 9) ∷ link 3 3 (pos 1 -ℤ pos 9) ∷ []

thirds_met : MeetsLoop thirds 0 thirds_uses 9 (slice_index (place_starts thirds_starts 10))
thirds_met =
    (same_solutions thirds 0 thirds_uses 9 (omega arith) thirds_within thirds_rows refl (reduced_rows thirds thirds_within refl)
    (same_block_solutions thirds thirds_within refl) (slice_index (place_starts thirds_starts 10))).0
    (All-from_recursion (Meets (slice_index (place_starts thirds_starts 10))) thirds_rows (
      omega (arith, ints),
      (
        omega (arith, ints),
        (
          omega (arith, ints),
          (
            omega (arith, ints),
            (
              omega (arith, ints),
              (
                omega (arith, ints),
                (
                  omega (arith, ints),
                  (
                    omega (arith, ints),
                    (
                      omega (arith, ints),
                      (
                        omega (arith, ints),
                        (
                          omega (arith, ints),
                          (
                            omega (arith, ints),
                            (omega (arith, ints), (omega (arith, ints), tt)),
                          ),
                        ),
                      ),
                    ),
                  ),
                ),
              ),
            ),
          ),
        ),
      ),
    ))
