-- A loop has one schedule: its table says the same whatever list has the uses of earlier iterations.
use Rattle.std.proofs.Common.{◌≡◌, ℕ, ◌+◌, ◌<◌, List, [], ◌∷◌, ◌++◌, length, length-append, refl, sym, ap, subst, ◌∙◌, ⊎_elim, arith}
use Rattle.std.specs.Prelude.{slice_index}
use Rattle.std.proofs.lemmas.Bool.{cases_lt}
use Rattle.std.proofs.lemmas.List.{ext_get_or}
use Rattle.block_ir.specs.declared.block.Block.{Block}
use Rattle.op_graph.specs.declared.node.Node.{Node}
use Rattle.op_graph.specs.Graph.{nodes_of}
use Rattle.loop_pipeline.specs.declared.table.Carried.{Carried}
use Rattle.loop_pipeline.specs.declared.search.Pipelined.{Pipelined}
use Rattle.loop_pipeline.specs.declared.search.Pipelined.TheVariants.{Pipelined as IsScheduled, Unfit}
use Rattle.loop_pipeline.specs.Table.{Within, Begins, Tested, Follows, Carries, Shares, MeetsLoop}
use Rattle.loop_pipeline.specs.Pipeline.{place_starts, AreLoopStarts, IsPipeline}
use Rattle.loop_plans.specs.Carried.{AreUses}
use Rattle.loop_plans.specs.Scheduled.{SameSchedule, SchedulesAgree}

module _ (turn : Block) (comparison : ℕ) where
  abbrev nodes : List Node
  nodes = nodes_of turn.operations

  meets_both : (a b : List Carried) → AreUses turn.operations turn.finals a → AreUses turn.operations turn.finals b → (interval : ℕ) (t : ℕ → ℕ) →
      MeetsLoop nodes comparison a interval t → MeetsLoop nodes comparison b interval t
  meets_both a b are same interval t m c (Within r) = m c (Within r)
  meets_both a b are same interval t m c (Begins f l g) = m c (Begins f l g)
  meets_both a b are same interval t m c (Tested f l k g) = m c (Tested f l k g)
  meets_both a b are same interval t m c (Follows f l g) = m c (Follows f l g)
  meets_both a b are same interval t m c (Carries k h f e g) = m c (Carries k (are.1 k (same.0 k h)) f e g)
  meets_both a b are same interval t m c (Shares x v w f l p q o g) = m c (Shares x v w f l p q o g)

  same_starts : (a b : List Carried) → AreUses turn.operations turn.finals a → AreUses turn.operations turn.finals b → (interval : ℕ) (s t : List ℕ) →
      AreLoopStarts nodes comparison a interval s → AreLoopStarts nodes comparison b interval t → s ≡ t
  same_starts a b are same interval s t p q = ext_get_or 0 s t (p.count ∙ sym q.count) (λ i l.
      (let w : i < length nodes + 2 = (let n = p.count in omega (arith, n, l)) in
      let x = p.least (slice_index t) (meets_both b a same are interval (slice_index t) q.meets) i w in
      let y = q.least (slice_index s) (meets_both a b are same interval (slice_index s) p.meets) i w in
      omega (arith, x, y)))

two_nonempty : (x : ℕ) (xs : List ℕ) (d e : ℕ) → length (d ∷ 0 ∷ []) ≡ length (x ∷ (xs ++ e ∷ 0 ∷ [])) → ⊥
two_nonempty x xs d e h = let l = length-append xs (e ∷ 0 ∷ []) in omega (arith, h, l)

taken_apart : (s t : List ℕ) (d e : ℕ) → place_starts s d ≡ place_starts t e → (s ≡ t) × (d ≡ e)
taken_apart [] [] d e h = (refl, cc)
taken_apart [] (y ∷ ys) d e h = absurd (two_nonempty y ys d e (ap length h))
taken_apart (x ∷ xs) [] d e h = absurd (two_nonempty x xs e d (sym (ap length h)))
taken_apart (x ∷ xs) (y ∷ ys) d e h =
    let one : x ≡ y = cc in
    let rest : place_starts xs d ≡ place_starts ys e = cc in
    let more = taken_apart xs ys d e rest in
    (ap (λ (z : ℕ). z ∷ xs) one ∙ ap (λ (zs : List ℕ). y ∷ zs) more.0, more.1)

pub schedules_agree : SchedulesAgree
schedules_agree turn comparison least p q x y = by_answers p q x.2 y.2
  where
    by_answers : (p q : Pipelined) → IsPipeline (nodes_of turn.operations) comparison x.0 least p →
        IsPipeline (nodes_of turn.operations) comparison y.0 least q → SameSchedule p q
    by_answers (IsScheduled i s d) (IsScheduled j t e) u v = ⊎_elim
        (λ less. absurd (v.3 i u.0 less (slice_index (place_starts s.items d))
        (meets_both turn comparison x.0 y.0 x.1 y.1 i (slice_index (place_starts s.items d)) u.2.meets)))
        (λ ge. ⊎_elim
        (λ less. absurd (u.3 j v.0 less (slice_index (place_starts t.items e))
        (meets_both turn comparison y.0 x.0 y.1 x.1 j (slice_index (place_starts t.items e)) v.2.meets)))
        (λ le. (let one : i ≡ j = omega (arith, ge, le) in
        let here = subst (λ (z : ℕ). AreLoopStarts (nodes_of turn.operations) comparison x.0 z (place_starts s.items d)) one u.2 in
        let same = taken_apart s.items t.items d e (same_starts turn comparison x.0 y.0 x.1 y.1 j (place_starts s.items d) (place_starts t.items e) here v.2) in
        (one, same.0, same.1)))
        (cases_lt j i))
        (cases_lt i j)
    by_answers (IsScheduled i s d) (Unfit walk) u v =
        absurd (v.0 i u.0 u.1 (slice_index (place_starts s.items d))
        (meets_both turn comparison x.0 y.0 x.1 y.1 i (slice_index (place_starts s.items d)) u.2.meets))
    by_answers (Unfit walk) (IsScheduled j t e) u v =
        absurd (u.0 j v.0 v.1 (slice_index (place_starts t.items e))
        (meets_both turn comparison y.0 x.0 y.1 x.1 j (slice_index (place_starts t.items e)) v.2.meets))
    by_answers (Unfit walk) (Unfit way) u v = tt
