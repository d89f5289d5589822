-- The starts of all places, taken apart, are the answer of the search.
use Rattle.std.proofs.Common.{◌≡◌, ℕ, zero, suc, ◌+◌, ◌<◌, ◌≤◌, List, [], ◌∷◌, ◌++◌, length, length-append, append_assoc, refl, ap, sym, subst, ◌∙◌, arith}
use Rattle.std.proofs.Common.{Option, Some, None}
use Rattle.std.specs.Prelude.{slice_index, MatchOption, unwrap_or}
use Rattle.std.specs.Option.{option_to_list}
use Rattle.op_graph.specs.declared.node.Node.{Node}
use Rattle.op_graph.specs.Graph.{UseEarlier}
use Rattle.loop_pipeline.specs.declared.table.Carried.{Carried}
use Rattle.loop_pipeline.specs.declared.search.Pipelined.{Pipelined}
use Rattle.loop_pipeline.specs.declared.search.Pipelined.TheVariants.{Pipelined as IsScheduled, Unfit}
use Rattle.loop_pipeline.specs.Table.{AreCarried}
use Rattle.loop_pipeline.specs.Pipeline.{place_starts, AreLoopStarts, HasNoStarts, IsPipeline, AreSoon, IsSoon, IsSplit}
use Rattle.loop_pipeline.proofs.ShortStarts.{begins_at_zero, starts_short}

at_front : (xs ys : List ℕ) (i : ℕ) → i < length xs → slice_index (xs ++ ys) i ≡ slice_index xs i
at_front [] ys i l = absurd (omega arith)
at_front (x ∷ xs) ys zero l = refl
at_front (x ∷ xs) ys (suc i) l = at_front xs ys i (omega arith)

pub at_middle : (xs : List ℕ) (y : ℕ) (ys : List ℕ) → slice_index (xs ++ y ∷ ys) (length xs) ≡ y
at_middle [] y ys = refl
at_middle (x ∷ xs) y ys = at_middle xs y ys

pub at_second : (xs : List ℕ) (y z : ℕ) (ys : List ℕ) → slice_index (xs ++ y ∷ z ∷ ys) (length xs + 1) ≡ z
at_second [] y z ys = refl
at_second (x ∷ xs) y z ys =
    let e : suc (length xs) + 1 ≡ suc (length xs + 1) = omega arith in
    ap (λ (k : ℕ). slice_index (x ∷ (xs ++ y ∷ z ∷ ys)) k) e ∙ at_second xs y z ys

-- the last two numbers of a list, taken off; a list of a numbers, of which b, and then d, are left
pub taken_apart : (places front starts : List ℕ) (r s : Option ℕ) (depth a b d : ℕ) → depth ≡ unwrap_or s 0 → places ≡ front ++ option_to_list r →
    front ≡ starts ++ option_to_list s → 2 ≤ a → MatchOption r ((a ≡ 0) × (b ≡ 0)) (λ _. b + 1 ≡ a) → MatchOption s ((b ≡ 0) × (d ≡ 0)) (λ _. d + 1 ≡ b) →
    places ≡ starts ++ depth ∷ slice_index places (length starts + 1) ∷ []
taken_apart places front starts None s depth a b d is e f l h k = absurd (let z = h.0 in omega (arith, z, l))
taken_apart places front starts (Some x) None depth a b d is e f l h k = absurd (let z = k.0 in omega (arith, z, h, l))
taken_apart places front starts (Some x) (Some y) depth a b d is e f l h k =
    let whole : places ≡ starts ++ y ∷ x ∷ [] = e ∙ (ap (λ (z : List ℕ). z ++ x ∷ []) f ∙ append_assoc starts (y ∷ []) (x ∷ [])) in
    let last : slice_index places (length starts + 1) ≡ x =
    ap (λ (z : List ℕ). slice_index z (length starts + 1)) whole ∙ at_second starts y x [] in
    whole ∙ (ap (λ (z : ℕ). starts ++ z ∷ x ∷ []) (sym is) ∙ ap (λ (z : ℕ). starts ++ depth ∷ z ∷ []) (sym last))

module _ (nodes : List Node) (comparison : ℕ) (carried : List Carried) (interval : ℕ) (earlier : UseEarlier nodes) (inside : comparison < length nodes)
    (each : AreCarried (length nodes) carried) (some : 1 ≤ interval) (places : List ℕ) (are : AreLoopStarts nodes comparison carried interval places) where
  module _ (starts : List ℕ) (depth : ℕ) (e : places ≡ starts ++ depth ∷ slice_index places (length starts + 1) ∷ []) where
    count : length starts ≡ length nodes
    count =
        let l = length-append starts (depth ∷ slice_index places (length starts + 1) ∷ []) in
        let m : length places ≡ length (starts ++ depth ∷ slice_index places (length starts + 1) ∷ []) = ap length e in
        omega (arith, are.count, l, m)

    is_places : places ≡ place_starts starts depth
    is_places =
        let begin : slice_index places (length nodes + 1) ≡ 0 = begins_at_zero nodes comparison carried interval earlier inside each some places are in
        let last : slice_index places (length starts + 1) ≡ 0 = ap (λ (z : ℕ). slice_index places (z + 1)) count ∙ begin in
        e ∙ ap (λ (z : ℕ). starts ++ depth ∷ z ∷ []) last

    short : AreSoon nodes starts depth
    short = record {
      each = λ i l.
          (let s = starts_short nodes comparison carried interval earlier inside each some places are i (omega arith) in
          let f = ap (λ (z : List ℕ). slice_index z i) is_places ∙ at_front starts (depth ∷ 0 ∷ []) i (omega (arith, count)) in
          omega (arith, s, f));
      end =
          (let s = starts_short nodes comparison carried interval earlier inside each some places are (length nodes) (omega arith) in
          let g : slice_index places (length nodes) ≡ slice_index places (length starts) = ap (slice_index places) (sym count) in
          let f = ap (λ (z : List ℕ). slice_index z (length starts)) is_places ∙ at_middle starts depth (0 ∷ []) in
          omega (arith, s, g, f));
    }

  pub split_pipeline : (least : ℕ) (p : Pipelined) → IsSplit interval places p → least ≤ interval → interval ≤ 64 →
      ((j : ℕ) → least ≤ j → j < interval → HasNoStarts nodes comparison carried j) → IsPipeline nodes comparison carried least p
  split_pipeline least (IsScheduled i starts depth) s low high none =
      let e = is_places starts.items depth s.1 in
      let here : AreLoopStarts nodes comparison carried i (place_starts starts.items depth) =
      subst (λ (z : ℕ). AreLoopStarts nodes comparison carried z (place_starts starts.items depth)) (sym s.0)
      (subst (λ (z : List ℕ). AreLoopStarts nodes comparison carried interval z) e are) in
      let is = s.0 in
      (omega (arith, is, low), omega (arith, is, high), here, λ j l m. none j l (omega (arith, is, m)))
  split_pipeline least (Unfit walk) s low high none = absurd s

  pub split_soon : (p : Pipelined) → IsSplit interval places p → IsSoon nodes p
  split_soon (IsScheduled i starts depth) s = short starts.items depth s.1
  split_soon (Unfit walk) s = tt
