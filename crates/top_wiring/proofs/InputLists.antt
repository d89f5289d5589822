-- What the inputs of instances are connected to.
use Rattle.std.proofs.Common.{◌≡◌, ℕ, ◌+◌, ◌*◌, ◌<◌, List, [], ◌∷◌, ◌++◌, length, take, replicate, Some, refl, ap, ◌∙◌, subst, arith, zero-add, length-append}
use Rattle.std.specs.Prelude.{slice_get, slice_index}
use Rattle.std.proofs.Math.Nat.{mul-add}
use Rattle.std.proofs.lemmas.List.{length-replicate}
use Rattle.lists.proofs.Places.{get_front}
use Rattle.circuit.specs.Rows.{spread}
use Rattle.circuit.proofs.Growth.{length-spread}
use Rattle.top_parts.specs.declared.layout.Group.{Group}
use Rattle.top_parts.specs.declared.layout.Core.{Core}
use Rattle.top_parts.specs.Parts.{flat_from, flat_spread, group_widths, told_widths}
use Rattle.top_wiring.specs.Top.{run, grant_places, told_places, thread_inputs, group_places, core_inputs, arbiter_inputs}
use Rattle.top_wiring.proofs.Lists.{get_behind, get_spread, get_flat_from, get_flat_spread, length-flat_spread}

module _ (starts : List ℕ) (T K : ℕ) where
  -- ---- of threads

  length-told : (i k : ℕ) (xs : List Core) → length (flat_from (λ k (c : Core). told_places starts T K i k (length c.told)) k xs) ≡ length (told_widths xs)
  length-told i k [] = refl
  length-told i k (c ∷ xs) =
      let a = length-append (told_places starts T K i k (length c.told)) (flat_from (λ k (c : Core). told_places starts T K i k (length c.told)) (k + 1) xs) in
      let b = length-spread (λ j. slice_index starts (T + k) + (T + (j * T + i))) 0 (length c.told) in
      let d = length-append c.told (told_widths xs) in
      let m = length-told i (k + 1) xs in
      omega arith

  abbrev heads : ℕ → List ℕ
  heads i = 0 ∷ (2 + K + i) ∷ []

  pub length-heads : (i : ℕ) → length (heads i ++ spread (grant_places starts T K i) 0 K) ≡ 2 + K
  length-heads i =
      let a = length-append (heads i) (spread (grant_places starts T K i) 0 K) in
      let b = length-spread (grant_places starts T K i) 0 K in
      omega arith

  module _ (all : List Core) (i : ℕ) where
    abbrev news : List ℕ
    news = flat_from (λ k (c : Core). told_places starts T K i k (length c.told)) 0 all

    pub grant_input : (k : ℕ) → k < K → slice_get (thread_inputs starts T K all i) (2 + k) ≡ Some (slice_index starts (T + K + k) + i)
    grant_input k l =
        get_front (heads i ++ spread (grant_places starts T K i) 0 K) news (2 + k) (slice_index starts (T + K + k) + i)
        (get_behind 2 (heads i) (spread (grant_places starts T K i) 0 K) k (slice_index starts (T + K + k) + i) refl (get_spread (grant_places starts T K i) K k l))

    pub told_input : (k j : ℕ) (c : Core) → slice_get all k ≡ Some c → j < length c.told
        → slice_get (thread_inputs starts T K all i) (2 + K + (length (told_widths (take k all)) + j)) ≡ Some (slice_index starts (T + k) + (T + (j * T + i)))
    told_input k j c e l =
        let place = slice_index starts (T + k) + (T + (j * T + i)) in
        let f : ℕ → Core → List ℕ = λ k x. told_places starts T K i k (length x.told) in
        let here : slice_get (told_places starts T K i (0 + k) (length c.told)) j ≡ Some place =
        get_spread (λ j. slice_index starts (T + (0 + k)) + (T + (j * T + i))) (length c.told) j l
        ∙ ap (λ z. Some (slice_index starts (T + z) + (T + (j * T + i)))) (zero-add k) in
        let there : slice_get news (length (flat_from f 0 (take k all)) + j) ≡ Some place = get_flat_from f 0 all k j c place e here in
        get_behind (2 + K) (heads i ++ spread (grant_places starts T K i) 0 K) news (length (told_widths (take k all)) + j) place (length-heads i)
        (subst (λ (n : ℕ). slice_get news (n + j) ≡ Some place) (length-told i 0 (take k all)) there)

  -- ---- of cores

  length-run : (first n : ℕ) → length (run first n) ≡ n
  length-run first n = length-spread (λ x. first + x) 0 n

  pub get_run : (first n k : ℕ) → k < n → slice_get (run first n) k ≡ Some (first + k)
  get_run first n k l = get_spread (λ x. first + x) n k l

  module _ (asked : ℕ) (groups : List Group) where
    length-groups : (k : ℕ) (xs : List Group) → length (flat_from (group_places starts T K asked groups) k xs) ≡ T * length (group_widths xs)
    length-groups k [] = omega arith
    length-groups k (g ∷ xs) =
        let f : ℕ → List ℕ = λ i. run (slice_index starts i + (asked + length (group_widths (take k groups)))) g.count in
        let a = length-append (group_places starts T K asked groups k g) (flat_from (group_places starts T K asked groups) (k + 1) xs) in
        let b = length-flat_spread f g.count 0 T (λ i. length-run (slice_index starts i + (asked + length (group_widths (take k groups)))) g.count) in
        let d = length-append (replicate g.count g.width) (group_widths xs) in
        let r = length-replicate g.count g.width in
        let m = length-groups (k + 1) xs in
        let q : length (replicate g.count g.width ++ group_widths xs) ≡ g.count + length (group_widths xs) = omega arith in
        let s = mul-add T g.count (length (group_widths xs)) in
        let z : T * length (replicate g.count g.width ++ group_widths xs) ≡ T * (g.count + length (group_widths xs)) = ap (λ x. T * x) q in
        omega arith

    module _ (k : ℕ) where
      abbrev wants : List ℕ
      wants = flat_from (group_places starts T K asked groups) 0 groups

      abbrev grants : List ℕ
      grants = run (slice_index starts (T + K + k)) T

      abbrev clock : List ℕ
      clock = 0 ∷ []

      pub ask_input : (g j i : ℕ) (group : Group) → slice_get groups g ≡ Some group → j < group.count → i < T
          → slice_get (core_inputs starts T K asked k groups) (1 + (T * length (group_widths (take g groups)) + (i * group.count + j)))
          ≡ Some (slice_index starts i + (asked + length (group_widths (take g groups))) + j)
      ask_input g j i group e l b =
          let first : ℕ → ℕ = λ i. slice_index starts i + (asked + length (group_widths (take g groups))) in
          let place = first i + j in
          let f : ℕ → List ℕ = λ i. run (first i) group.count in
          let row : slice_get (f (0 + i)) j ≡ Some place = get_run (first (0 + i)) group.count j l ∙ ap (λ z. Some (first z + j)) (zero-add i) in
          let grid : slice_get (flat_spread f 0 T) (i * group.count + j) ≡ Some place = get_flat_spread f group.count 0 T i j place (λ i. length-run (first i) group.count) b row in
          let here : slice_get (group_places starts T K asked groups (0 + g) group) (i * group.count + j) ≡ Some place =
          ap (λ z. slice_get (group_places starts T K asked groups z group) (i * group.count + j)) (zero-add g) ∙ grid in
          let there = get_flat_from (group_places starts T K asked groups) 0 groups g (i * group.count + j) group place e here in
          get_front (clock ++ wants) grants (1 + (T * length (group_widths (take g groups)) + (i * group.count + j))) place
          (get_behind 1 clock wants (T * length (group_widths (take g groups)) + (i * group.count + j)) place refl
          (subst (λ (n : ℕ). slice_get wants (n + (i * group.count + j)) ≡ Some place) (length-groups 0 (take g groups)) there))

      pub granting_input : (i : ℕ) → i < T
          → slice_get (core_inputs starts T K asked k groups) (1 + (T * length (group_widths groups) + i)) ≡ Some (slice_index starts (T + K + k) + i)
      granting_input i l =
          let a = length-append clock wants in
          let b = length-groups 0 groups in
          let n : length (clock ++ wants) ≡ 1 + T * length (group_widths groups) = omega arith in
          let q : 1 + T * length (group_widths groups) + i ≡ 1 + (T * length (group_widths groups) + i) = omega arith in
          subst (λ (p : ℕ). slice_get (core_inputs starts T K asked k groups) p ≡ Some (slice_index starts (T + K + k) + i)) q
          (get_behind (1 + T * length (group_widths groups)) (clock ++ wants) grants i (slice_index starts (T + K + k) + i) n (get_run (slice_index starts (T + K + k)) T i l))

  -- ---- of arbiters

  pub offer_input : (k i : ℕ) → i < T → slice_get (arbiter_inputs starts T K k) (2 + i) ≡ Some (slice_index starts (T + k) + i)
  offer_input k i l = get_behind 2 (0 ∷ (2 + k) ∷ []) (run (slice_index starts (T + k)) T) i (slice_index starts (T + k) + i) refl (get_run (slice_index starts (T + k)) T i l)

  -- ---- how many there are

  pub thread_many : (all : List Core) (i : ℕ) → length (thread_inputs starts T K all i) ≡ 2 + K + length (told_widths all)
  thread_many all i =
      let a = length-append (heads i ++ spread (grant_places starts T K i) 0 K) (flat_from (λ k (c : Core). told_places starts T K i k (length c.told)) 0 all) in
      let b = length-heads i in
      let c = length-told i 0 all in
      omega arith

  pub core_many : (asked : ℕ) (groups : List Group) (k : ℕ) → length (core_inputs starts T K asked k groups) ≡ 1 + T * length (group_widths groups) + T
  core_many asked groups k =
      let wants = flat_from (group_places starts T K asked groups) 0 groups in
      let a = length-append (0 ∷ [] ++ wants) (run (slice_index starts (T + K + k)) T) in
      let b = length-append (0 ∷ []) wants in
      let c = length-groups asked groups 0 groups in
      let d = length-run (slice_index starts (T + K + k)) T in
      omega arith

  pub arbiter_many : (k : ℕ) → length (arbiter_inputs starts T K k) ≡ 2 + T
  arbiter_many k =
      let a = length-append (0 ∷ (2 + k) ∷ []) (run (slice_index starts (T + k)) T) in
      let b = length-run (slice_index starts (T + k)) T in
      omega arith
