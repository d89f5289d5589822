-- The input pref_k of the outermost module that is wired reaches the arbiter of core k and no other instance.
use Rattle.std.proofs.Common.{◌≡◌, ℕ, zero, suc, ◌+◌, ◌*◌, ◌<◌, ◌≤◌, ◌⊎◌, List, [], ◌∷◌, ◌++◌, length, take, Some, refl, sym, ap, ◌∙◌, subst, inl, inr, arith, length-append}
use Rattle.std.specs.Prelude.{slice_get, slice_index}
use Rattle.std.proofs.lemmas.Option.{same_Some, slice_get_within}
use Rattle.lists.proofs.Places.{get_there}
use Rattle.verilog_tree.specs.Reads.{Each}
use Rattle.netlist.specs.declared.netlist.Instance.{Instance}
use Rattle.netlist.specs.declared.netlist.Module.{Module}
use Rattle.circuit.specs.Rows.{spread}
use Rattle.top_parts.specs.declared.layout.Core.{Core}
use Rattle.top_parts.specs.declared.layout.Layout.{Layout}
use Rattle.top_parts.specs.declared.parts.Part.{Part}
use Rattle.top_parts.proofs.GrownLists.{length-each_from}
use Rattle.top_wiring.specs.Parts.{each_from, flat_from, flat_spread, group_widths, ask_widths, thread_part, core_part, arbiter_part, parts}
use Rattle.top_wiring.specs.Top.{run, grant_places, told_places, group_places, thread_inputs, core_inputs, arbiter_inputs}
use Rattle.top_wiring.specs.Top.{thread_instance, core_instance, arbiter_instance, starts, IsTop}
use Rattle.top_wiring.proofs.Lists.{get_either, each_back, spread_back}
use Rattle.top_wiring.proofs.TopPlaces as standing
use Rattle.net_emitter.proofs.EachOfLists.{each_append, each_there}

-- ---- lists of numbers

each_below : (P : ℕ → Type 0) (f : ℕ → ℕ) (i n : ℕ) → ((k : ℕ) → k < n → P (f (i + k))) → Each P (spread f i n)
each_below P f i zero h = tt
each_below P f i (suc n) h =
    let z : i + 0 ≡ i = omega arith in (
      subst (λ k. P (f k)) z (h 0 (omega arith)),
      each_below P f (i + 1) n (λ k l. let e : i + suc k ≡ i + 1 + k = omega arith in subst (λ j. P (f j)) e (h (suc k) (omega arith))),
    )

each_lists : (P : ℕ → Type 0) (f : ℕ → List ℕ) (i n : ℕ) → ((k : ℕ) → k < n → Each P (f (i + k))) → Each P (flat_spread f i n)
each_lists P f i zero h = tt
each_lists P f i (suc n) h =
    let z : i + 0 ≡ i = omega arith in
    each_append P (f i) (flat_spread f (i + 1) n) (subst (λ k. Each P (f k)) z (h 0 (omega arith)))
    (each_lists P f (i + 1) n (λ k l. let e : i + suc k ≡ i + 1 + k = omega arith in subst (λ j. Each P (f j)) e (h (suc k) (omega arith))))

each_flat : {A : Type 0} (P : ℕ → Type 0) (f : ℕ → A → List ℕ) (i : ℕ) (xs : List A) → ((k : ℕ) (x : A) → slice_get xs k ≡ Some x → Each P (f (i + k) x)) →
    Each P (flat_from f i xs)
each_flat P f i [] h = tt
each_flat P f i (x ∷ xs) h =
    let z : i + 0 ≡ i = omega arith in
    each_append P (f i x) (flat_from f (i + 1) xs) (subst (λ k. Each P (f k x)) z (h 0 x refl))
    (each_flat P f (i + 1) xs (λ k y g. let e : i + suc k ≡ i + 1 + k = omega arith in subst (λ j. Each P (f j y)) e (h (suc k) y g)))

module _ (modules : List Module) (layout : Layout) (top : Module) (is : IsTop modules layout top) where
  abbrev T : ℕ
  T = length layout.threads

  abbrev K : ℕ
  K = length layout.cores

  abbrev S : List ℕ
  S = starts modules layout

  -- the clock, or a signal behind the preferences
  abbrev IsOther : ℕ → Type 0
  IsOther x = (x ≡ 0) ⊎ (2 + K ≤ x)

  start_past : (j : ℕ) (p : Part) → slice_get (parts layout) j ≡ Some p → 2 + K ≤ slice_index S j
  start_past j p e = let s = standing.start_is modules layout top is j p e in omega (arith, s)

  run_past : (first n : ℕ) → 2 + K ≤ first → Each IsOther (run first n)
  run_past first n l = each_below IsOther (λ x. first + x) 0 n (λ k b. inr (let z : 2 + K ≤ first + (0 + k) = omega (arith, l) in z))

  at_least : (a b : ℕ) → 2 + K ≤ a → 2 + K ≤ a + b
  at_least a b l = omega (arith, l)

  -- ---- what reaches threads and cores

  thread_past : (i : ℕ) → Each IsOther (thread_inputs S T K layout.cores i)
  thread_past i =
      let grants = spread (grant_places S T K i) 0 K in
      let told = flat_from (λ k (c : Core). told_places S T K i k (length c.told)) 0 layout.cores in (
        inl refl,
        (
          inr (let z : 2 + K ≤ 2 + K + i = omega arith in z),
          each_append IsOther grants told
              (each_below IsOther (grant_places S T K i) 0 K
              (λ k l. let s = start_past (T + K + k) (arbiter_part T layout.arbiter k) (standing.arbiter_part_at layout k l) in
              let z : T + K + (0 + k) ≡ T + K + k = omega arith in
              subst (λ j. IsOther (slice_index S j + i)) (sym z) (inr (let y : 2 + K ≤ slice_index S (T + K + k) + i = omega (arith, s) in y))))
              (each_flat IsOther (λ k (c : Core). told_places S T K i k (length c.told)) 0 layout.cores
              (λ k c e. let s = start_past (T + k) (core_part T c) (standing.core_part_at layout k c e) in
              let z : T + (0 + k) ≡ T + k = omega arith in
              each_below IsOther (λ j. slice_index S (T + (0 + k)) + (T + (j * T + i))) 0 (length c.told)
              (λ j l. subst (λ a. IsOther (slice_index S a + (T + ((0 + j) * T + i)))) (sym z)
              (inr (let y : 2 + K ≤ slice_index S (T + k) + (T + ((0 + j) * T + i)) = at_least (slice_index S (T + k)) (T + ((0 + j) * T + i)) s in y))))),
        ),
      )

  core_past : (k : ℕ) (c : Core) → slice_get layout.cores k ≡ Some c → (asked : ℕ) → Each IsOther (core_inputs S T K asked k c.groups)
  core_past k c e asked =
      let l : k < K = slice_get_within layout.cores k c e in
      let asks = flat_from (group_places S T K asked c.groups) 0 c.groups in (
        inl refl,
        each_append IsOther asks (run (slice_index S (T + K + k)) T)
            (each_flat IsOther (group_places S T K asked c.groups) 0 c.groups
            (λ j g d. each_lists IsOther (λ i. run (slice_index S i + (asked + length (group_widths (take (0 + j) c.groups)))) g.count) 0 T
            (λ i b. let number = get_there layout.threads i b in
            let s = start_past i (thread_part (ask_widths layout.cores) number.0) (standing.thread_part_at layout i number.0 number.1) in
            let z : 0 + i ≡ i = omega arith in
            subst (λ a. Each IsOther (run (slice_index S a + (asked + length (group_widths (take (0 + j) c.groups)))) g.count)) (sym z)
            (run_past (slice_index S i + (asked + length (group_widths (take (0 + j) c.groups)))) g.count
            (at_least (slice_index S i) (asked + length (group_widths (take (0 + j) c.groups))) s)))))
            (run_past (slice_index S (T + K + k)) T (start_past (T + K + k) (arbiter_part T layout.arbiter k) (standing.arbiter_part_at layout k l))),
      )

  -- ---- of which instance

  abbrev Reads : Instance → ℕ → ℕ → Type 0
  Reads n x place = slice_get n.inputs x ≡ Some place

  none_other : (k : ℕ) → k < K → (xs : List ℕ) → Each IsOther xs → (x : ℕ) → slice_get xs x ≡ Some (2 + k) → ⊥
  none_other k l xs h x e = by (each_there IsOther xs h x (2 + k) e)
    where
      by : IsOther (2 + k) → ⊥
      by (inl z) = omega (arith, z)
      by (inr past) = omega (arith, past, l)

  arbiter_own : (k j : ℕ) → k < K → j < K → (x : ℕ) → slice_get (arbiter_inputs S T K j) x ≡ Some (2 + k) → j ≡ k
  arbiter_own k j l b zero e = let z : 0 ≡ 2 + k = same_Some 0 (2 + k) e in absurd (omega (arith, z))
  arbiter_own k j l b (suc zero) e = let z : 2 + j ≡ 2 + k = same_Some (2 + j) (2 + k) e in omega (arith, z)
  arbiter_own k j l b (suc (suc x)) e =
      let c = get_there layout.cores j b in
      absurd (none_other k l (run (slice_index S (T + j)) T) (run_past (slice_index S (T + j)) T (start_past (T + j) (core_part T c.0) (standing.core_part_at layout j c.0 c.1))) x e)

  -- ---- the instances

  abbrev core : ℕ → Core → Instance
  core i y = core_instance S T K (parts layout) (length (ask_widths (take i layout.cores))) i y

  abbrev threads_list : List Instance
  threads_list = each_from (thread_instance S T K (parts layout) layout.cores) 0 layout.threads

  abbrev cores_list : List Instance
  cores_list = each_from core 0 layout.cores

  abbrev arbiters_list : List Instance
  arbiters_list = spread (arbiter_instance S T K (parts layout) layout.arbiter) 0 K

  many : length (threads_list ++ cores_list) ≡ T + K
  many =
      let all = length-append threads_list cores_list in
      let t = length-each_from (thread_instance S T K (parts layout) layout.cores) 0 layout.threads in
      let c = length-each_from core 0 layout.cores in
      omega (arith, all, t, c)

  from_thread : (k : ℕ) → k < K → (j : ℕ) (n : Instance) (x : ℕ) → slice_get threads_list j ≡ Some n → Reads n x (2 + k) → ⊥
  from_thread k l j n x e read =
      let f = each_back (thread_instance S T K (parts layout) layout.cores) 0 layout.threads j n e in
      none_other k l (thread_inputs S T K layout.cores (0 + j)) (thread_past (0 + j)) x (ap (λ (i : Instance). slice_get i.inputs x) (sym f.2) ∙ read)

  from_core : (k : ℕ) → k < K → (j : ℕ) (n : Instance) (x : ℕ) → slice_get cores_list j ≡ Some n → Reads n x (2 + k) → ⊥
  from_core k l j n x e read =
      let f = each_back core 0 layout.cores j n e in
      let z : 0 + j ≡ j = omega arith in
      let asked = length (ask_widths (take (0 + j) layout.cores)) in
      none_other k l (core_inputs S T K asked (0 + j) f.0.groups) (core_past (0 + j) f.0 (ap (slice_get layout.cores) z ∙ f.1) asked) x
      (ap (λ (i : Instance). slice_get i.inputs x) (sym f.2) ∙ read)

  from_arbiter : (k : ℕ) → k < K → (j : ℕ) (n : Instance) (x : ℕ) → slice_get arbiters_list j ≡ Some n → Reads n x (2 + k) → j ≡ k
  from_arbiter k l j n x e read =
      let f = spread_back (arbiter_instance S T K (parts layout) layout.arbiter) 0 K j n e in
      let less = f.0 in
      let own : 0 + j ≡ k = arbiter_own k (0 + j) l (omega (arith, less)) x (ap (λ (i : Instance). slice_get i.inputs x) (sym f.1) ∙ read) in
      omega (arith, own)

  pub only_its_arbiter : (k : ℕ) → k < K → (j : ℕ) (n : Instance) (x : ℕ) → slice_get top.instances j ≡ Some n → Reads n x (2 + k) → j ≡ T + K + k
  only_its_arbiter k l j n x e read =
      elim (get_either (threads_list ++ cores_list) arbiters_list j n (ap (λ xs. slice_get xs j) (sym is.instances) ∙ e)) [
        | inl p ↦ elim (get_either threads_list cores_list j n p) [
          | inl q ↦ absurd (from_thread k l j n x q read)
          | inr q ↦ absurd (from_core k l q.at n x q.found read)
        ]
        | inr p ↦
            let own = from_arbiter k l p.at n x p.found read in
            let at = p.is in
            let all = many in
            omega (arith, own, at, all)
      ]
