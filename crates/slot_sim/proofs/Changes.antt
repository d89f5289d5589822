-- What it means that the edge is found to change what an instance holds, or not.
use Rattle.std.specs.Prelude.{◌≡◌, ℕ, suc, ◌<◌, Bool, true, false, not, ◌&&◌, nat_eq, nat_lt, if◌then◌else◌, List, [], ◌∷◌, slice_get, refl}
use Rattle.std.proofs.Common.{ap, sym, ◌∙◌, subst, ⊎_elim}
use Rattle.std.proofs.lemmas.Bool.{cases_eq, ne_eqb, eq-eqb, cond-false, cond-true, and_cases, and_right, lt-ltb, ltb-true, or_cases, or_parts, and_from, and_parts}
use Rattle.netlist.specs.declared.netlist.Effect.{Effect}
use Rattle.netlist.specs.declared.netlist.Effect.TheVariants.{Set, Store, Write}
use Rattle.netlist.specs.declared.netlist.Action.{Action}
use Rattle.netlist.specs.declared.netlist.Module.{Module}
use Rattle.verilog_meaning.specs.Readings.{Reading, is_on, set_by, stored_by, register_after, word_after, memory_words}
use Rattle.slot_sim.specs.Changing.{leaves_other, alters, changes, LeavesOther, other_number, other_word, LeavesAll}

-- ---- truth values

apart_of : (a b : ℕ) → not (nat_eq a b) ≡ true → a ≡ b → ⊥
apart_of a b e same =
    let clash : false ≡ true = sym (ap not (eq-eqb a b same)) ∙ e in
    absurd cc

same_of : (a b : ℕ) → not (nat_eq a b) ≡ false → a ≡ b
same_of a b e = ⊎_elim
    (λ same. same)
    (λ other.
    let clash : true ≡ false = sym (ap not (ne_eqb a b other)) ∙ e in
    absurd cc)
    (cases_eq a b)

and_left : (a b : Bool) → a ≡ true → (a && b) ≡ false → b ≡ false
and_left true b t e = e
and_left false b t e = absurd cc

first_false : (a b : Bool) → a ≡ false → (a && b) ≡ false
first_false true b e = absurd cc
first_false false b e = refl

module _ (m : Module) (r : Reading) where
  abbrev Registers : List Action → Type 0
  Registers actions = (x : ℕ) → register_after r actions x (r.signal x) ≡ r.signal x

  -- ---- found

  more : (a : Action) (actions : List Action) → LeavesOther m r actions → LeavesOther m r (a ∷ actions)
  more a actions (other_number x s apart) =
      other_number x (suc s.0, s.1, s.2, s.3, s.4) (λ old. apart (if is_on r a.conditions then set_by r a.effect x old else old))
  more a actions (other_word j k l apart) = other_word j k l (λ old. apart (if is_on r a.conditions then stored_by r a.effect j k old else old))

  head : (a : Action) (actions : List Action) → is_on r a.conditions ≡ true → (e : Effect) → a.effect ≡ e → leaves_other m r e actions ≡ true → LeavesOther m r (a ∷ actions)
  head a actions on (Set x y) is other =
      other_number x (0, a, y, refl, is)
      (λ old same.
      let set : (if is_on r a.conditions then set_by r a.effect x old else old) ≡ r.signal y =
      cond-true (is_on r a.conditions) (set_by r a.effect x old) old on ∙ ap (λ (e : Effect). set_by r e x old) is ∙ cond-true (nat_eq x x) (r.signal y) old (eq-eqb x x refl) in
      apart_of (register_after r actions x (r.signal y)) (r.signal x)
      (and_parts (not (nat_eq (r.signal y) (r.signal x))) (not (nat_eq (register_after r actions x (r.signal y)) (r.signal x))) other).1
      (sym (ap (register_after r actions x) set) ∙ same))
  head a actions on (Store j x y) is other =
      let small = nat_lt (r.signal x) (memory_words (slice_get m.memories j)) in
      let other_left = not (nat_eq (word_after r actions j (r.signal x) (r.signal y)) (r.word j (r.signal x))) in
      other_word j (r.signal x) (ltb-true (r.signal x) (memory_words (slice_get m.memories j)) (and_parts small other_left other).0)
      (λ old same.
      let stored : (if is_on r a.conditions then stored_by r a.effect j (r.signal x) old else old) ≡ r.signal y =
      cond-true (is_on r a.conditions) (stored_by r a.effect j (r.signal x) old) old on
      ∙ ap (λ (e : Effect). stored_by r e j (r.signal x) old) is
      ∙ cond-true (nat_eq j j && nat_eq (r.signal x) (r.signal x)) (r.signal y) old
      (and_from (nat_eq j j) (nat_eq (r.signal x) (r.signal x)) (eq-eqb j j refl) (eq-eqb (r.signal x) (r.signal x) refl)) in
      apart_of (word_after r actions j (r.signal x) (r.signal y)) (r.word j (r.signal x)) (and_parts small other_left other).1
      (sym (ap (word_after r actions j (r.signal x)) stored) ∙ same))
  head a actions on (Write text arguments) is other = absurd cc

  pub found : (actions : List Action) → changes m r actions ≡ true → LeavesOther m r actions
  found [] e = absurd cc
  found (a ∷ actions) e = ⊎_elim
      (λ here.
      head a actions (and_parts (is_on r a.conditions) (leaves_other m r a.effect actions) here).0 a.effect refl
      (and_parts (is_on r a.conditions) (leaves_other m r a.effect actions) here).1)
      (λ rest. more a actions (found actions rest))
      (or_cases (alters m r a actions) (changes m r actions) e)

  -- ---- not found

  register_by : (actions : List Action) (x : ℕ) → register_after r actions x (r.signal x) ≡ r.signal x → (b : Bool) (e : Effect) → (b && leaves_other m r e actions) ≡ false
      → register_after r actions x (if b then set_by r e x (r.signal x) else r.signal x) ≡ r.signal x
  register_by actions x rest false e unchanged = rest
  register_by actions x rest true (Set z y) unchanged = ⊎_elim
      (λ (here : z ≡ x).
      let last : (not (nat_eq (r.signal y) (r.signal x)) && not (nat_eq (register_after r actions x (r.signal y)) (r.signal x))) ≡ false =
      subst (λ n. (not (nat_eq (r.signal y) (r.signal n)) && not (nat_eq (register_after r actions n (r.signal y)) (r.signal n))) ≡ false) here unchanged in
      let kept : register_after r actions x (r.signal y) ≡ r.signal x = ⊎_elim
      (λ same. ap (register_after r actions x) (same_of (r.signal y) (r.signal x) same) ∙ rest)
      (λ same. same_of (register_after r actions x (r.signal y)) (r.signal x) same)
      (and_cases (not (nat_eq (r.signal y) (r.signal x))) (not (nat_eq (register_after r actions x (r.signal y)) (r.signal x))) last) in
      ap (register_after r actions x) (cond-true (nat_eq z x) (r.signal y) (r.signal x) (eq-eqb z x here)) ∙ kept)
      (λ other. ap (register_after r actions x) (cond-false (nat_eq z x) (r.signal y) (r.signal x) (ne_eqb z x other)) ∙ rest)
      (cases_eq z x)
  register_by actions x rest true (Store j z y) unchanged = rest
  register_by actions x rest true (Write text arguments) unchanged = rest

  registers_left : (actions : List Action) → changes m r actions ≡ false → (x : ℕ) → register_after r actions x (r.signal x) ≡ r.signal x
  registers_left [] e x = refl
  registers_left (a ∷ actions) e x =
      register_by actions x (registers_left actions (or_parts (alters m r a actions) (changes m r actions) e).1 x) (is_on r a.conditions) a.effect
      (or_parts (alters m r a actions) (changes m r actions) e).0

  word_by : (actions : List Action) (j k : ℕ) → k < memory_words (slice_get m.memories j) → word_after r actions j k (r.word j k) ≡ r.word j k → (b : Bool) (e : Effect)
      → (b && leaves_other m r e actions) ≡ false → word_after r actions j k (if b then stored_by r e j k (r.word j k) else r.word j k) ≡ r.word j k
  word_by actions j k l rest false e unchanged = rest
  word_by actions j k l rest true (Set x y) unchanged = rest
  word_by actions j k l rest true (Store i x y) unchanged =
      let both = nat_eq i j && nat_eq (r.signal x) k in
      ⊎_elim
      (λ (one : i ≡ j).
      ⊎_elim
      (λ (here : r.signal x ≡ k).
      let there : (nat_lt (r.signal x) (memory_words (slice_get m.memories j)) && not (nat_eq (word_after r actions j (r.signal x) (r.signal y)) (r.word j (r.signal x)))) ≡ false =
      subst (λ n. (nat_lt (r.signal x) (memory_words (slice_get m.memories n)) && not (nat_eq (word_after r actions n (r.signal x) (r.signal y)) (r.word n (r.signal x)))) ≡ false) one unchanged in
      let last : (nat_lt k (memory_words (slice_get m.memories j)) && not (nat_eq (word_after r actions j k (r.signal y)) (r.word j k))) ≡ false =
      subst (λ n. (nat_lt n (memory_words (slice_get m.memories j)) && not (nat_eq (word_after r actions j n (r.signal y)) (r.word j n))) ≡ false) here there in
      ap (word_after r actions j k) (cond-true both (r.signal y) (r.word j k) (and_from (nat_eq i j) (nat_eq (r.signal x) k) (eq-eqb i j one) (eq-eqb (r.signal x) k here)))
      ∙ same_of (word_after r actions j k (r.signal y)) (r.word j k)
      (and_left (nat_lt k (memory_words (slice_get m.memories j))) (not (nat_eq (word_after r actions j k (r.signal y)) (r.word j k)))
      (lt-ltb k (memory_words (slice_get m.memories j)) l) last))
      (λ other.
      ap (word_after r actions j k) (cond-false both (r.signal y) (r.word j k) (and_right (nat_eq i j) (nat_eq (r.signal x) k) (ne_eqb (r.signal x) k other))) ∙ rest)
      (cases_eq (r.signal x) k))
      (λ other. ap (word_after r actions j k) (cond-false both (r.signal y) (r.word j k) (first_false (nat_eq i j) (nat_eq (r.signal x) k) (ne_eqb i j other))) ∙ rest)
      (cases_eq i j)
  word_by actions j k l rest true (Write text arguments) unchanged = rest

  words_left : (actions : List Action) → changes m r actions ≡ false → (j k : ℕ) → k < memory_words (slice_get m.memories j) → word_after r actions j k (r.word j k) ≡ r.word j k
  words_left [] e j k l = refl
  words_left (a ∷ actions) e j k l =
      word_by actions j k l (words_left actions (or_parts (alters m r a actions) (changes m r actions) e).1 j k l) (is_on r a.conditions) a.effect
      (or_parts (alters m r a actions) (changes m r actions) e).0

  pub left_alone : (actions : List Action) → changes m r actions ≡ false → LeavesAll m r actions
  left_alone actions e = record { registers = registers_left actions e; words = words_left actions e }
