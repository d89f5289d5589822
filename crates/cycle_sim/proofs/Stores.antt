-- The edge on the flat words of memories is the edge of each instance.
use Rattle.std.specs.Prelude.{◌≡◌, ℕ, zero, suc, ◌+◌, ◌<◌, Bool, true, false, nat_eq, nat_lt, ◌&&◌, if◌then◌else◌, List, [], ◌∷◌, length, Option, Some, None, slice_get, slice_index, slice_set, refl}
use Rattle.std.proofs.Common.{ap, sym, ◌∙◌, subst, ⊎_elim, arith}
use Rattle.std.proofs.lemmas.List.{get_or-set_same, get_or-set_other}
use Rattle.std.proofs.lemmas.Bool.Decides.{nat_tests}
use Rattle.std.proofs.Math.ListN.{length-set}
use Rattle.std.proofs.lemmas.Bool.{ltb-true, and_right, and_left, and_from, cases_eq, ne_eqb, eq-eqb, cond-false, cond-true}
use Rattle.netlist.specs.declared.netlist.Effect.{Effect}
use Rattle.netlist.specs.declared.netlist.Effect.TheVariants.{Set, Store, Write}
use Rattle.netlist.specs.declared.netlist.Action.{Action}
use Rattle.netlist.specs.declared.netlist.Module.{Module}
use Rattle.verilog_meaning.specs.Readings.{is_on, stored_by, word_after, memory_words}
use Rattle.sim_values.specs.declared.value.Spot.{Spot}
use Rattle.sim_values.specs.declared.edge.Part.{Part}
use Rattle.circuit.specs.Rows.{EachOf}
use Rattle.sim_values.specs.Flat.{Flat, reading, with_words, stored_word, act_word, acted_words, part_words, all_words}

not_less : (a b : ℕ) → nat_lt a b ≡ false → a < b → ⊥
not_less a b e l = grind (arith, nat_tests)

same_on : (spot : Spot) (f : Flat) (ws conditions : List ℕ) → is_on (reading spot (with_words f ws)) conditions ≡ is_on (reading spot f) conditions
same_on spot f ws [] = refl
same_on spot f ws (c ∷ conditions) = ap (λ b. nat_lt 0 (slice_index f.numbers (spot.base + c)) && b) (same_on spot f ws conditions)

module _ (m : Module) (spot : Spot) (f : Flat) where
  abbrev pub start : ℕ → ℕ
  start j = slice_index f.starts (spot.memories + j)

  abbrev pub size : ℕ → ℕ
  size j = memory_words (slice_get m.memories j)

  set_length : (b : Bool) (ws : List ℕ) (p v : ℕ) → length (if b then slice_set ws p v else ws) ≡ length ws
  set_length true ws p v = length-set ws p v
  set_length false ws p v = refl

  stored_length : (ws : List ℕ) (e : Effect) → length (stored_word m spot (with_words f ws) e) ≡ length ws
  stored_length ws (Set x y) = refl
  stored_length ws (Store j x y) =
      set_length (nat_lt (slice_index f.numbers (spot.base + x)) (size j)) ws (start j + slice_index f.numbers (spot.base + x)) (slice_index f.numbers (spot.base + y))
  stored_length ws (Write text arguments) = refl

  act_length_by : (b : Bool) (ws : List ℕ) (e : Effect) → length (if b then stored_word m spot (with_words f ws) e else ws) ≡ length ws
  act_length_by true ws e = stored_length ws e
  act_length_by false ws e = refl

  act_length : (ws : List ℕ) (a : Action) → length (act_word m spot (with_words f ws) a) ≡ length ws
  act_length ws a = act_length_by (is_on (reading spot (with_words f ws)) a.conditions) ws a.effect

  pub acted_length : (actions : List Action) (ws : List ℕ) → length (acted_words m spot (with_words f ws) actions) ≡ length ws
  acted_length [] ws = refl
  acted_length (a ∷ actions) ws = acted_length actions (act_word m spot (with_words f ws) a) ∙ act_length ws a

  -- ---- word k of memory j of the instance, whose place no word of another of its memories has

  module _ (j k : ℕ) (small : k < size j) (apart : (i a : ℕ) → a < size i → start i + a ≡ start j + k → i ≡ j) where
    store_by : (b : Bool) (i a v : ℕ) (ws : List ℕ) → nat_lt a (size i) ≡ b → start j + k < length ws
        → slice_index (if b then slice_set ws (start i + a) v else ws) (start j + k) ≡ (if nat_eq i j && nat_eq a k then v else slice_index ws (start j + k))
    store_by true i a v ws e l =
        let old = slice_index ws (start j + k) in
        ⊎_elim
        (λ one. ⊎_elim
        (λ same.
        let at : start i + a ≡ start j + k = let s = ap start one in omega arith in
        ap (λ (p : ℕ). slice_index (slice_set ws p v) (start j + k)) at
        ∙ get_or-set_same ws (start j + k) v 0 l
        ∙ sym (cond-true (nat_eq i j && nat_eq a k) v old (and_from (nat_eq i j) (nat_eq a k) (eq-eqb i j one) (eq-eqb a k same))))
        (λ other.
        get_or-set_other ws (start i + a) (start j + k) v 0 (λ q. other (let s = ap start one in omega arith))
        ∙ sym (cond-false (nat_eq i j && nat_eq a k) v old (and_right (nat_eq i j) (nat_eq a k) (ne_eqb a k other))))
        (cases_eq a k))
        (λ other.
        get_or-set_other ws (start i + a) (start j + k) v 0 (λ q. other (apart i a (ltb-true a (size i) e) (sym q)))
        ∙ sym (cond-false (nat_eq i j && nat_eq a k) v old (and_left (nat_eq i j) (nat_eq a k) (ne_eqb i j other))))
        (cases_eq i j)
    store_by false i a v ws e l =
        let old = slice_index ws (start j + k) in
        ⊎_elim
        (λ one. ⊎_elim
        (λ same. absurd (not_less a (size i) e (let s = ap size one in omega arith)))
        (λ other. sym (cond-false (nat_eq i j && nat_eq a k) v old (and_right (nat_eq i j) (nat_eq a k) (ne_eqb a k other))))
        (cases_eq a k))
        (λ other. sym (cond-false (nat_eq i j && nat_eq a k) v old (and_left (nat_eq i j) (nat_eq a k) (ne_eqb i j other))))
        (cases_eq i j)

    stored_own : (ws : List ℕ) (e : Effect) → start j + k < length ws
        → slice_index (stored_word m spot (with_words f ws) e) (start j + k) ≡ stored_by (reading spot f) e j k (slice_index ws (start j + k))
    stored_own ws (Set x y) l = refl
    stored_own ws (Store i x y) l =
        store_by (nat_lt (slice_index f.numbers (spot.base + x)) (size i)) i (slice_index f.numbers (spot.base + x)) (slice_index f.numbers (spot.base + y)) ws refl l
    stored_own ws (Write text arguments) l = refl

    act_own_by : (b c : Bool) (ws : List ℕ) (e : Effect) → b ≡ c → start j + k < length ws
        → slice_index (if b then stored_word m spot (with_words f ws) e else ws) (start j + k)
        ≡ (if c then stored_by (reading spot f) e j k (slice_index ws (start j + k)) else slice_index ws (start j + k))
    act_own_by true true ws e q l = stored_own ws e l
    act_own_by false false ws e q l = refl
    act_own_by true false ws e q l = absurd cc
    act_own_by false true ws e q l = absurd cc

    pub acted_own : (actions : List Action) (ws : List ℕ) → start j + k < length ws
        → slice_index (acted_words m spot (with_words f ws) actions) (start j + k) ≡ word_after (reading spot f) actions j k (slice_index ws (start j + k))
    acted_own [] ws l = refl
    acted_own (a ∷ actions) ws l =
        acted_own actions (act_word m spot (with_words f ws) a) (subst (λ (n : ℕ). start j + k < n) (sym (act_length ws a)) l)
        ∙ ap (word_after (reading spot f) actions j k)
        (act_own_by (is_on (reading spot (with_words f ws)) a.conditions) (is_on (reading spot f) a.conditions) ws a.effect (same_on spot f ws a.conditions) l)

  -- ---- a place of another instance

  abbrev pub Misses : ℕ → Effect → Type 0
  Misses p (Set x y) = Unit {0}
  Misses p (Store j x y) = (a : ℕ) → a < size j → p ≡ start j + a → ⊥
  Misses p (Write text arguments) = Unit {0}

  store_missed : (b : Bool) (p j a v : ℕ) (ws : List ℕ) → nat_lt a (size j) ≡ b → ((c : ℕ) → c < size j → p ≡ start j + c → ⊥)
      → slice_index (if b then slice_set ws (start j + a) v else ws) p ≡ slice_index ws p
  store_missed true p j a v ws e misses = get_or-set_other ws (start j + a) p v 0 (misses a (ltb-true a (size j) e))
  store_missed false p j a v ws e misses = refl

  stored_missed : (p : ℕ) (ws : List ℕ) (e : Effect) → Misses p e → slice_index (stored_word m spot (with_words f ws) e) p ≡ slice_index ws p
  stored_missed p ws (Set x y) misses = refl
  stored_missed p ws (Store j x y) misses =
      store_missed (nat_lt (slice_index f.numbers (spot.base + x)) (size j)) p j (slice_index f.numbers (spot.base + x)) (slice_index f.numbers (spot.base + y)) ws refl misses
  stored_missed p ws (Write text arguments) misses = refl

  act_missed_by : (b : Bool) (p : ℕ) (ws : List ℕ) (e : Effect) → Misses p e → slice_index (if b then stored_word m spot (with_words f ws) e else ws) p ≡ slice_index ws p
  act_missed_by true p ws e misses = stored_missed p ws e misses
  act_missed_by false p ws e misses = refl

  pub acted_missed : (p : ℕ) (actions : List Action) (ws : List ℕ) → EachOf (λ (a : Action). Misses p a.effect) actions
      → slice_index (acted_words m spot (with_words f ws) actions) p ≡ slice_index ws p
  acted_missed p [] ws misses = refl
  acted_missed p (a ∷ actions) ws misses =
      acted_missed p actions (act_word m spot (with_words f ws) a) misses.1
      ∙ act_missed_by (is_on (reading spot (with_words f ws)) a.conditions) p ws a.effect misses.0

module _ (modules : List Module) (f : Flat) where
  abbrev pub PartMisses : ℕ → Part → Type 0
  PartMisses place p = (m : Module) → slice_get modules p.module ≡ Some m → EachOf (λ (a : Action). Misses m p.spot f place a.effect) m.actions

  part_length : (p : Part) (ws : List ℕ) (o : Option Module) → length (part_words p (with_words f ws) o) ≡ length ws
  part_length p ws None = refl
  part_length p ws (Some m) = acted_length m p.spot f m.actions ws

  pub all_length : (parts : List Part) (ws : List ℕ) → length (all_words modules (with_words f ws) parts) ≡ length ws
  all_length [] ws = refl
  all_length (p ∷ parts) ws = all_length parts (part_words p (with_words f ws) (slice_get modules p.module)) ∙ part_length p ws (slice_get modules p.module)

  part_missed : (place : ℕ) (p : Part) (ws : List ℕ) (o : Option Module) → slice_get modules p.module ≡ o → PartMisses place p
      → slice_index (part_words p (with_words f ws) o) place ≡ slice_index ws place
  part_missed place p ws None e misses = refl
  part_missed place p ws (Some m) e misses = acted_missed m p.spot f place m.actions ws (misses m e)

  all_missed : (place : ℕ) (parts : List Part) (ws : List ℕ) → ((q : ℕ) (p : Part) → slice_get parts q ≡ Some p → PartMisses place p)
      → slice_index (all_words modules (with_words f ws) parts) place ≡ slice_index ws place
  all_missed place [] ws misses = refl
  all_missed place (p ∷ parts) ws misses =
      all_missed place parts (part_words p (with_words f ws) (slice_get modules p.module)) (λ q o at. misses (suc q) o at)
      ∙ part_missed place p ws (slice_get modules p.module) refl (misses 0 p refl)

  -- what the edge leaves in word k of memory j of one part, where no other memory has its place
  pub all_word : (parts : List Part) (q : ℕ) (p : Part) (m : Module) (j k : ℕ) (ws : List ℕ) → slice_get parts q ≡ Some p → slice_get modules p.module ≡ Some m
      → k < size m p.spot f j → ((i a : ℕ) → a < size m p.spot f i → start m p.spot f i + a ≡ start m p.spot f j + k → i ≡ j) → start m p.spot f j + k < length ws
      → ((o : ℕ) (other : Part) → slice_get parts o ≡ Some other → (o ≡ q → ⊥) → PartMisses (start m p.spot f j + k) other)
      → slice_index (all_words modules (with_words f ws) parts) (start m p.spot f j + k) ≡ word_after (reading p.spot f) m.actions j k (slice_index ws (start m p.spot f j + k))
  all_word [] q p m j k ws at kind small apart l misses = absurd cc
  all_word (t ∷ parts) zero p m j k ws at kind small apart l misses =
      let same : t ≡ p = cc in
      let place = start m p.spot f j + k in
      let here : part_words t (with_words f ws) (slice_get modules t.module) ≡ acted_words m p.spot (with_words f ws) m.actions =
      ap (λ (u : Part). part_words u (with_words f ws) (slice_get modules u.module)) same ∙ ap (part_words p (with_words f ws)) kind in
      all_missed place parts (part_words t (with_words f ws) (slice_get modules t.module)) (λ o other there. misses (suc o) other there (λ e. absurd (omega arith)))
      ∙ ap (λ (xs : List ℕ). slice_index xs place) here
      ∙ acted_own m p.spot f j k small apart m.actions ws l
  all_word (t ∷ parts) (suc q) p m j k ws at kind small apart l misses =
      let place = start m p.spot f j + k in
      let next = part_words t (with_words f ws) (slice_get modules t.module) in
      all_word parts q p m j k next at kind small apart (subst (λ (n : ℕ). place < n) (sym (part_length t ws (slice_get modules t.module))) l)
      (λ o other there other_part. misses (suc o) other there (λ e. other_part (omega arith)))
      ∙ ap (word_after (reading p.spot f) m.actions j k) (part_missed place t ws (slice_get modules t.module) refl (misses 0 t refl (λ e. absurd (omega arith))))
