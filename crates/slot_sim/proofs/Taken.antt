-- What words become where some are taken over: those of the parts are the other's, and all others stay.
use Rattle.std.specs.Prelude.{◌≡◌, ◌≢◌, ℕ, zero, suc, ◌+◌, ◌<◌, List, [], ◌∷◌, length, Option, Some, None, slice_get, slice_index, slice_set, refl}
use Rattle.std.proofs.Common.{ap, sym, ◌∙◌, subst, ⊎_elim, arith}
use Rattle.std.proofs.lemmas.List.{get_or-set_same, get_or-set_other}
use Rattle.std.proofs.Math.ListN.{length-set}
use Rattle.std.proofs.lemmas.Bool.{cases_eq}
use Rattle.netlist.specs.declared.netlist.Memory.{Memory}
use Rattle.netlist.specs.declared.netlist.Module.{Module}
use Rattle.sim_values.specs.declared.edge.Part.{Part}
use Rattle.sim_layout.specs.Running.{IsPart}
use Rattle.slot_sim.specs.Taking.{taken, taken_memories, taken_numbers_of, taken_words_of, taken_numbers_at, taken_words_at, taken_numbers, taken_words}

-- ---- words from a place on

pub taken_long : {X : Type 0} (xs ys : List ℕ) (p : ℕ) (ws : List X) → length (taken xs ys p ws) ≡ length ys
taken_long xs ys p [] = refl
taken_long xs ys p (w ∷ ws) = taken_long xs (slice_set ys p (slice_index xs p)) (p + 1) ws ∙ length-set ys p (slice_index xs p)

one_stays : (xs ys : List ℕ) (p z : ℕ) → z < length ys → slice_index ys z ≡ slice_index xs z → slice_index (slice_set ys p (slice_index xs p)) z ≡ slice_index xs z
one_stays xs ys p z l e = ⊎_elim
    (λ same. ap (slice_index (slice_set ys p (slice_index xs p))) same ∙ get_or-set_same ys p (slice_index xs p) 0 (subst (λ k. k < length ys) same l) ∙ ap (slice_index xs) (sym same))
    (λ apart. get_or-set_other ys p z (slice_index xs p) 0 apart ∙ e)
    (cases_eq z p)

stays : {X : Type 0} (xs ys : List ℕ) (p : ℕ) (ws : List X) (z : ℕ) → z < length ys → slice_index ys z ≡ slice_index xs z → slice_index (taken xs ys p ws) z ≡ slice_index xs z
stays xs ys p [] z l e = e
stays xs ys p (w ∷ ws) z l e =
    stays xs (slice_set ys p (slice_index xs p)) (p + 1) ws z (subst (λ k. z < k) (sym (length-set ys p (slice_index xs p))) l) (one_stays xs ys p z l e)

inside : {X : Type 0} (xs ys : List ℕ) (p : ℕ) (ws : List X) (x : ℕ) → x < length ws → p + x < length ys → slice_index (taken xs ys p ws) (p + x) ≡ slice_index xs (p + x)
inside xs ys p [] x less l = absurd (omega arith)
inside xs ys p (w ∷ ws) zero less l =
    let same : p + 0 ≡ p = omega arith in
    let set : slice_index (slice_set ys p (slice_index xs p)) (p + 0) ≡ slice_index xs (p + 0) =
    ap (slice_index (slice_set ys p (slice_index xs p))) same ∙ get_or-set_same ys p (slice_index xs p) 0 (subst (λ k. k < length ys) same l) ∙ ap (slice_index xs) (sym same) in
    stays xs (slice_set ys p (slice_index xs p)) (p + 1) ws (p + 0) (subst (λ k. p + 0 < k) (sym (length-set ys p (slice_index xs p))) l) set
inside xs ys p (w ∷ ws) (suc x) less l =
    let same : (p + 1) + x ≡ p + suc x = omega arith in
    let low : (p + 1) + x < length (slice_set ys p (slice_index xs p)) = (let e = length-set ys p (slice_index xs p) in omega (arith, e, l)) in
    subst (λ z. slice_index (taken xs (slice_set ys p (slice_index xs p)) (p + 1) ws) z ≡ slice_index xs z) same
    (inside xs (slice_set ys p (slice_index xs p)) (p + 1) ws x (omega arith) low)

outside : {X : Type 0} (xs ys : List ℕ) (p : ℕ) (ws : List X) (z : ℕ) → ((x : ℕ) → x < length ws → z ≢ p + x) → slice_index (taken xs ys p ws) z ≡ slice_index ys z
outside xs ys p [] z apart = refl
outside xs ys p (w ∷ ws) z apart =
    let first : z ≢ p = (λ e. apart 0 (omega arith) (let here : p ≡ p + 0 = omega arith in e ∙ here)) in
    outside xs (slice_set ys p (slice_index xs p)) (p + 1) ws z (λ x l e. apart (suc x) (omega arith) (let there : (p + 1) + x ≡ p + suc x = omega arith in e ∙ there))
    ∙ get_or-set_other ys p z (slice_index xs p) 0 first

-- ---- memories that stand one behind the other

pub memories_long : (xs ys starts : List ℕ) (first : ℕ) (memories : List Memory) → length (taken_memories xs ys starts first memories) ≡ length ys
memories_long xs ys starts first [] = refl
memories_long xs ys starts first (m ∷ memories) =
    memories_long xs (taken xs ys (slice_index starts first) m.initial) starts (first + 1) memories ∙ taken_long xs ys (slice_index starts first) m.initial

memories_stay : (xs ys starts : List ℕ) (first : ℕ) (memories : List Memory) (z : ℕ) → z < length ys → slice_index ys z ≡ slice_index xs z
    → slice_index (taken_memories xs ys starts first memories) z ≡ slice_index xs z
memories_stay xs ys starts first [] z l e = e
memories_stay xs ys starts first (m ∷ memories) z l e =
    let p = slice_index starts first in
    let n = m.initial in
    memories_stay xs (taken xs ys p n) starts (first + 1) memories z (subst (λ k. z < k) (sym (taken_long xs ys p n)) l) (stays xs ys p n z l e)

memories_inside : (xs ys starts : List ℕ) (first : ℕ) (memories : List Memory) (j k : ℕ) (s : Memory) → slice_get memories j ≡ Some s → k < length s.initial
    → slice_index starts (first + j) + k < length ys → slice_index (taken_memories xs ys starts first memories) (slice_index starts (first + j) + k) ≡ slice_index xs
    (slice_index starts (first + j) + k)
memories_inside xs ys starts first [] j k s at less l = absurd cc
memories_inside xs ys starts first (m ∷ memories) zero k s at less l =
    let same : m ≡ s = cc in
    let here : first + 0 ≡ first = omega arith in
    let p = slice_index starts first in
    let n = m.initial in
    let low : k < length m.initial = subst (λ (t : Memory). k < length t.initial) (sym same) less in
    subst (λ f. slice_index (taken_memories xs (taken xs ys p n) starts (first + 1) memories) (slice_index starts f + k) ≡ slice_index xs (slice_index starts f + k)) (sym here)
    (let l' : p + k < length ys = subst (λ f. slice_index starts f + k < length ys) here l in
    memories_stay xs (taken xs ys p n) starts (first + 1) memories (p + k) (subst (λ z. p + k < z) (sym (taken_long xs ys p n)) l') (inside xs ys p n k low l'))
memories_inside xs ys starts first (m ∷ memories) (suc j) k s at less l =
    let there : (first + 1) + j ≡ first + suc j = omega arith in
    let p = slice_index starts first in
    let n = m.initial in
    subst (λ f. slice_index (taken_memories xs (taken xs ys p n) starts (first + 1) memories) (slice_index starts f + k) ≡ slice_index xs (slice_index starts f + k)) there
    (memories_inside xs (taken xs ys p n) starts (first + 1) memories j k s at less
    (subst (λ z. slice_index starts ((first + 1) + j) + k < z) (sym (taken_long xs ys p n)) (subst (λ f. slice_index starts f + k < length ys) (sym there) l)))

memories_outside : (xs ys starts : List ℕ) (first : ℕ) (memories : List Memory) (z : ℕ)
    → ((j k : ℕ) (s : Memory) → slice_get memories j ≡ Some s → k < length s.initial → z ≢ slice_index starts (first + j) + k)
    → slice_index (taken_memories xs ys starts first memories) z ≡ slice_index ys z
memories_outside xs ys starts first [] z apart = refl
memories_outside xs ys starts first (m ∷ memories) z apart =
    let p = slice_index starts first in
    let n = m.initial in
    memories_outside xs (taken xs ys p n) starts (first + 1) memories z
    (λ j k s at l e. apart (suc j) k s at l (let there : (first + 1) + j ≡ first + suc j = omega arith in e ∙ ap (λ f. slice_index starts f + k) there))
    ∙ outside xs ys p n z (λ k l e. apart 0 k m refl l (let here : first ≡ first + 0 = omega arith in e ∙ ap (λ f. slice_index starts f + k) here))

-- ---- parts

module _ (modules : List Module) (parts : List Part) (xs : List ℕ) where
  -- the word at a place is none of the signals of the parts at some places
  abbrev pub NoSignal : List ℕ → ℕ → Type 0
  NoSignal places z = (k q : ℕ) → slice_get places k ≡ Some q → (p : Part) (m : Module) → IsPart modules parts q p m → (x : ℕ) → x < length m.signals → z ≢ p.spot.base + x

  at_long : (ys : List ℕ) (o : Option Part) → length (taken_numbers_at modules xs ys o) ≡ length ys
  at_long ys None = refl
  at_long ys (Some p) = of_long (slice_get modules p.module)
    where
      of_long : (m : Option Module) → length (taken_numbers_of xs ys p m) ≡ length ys
      of_long None = refl
      of_long (Some m) = taken_long xs ys p.spot.base m.signals

  at_stays : (ys : List ℕ) (o : Option Part) (z : ℕ) → z < length ys → slice_index ys z ≡ slice_index xs z → slice_index (taken_numbers_at modules xs ys o) z ≡ slice_index xs z
  at_stays ys None z l e = e
  at_stays ys (Some p) z l e = of_stays (slice_get modules p.module)
    where
      of_stays : (m : Option Module) → slice_index (taken_numbers_of xs ys p m) z ≡ slice_index xs z
      of_stays None = e
      of_stays (Some m) = stays xs ys p.spot.base m.signals z l e

  at_outside : (ys : List ℕ) (q : ℕ) (o : Option Part) → slice_get parts q ≡ o → (z : ℕ)
      → ((p : Part) (m : Module) → IsPart modules parts q p m → (x : ℕ) → x < length m.signals → z ≢ p.spot.base + x) → slice_index (taken_numbers_at modules xs ys o) z ≡ slice_index ys z
  at_outside ys q None e z apart = refl
  at_outside ys q (Some p) e z apart = of_outside (slice_get modules p.module) refl
    where
      of_outside : (m : Option Module) → slice_get modules p.module ≡ m → slice_index (taken_numbers_of xs ys p m) z ≡ slice_index ys z
      of_outside None is = refl
      of_outside (Some m) is = outside xs ys p.spot.base m.signals z (apart p m (record { listed = e; kind = is }))

  numbers_stay : (ys places : List ℕ) (z : ℕ) → z < length ys → slice_index ys z ≡ slice_index xs z → slice_index (taken_numbers modules parts xs ys places) z ≡ slice_index xs z
  numbers_stay ys [] z l e = e
  numbers_stay ys (q ∷ places) z l e =
      numbers_stay (taken_numbers_at modules xs ys (slice_get parts q)) places z (subst (λ k. z < k) (sym (at_long ys (slice_get parts q))) l) (at_stays ys (slice_get parts q) z l e)

  pub numbers_inside : (ys places : List ℕ) (k q : ℕ) (p : Part) (m : Module) → slice_get places k ≡ Some q → IsPart modules parts q p m → (x : ℕ) → x < length m.signals
      → p.spot.base + x < length ys → slice_index (taken_numbers modules parts xs ys places) (p.spot.base + x) ≡ slice_index xs (p.spot.base + x)
  numbers_inside ys [] k q p m at is x less l = absurd cc
  numbers_inside ys (r ∷ places) zero q p m at is x less l =
      let same : r ≡ q = cc in
      let whole : taken_numbers_at modules xs ys (slice_get parts r) ≡ taken xs ys p.spot.base m.signals =
      ap (λ k. taken_numbers_at modules xs ys (slice_get parts k)) same ∙ ap (taken_numbers_at modules xs ys) is.listed ∙ ap (taken_numbers_of xs ys p) is.kind in
      subst (λ ws. slice_index (taken_numbers modules parts xs ws places) (p.spot.base + x) ≡ slice_index xs (p.spot.base + x)) (sym whole)
      (numbers_stay (taken xs ys p.spot.base m.signals) places (p.spot.base + x) (subst (λ k. p.spot.base + x < k) (sym (taken_long xs ys p.spot.base m.signals)) l)
      (inside xs ys p.spot.base m.signals x less l))
  numbers_inside ys (r ∷ places) (suc k) q p m at is x less l =
      numbers_inside (taken_numbers_at modules xs ys (slice_get parts r)) places k q p m at is x less (subst (λ n. p.spot.base + x < n) (sym (at_long ys (slice_get parts r))) l)

  pub numbers_outside : (ys places : List ℕ) (z : ℕ) → NoSignal places z → slice_index (taken_numbers modules parts xs ys places) z ≡ slice_index ys z
  numbers_outside ys [] z apart = refl
  numbers_outside ys (q ∷ places) z apart =
      numbers_outside (taken_numbers_at modules xs ys (slice_get parts q)) places z (λ k r at. apart (suc k) r at)
      ∙ at_outside ys q (slice_get parts q) refl z (apart 0 q refl)

module _ (modules : List Module) (parts : List Part) (starts xs : List ℕ) where
  -- the word at a place is none of the memory words of the parts at some places
  abbrev pub NoWord : List ℕ → ℕ → Type 0
  NoWord places z = (k q : ℕ) → slice_get places k ≡ Some q → (p : Part) (m : Module) → IsPart modules parts q p m → (j i : ℕ) (s : Memory) → slice_get m.memories j ≡ Some s → i < length s.initial
      → z ≢ slice_index starts (p.spot.memories + j) + i

  words_at_long : (ys : List ℕ) (o : Option Part) → length (taken_words_at modules xs ys starts o) ≡ length ys
  words_at_long ys None = refl
  words_at_long ys (Some p) = of_long (slice_get modules p.module)
    where
      of_long : (m : Option Module) → length (taken_words_of xs ys starts p m) ≡ length ys
      of_long None = refl
      of_long (Some m) = memories_long xs ys starts p.spot.memories m.memories

  words_at_stay : (ys : List ℕ) (o : Option Part) (z : ℕ) → z < length ys → slice_index ys z ≡ slice_index xs z → slice_index (taken_words_at modules xs ys starts o) z ≡ slice_index xs z
  words_at_stay ys None z l e = e
  words_at_stay ys (Some p) z l e = of_stay (slice_get modules p.module)
    where
      of_stay : (m : Option Module) → slice_index (taken_words_of xs ys starts p m) z ≡ slice_index xs z
      of_stay None = e
      of_stay (Some m) = memories_stay xs ys starts p.spot.memories m.memories z l e

  words_at_outside : (ys : List ℕ) (q : ℕ) (o : Option Part) → slice_get parts q ≡ o → (z : ℕ)
      → ((p : Part) (m : Module) → IsPart modules parts q p m → (j i : ℕ) (s : Memory) → slice_get m.memories j ≡ Some s → i < length s.initial → z ≢ slice_index starts (p.spot.memories + j) + i)
      → slice_index (taken_words_at modules xs ys starts o) z ≡ slice_index ys z
  words_at_outside ys q None e z apart = refl
  words_at_outside ys q (Some p) e z apart = of_outside (slice_get modules p.module) refl
    where
      of_outside : (m : Option Module) → slice_get modules p.module ≡ m → slice_index (taken_words_of xs ys starts p m) z ≡ slice_index ys z
      of_outside None is = refl
      of_outside (Some m) is = memories_outside xs ys starts p.spot.memories m.memories z (apart p m (record { listed = e; kind = is }))

  words_stay : (ys places : List ℕ) (z : ℕ) → z < length ys → slice_index ys z ≡ slice_index xs z → slice_index (taken_words modules parts starts xs ys places) z ≡ slice_index xs z
  words_stay ys [] z l e = e
  words_stay ys (q ∷ places) z l e =
      words_stay (taken_words_at modules xs ys starts (slice_get parts q)) places z (subst (λ k. z < k) (sym (words_at_long ys (slice_get parts q))) l) (words_at_stay ys (slice_get parts q) z l e)

  pub words_inside : (ys places : List ℕ) (k q : ℕ) (p : Part) (m : Module) → slice_get places k ≡ Some q → IsPart modules parts q p m → (j i : ℕ) (s : Memory) → slice_get m.memories j ≡ Some s
      → i < length s.initial → slice_index starts (p.spot.memories + j) + i < length ys
      → slice_index (taken_words modules parts starts xs ys places) (slice_index starts (p.spot.memories + j) + i) ≡ slice_index xs (slice_index starts (p.spot.memories + j) + i)
  words_inside ys [] k q p m at is j i s of less l = absurd cc
  words_inside ys (r ∷ places) zero q p m at is j i s of less l =
      let same : r ≡ q = cc in
      let z = slice_index starts (p.spot.memories + j) + i in
      let ms = taken_memories xs ys starts p.spot.memories m.memories in
      let whole : taken_words_at modules xs ys starts (slice_get parts r) ≡ taken_memories xs ys starts p.spot.memories m.memories =
      ap (λ k. taken_words_at modules xs ys starts (slice_get parts k)) same ∙ ap (taken_words_at modules xs ys starts) is.listed ∙ ap (taken_words_of xs ys starts p) is.kind in
      subst (λ ws. slice_index (taken_words modules parts starts xs ws places) z ≡ slice_index xs z) (sym whole)
      (words_stay ms places z (subst (λ k. z < k) (sym (memories_long xs ys starts p.spot.memories m.memories)) l)
      (memories_inside xs ys starts p.spot.memories m.memories j i s of less l))
  words_inside ys (r ∷ places) (suc k) q p m at is j i s of less l =
      words_inside (taken_words_at modules xs ys starts (slice_get parts r)) places k q p m at is j i s of less
      (subst (λ n. slice_index starts (p.spot.memories + j) + i < n) (sym (words_at_long ys (slice_get parts r))) l)

  pub words_outside : (ys places : List ℕ) (z : ℕ) → NoWord places z → slice_index (taken_words modules parts starts xs ys places) z ≡ slice_index ys z
  words_outside ys [] z apart = refl
  words_outside ys (q ∷ places) z apart =
      words_outside (taken_words_at modules xs ys starts (slice_get parts q)) places z (λ k r at. apart (suc k) r at)
      ∙ words_at_outside ys q (slice_get parts q) refl z (apart 0 q refl)
