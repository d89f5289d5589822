-- Each register and each word has its initial constant, one alone, that fits.
use Rattle.std.proofs.Common.{◌≡◌, ℕ, zero, suc, ◌+◌, ◌-◌, ◌^◌, ◌<◌, ◌≤◌, List, [], ◌∷◌, ◌++◌, Bool, true}
use Rattle.std.proofs.Common.{Option, Some, None, refl, sym, ap, ◌∙◌, subst, inl, inr, length, map, add-zero, zero-add, arith}
use Rattle.std.specs.Prelude.{slice_get, not, nat_eq, nat_lt, ◌==◌, ◌&&◌}
use Rattle.std.specs.List.{flat_map}
use Rattle.std.specs.Bool.{Decides}
use Rattle.std.specs.Option.{option_eq}
use Rattle.std.specs.Str.{bytes_eq}
use Rattle.std.proofs.lemmas.Slice.Eq.{bytes_eq-Decides}
use Rattle.std.proofs.lemmas.Bool.{eqb-true, eq-eqb, and_parts}
use Rattle.std.proofs.lemmas.Bool.Decides.{nat_tests}
use Rattle.std.proofs.lemmas.Option.{same_Some, none-some, slice_get_within}
use Rattle.std.proofs.lemmas.List.{map-append}
use Rattle.verilog_tree.specs.declared.tree.InitialConstant.{InitialConstant}
use Rattle.verilog_tree.specs.Scope as scope
use Rattle.verilog_tree.specs.Scope.{Name, Scope}
use Rattle.verilog_tree.specs.Rules as rules
use Rattle.verilog_tree.specs.Rules.{all_right}
use Rattle.verilog_tree.specs.Facts.{Place, same_place, is_place, with_place, place_of, words_below}
use Rattle.verilog_tree.specs.WellFormed.{are_new_places}
use Rattle.verilog_tree.proofs.Tests.{and_both}
use Rattle.netlist.specs.declared.netlist.Source.{Source}
use Rattle.netlist.specs.declared.netlist.Source.TheVariants as source
use Rattle.netlist.specs.declared.netlist.Signal.{Signal}
use Rattle.netlist.specs.declared.netlist.Memory.{Memory}
use Rattle.netlist.specs.declared.netlist.Module.{Module}
use Rattle.netlist.specs.Laid.{AreApart, declared_names}
use Rattle.netlist.specs.Sound as sound
use Rattle.netlist_text.specs.LaidOut as laid
use Rattle.netlist_text.proofs.Places.{get_either}
use Rattle.netlist_text.proofs.Members.{In, IsApart, in_none, in_one, in_first, in_rest, in_front, in_back}
use Rattle.netlist_text.proofs.Members.{in_either, in_map, in_flat, in_unflat, with_new_in, not_holds, apart_tail}
use Rattle.netlist_text.proofs.Slots.{same_signal, same_memory}
use Rattle.netlist_text.proofs.Widths.{KnowsNames, register_told, memory_width_of}
use Rattle.netlist_text.proofs.Drives.{one_apart}
use Rattle.netlist_text.proofs.Ties.{all_in}

-- ---- places

same_word_decides : (a b : Option ℕ) → Decides (option_eq nat_eq a b) (a ≡ b)
same_word_decides None None = (λ h. refl, λ h. refl)
same_word_decides None (Some y) = (λ h. cc, λ h. cc)
same_word_decides (Some x) None = (λ h. cc, λ h. cc)
same_word_decides (Some x) (Some y) = (λ h. ap Some (eqb-true x y h), λ h. eq-eqb x y (same_Some x y h))

pair_is : (p q : Place) → p.0 ≡ q.0 → p.1 ≡ q.1 → p ≡ q
pair_is p q a b = let make : Name → Option ℕ → Place = λ x y. (x, y) in ap (λ x. make x p.1) a ∙ ap (make q.0) b

pub place_decides : (p q : Place) → Decides (same_place p q) (p ≡ q)
place_decides p q = (
  λ h. (let a : p.0 ≡ q.0 = (bytes_eq-Decides p.0 q.0).0 (and_parts _ _ h).0 in
      let b : p.1 ≡ q.1 = (same_word_decides p.1 q.1).0 (and_parts (bytes_eq p.0 q.0) _ h).1 in
      pair_is p q a b),
  λ h. and_both _ _ ((bytes_eq-Decides p.0 q.0).1 (ap (λ (x : Place). x.0) h)) ((same_word_decides p.1 q.1).1 (ap (λ (x : Place). x.1) h)),
)

places_new : (given : List Place) (xs : List InitialConstant) → ((x : InitialConstant) → In xs x → In given (place_of x) → ⊥) → IsApart (map place_of xs) → are_new_places given xs ≡ true
places_new given [] none apart = refl
places_new given (x ∷ xs) none apart =
    and_both _ _ (ap not (not_holds same_place place_decides given (place_of x) (λ p. none x (in_first x xs) p)))
    (places_new (with_place given (place_of x)) xs (λ z p q. elim (with_new_in same_place place_decides given (place_of x) (place_of z) q) [
      | inl r ↦ none z (in_rest x z xs p) r
      | inr e ↦ (let there = in_map place_of xs z p in
          let f : 0 ≡ suc there.at = apart 0 (suc there.at) (place_of z) (ap Some e) there.found in absurd (omega arith))
    ]) (apart_tail (place_of x) (map place_of xs) apart))

-- ---- lists that stand apart

apart_append : {A : Type 0} (xs ys : List A) → IsApart xs → IsApart ys → ((z : A) → In xs z → In ys z → ⊥) → IsApart (xs ++ ys)
apart_append xs ys a b none = λ i j z p q. elim (get_either xs ys i z p) [
  | inl u ↦ elim (get_either xs ys j z q) [
    | inl w ↦ a i j z u w
    | inr w ↦ absurd (none z (record { at = i; found = u }) (record { at = w.at; found = w.found }))
  ]
  | inr u ↦ elim (get_either xs ys j z q) [
    | inl w ↦ absurd (none z (record { at = j; found = w }) (record { at = u.at; found = u.found }))
    | inr w ↦ (let e : u.at ≡ w.at = b u.at w.at z u.found w.found in u.is ∙ ap (λ k. length xs + k) e ∙ sym w.is)
  ]
]

flat_apart : {A B : Type 0} (f : A → List B) (xs : List A) → ((k : ℕ) (x : A) → slice_get xs k ≡ Some x → IsApart (f x))
    → ((i j : ℕ) (x y : A) (z : B) → slice_get xs i ≡ Some x → slice_get xs j ≡ Some y → In (f x) z → In (f y) z → i ≡ j) → IsApart (flat_map f xs)
flat_apart f [] within between = λ i j x p q. absurd (none-some x p)
flat_apart f (x ∷ xs) within between =
    apart_append (f x) (flat_map f xs) (within 0 x refl)
    (flat_apart f xs (λ k y h. within (suc k) y h) (λ i j y z w p q a b. let e : suc i ≡ suc j = between (suc i) (suc j) y z w p q a b in omega arith))
    (λ z p q. (let u = in_unflat f xs z q in let e : 0 ≡ suc u.at = between 0 (suc u.at) x u.x z refl u.found p u.inside in absurd (omega arith)))

map_flat : {A B C : Type 0} (g : B → C) (f : A → List B) (xs : List A) → map g (flat_map f xs) ≡ flat_map (λ x. map g (f x)) xs
map_flat g f [] = refl
map_flat g f (x ∷ xs) = map-append g (f x) (flat_map f xs) ∙ ap (λ l. map g (f x) ++ l) (map_flat g f xs)

-- ---- constants of registers

register_by : (s : Signal) (from : Source) (c : InitialConstant) → In (laid.register_by s from) c
    → (v : ℕ) × (from ≡ source.Register v) × (c ≡ record { name = s.name; word = None; value = laid.sized s.width v })
register_by s source.Input c h = absurd (in_none c h)
register_by s (source.Register v) c h = (v, refl, sym (in_one _ c h))
register_by s (source.Assigned right) c h = absurd (in_none c h)
register_by s (source.Port j port) c h = absurd (in_none c h)

register_here : (s : Signal) (from : Source) (v : ℕ) → from ≡ source.Register v → In (map place_of (laid.register_by s from)) (s.name, None)
register_here s source.Input v e = cc
register_here s (source.Register w) v e = in_first (s.name, None) []
register_here s (source.Assigned right) v e = cc
register_here s (source.Port j port) v e = cc

register_place : (s : Signal) (from : Source) (p : Place) → In (map place_of (laid.register_by s from)) p → p ≡ (s.name, None)
register_place s source.Input p h = absurd (in_none p h)
register_place s (source.Register v) p h = sym (in_one _ p h)
register_place s (source.Assigned right) p h = absurd (in_none p h)
register_place s (source.Port j port) p h = absurd (in_none p h)

register_apart : (s : Signal) (from : Source) → IsApart (map place_of (laid.register_by s from))
register_apart s source.Input = λ i j x p q. absurd (none-some x p)
register_apart s (source.Register v) = one_apart (s.name, None)
register_apart s (source.Assigned right) = λ i j x p q. absurd (none-some x p)
register_apart s (source.Port j port) = λ i j x p q. absurd (none-some x p)

-- ---- constants of words

word_at : (c : Memory) (k : ℕ) (vs : List ℕ) (i : ℕ) (x : InitialConstant) → slice_get (laid.with_places (laid.word_constant c) k vs) i ≡ Some x
    → (v : ℕ) × (slice_get vs i ≡ Some v) × (x ≡ laid.word_constant c (k + i) v)
word_at c k [] i x h = absurd (none-some x h)
word_at c k (v ∷ vs) zero x h = (v, refl, sym (same_Some (laid.word_constant c k v) x h) ∙ ap (λ j. laid.word_constant c j v) (sym (add-zero k)))
word_at c k (v ∷ vs) (suc i) x h =
    let p = word_at c (k + 1) vs i x h in
    let e : k + 1 + i ≡ k + suc i = omega arith in (p.0, p.1, p.2 ∙ ap (λ j. laid.word_constant c j p.0) e)

word_place_at : (c : Memory) (k : ℕ) (vs : List ℕ) (i : ℕ) (p : Place) → slice_get (map place_of (laid.with_places (laid.word_constant c) k vs)) i ≡ Some p → p ≡ (c.name, Some (k + i))
word_place_at c k [] i p h = absurd (none-some p h)
word_place_at c k (v ∷ vs) zero p h = sym (same_Some (c.name, Some k) p h) ∙ ap (λ j. (c.name, Some j)) (sym (add-zero k))
word_place_at c k (v ∷ vs) (suc i) p h = let e : k + 1 + i ≡ k + suc i = omega arith in word_place_at c (k + 1) vs i p h ∙ ap (λ j. (c.name, Some j)) e

word_there : (c : Memory) (k : ℕ) (vs : List ℕ) (i : ℕ) → i < length vs → In (map place_of (laid.with_places (laid.word_constant c) k vs)) (c.name, Some (k + i))
word_there c k [] i lt = absurd (omega arith)
word_there c k (v ∷ vs) zero lt = record { at = 0; found = ap (λ j. Some (c.name, Some j)) (sym (add-zero k)) }
word_there c k (v ∷ vs) (suc i) lt =
    let p = word_there c (k + 1) vs i (omega arith) in
    let e : k + 1 + i ≡ k + suc i = omega arith in
    record { at = suc p.at; found = p.found ∙ ap (λ j. Some (c.name, Some j)) e }

words_apart : (c : Memory) (k : ℕ) (vs : List ℕ) → IsApart (map place_of (laid.with_places (laid.word_constant c) k vs))
words_apart c k vs = λ i j p a b.
    (let e : (c.name, Some (k + i)) ≡ (c.name, Some (k + j)) = sym (word_place_at c k vs i p a) ∙ word_place_at c k vs j p b in
    let f : k + i ≡ k + j = same_Some (k + i) (k + j) (ap (λ (x : Place). x.1) e) in omega arith)

all_at : {A : Type 0} (p : A → Bool) (xs : List A) (k : ℕ) (x : A) → all_right p xs ≡ true → slice_get xs k ≡ Some x → p x ≡ true
all_at p [] k x h q = absurd (none-some x q)
all_at p (y ∷ xs) zero x h q = ap p (sym (same_Some y x q)) ∙ (and_parts (p y) (all_right p xs) h).0
all_at p (y ∷ xs) (suc k) x h q = all_at p xs k x (and_parts (p y) (all_right p xs) h).1 q

-- ---- of a module

module _ (m : Module) (apart : AreApart (declared_names m)) where
  abbrev register_places : List Place
  register_places = flat_map (λ (s : Signal). map place_of (laid.register_constant s)) m.signals

  abbrev memory_places : List Place
  memory_places = flat_map (λ (c : Memory). map place_of (laid.memory_constants c)) m.memories

  places_are : map place_of (laid.constants m) ≡ register_places ++ memory_places
  places_are =
      map-append place_of (flat_map laid.register_constant m.signals) (flat_map laid.memory_constants m.memories)
      ∙ ap (λ l. l ++ map place_of (flat_map laid.memory_constants m.memories)) (map_flat place_of laid.register_constant m.signals)
      ∙ ap (λ l. register_places ++ l) (map_flat place_of laid.memory_constants m.memories)

  all_apart : IsApart (map place_of (laid.constants m))
  all_apart =
      let registers : IsApart register_places =
      flat_apart (λ (s : Signal). map place_of (laid.register_constant s)) m.signals (λ k s h. register_apart s s.source) (λ i j s t p a b c d.
      (let e : (s.name, None) ≡ (t.name, None) = sym (register_place s s.source p c) ∙ register_place t t.source p d in
      same_signal m apart i j s t a b (ap (λ (x : Place). x.0) e))) in
      let memories : IsApart memory_places =
      flat_apart (λ (c : Memory). map place_of (laid.memory_constants c)) m.memories (λ k c h. words_apart c 0 c.initial) (λ i j c d p a b u w.
      (let e : (c.name, Some (0 + u.at)) ≡ (d.name, Some (0 + w.at)) = sym (word_place_at c 0 c.initial u.at p u.found) ∙ word_place_at d 0 d.initial w.at p w.found in
      same_memory m apart i j c d a b (ap (λ (x : Place). x.0) e))) in
      subst (λ (l : List Place). IsApart l) (sym places_are) (apart_append register_places memory_places registers memories (λ p a b.
      (let u = in_unflat (λ (s : Signal). map place_of (laid.register_constant s)) m.signals p a in
      let w = in_unflat (λ (c : Memory). map place_of (laid.memory_constants c)) m.memories p b in
      let none : p.1 ≡ None = ap (λ (x : Place). x.1) (register_place u.x u.x.source p u.inside) in
      let some : p.1 ≡ Some (0 + w.inside.at) = ap (λ (x : Place). x.1) (word_place_at w.x 0 w.x.initial w.inside.at p w.inside.found) in
      none-some (0 + w.inside.at) (sym none ∙ some))))

  pub constants_new : are_new_places [] (laid.constants m) ≡ true
  constants_new = places_new [] (laid.constants m) (λ x p q. in_none (place_of x) q) all_apart

  -- ---- each has one

  pub register_given : (k : ℕ) (s : Signal) (v : ℕ) → slice_get m.signals k ≡ Some s → s.source ≡ source.Register v → In (map place_of (laid.constants m)) (s.name, None)
  register_given k s v h e =
      subst (λ (l : List Place). In l (s.name, None)) (sym places_are)
      (in_front register_places memory_places (s.name, None) (in_flat (λ (s : Signal). map place_of (laid.register_constant s)) m.signals k s (s.name, None) h (register_here s s.source v e)))

  pub word_given : (j : ℕ) (c : Memory) (i : ℕ) → slice_get m.memories j ≡ Some c → i < length c.initial → In (map place_of (laid.constants m)) (c.name, Some i)
  word_given j c i h lt =
      subst (λ (l : List Place). In l (c.name, Some i)) (sym places_are)
      (in_back register_places memory_places (c.name, Some i) (in_flat (λ (c : Memory). map place_of (laid.memory_constants c)) m.memories j c (c.name, Some i) h
      (subst (λ (k : ℕ). In (map place_of (laid.memory_constants c)) (c.name, Some k)) (zero-add i) (word_there c 0 c.initial i lt))))

  -- ---- each fits

  module _ (sc : Scope) (knows : KnowsNames sc m) (fits : (k : ℕ) (s : Signal) → slice_get m.signals k ≡ Some s → sound.source_fits m s.source s.width ≡ true)
      (words : (j : ℕ) (c : Memory) → slice_get m.memories j ≡ Some c → all_right (λ n. nat_lt n (2 ^ c.width)) c.initial ≡ true) where
    register_right : (k : ℕ) (s : Signal) (v : ℕ) → slice_get m.signals k ≡ Some s → s.source ≡ source.Register v
        → rules.initial_constant_right sc (record { name = s.name; word = None; value = laid.sized s.width v }) ≡ true
    register_right k s v h e =
        let p = knows.plain k s h in
        let low : 1 ≤ s.width = p.low in
        let positive : nat_lt 0 s.width ≡ true = grind (arith, nat_tests) in
        let small : nat_lt v (2 ^ s.width) ≡ true = ap (λ f. sound.source_fits m f s.width) (sym e) ∙ fits k s h in
        let w : scope.register_width (scope.kind_of sc s.name) ≡ s.width =
        ap scope.register_width (knows.signal k s h) ∙ register_told m s p s.source s.is_output ∙ ap (sound.width_set m s.width) e in
        ap (λ r. nat_lt 0 r && (s.width == r && nat_lt v (2 ^ r))) w ∙ and_both _ _ positive (and_both _ _ (eq-eqb s.width s.width refl) small)

    word_right : (j : ℕ) (c : Memory) (i v : ℕ) → slice_get m.memories j ≡ Some c → slice_get c.initial i ≡ Some v → rules.initial_constant_right sc (laid.word_constant c i v) ≡ true
    word_right j c i v h q =
        let low : 1 ≤ c.width = knows.memory_low j c h in
        let positive : nat_lt 0 c.width ≡ true = grind (arith, nat_tests) in
        let count : 1 ≤ length c.initial = knows.memory_words j c h in
        let within : i < length c.initial = slice_get_within c.initial i v q in
        let e : length c.initial - 1 + 1 ≡ length c.initial = omega arith in
        let inside : nat_lt i (length c.initial - 1 + 1) ≡ true = ap (nat_lt i) e ∙ (let t : nat_lt i (length c.initial) ≡ true = grind (arith, nat_tests) in t) in
        let small : nat_lt v (2 ^ c.width) ≡ true = all_at (λ n. nat_lt n (2 ^ c.width)) c.initial i v (words j c h) q in
        let w : scope.width_of (Some (c.width - 1)) ≡ c.width = memory_width_of c.width low (knows.memory_high j c h) in
        ap (λ k. rules.place_right sc k (Some i) (laid.sized c.width v)) (knows.memory j c h)
        ∙ ap (λ r. nat_lt 0 r && (nat_lt i (length c.initial - 1 + 1) && (c.width == r && nat_lt v (2 ^ r)))) w
        ∙ and_both _ _ positive (and_both _ _ inside (and_both _ _ (eq-eqb c.width c.width refl) small))

    pub constants_right : all_right (rules.initial_constant_right sc) (laid.constants m) ≡ true
    constants_right = all_in (rules.initial_constant_right sc) (laid.constants m) (λ x p.
        elim (in_either (flat_map laid.register_constant m.signals) (flat_map laid.memory_constants m.memories) x p) [
          | inl q ↦ (let u = in_unflat laid.register_constant m.signals x q in
              let r = register_by u.x u.x.source x u.inside in
              ap (rules.initial_constant_right sc) r.2 ∙ register_right u.at u.x r.0 u.found r.1)
          | inr q ↦ (let u = in_unflat laid.memory_constants m.memories x q in
              let r = word_at u.x 0 u.x.initial u.inside.at x u.inside.found in
              ap (rules.initial_constant_right sc) r.2 ∙ ap (λ k. rules.initial_constant_right sc (laid.word_constant u.x k r.0)) (zero-add u.inside.at)
              ∙ word_right u.at u.x u.inside.at r.0 u.found r.1)
        ])

-- ---- words that are known

pub words_known : (places : List Place) (x : Name) (n : ℕ) → ((i : ℕ) → i < n → is_place places (x, Some i) ≡ true) → words_below places x n ≡ true
words_known places x zero h = refl
words_known places x (suc n) h = and_both _ _ (words_known places x n (λ i lt. h i (omega arith))) (h n (omega arith))
