-- The least place of which something holds.
use Rattle.std.proofs.Common.{◌≡◌, ℕ, zero, suc, ◌+◌, ◌<◌, ◌≤◌, Bool, true, false, ◌||◌, ◌&&◌, List, [], ◌∷◌, ◌++◌, take}
use Rattle.std.proofs.Common.{length, get_or, refl, ap, ap₂, sym, subst, ◌∙◌, arith, Option, Some, None, ◌⊎◌, inl, inr}
use Rattle.std.specs.Prelude.{nat_eq, if◌then◌else◌, Contains}
use Rattle.std.specs.List.{list_any}
use Rattle.std.specs.Option.{option_map}
use Rattle.std.proofs.lemmas.Bool.Decides.{nat_tests}
use Rattle.std.proofs.lemmas.List.Folds.{list_any_at}
use Rattle.std.proofs.lemmas.List.Elements.{Contains-append_cases, Contains-append_left, Contains-append_right}
use Rattle.std.proofs.lemmas.Bool.{and_from, or_right, and_parts}
use Rattle.std.proofs.lemmas.List.{take_all}
use Rattle.lists.proofs.Places.{in_one}
use Rattle.thread_semantics.specs.Memory.{Location}
use Rattle.thread_semantics.specs.Races.{Touch}
use Rattle.race_check.specs.declared.access.Access.{Access}
use Rattle.race_check.specs.declared.access.Location.{Location as LocationCode}
use Rattle.race_check.specs.Access.{location_of, touch_of, touches_of}
use Rattle.race_check.specs.Conflict.{Conflict, Hits, IsLeast, precedes, is_at, hit, least}

-- The order of places.
precedes_itself : (p : Location) → precedes p p ≡ true
precedes_itself p = grind (arith, nat_tests)

precedes_other : (p q : Location) → precedes p q ≡ false → precedes q p ≡ true
precedes_other p q h = grind (arith, nat_tests)

precedes_on : (p q r : Location) → precedes p q ≡ true → precedes q r ≡ true → precedes p r ≡ true
precedes_on p q r h g = grind (arith, nat_tests)

-- the lesser of the least places of two things is the least of both
module _ (A B C : Location → Type 0) (split : (q : Location) → C q → A q ⊎ B q) (left : (q : Location) → A q → C q) (right : (q : Location) → B q → C q) where
  lesser_of : (p r : Location) (b : Bool) → precedes p r ≡ b → IsLeast A (Some p) → IsLeast B (Some r) → IsLeast C (Some (if b then p else r))
  lesser_of p r true e a b =
      (left p a.0, λ q c. elim (split q c) [ inl x ↦ a.1 q x | inr y ↦ precedes_on p r q e (b.1 q y) ])
  lesser_of p r false e a b =
      (right r b.0, λ q c. elim (split q c) [ inl x ↦ precedes_on r p q (precedes_other p r e) (a.1 q x) | inr y ↦ b.1 q y ])

  pub least_of : (p r : Option Location) → IsLeast A p → IsLeast B r → IsLeast C (least p r)
  least_of None None a b = λ q c. elim (split q c) [ inl x ↦ a q x | inr y ↦ b q y ]
  least_of None (Some r) a b =
      (right r b.0, λ q c. elim (split q c) [ inl x ↦ absurd (a q x) | inr y ↦ b.1 q y ])
  least_of (Some p) None a b =
      (left p a.0, λ q c. elim (split q c) [ inl x ↦ a.1 q x | inr y ↦ absurd (b q y) ])
  least_of (Some p) (Some r) a b = lesser_of p r (precedes p r) refl a b

or_second : (a b : Bool) → a ≡ false → (a || b) ≡ true → b ≡ true
or_second true b e d = absurd (let never : ⊥ = cc in never)
or_second false b e d = d

pub or_turned : (a b : Bool) → (a || b) ≡ true → (b || a) ≡ true
or_turned true b e = or_right b true refl
or_turned false true e = refl
or_turned false false e = e

-- Which touches are at a place.
same_place : (p q : Location) → p.variable ≡ q.variable → p.index ≡ q.index → p ≡ q
same_place p q e d = ap₂ (λ (v j : ℕ). record { variable = v; index = j }) e d

at_is : (p : Location) (t : Touch) → is_at p t ≡ true → t.place ≡ p
at_is p t h =
    let a = (and_parts (nat_eq t.place.variable p.variable) (nat_eq t.place.index p.index) h).0 in
    let b = (and_parts (nat_eq t.place.variable p.variable) (nat_eq t.place.index p.index) h).1 in
    let e : t.place.variable ≡ p.variable = grind (arith, nat_tests, a) in
    let d : t.place.index ≡ p.index = grind (arith, nat_tests, b) in
    same_place t.place p e d

at_itself : (t : Touch) → is_at t.place t ≡ true
at_itself t = grind (arith, nat_tests)

is_at_place : (p : Location) (t : Touch) → t.place ≡ p → is_at p t ≡ true
is_at_place p t e = subst (λ q. is_at q t ≡ true) e (at_itself t)

any_gives : (p : Location) (ts : List Touch) → list_any (is_at p) ts ≡ true → (t : Touch) × Contains ts t × (t.place ≡ p)
any_gives p [] h = absurd (let never : ⊥ = cc in never)
any_gives p (x ∷ xs) h = first (is_at p x) refl (λ m. any_gives p xs m)
  where
    first : (b : Bool) → is_at p x ≡ b → (list_any (is_at p) xs ≡ true → (t : Touch) × Contains xs t × (t.place ≡ p)) → (t : Touch) × Contains (x ∷ xs) t × (t.place ≡ p)
    first true e rest = (x, (0, omega arith, refl), at_is p x e)
    first false e rest =
        let more = or_second (is_at p x) (list_any (is_at p) xs) e h in
        let t = rest more in
        (t.0, (suc t.1.0, omega (arith, t.1.1), t.1.2), t.2)

any_from : (p : Location) (ts : List Touch) (t : Touch) → Contains ts t → t.place ≡ p → list_any (is_at p) ts ≡ true
any_from p ts t c e = list_any_at (is_at p) ts c.0 t c.1 (ap (is_at p) c.2 ∙ is_at_place p t e)

-- One touch alone.
hit_least : (x : Touch) (zs : List Touch) → IsLeast (Hits (x ∷ []) zs) (hit x zs)
hit_least x zs = go (x.written && list_any (is_at x.place) zs) refl
  where
    place_is : (q : Location) → Hits (x ∷ []) zs q → x.place ≡ q
    place_is q h = ap (λ (t : Touch). t.place) (in_one x h.first h.first_in) ∙ h.first_place

    go : (b : Bool) → (x.written && list_any (is_at x.place) zs) ≡ b → IsLeast (Hits (x ∷ []) zs) (if b then Some x.place else None)
    go true e =
        let t = any_gives x.place zs (and_parts x.written (list_any (is_at x.place) zs) e).1 in (
          record {
            first = x;
            second = t.0;
            first_in = (0, omega arith, refl);
            second_in = t.1;
            first_place = refl;
            second_place = t.2;
            written = (and_parts x.written (list_any (is_at x.place) zs) e).0;
          },
          λ q h. subst (λ r. precedes x.place r ≡ true) (place_is q h) (precedes_itself x.place),
        )
    go false e = λ q h.
        let w : x.written ≡ true = ap (λ (t : Touch). t.written) (in_one x h.first h.first_in) ∙ h.written in
        let a : list_any (is_at x.place) zs ≡ true = any_from x.place zs h.second h.second_in (h.second_place ∙ sym (place_is q h)) in
        let both : (x.written && list_any (is_at x.place) zs) ≡ true = and_from x.written (list_any (is_at x.place) zs) w a in
        let never : ⊥ = cc (both, e) in never

hits_with : (cs ys zs : List Touch) (q : Location) (h : Hits cs zs q) → Contains ys h.first → Hits ys zs q
hits_with cs ys zs q h c = record {
  first = h.first;
  second = h.second;
  first_in = c;
  second_in = h.second_in;
  first_place = h.first_place;
  second_place = h.second_place;
  written = h.written;
}

-- One touch more.
hits_more : (ys zs : List Touch) (x : Touch) (best : Option Location) → IsLeast (Hits ys zs) best → IsLeast (Hits (ys ++ x ∷ []) zs) (least best (hit x zs))
hits_more ys zs x best l =
    let all = ys ++ x ∷ [] in
    least_of (Hits ys zs) (Hits (x ∷ []) zs) (Hits all zs)
    (λ q h. elim (Contains-append_cases ys (x ∷ []) h.first h.first_in) [ inl c ↦ inl (hits_with all ys zs q h c) | inr c ↦ inr (hits_with all (x ∷ []) zs q h c) ])
    (λ q h. hits_with ys all zs q h (Contains-append_left ys (x ∷ []) h.first h.first_in))
    (λ q h. hits_with (x ∷ []) all zs q h (Contains-append_right ys (x ∷ []) h.first h.first_in))
    best (hit x zs) l (hit_least x zs)

touches_more : (xs : List Access) (k : ℕ) (a : Access) → a ≡ get_or xs k a → k < length xs → touches_of (take (suc k) xs) ≡ touches_of (take k xs) ++ touch_of a ∷ []
touches_more [] k a e h = absurd (omega arith)
touches_more (x ∷ xs) zero a e h = ap (λ y. touch_of y ∷ []) (sym e)
touches_more (x ∷ xs) (suc k) a e h = ap (λ l. touch_of x ∷ l) (touches_more xs k a e (omega arith))

hits_next : (xs : List Access) (k : ℕ) (a : Access) (zs : List Touch) (best : Option Location) → a ≡ get_or xs k a → k < length xs →
    IsLeast (Hits (touches_of (take k xs)) zs) best → IsLeast (Hits (touches_of (take (k + 1) xs)) zs) (least best (hit (touch_of a) zs))
hits_next xs k a zs best e h l =
    let one : suc k ≡ k + 1 = omega arith in
    subst (λ ts. IsLeast (Hits ts zs) (least best (hit (touch_of a) zs)))
    (sym (touches_more xs k a e h) ∙ ap (λ j. touches_of (take j xs)) one)
    (hits_more (touches_of (take k xs)) zs (touch_of a) best l)

get_itself : (xs : List Access) (k : ℕ) (d : Access) → k < length xs → get_or xs k d ≡ get_or xs k (get_or xs k d)
get_itself [] k d h = absurd (omega arith)
get_itself (x ∷ xs) zero d h = refl
get_itself (x ∷ xs) (suc k) d h = get_itself xs k d (omega arith)

pub hits_at : (xs : List Access) (k : ℕ) (d : Access) (zs : List Touch) (best : Option Location) → k < length xs → IsLeast (Hits (touches_of (take k xs)) zs) best →
    IsLeast (Hits (touches_of (take (k + 1) xs)) zs) (least best (hit (touch_of (get_or xs k d)) zs))
hits_at xs k d zs best h l = hits_next xs k (get_or xs k d) zs best (get_itself xs k d h) h l

pub hits_all : (xs : List Access) (k : ℕ) (zs : List Touch) (best : Option Location) → length xs ≤ k → IsLeast (Hits (touches_of (take k xs)) zs) best →
    IsLeast (Hits (touches_of xs) zs) best
hits_all xs k zs best h l =
    subst (λ ts. IsLeast (Hits (touches_of ts) zs) best) (take_all k xs h) l

-- Both ways.
conflict_split : (ys zs : List Touch) (q : Location) → Conflict ys zs q → Hits ys zs q ⊎ Hits zs ys q
conflict_split ys zs q c = go c.first.written refl
  where
    go : (b : Bool) → c.first.written ≡ b → Hits ys zs q ⊎ Hits zs ys q
    go true e = inl (record {
      first = c.first;
      second = c.second;
      first_in = c.first_in;
      second_in = c.second_in;
      first_place = c.first_place;
      second_place = c.second_place;
      written = e;
    })
    go false e = inr (record {
      first = c.second;
      second = c.first;
      first_in = c.second_in;
      second_in = c.first_in;
      first_place = c.second_place;
      second_place = c.first_place;
      written = ap (λ b. b || c.second.written) (sym e) ∙ c.written;
    })

conflict_left : (ys zs : List Touch) (q : Location) → Hits ys zs q → Conflict ys zs q
conflict_left ys zs q h = record {
  first = h.first;
  second = h.second;
  first_in = h.first_in;
  second_in = h.second_in;
  first_place = h.first_place;
  second_place = h.second_place;
  written = or_turned h.second.written h.first.written (or_right h.second.written h.first.written h.written);
}

pub conflict_turned : (ys zs : List Touch) (q : Location) → Conflict ys zs q → Conflict zs ys q
conflict_turned ys zs q c = record {
  first = c.second;
  second = c.first;
  first_in = c.second_in;
  second_in = c.first_in;
  first_place = c.second_place;
  second_place = c.first_place;
  written = or_turned c.first.written c.second.written c.written;
}

pub conflict_least : (ys zs : List Touch) (p r : Option Location) → IsLeast (Hits ys zs) p → IsLeast (Hits zs ys) r → IsLeast (Conflict ys zs) (least p r)
conflict_least ys zs p r a b =
    least_of (Hits ys zs) (Hits zs ys) (Conflict ys zs) (conflict_split ys zs) (conflict_left ys zs)
    (λ q h. conflict_turned zs ys q (conflict_left zs ys q h))
    p r a b

-- What the search for a conflict found, where the lists are known by other names.
pub none_here : (ys zs us vs : List Touch) (o : Option LocationCode) → IsLeast (Conflict ys zs) (option_map location_of o) → o ≡ None → ys ≡ us → zs ≡ vs →
    (q : Location) → Conflict us vs q → ⊥
none_here ys zs us vs None l e a b q c =
    l q (subst (λ ts. Conflict ts zs q) (sym a) (subst (λ ts. Conflict us ts q) (sym b) c))
none_here ys zs us vs (Some p) l e a b q c = let never : ⊥ = cc in never
