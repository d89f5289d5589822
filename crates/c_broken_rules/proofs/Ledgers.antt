-- What the walk over a part of a text writes into a ledger, as the faults or the calls that are found, by the parts of the text.
use Rattle.std.proofs.Common.{◌≡◌, refl, sym, subst, ap, inl, inr, Bool, true, false, List, [], ◌∷◌, ◌++◌, map, Option, Some, None, arith}
use Rattle.std.specs.Prelude.{◌⊎◌, fold, Contains, if◌then◌else◌}
use Rattle.std.specs.List.{AllByRecursion}
use Rattle.std.proofs.lemmas.List.{append-nil}
use Rattle.std.proofs.lemmas.List.Elements.{Contains-append_left, Contains-append_right, Contains-append_cases, Contains-push_cases}
use Rattle.lists.proofs.Places.{in_none}
use Rattle.c_rules.specs.declared.findings.Findings.{Findings}
use Rattle.c_rules.specs.Walks.{Outcome, Walk, Finds, pure, and_then, optional, through, each, visited, ◌>>=◌}
use Rattle.c_broken_rules.specs.Parts.{Part, Parts, all_of, if_any, of_each}

-- ---- outcomes

abbrev pub given : {S A : Type 0} → Outcome S A → A
given (Outcome.Gives a s) = a

abbrev pub left : {S A : Type 0} → Outcome S A → S
left (Outcome.Gives a s) = s

module _ {S A : Type 0} where
  pub outcome : (o : Outcome S A) → o ≡ Outcome.Gives (given o) (left o)
  outcome (Outcome.Gives a s) = refl

  pub turn : {B : Type 0} (o : Outcome S A) (q : A → Walk S B) → and_then o q ≡ q (given o) (left o)
  turn (Outcome.Gives a s) q = refl

pub after_one : {S A B : Type 0} (step : A → B → Walk S A) (a : A) (b : B) (rest : List B) (s : S) →
    through step a (b ∷ rest) s ≡ through step (given (step a b s)) rest (left (step a b s))
after_one step a b rest s = ap (λ o. fold (λ o b. and_then o (λ x. step x b)) o rest) (outcome (step a b s))

abbrev pub Any : {A : Type 0} → (A → Type 0) → List A → Type 0
Any Is [] = ⊥
Any Is (a ∷ more) = Is a ⊎ Any Is more

module _ {A : Type 0} (Is : A → Type 0) where
  pub any_left : (xs ys : List A) → Any Is xs → Any Is (xs ++ ys)
  any_left [] ys h = absurd h
  any_left (x ∷ xs) ys (inl h) = inl h
  any_left (x ∷ xs) ys (inr h) = inr (any_left xs ys h)

  pub any_right : (xs ys : List A) → Any Is ys → Any Is (xs ++ ys)
  any_right [] ys h = h
  any_right (x ∷ xs) ys h = inr (any_right xs ys h)

  later : (x : A) (xs ys : List A) → Any Is xs ⊎ Any Is ys → Any Is (x ∷ xs) ⊎ Any Is ys
  later x xs ys (inl h) = inl (inr h)
  later x xs ys (inr h) = inr h

  pub any_split : (xs ys : List A) → Any Is (xs ++ ys) → Any Is xs ⊎ Any Is ys
  any_split [] ys h = inr h
  any_split (x ∷ xs) ys (inl h) = inl (inl h)
  any_split (x ∷ xs) ys (inr h) = later x xs ys (any_split xs ys h)

  -- one of the elements

  pub any_contains : (xs : List A) → Any Is xs → (x : A) × Contains xs x × Is x
  any_contains [] h = absurd h
  any_contains (x ∷ xs) (inl h) = (x, Contains-append_left (x ∷ []) xs x (0, omega arith, refl), h)
  any_contains (x ∷ xs) (inr h) = let m = any_contains xs h in (m.0, Contains-append_right (x ∷ []) xs m.0 m.1, m.2)

  pushed : (y x : A) → Contains {X = A} [] x ⊎ (y ≡ x) → y ≡ x
  pushed y x (inl c) = absurd (in_none x c)
  pushed y x (inr e) = e

  there : (y x : A) (xs : List A) → (Contains xs x → Any Is xs) → Is x → Contains (y ∷ []) x ⊎ Contains xs x → Any Is (y ∷ xs)
  there y x xs rest h (inl c) = inl (subst Is (sym (pushed y x (Contains-push_cases [] y x c))) h)
  there y x xs rest h (inr c) = inr (rest c)

  pub contains_any : (xs : List A) (x : A) → Contains xs x → Is x → Any Is xs
  contains_any [] x c h = absurd (in_none x c)
  contains_any (y ∷ xs) x c h = there y x xs (λ k. contains_any xs x k h) h (Contains-append_cases (y ∷ []) xs x c)

-- ---- ledgers

-- what is written: entries that are seen in what is found, and those that are reached there
pub record Ledger : Type 1 where
  pub Entry : Type 0
  pub Seen : Findings → Entry → Type 0
  pub Reached : Findings → Entry → Type 0
  -- which entries the parts of a text decide
  pub Judged : Entry → Type 0
  -- the entries that a part is
  pub At : Part → Entry → Type 0
  -- what is written in the order of the parts, which a part that is no entry does not change
  pub Order : Findings → Findings → Parts → Type 0
  pub order_none : (a : Findings) → Order a a []
  pub order_both : (a b c : Findings) (ps qs : Parts) → Order a b ps → Order b c qs → Order a c (ps ++ qs)
  pub order_with : (a b : Findings) (part : Part) (ps : Parts) → ((x : Entry) → At part x → ⊥) → Order a b ps → Order a b (part ∷ ps)

module _ (L : Ledger) where
  abbrev pub Entered : Parts → L.Entry → Type 0
  Entered parts x = Any (λ part. L.At part x) parts

  -- what is written between two points of a walk
  pub record Writes (a b : Findings) (parts : Parts) : Type 0 where
    -- an entry that is seen was seen before, or is one of the parts
    pub from : (x : L.Entry) → L.Seen b x → L.Seen a x ⊎ (L.Judged x → Entered parts x)
    pub keeps : (x : L.Entry) → L.Reached a x → L.Reached b x
    pub finds : (x : L.Entry) → Entered parts x → L.Reached b x
    pub order : L.Order a b parts

  pub nothing_new : (a : Findings) → Writes a a []
  nothing_new a = record { from = λ x e. inl e; keeps = λ x h. h; finds = λ x h. absurd h; order = L.order_none a }

  -- the same parts, in another order or with others that are no entry
  pub record AreSame (ps qs : Parts) : Type 0 where
    pub to : (x : L.Entry) → Entered ps x → Entered qs x
    pub back : (x : L.Entry) → Entered qs x → Entered ps x

  or_else : {S J P Q : Type 0} → (P → Q) → S ⊎ (J → P) → S ⊎ (J → Q)
  or_else g (inl e) = inl e
  or_else g (inr h) = inr (λ j. g (h j))

  pub writes_as : {a b : Findings} {ps qs : Parts} → AreSame ps qs → (L.Order a b ps → L.Order a b qs) → Writes a b ps → Writes a b qs
  writes_as same order h = record {
    from = λ x e. or_else (same.to x) (h.from x e);
    keeps = h.keeps;
    finds = λ x k. h.finds x (same.back x k);
    order = order h.order;
  }

  both_from : {a b : Findings} (ps qs : Parts) (x : L.Entry) → ((x : L.Entry) → L.Seen b x → L.Seen a x ⊎ (L.Judged x → Entered ps x)) →
      L.Seen b x ⊎ (L.Judged x → Entered qs x) → L.Seen a x ⊎ (L.Judged x → Entered (ps ++ qs) x)
  both_from ps qs x h (inl e) = or_else (any_left (λ part. L.At part x) ps qs) (h x e)
  both_from ps qs x h (inr k) = inr (λ j. any_right (λ part. L.At part x) ps qs (k j))

  either_found : {a b c : Findings} {ps qs : Parts} (x : L.Entry) → Writes a b ps → Writes b c qs → Entered ps x ⊎ Entered qs x → L.Reached c x
  either_found x h k (inl p) = k.keeps x (h.finds x p)
  either_found x h k (inr q) = k.finds x q

  pub writes_both : {a b c : Findings} (ps qs : Parts) → Writes a b ps → Writes b c qs → Writes a c (ps ++ qs)
  writes_both {a} {b} {c} ps qs h k = record {
    from = λ x e. both_from ps qs x h.from (k.from x e);
    keeps = λ x r. k.keeps x (h.keeps x r);
    finds = λ x p. either_found x h k (any_split (λ part. L.At part x) ps qs p);
    order = L.order_both a b c ps qs h.order k.order;
  }

  -- ---- walks that find broken rules

  pub record Good {A : Type 0} (w : Finds A) (parts : Parts) : Type 0 where
    pub writes : (found : Findings) → Writes found (left (w found)) parts

  pub good_as : {A : Type 0} {w : Finds A} {ps qs : Parts} → AreSame ps qs → ((a b : Findings) → L.Order a b ps → L.Order a b qs) → Good w ps → Good w qs
  good_as {w = w} same order h = record { writes = λ found. writes_as same (order found (left (w found))) (h.writes found) }

  pub good_pure : {A : Type 0} (a : A) → Good (pure a) []
  good_pure a = record { writes = λ found. nothing_new found }

  pub good_then : {A B : Type 0} (p : Finds A) (q : A → Finds B) (ps qs : Parts) → Good p ps → ((a : A) → Good (q a) qs) → Good (p >>= q) (ps ++ qs)
  good_then {A} {B} p q ps qs h k = record {
    writes = λ found.
        subst (λ (o : Outcome Findings B). Writes found (left o) (ps ++ qs)) (sym (turn (p found) q))
        (writes_both ps qs (h.writes found) ((k (given (p found))).writes (left (p found))));
  }

  -- what comes behind finds nothing
  pub good_before : {A B : Type 0} (p : Finds A) (q : A → Finds B) (ps : Parts) → Good p ps → ((a : A) → Good (q a) []) → Good (p >>= q) ps
  good_before p q ps h k = subst (λ qs. Good (p >>= q) qs) (append-nil ps) (good_then p q ps [] h k)

  pub good_either : {A : Type 0} (b : Bool) (v w : Finds A) (ps : Parts) → Good v ps → Good w ps → Good (if b then v else w) ps
  good_either true v w ps h k = h
  good_either false v w ps h k = k

  -- parts one after another
  pub good_through : {A B C : Type 0} (step : A → B → Finds A) (walk : C → B) (of : C → Parts) (items : List C) →
      AllByRecursion (λ c. (a : A) → Good (step a (walk c)) (of c)) items → (a : A) → Good (through step a (map walk items)) (all_of (map of items))
  good_through step walk of [] all a = record { writes = λ found. nothing_new found }
  good_through {A} step walk of (c ∷ rest) all a = record {
    writes = λ found.
        let o = step a (walk c) found in
        subst (λ (o : Outcome Findings A). Writes found (left o) (of c ++ all_of (map of rest))) (sym (after_one step a (walk c) (map walk rest) found))
        (writes_both (of c) (all_of (map of rest)) ((all.0 a).writes found) ((good_through step walk of rest all.1 (given o)).writes (left o)));
  }

  pub good_list : {A B : Type 0} (step : A → B → Finds A) (of : B → Parts) → ((b : B) (a : A) → Good (step a b) (of b)) → (items : List B) (a : A) →
      Good (through step a items) (of_each of items)
  good_list step of h [] a = record { writes = λ found. nothing_new found }
  good_list {A} step of h (b ∷ rest) a = record {
    writes = λ found.
        let o = step a b found in
        subst (λ (o : Outcome Findings A). Writes found (left o) (of b ++ of_each of rest)) (sym (after_one step a b rest found))
        (writes_both (of b) (of_each of rest) ((h b a).writes found) ((good_list step of h rest (given o)).writes (left o)));
  }

  -- what each of the parts stands for
  pub good_each : {A B : Type 0} (walk : B → Finds A) (of : B → Parts) → ((b : B) → Good (walk b) (of b)) → (items : List B) → Good (each walk items) (of_each of items)
  good_each walk of h items =
      good_list (λ list b. walk b >>= (λ a. pure (list ++ a ∷ []))) of (λ b list. good_before (walk b) (λ a. pure (list ++ a ∷ [])) (of b) (h b) (λ a. good_pure (list ++ a ∷ [])))
      items []

  pub good_visited : {B : Type 0} (walk : B → Finds (Unit {0})) (of : B → Parts) → ((b : B) → Good (walk b) (of b)) → (items : List B) → Good (visited walk items) (of_each
      of items)
  good_visited walk of h items = good_list (λ _ b. walk b) of (λ b _. h b) items tt

  -- ---- parts that are no entry

  skipped : (part : Part) (ps : Parts) (x : L.Entry) → (L.At part x → ⊥) → Entered (part ∷ ps) x → Entered ps x
  skipped part ps x none (inl h) = absurd (none h)
  skipped part ps x none (inr h) = h

  pub writes_with : {a b : Findings} (part : Part) → ((x : L.Entry) → L.At part x → ⊥) → Writes a b [] → Writes a b (part ∷ [])
  writes_with {a} {b} part none h = writes_as (record { to = λ x k. absurd k; back = λ x k. skipped part [] x (none x) k }) (L.order_with a b part [] none) h

  pub good_with : {A : Type 0} {w : Finds A} (part : Part) (ps : Parts) → ((x : L.Entry) → L.At part x → ⊥) → Good w ps → Good w (part ∷ ps)
  good_with part ps none h = good_as (record { to = λ x k. inr k; back = λ x k. skipped part ps x (none x) k }) (λ a b. L.order_with a b part ps none) h

  pub quiet : {A : Type 0} {w : Finds A} {ps : Parts} (part : Part) → ((x : L.Entry) → L.At part x → ⊥) → Good w ps → Good w (part ∷ ps)
  quiet {ps = ps} part none h = good_with part ps none h

  no_last : (part : Part) (ps : Parts) (x : L.Entry) → (L.At part x → ⊥) → Entered ps x ⊎ Entered (part ∷ []) x → Entered ps x
  no_last part ps x none (inl h) = h
  no_last part ps x none (inr h) = absurd (skipped part [] x none h)

  pub good_behind : {A : Type 0} {w : Finds A} (part : Part) (ps : Parts) → ((x : L.Entry) → L.At part x → ⊥) → Good w ps → Good w (ps ++ part ∷ [])
  good_behind part ps none h = good_as (record {
    to = λ x k. any_left (λ q. L.At q x) ps (part ∷ []) k;
    back = λ x k. no_last part ps x (none x) (any_split (λ q. L.At q x) ps (part ∷ []) k);
  }) (λ a b o. L.order_both a b b ps (part ∷ []) o (L.order_with b b part [] none (L.order_none b))) h

  order_nothing : (ps : Parts) → ((x : L.Entry) → Entered ps x → ⊥) → (a b : Findings) → L.Order a b [] → L.Order a b ps
  order_nothing [] none a b o = o
  order_nothing (part ∷ ps) none a b o = L.order_with a b part ps (λ x h. none x (inl h)) (order_nothing ps (λ x h. none x (inr h)) a b o)

  -- parts that are no entry
  pub good_none : {A : Type 0} {w : Finds A} (ps : Parts) → ((x : L.Entry) → Entered ps x → ⊥) → Good w [] → Good w ps
  good_none ps none h = good_as (record { to = λ x k. absurd k; back = none }) (order_nothing ps none) h

  -- a walk that finds nothing, where the parts are no entry
  pub good_quiet : {A : Type 0} (a : A) (ps : Parts) → ((x : L.Entry) → Entered ps x → ⊥) → Good (pure a) ps
  good_quiet a ps none = good_none ps none (good_pure a)

  -- ---- parts that may be missing

  abbrev pub GoodAny : {A : Type 0} → Option (Finds A) → Option Parts → Type 0
  GoodAny None None = Unit {0}
  GoodAny (Some w) (Some ps) = Good w ps
  GoodAny None (Some ps) = ⊥
  GoodAny (Some w) None = ⊥

  pub good_optional : {A : Type 0} (w : Option (Finds A)) (ps : Option Parts) → GoodAny w ps → Good (optional w) (if_any ps)
  good_optional None None h = good_pure None
  good_optional (Some w) (Some ps) h = good_before w (λ a. pure (Some a)) ps h (λ a. good_pure (Some a))
  good_optional None (Some ps) h = absurd h
  good_optional (Some w) None h = absurd h

  -- what comes behind an optional part that is there
  pub good_some : {A B : Type 0} (p : Finds A) (q : Option A → Finds B) (ps qs : Parts) → Good p ps → ((a : A) → Good (q (Some a)) qs) → Good (optional (Some p) >>= q) (ps ++ qs)
  good_some {A} p q ps qs h k = record {
    writes = λ found.
        let o = p found in
        subst (λ (z : Outcome Findings A). Writes found (left (and_then (and_then z (λ a. pure (Some a))) q)) (ps ++ qs)) (sym (outcome o))
        (writes_both ps qs (h.writes found) ((k (given o)).writes (left o)));
  }
