-- What walks that find broken rules give, where no rule is broken in the whole text.
use Rattle.std.proofs.Common.{◌≡◌, refl, inl, inr, sym, ap, subst, ℕ, suc, Bool, true, false, List, [], ◌∷◌, ◌++◌, length, Option, Some, None, ◌∙◌, add-zero, zero-add, arith}
use Rattle.std.specs.Prelude.{◌+◌, fold, if◌then◌else◌, ⊤}
use Rattle.std.specs.List.{AllByRecursion}
use Rattle.std.proofs.lemmas.List.Elements.{Contains-append_left, Contains-append_right, Contains-append_cases}
use Rattle.std.proofs.lemmas.Option.{same_Some, none-some}
use Rattle.lists.proofs.Places.{length_more}
use Rattle.c_rules.specs.declared.fault.Rule.{Rule}
use Rattle.c_rules.specs.declared.fault.Fault.{Fault}
use Rattle.c_rules.specs.declared.findings.Findings.{Findings}
use Rattle.c_rules.specs.declared.findings.CallSite.{CallSite}
use Rattle.c_rules.specs.declared.findings.Creation.{Creation}
use Rattle.c_rules.specs.Faults.{first, is_before}
use Rattle.c_rules.specs.Findings as findings
use Rattle.c_rules.specs.Walks.{Outcome, Walk, Finds, pure, and_then, ◌>>=◌, optional, through, each, visited, finds, finds_if, finds_any, calls, creates}
use Rattle.c_resolved_program.specs.Orders.{left, given, IsPartOf, IsFoundCall, AreFound, IsFoundCreation}

-- ---- outcomes

module _ {S A : Type 0} where
  pub outcome : (o : Outcome S A) → o ≡ Outcome.Gives (given o) (left o)
  outcome (Outcome.Gives a s) = refl

  pub turn : {B : Type 0} (o : Outcome S A) (q : A → Walk S B) → and_then o q ≡ q (given o) (left o)
  turn (Outcome.Gives a s) q = refl

-- ---- the first of two faults

chosen : (b : Bool) (x y : Fault) → (if b then Some x else Some y) ≡ None → ⊥
chosen true x y h = none-some x (sym h)
chosen false x y h = none-some y (sym h)

pub first-some : (a : Option Fault) (b : Fault) → first a (Some b) ≡ None → ⊥
unfolding first
first-some None b h = none-some b (sym h)
first-some (Some a) b h = chosen (is_before b a) b a h

pub first-none : (a b : Option Fault) → first a b ≡ None → a ≡ None
unfolding first
first-none None b h = refl
first-none (Some a) None h = absurd (none-some a (sym h))
first-none (Some a) (Some b) h = absurd (chosen (is_before b a) b a h)

-- what is said of what an option has
abbrev pub IfAny : {A : Type 0} → (A → Type 0) → Option A → Type 0
IfAny Is None = ⊤
IfAny Is (Some a) = Is a

-- ---- lists

pub all_more : {A : Type 0} (Is : A → Type 0) (xs : List A) (a : A) → AllByRecursion Is xs → Is a → AllByRecursion Is (xs ++ a ∷ [])
all_more Is [] a all is = (is, tt)
all_more Is (x ∷ xs) a all is = (all.0, all_more Is xs a all.1 is)

-- what is found of two lists of calls is found of both
pub both_found : (whole : Findings) (number : ℕ) (xs ys : List ℕ) → AreFound whole number xs → AreFound whole number ys → AreFound whole number (xs ++ ys)
both_found whole number xs ys h k callee inside =
    elim (Contains-append_cases xs ys callee inside) [
      | inl first ↦ h callee first
      | inr later ↦ k callee later
    ]

one_more : (m n k : ℕ) → m ≡ suc n → n + suc k ≡ m + k
one_more m n k is = omega arith

-- ---- walks

pub after_one : {A B : Type 0} (step : A → B → Finds A) (a : A) (b : B) (rest : List B) (found : Findings) →
    through step a (b ∷ rest) found ≡ through step (given (step a b found)) rest (left (step a b found))
after_one step a b rest found = ap (λ o. fold (λ o b. and_then o (λ x. step x b)) o rest) (outcome (step a b found))

-- a part of a text by what is found: no rule is broken behind it only where none is before it, and then what it stands for
-- is so
pub record Shows (whole : Findings) {A : Type 0} (Before : Type 0) (Is : A → Type 0) (w : Finds A) : Type 0 where
  pub back : (found : Findings) → IsPartOf whole (left (w found)) → IsPartOf whole found
  pub forth : (found : Findings) → IsPartOf whole (left (w found)) → Before → Is (given (w found))

module _ {whole : Findings} where
  pub shows_pure : {A : Type 0} {Before : Type 0} {Is : A → Type 0} (a : A) → (Before → Is a) → Shows whole Before Is (pure a)
  shows_pure a is = record { back = λ found part. part; forth = λ found part before. is before }

  pub shows_then : {A B : Type 0} {Before : Type 0} {Is : A → Type 0} {Next : B → Type 0} (p : Finds A) (q : A → Finds B) →
      Shows whole Before Is p → ((a : A) → Shows whole (Before × Is a) Next (q a)) → Shows whole Before Next (p >>= q)
  shows_then {Next = Next} p q hp hq = record {
    back = λ found part.
        hp.back found ((hq (given (p found))).back (left (p found)) (subst (λ o. IsPartOf whole (left o)) (turn (p found) q) part));
    forth = λ found part before.
        let behind = subst (λ o. IsPartOf whole (left o)) (turn (p found) q) part in
        let between = (hq (given (p found))).back (left (p found)) behind in
        subst (λ o. Next (given o)) (sym (turn (p found) q))
        ((hq (given (p found))).forth (left (p found)) behind (before, hp.forth found between before));
  }

  pub shows_as : {A : Type 0} {Before Earlier : Type 0} {Is Seen : A → Type 0} (w : Finds A) → (Earlier → Before) → ((a : A) → Earlier → Is a → Seen a) →
      Shows whole Before Is w → Shows whole Earlier Seen w
  shows_as w before seen h = record {
    back = h.back;
    forth = λ found part earlier. seen (given (w found)) earlier (h.forth found part (before earlier));
  }

  -- ---- single findings

  pub shows_broken : {Before : Type 0} {Is : Unit {0} → Type 0} (r : Rule) (at : ℕ) → Shows whole Before Is (finds r at)
  unfolding findings.broken
  shows_broken r at = record {
    back = λ found part. absurd (first-some found.fault (record { rule = r; offset = at }) part.no_fault);
    forth = λ found part before. absurd (first-some found.fault (record { rule = r; offset = at }) part.no_fault);
  }

  pub shows_if : {Before : Type 0} (b : Bool) (r : Rule) (at : ℕ) → Shows whole Before (λ _. b ≡ false) (finds_if b r at)
  shows_if true r at = record {
    back = (shows_broken {Before = ⊤} {Is = λ _. ⊤} r at).back;
    forth = λ found part before.
        (shows_broken {Before = ⊤} {Is = λ _. true ≡ false} r at).forth found part tt;
  }
  shows_if false r at = record { back = λ found part. part; forth = λ found part before. refl }

  pub shows_any : {Before : Type 0} (o : Option Rule) (at : ℕ) → Shows whole Before (λ _. o ≡ None) (finds_any o at)
  shows_any (Some r) at = record {
    back = (shows_broken {Before = ⊤} {Is = λ _. ⊤} r at).back;
    forth = λ found part before.
        (shows_broken {Before = ⊤} {Is = λ _. Some r ≡ None} r at).forth found part tt;
  }
  shows_any None at = record { back = λ found part. part; forth = λ found part before. refl }

  pub shows_call : (caller : Option ℕ) (number callee at : ℕ) →
      Shows whole (caller ≡ Some number) (λ _. IsFoundCall whole number callee) (calls caller callee at)
  shows_call None number callee at = record { back = λ found part. part; forth = λ found part is. absurd (none-some number (is)) }
  shows_call (Some caller) number callee at =
      let site : CallSite = record { caller = caller; callee = callee; offset = at } in
      record {
        back = λ found part. record {
          no_fault = part.no_fault;
          calls = λ c inside. part.calls c (Contains-append_left found.calls (site ∷ []) c inside);
          creations = part.creations;
        };
        forth = λ found part is.
            subst (λ n. IsFoundCall whole n callee) (same_Some caller number is)
            (at, part.calls site (Contains-append_right found.calls (site ∷ []) site (0, omega arith, refl)));
      }

  pub shows_creation : {Before : Type 0} (thread routine at : ℕ) → Shows whole Before (λ _. IsFoundCreation whole thread routine) (creates thread routine at)
  shows_creation thread routine at =
      let site : Creation = record { thread = thread; routine = routine; offset = at } in
      record {
        back = λ found part. record {
          no_fault = part.no_fault;
          calls = part.calls;
          creations = λ c inside. part.creations c (Contains-append_left found.creations (site ∷ []) c inside);
        };
        forth = λ found part before. (at, part.creations site (Contains-append_right found.creations (site ∷ []) site (0, omega arith, refl)));
      }

  -- ---- parts one after another

  pub shows_optional : {A : Type 0} {Before : Type 0} {Is : A → Type 0} (w : Option (Finds A)) →
      IfAny (λ (p : Finds A). Shows whole Before Is p) w → Shows whole Before (λ o. IfAny Is o) (optional w)
  shows_optional None h = shows_pure None (λ _. tt)
  shows_optional (Some p) h = shows_then p (λ a. pure (Some a)) h (λ a. shows_pure (Some a) (λ b. b.1))

  pub shows_through : {A B : Type 0} {Before : Type 0} (Each : B → Type 0) (Is : List B → A → Type 0) (step : A → B → Finds A) →
      ((x : A) (b : B) (rest : List B) → Each b → Shows whole (Before × Is (b ∷ rest) x) (Is rest) (step x b)) →
      (a : A) (items : List B) → AllByRecursion Each items → Shows whole (Before × Is items a) (Is []) (through step a items)
  shows_through Each Is step h a [] all = record { back = λ found part. part; forth = λ found part before. before.1 }
  shows_through {Before = Before} Each Is step h a (b ∷ rest) all =
      record {
        back = λ found part.
            let o = step a b found in
            (h a b rest all.0).back found
            ((shows_through {Before = Before} Each Is step h (given o) rest all.1).back (left o)
            (subst (λ x. IsPartOf whole (left x)) (after_one step a b rest found) part));
        forth = λ found part before.
            let o = step a b found in
            let later = shows_through {Before = Before} Each Is step h (given o) rest all.1 in
            let behind = subst (λ x. IsPartOf whole (left x)) (after_one step a b rest found) part in
            let between = later.back (left o) behind in
            subst (λ x. Is [] (given x)) (sym (after_one step a b rest found))
            (later.forth (left o) behind (before.0, (h a b rest all.0).forth found between before));
      }

  pub shows_visited : {B : Type 0} {Before : Type 0} (walk : B → Finds (Unit {0})) (items : List B) →
      AllByRecursion (λ b. Shows whole Before (λ _. ⊤) (walk b)) items → Shows whole Before (λ _. ⊤) (visited walk items)
  shows_visited {Before = Before} walk items all =
      shows_as (visited walk items) (λ before. (before, tt)) (λ _ _ _. tt)
      (shows_through {Before = Before} (λ b. Shows whole Before (λ _. ⊤) (walk b)) (λ _ _. ⊤) (λ _ b. walk b)
      (λ x b rest here. shows_as (walk b) (λ before. before.0) (λ _ _ _. tt) here) tt items all)

  -- as many as there are parts, each of which is so
  pub shows_each : {A B : Type 0} {Before : Type 0} {Is : A → Type 0} (walk : B → Finds A) (items : List B) →
      AllByRecursion (λ b. Shows whole Before Is (walk b)) items →
      Shows whole Before (λ list. AllByRecursion Is list × (length list ≡ length items)) (each walk items)
  shows_each {A} {B} {Before} {Is} walk items all =
      let So : List B → List A → Type 0 = λ rest list. AllByRecursion Is list × (length list + length rest ≡ length items) in
      let next : List A → B → Finds (List A) = λ found b. walk b >>= (λ a. pure (found ++ a ∷ [])) in
      shows_as (each walk items) (λ before. (before, (tt, zero-add (length items)))) (λ list _ so. (so.0, sym (sym so.1 ∙ add-zero (length list))))
      (shows_through {Before = Before} (λ b. Shows whole Before Is (walk b)) So next
      (λ list b rest here.
      shows_then (walk b) (λ a. pure (list ++ a ∷ []))
      (shows_as (walk b) (λ before. before.0) (λ a _ is. is) here)
      (λ a. shows_pure (list ++ a ∷ [])
      (λ c. (all_more Is list a c.0.1.0 c.1, sym (one_more (length (list ++ a ∷ [])) (length list) (length rest) (length_more list a)) ∙ c.0.1.1))))
      [] items all)
