-- What walks that change the names in scope give within a function, where no rule is broken in the whole text.
use Rattle.std.proofs.Common.{◌≡◌, refl, sym, ap, subst, ◌∙◌, ℕ, zero, suc, ◌<◌, ◌≤◌, Bool, true, false, List, [], ◌∷◌, ◌++◌, length, Option, Some, None, append_assoc, arith}
use Rattle.std.specs.Prelude.{◌-◌, fold, slice_get, take, remove, if◌then◌else◌, ⊤}
use Rattle.std.specs.List.{AllByRecursion}
use Rattle.std.specs.Str.{bytes_eq}
use Rattle.c_tree.specs.declared.expression.Name.{Name}
use Rattle.c_program.specs.declared.tree.LocalVariable.{LocalVariable}
use Rattle.c_program.specs.Tree.{Function, Program}
use Rattle.c_program.specs.Resolved as r
use Rattle.c_rules.specs.declared.fault.Rule.TheVariants as rule
use Rattle.c_rules.specs.declared.findings.Findings.{Findings}
use Rattle.c_rules.specs.declared.names.Meaning.{Meaning}
use Rattle.c_rules.specs.declared.names.Scope.{Scope}
use Rattle.c_rules.specs.Levels.{inserted}
use Rattle.c_rules.specs.Names.{Names, is_taken, declaring, opened, closed, closed_to}
use Rattle.c_rules.specs.Walks.{Outcome, Finds, pure, and_then, through, finds, ◌>>=◌}
use Rattle.c_resolution.specs.States.{State, state, Goes, in_scope, finding, scoping}
use Rattle.c_resolution.specs.Locals.{declare}
use Rattle.std.proofs.lemmas.List.{length-append}
use Rattle.c_resolved_program.specs.Orders.{left, given, declared_in, IsMeant, AreMeant, IsOrderly, IsFront, IsAhead, Holds}
use Rattle.c_resolved_program.proofs.Walks.{Shows, shows_broken, outcome, turn, IfAny, all_more}
use Rattle.std.proofs.lemmas.Option.{slice_get_within, none-some}
use Rattle.lists.proofs.Places.{get_middle}
use Rattle.c_resolved_program.proofs.Elements.{element_is}

-- ---- fronts of lists

pub front_before : {A : Type 0} (xs : List A) (a : A) (list : List A) → IsFront (xs ++ a ∷ []) list → IsFront xs list
front_before xs a list h = (a ∷ h.0, sym (append_assoc xs (a ∷ []) h.0) ∙ h.1)

pub next_in : {A : Type 0} (xs : List A) (a : A) (list : List A) → IsFront (xs ++ a ∷ []) list → slice_get list (length xs) ≡ Some a
next_in xs a list h = sym (ap (λ l. slice_get l (length xs)) (sym (append_assoc xs (a ∷ []) h.0) ∙ h.1)) ∙ get_middle xs h.0 a

pub front_length : {A : Type 0} (xs : List A) (a : A) (list : List A) → IsFront (xs ++ a ∷ []) list → length xs < length list
front_length xs a list h = slice_get_within list (length xs) a (next_in xs a list h)

pub front_le : {A : Type 0} (xs list : List A) → IsFront xs list → length xs ≤ length list
front_le xs list h = let e = length-append xs h.0 in let f = ap length h.1 in omega arith

-- ---- the locals that a function declares

taken_few : {A : Type 0} (n : ℕ) (list : List A) → length (take n list) ≤ n
taken_few zero list = omega arith
taken_few (suc n) [] = omega arith
taken_few (suc n) (a ∷ list) = let e = taken_few n list in omega (arith, e)

pub declared_few : (f : Function) → length (declared_in f) ≤ f.declared_locals
declared_few f = taken_few f.declared_locals f.locals

taken_at : {A : Type 0} (n : ℕ) (list : List A) (k : ℕ) (a : A) → slice_get (take n list) k ≡ Some a → slice_get list k ≡ Some a
taken_at zero list k a is = absurd (none-some a is)
taken_at (suc n) [] k a is = is
taken_at (suc n) (x ∷ list) zero a is = is
taken_at (suc n) (x ∷ list) (suc k) a is = taken_at n list k a is

pub declared_at : (f : Function) (k : ℕ) (l : LocalVariable) → slice_get (declared_in f) k ≡ Some l → slice_get f.locals k ≡ Some l
declared_at f k l is = taken_at f.declared_locals f.locals k l is

-- ---- what holds between two parts within a function

-- a part within a function, where H holds between parts: no rule is broken behind it only where none is before it, and then what
-- it stands for is so
pub record DoesIn (whole : Findings) (f : Function) (H : State → Type 0) {A : Type 0} (Before : Type 0) (Is : A → Type 0) (w : Goes A) : Type 0 where
  pub back : (x : State) → IsAhead whole f (left (w x)) → IsAhead whole f x
  pub forth : (x : State) → IsAhead whole f (left (w x)) → Before → H x → H (left (w x)) × Is (given (w x))

-- a part of the body of the function of that number
abbrev pub Does : Findings → Program → ℕ → Function → r.Around → {A : Type 0} → Type 0 → (A → Type 0) → Goes A → Type 0
Does whole P number f around Before Is w = DoesIn whole f (Holds P number f around) Before Is w

pub in_scope_is : {A : Type 0} (s : Scope) (o : Outcome Findings A) → in_scope s o ≡ Outcome.Gives (given o) (state s (left o))
in_scope_is s (Outcome.Gives a found) = refl

-- ---- names that are declared

inserted_by : {A : Type 0} (Is : A → Type 0) (b : Bool) (d : List ℕ × A) (more : List (List ℕ × A)) (name : List ℕ) (a : A) →
    AllByRecursion (λ (d : List ℕ × A). Is d.1) (d ∷ more) → Is a → AllByRecursion (λ (d : List ℕ × A). Is d.1) (inserted more name a) →
    AllByRecursion (λ (d : List ℕ × A). Is d.1) (if b then (d.0, a) ∷ more else d ∷ inserted more name a)
inserted_by Is true d more name a all is later = (is, all.1)
inserted_by Is false d more name a all is later = (all.0, later)

pub inserted_is : {A : Type 0} (Is : A → Type 0) (names : List (List ℕ × A)) (name : List ℕ) (a : A) → AllByRecursion (λ (d : List ℕ × A). Is d.1) names → Is a →
    AllByRecursion (λ (d : List ℕ × A). Is d.1) (inserted names name a)
inserted_is Is [] name a all is = (is, tt)
inserted_is Is (d ∷ more) name a all is = inserted_by Is (bytes_eq name d.0) d more name a all is (inserted_is Is more name a all.1 is)

removed_is : {A : Type 0} (Is : A → Type 0) (xs : List A) (k : ℕ) → AllByRecursion Is xs → AllByRecursion Is (remove xs k)
removed_is Is [] zero all = tt
removed_is Is [] (suc k) all = tt
removed_is Is (x ∷ xs) zero all = all.1
removed_is Is (x ∷ xs) (suc k) all = (all.0, removed_is Is xs k all.1)

closed_ahead : (whole : Findings) (f : Function) (level : Option Names) (s : Scope) (found : Findings) → IsAhead whole f (state (closed_to level s) found) → IsAhead whole f
    (state s found)
closed_ahead whole f None s found ahead = ahead
closed_ahead whole f (Some level) s found ahead = record { found = ahead.found; locals = ahead.locals }

closed_holds : (P : Program) (number : ℕ) (f : Function) (around : r.Around) (level : Option Names) (s : Scope) (found : Findings) → IfAny (AreMeant P f) level →
    Holds P number f around (state s found) →
    Holds P number f around (state (closed_to level s) found)
closed_holds P number f around None s found are holds = holds
closed_holds P number f around (Some level) s found are holds =
    let order = holds.orderly in
    record {
      orderly = record {
        inner = are;
        outer = removed_is (AreMeant P f) s.outer (length s.outer - 1) order.outer;
        headers = order.headers;
        function = order.function;
        gives = order.gives;
        kept = order.kept;
      };
      exits = holds.exits;
      loops = holds.loops;
      lengths = holds.lengths;
    }

either_ahead : {A : Type 0} (whole : Findings) (f : Function) (b : Bool) (v w : Goes A) (x : State) → (IsAhead whole f (left (v x)) → IsAhead whole f x) →
    (IsAhead whole f (left (w x)) → IsAhead whole f x) →
    IsAhead whole f (left (if b then v x else w x)) → IsAhead whole f x
either_ahead whole f true v w x hv hw ahead = hv ahead
either_ahead whole f false v w x hv hw ahead = hw ahead

pub after_one : {A B : Type 0} (step : A → B → Goes A) (a : A) (b : B) (rest : List B) (x : State) →
    through step a (b ∷ rest) x ≡ through step (given (step a b x)) rest (left (step a b x))
after_one step a b rest x = ap (λ o. fold (λ o b. and_then o (λ x. step x b)) o rest) (outcome (step a b x))

module _ {whole : Findings} {f : Function} {H : State → Type 0} where
  pub does_pure : {A : Type 0} {Before : Type 0} {Is : A → Type 0} (a : A) → (Before → Is a) → DoesIn whole f H Before Is (pure a)
  does_pure a is = record { back = λ x ahead. ahead; forth = λ x ahead before holds. (holds, is before) }

  pub does_then : {A B : Type 0} {Before : Type 0} {Is : A → Type 0} {Next : B → Type 0} (p : Goes A) (q : A → Goes B) →
      DoesIn whole f H Before Is p → ((a : A) → DoesIn whole f H (Before × Is a) Next (q a)) → DoesIn whole f H Before Next (p >>= q)
  does_then {Next = Next} p q hp hq = record {
    back = λ x ahead.
        hp.back x ((hq (given (p x))).back (left (p x)) (subst (λ o. IsAhead whole f (left o)) (turn (p x) q) ahead));
    forth = λ x ahead before holds.
        let behind = subst (λ o. IsAhead whole f (left o)) (turn (p x) q) ahead in
        let between = (hq (given (p x))).back (left (p x)) behind in
        let half = hp.forth x between before holds in
        subst (λ o. H (left o) × Next (given o)) (sym (turn (p x) q))
        ((hq (given (p x))).forth (left (p x)) behind (before, half.1) half.0);
  }

  pub does_as : {A : Type 0} {Before Earlier : Type 0} {Is Seen : A → Type 0} (w : Goes A) → (Earlier → Before) → ((a : A) → Earlier → Is a → Seen a) →
      DoesIn whole f H Before Is w → DoesIn whole f H Earlier Seen w
  does_as w before seen h = record {
    back = h.back;
    forth = λ x ahead earlier holds. let r = h.forth x ahead (before earlier) holds in (r.0, seen (given (w x)) earlier r.1);
  }

  -- ---- parts one after another

  pub does_through : {A B : Type 0} {Before : Type 0} (Each : B → Type 0) (Is : A → Type 0) (step : A → B → Goes A) →
      ((a : A) (b : B) → Each b → DoesIn whole f H (Before × Is a) Is (step a b)) →
      (a : A) (items : List B) → AllByRecursion Each items → DoesIn whole f H (Before × Is a) Is (through step a items)
  does_through Each Is step h a [] all = record { back = λ x ahead. ahead; forth = λ x ahead before holds. (holds, before.1) }
  does_through {Before = Before} Each Is step h a (b ∷ rest) all =
      record {
        back = λ x ahead.
            let o = step a b x in
            (h a b all.0).back x
            ((does_through {Before = Before} Each Is step h (given o) rest all.1).back (left o)
            (subst (λ y. IsAhead whole f (left y)) (after_one step a b rest x) ahead));
        forth = λ x ahead before holds.
            let o = step a b x in
            let later = does_through {Before = Before} Each Is step h (given o) rest all.1 in
            let behind = subst (λ y. IsAhead whole f (left y)) (after_one step a b rest x) ahead in
            let between = later.back (left o) behind in
            let half = (h a b all.0).forth x between before holds in
            subst (λ y. H (left y) × Is (given y)) (sym (after_one step a b rest x))
            (later.forth (left o) behind (before.0, half.1) half.0);
      }

module _ {whole : Findings} {P : Program} {number : ℕ} {f : Function} {around : r.Around} where
  -- a part that declares nothing
  pub does_finding : {A : Type 0} {Before : Type 0} {Is : A → Type 0} (walk : Scope → Finds A) →
      ((s : Scope) → Shows whole (Before × IsOrderly P number f s) Is (walk s)) → Does whole P number f around Before Is (finding walk)
  does_finding {Is = Is} walk h = record {
    back = λ x ahead.
        let found = subst (λ o. IsAhead whole f (left o)) (in_scope_is x.scope (walk x.scope x.found)) ahead in
        record { found = (h x.scope).back x.found found.found; locals = found.locals };
    forth = λ x ahead before holds.
        let found = subst (λ o. IsAhead whole f (left o)) (in_scope_is x.scope (walk x.scope x.found)) ahead in
        subst (λ o. Holds P number f around (left o) × Is (given o)) (sym (in_scope_is x.scope (walk x.scope x.found)))
        (record { orderly = holds.orderly; exits = holds.exits; loops = holds.loops; lengths = holds.lengths }, (h x.scope).forth x.found found.found (before, holds.orderly));
  }

  -- the same of what a scope shows besides
  pub does_finding_in : {A : Type 0} {Before : Type 0} {Is : A → Type 0} (Seen : Scope → A → Type 0) (walk : Scope → Finds A) →
      ((s : Scope) → Shows whole (Before × IsOrderly P number f s) (Seen s) (walk s)) →
      ((x : State) (a : A) → Holds P number f around x → Seen x.scope a → Is a) → Does whole P number f around Before Is (finding walk)
  does_finding_in {Is = Is} Seen walk h seen = record {
    back = λ x ahead.
        let found = subst (λ o. IsAhead whole f (left o)) (in_scope_is x.scope (walk x.scope x.found)) ahead in
        record { found = (h x.scope).back x.found found.found; locals = found.locals };
    forth = λ x ahead before holds.
        let found = subst (λ o. IsAhead whole f (left o)) (in_scope_is x.scope (walk x.scope x.found)) ahead in
        subst (λ o. Holds P number f around (left o) × Is (given o)) (sym (in_scope_is x.scope (walk x.scope x.found))) (
          record { orderly = holds.orderly; exits = holds.exits; loops = holds.loops; lengths = holds.lengths },
          seen x (given (walk x.scope x.found)) holds ((h x.scope).forth x.found found.found (before, holds.orderly)),
        );
  }

  pub does_opened : {Before : Type 0} → Does whole P number f around Before (λ _. ⊤) (scoping opened)
  unfolding opened
  does_opened = record {
    back = λ x ahead. record { found = ahead.found; locals = ahead.locals };
    forth = λ x ahead before holds.
        let order = holds.orderly in (
          record {
            orderly = record {
              inner = tt;
              outer = all_more (AreMeant P f) x.scope.outer x.scope.inner order.outer order.inner;
              headers = order.headers;
              function = order.function;
              gives = order.gives;
              kept = order.kept;
            };
            exits = holds.exits;
            loops = holds.loops;
            lengths = holds.lengths;
          },
          tt,
        );
  }

  pub does_closed : {Before : Type 0} → Does whole P number f around Before (λ _. ⊤) (scoping closed)
  unfolding closed
  does_closed = record {
    back = λ x ahead. closed_ahead whole f (slice_get x.scope.outer (length x.scope.outer - 1)) x.scope x.found ahead;
    forth = λ x ahead before holds. (
      closed_holds P number f around (slice_get x.scope.outer (length x.scope.outer - 1)) x.scope x.found
          (element_is (AreMeant P f) x.scope.outer (length x.scope.outer - 1) holds.orderly.outer) holds,
      tt,
    );
  }

  -- ---- a name in the innermost scope

  declaring_does : {Before : Type 0} (name : List ℕ) (m : Meaning) → (Before → IsMeant P f m) → Does whole P number f around Before (λ _. ⊤) (scoping (declaring name m))
  unfolding declaring
  declaring_does name m is = record {
    back = λ x ahead. record { found = ahead.found; locals = ahead.locals };
    forth = λ x ahead before holds.
        let order = holds.orderly in (
          record {
            orderly = record {
              inner = inserted_is (IsMeant P f) x.scope.inner name m order.inner (is before);
              outer = order.outer;
              headers = order.headers;
              function = order.function;
              gives = order.gives;
              kept = order.kept;
            };
            exits = holds.exits;
            loops = holds.loops;
            lengths = holds.lengths;
          },
          tt,
        );
  }

  twice_does : {Before : Type 0} (at : ℕ) → Does whole P number f around Before (λ _. ⊤) (finding (λ s. finds rule.Twice at))
  twice_does at = does_finding (λ s. finds rule.Twice at) (λ s. shows_broken {Is = λ _. ⊤} rule.Twice at)

  -- by a test of the state
  either_holds : {A : Type 0} (Is : A → Type 0) (b : Bool) (v w : Goes A) (x : State) →
      (IsAhead whole f (left (v x)) → Holds P number f around (left (v x)) × Is (given (v x))) →
      (IsAhead whole f (left (w x)) → Holds P number f around (left (w x)) × Is (given (w x))) →
      IsAhead whole f (left (if b then v x else w x)) → Holds P number f around (left (if b then v x else w x)) × Is (given (if b then v x else w x))
  either_holds Is true v w x hv hw ahead = hv ahead
  either_holds Is false v w x hv hw ahead = hw ahead

  pub declare_does : {Before : Type 0} (name : Name) (m : Meaning) → (Before → IsMeant P f m) → Does whole P number f around Before (λ _. ⊤) (declare name m)
  unfolding declare
  declare_does {Before} name m is =
      let v : Goes (Unit {0}) = finding (λ s. finds rule.Twice name.offset) in
      let w : Goes (Unit {0}) = scoping (declaring name.bytes m) in
      let hv = twice_does {Before = Before} name.offset in
      let hw = declaring_does {Before = Before} name.bytes m is in
      record {
        back = λ x ahead. either_ahead whole f (is_taken x.scope name.bytes) v w x (hv.back x) (hw.back x) ahead;
        forth = λ x ahead before holds.
            either_holds (λ _. ⊤) (is_taken x.scope name.bytes) v w x (λ a. hv.forth x a before holds) (λ a. hw.forth x a before holds) ahead;
      }
