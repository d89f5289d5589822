-- Where each thread stands so, no two race.
use Rattle.std.proofs.Common.{◌≡◌, ◌≢◌, ℕ, zero, suc, ◌<◌, List, [], ◌∷◌, length, refl, sym, ◌∙◌, ap, subst, arith}
use Rattle.std.specs.Prelude.{Bool, true, false, ◌&&◌, ◌||◌, nat_eq, Some, slice_get, slice_index_or, Contains}
use Rattle.std.specs.List.{AllByRecursion}
use Rattle.std.proofs.lemmas.Bool.{and_parts, eqb-true}
use Rattle.c_program.specs.declared.tree.ThreadObject.{ThreadObject}
use Rattle.c_program.specs.Tree.{Program}
use Rattle.c_program.specs.Weight.{thread_count}
use Rattle.thread_semantics.specs.State.{Frame, Slot, Unused, Running, State}
use Rattle.thread_semantics.specs.Races.{Touch}
use Rattle.lock_discipline.specs.Sets.{Sets, has, has_all}
use Rattle.lock_discipline.specs.Walk.{Access, Touches}
use Rattle.lock_discipline.specs.Discipline.{all_seen, owners}
use Rattle.lock_discipline.proofs.Moves.{IsTold}
use Rattle.lock_discipline.proofs.Numbers.{object_at}
use Rattle.lock_discipline.proofs.Runners.{runner, owner_is_one}
use Rattle.lock_discipline.proofs.Sure.{walker, IsHeld, IsIdOf, IsSure}
use Rattle.lock_discipline.proofs.Verdicts.{IsOne, IsDisciplined, IsKeptApart, Own, Guard, kept_apart}
use Rattle.lock_discipline.proofs.Founded.{IsMet}

data Where (a b : ℕ) : Type 0 where
  Last : a ≡ b → Where a b
  Before : a < b → Where a b

where_is : (a b : ℕ) → a < suc b → Where a b
where_is zero zero l = Last refl
where_is zero (suc b) l = Before (omega arith)
where_is (suc a) zero l = absurd (omega (arith, l))
where_is (suc a) (suc b) l = elim (where_is a b (omega (arith, l))) [ Last q ↦ Last (ap suc q) | Before m ↦ Before (omega (arith, m)) ]

has_each : (n x : ℕ) (set : List Bool) → has_all n set ≡ true → x < n → has set x ≡ true
has_each zero x set e less = absurd (omega (arith, less))
has_each (suc n) x set e less =
    let both = and_parts (has set n) (has_all n set) e in
    elim (where_is x n less) [ Last q ↦ subst (λ z. has set z ≡ true) (sym q) both.0 | Before m ↦ has_each n x set both.1 m ]

pub contained : {A : Type 0} (Q : A → Type 0) (xs : List A) (a : A) → AllByRecursion Q xs → Contains xs a → Q a
contained Q xs a all c = go xs c.0 all c.1 c.2
  where
    go : (ys : List _) (k : ℕ) → AllByRecursion Q ys → k < length ys → slice_index_or ys k a ≡ a → Q a
    go [] k h l e = absurd (omega (arith, l))
    go (y ∷ ys) zero h l e = subst Q e h.0
    go (y ∷ ys) (suc k) h l e = go ys k h.1 (omega (arith, l)) e

pub contained_none : {A : Type 0} (a : A) → Contains [] a → ⊥
contained_none a c = omega (arith, c.1)

module _ (P : Program) where
  -- what a touch of thread i's next step is in the text
  pub record IsSeen (s : State) (i : ℕ) (t : Touch) : Type 0 where
    pub access : Access
    pub one : IsOne (Touches access) (all_seen P)
    pub global : access.global ≡ t.place.variable
    pub written : access.written ≡ t.written
    pub function : access.function ≡ runner P i
    pub quiet : access.quiet ≡ true → (i ≡ 0) × ((x j : ℕ) → IsIdOf P x j → slice_get s.slots j ≡ Some Unused)
    pub held : (m : ℕ) → has access.held m ≡ true → IsHeld P s i m

  below : (xs : List ThreadObject) (x : ℕ) (o : ThreadObject) → slice_get xs x ≡ Some o → x < length xs
  below [] x o e = absurd cc
  below (y ∷ ys) zero o e = omega arith
  below (y ∷ ys) (suc x) o e = let rest = below ys x o e in omega (arith, rest)

  pub seen : (s : State) (i : ℕ) (a : Sets) (t : Touch) → IsSure P s i a → IsTold P (IsMet P) (walker P i) a t → IsSeen s i t
  seen s i a t sure told = record {
    access = record {
      offset = told.0;
      global = t.place.variable;
      written = t.written;
      function = runner P i;
      quiet = nat_eq i 0 && has_all (length P.threads) a.unused;
      held = a.held;
    };
    one = told.1;
    global = refl;
    written = refl;
    function = refl;
    quiet = λ e. (let both = and_parts (nat_eq i 0) (has_all (length P.threads) a.unused) e in
        let zero_is : i ≡ 0 = eqb-true i 0 both.0 in
        (zero_is, λ x j id. sure.unused zero_is x j (has_each (length P.threads) x a.unused both.1 (below P.threads x id.object id.found)) id));
    held = sure.held;
  }

  -- a thread that runs and isn't main has a thread id of an object
  pub id_of : (s : State) (j : ℕ) (frames : List Frame) → length s.slots ≡ thread_count P → j ≢ 0 → slice_get s.slots j ≡ Some (Running frames) → (x : ℕ) × IsIdOf P x j
  id_of s j frames long other at = go j refl
    where
      there : (ss : List Slot) (k : ℕ) (y : Slot) → slice_get ss k ≡ Some y → k < length ss
      there [] k y e = absurd cc
      there (z ∷ ss) zero y e = omega arith
      there (z ∷ ss) (suc k) y e = let rest = there ss k y e in omega (arith, rest)

      go : (k : ℕ) → j ≡ k → (x : ℕ) × IsIdOf P x j
      go zero e = absurd (other e)
      go (suc k) e =
          let less = there s.slots j (Running frames) at in
          let r = object_at (λ (o : ThreadObject). o.length) P.threads k (omega (arith, less, e, long)) in
          let is = r.is in
          (r.number, record { object = r.object; found = r.found; place = r.place; inside = r.inside; is = omega (arith, is, e) })

  module _ (d : IsDisciplined P) (s : State) (long : length s.slots ≡ thread_count P) where
    -- main, at a quiet point, and another thread
    alone : (i j : ℕ) (frames : List Frame) (t : Touch) (a : IsSeen s i t) → a.access.quiet ≡ true → i ≢ j → slice_get s.slots j ≡ Some (Running frames) → ⊥
    alone i j frames t a quiet apart at =
        let q = a.quiet quiet in
        let id = id_of s j frames long (λ z. apart (q.0 ∙ sym z)) at in
        let both : Some Unused ≡ Some (Running frames) = sym (q.1 id.0 j id.1) ∙ at in
        cc

    loud : (b : Bool) → (b ≡ true → ⊥) → b ≡ false
    loud true h = absurd (h refl)
    loud false h = refl

    pub apart_in : (i j : ℕ) (p q : Touch) (is js : List Frame) → i ≢ j → slice_get s.slots i ≡ Some (Running is) → slice_get s.slots j ≡ Some (Running js) →
        IsSeen s i p → IsSeen s j q → p.place.variable ≡ q.place.variable → (p.written || q.written) ≡ true → p.place.variable < length P.globals → ⊥
    apart_in i j p q is js apart ati atj a b same written declared =
        let qa : a.access.quiet ≡ false = loud a.access.quiet (λ e. alone i j js p a e apart atj) in
        let qb : b.access.quiet ≡ false = loud b.access.quiet (λ e. alone j i is q b e (λ z. apart (sym z)) ati) in
        let w : (a.access.written || b.access.written) ≡ true = ap (λ (x : Bool). x || b.access.written) a.written ∙ ap (λ (x : Bool). p.written || x) b.written ∙ written in
        go (kept_apart (owners P) (length P.mutexes) (all_seen P) p.place.variable a.access b.access (d.each p.place.variable declared) a.one b.one a.global (b.global ∙ sym same) qa qb w)
      where
        go : IsKeptApart (owners P) a.access b.access → ⊥
        go (Own f own x y) = apart (owner_is_one P i j f own (sym a.function ∙ x) (sym b.function ∙ y))
        go (Guard m x y) =
            let both = sym (a.held m x).owned ∙ (b.held m y).owned in
            apart cc
