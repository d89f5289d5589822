-- What the sentences of a grammar's rules spell where each token is valid, by how many tokens there are.
use Rattle.std.proofs.Common.{◌≡◌, sym, subst, ℕ, List, [], ◌∷◌, length, Option, Some, None, ⊎_elim, length-append, arith}
use Rattle.std.specs.Prelude.{◌+◌}
use Rattle.std.specs.List.{AllByRecursion}
use Rattle.lists.proofs.Places.{all_back, all_front}
use Rattle.grammar.specs.Rules.{Placed, Rule, pure, one, ◌>>=◌, ◌<|>◌, none, nested, many, optional}

module _ {T : Type 0} (IsValid : T → Type 0) where
  abbrev IsPlaced : Placed T → Type 0
  IsPlaced x = IsValid x.0

  abbrev pub AreValid : List (Placed T) → Type 0
  AreValid ts = AllByRecursion IsPlaced ts

  pub record Gives {A : Type 0} (Is : ℕ → A → Type 0) (P : Rule T A) : Type 0 where
    pub gives : (at : ℕ) (ts : List (Placed T)) (v : A) → P at ts v → AreValid ts → Is (length ts) v

  pub gives_as : {A : Type 0} {Is Seen : ℕ → A → Type 0} {P : Rule T A} → ((n : ℕ) (v : A) → Is n v → Seen n v) → Gives Is P → Gives Seen P
  gives_as f h = record { gives = λ at ts v p all. f (length ts) v (h.gives at ts v p all) }

  pub gives_none : {A : Type 0} {Is : ℕ → A → Type 0} → Gives Is (none {A = A})
  gives_none = record { gives = λ at ts v p all. absurd p }

  pub gives_pure : {A : Type 0} {Is : ℕ → A → Type 0} (a : A) → Is 0 a → Gives Is (pure a)
  gives_pure {Is = Is} a is = record {
    gives = λ at ts v p all. subst (λ z. Is (length ts) z) (sym p.1) (subst (λ l. Is (length l) a) (sym p.0) is);
  }

  pub gives_one : {A : Type 0} {Is : ℕ → A → Type 0} (f : T → Option A) → ((t : T) (v : A) → IsValid t → f t ≡ Some v → Is 1 v) → Gives Is (one f)
  gives_one {Is = Is} f is = record {
    gives = λ at ts v p all.
        let here : IsValid p.0 = (subst AreValid p.1 all).0 in
        subst (λ l. Is (length l) v) (sym p.1) (is p.0 v here p.2);
  }

  pub gives_then : {A B : Type 0} {First : ℕ → A → Type 0} {Is : ℕ → B → Type 0} (P : Rule T A) (Q : A → Rule T B) → Gives First P
      → ((m : ℕ) (a : A) → First m a → Gives (λ n v. Is (m + n) v) (Q a)) → Gives Is (P >>= Q)
  gives_then {Is = Is} P Q hp hq = record {
    gives = λ at ts v p all.
        let both = subst AreValid p.3 all in
        let first = hp.gives at p.1 p.0 p.4 (all_front IsPlaced p.1 p.2 both) in
        let next = (hq (length p.1) p.0 first).gives at p.2 v p.5 (all_back IsPlaced p.1 p.2 both) in
        subst (λ l. Is (length l) v) (sym p.3) (subst (λ n. Is n v) (sym (length-append p.1 p.2)) next);
  }

  pub gives_either : {A : Type 0} {Is : ℕ → A → Type 0} {P Q : Rule T A} → Gives Is P → Gives Is Q → Gives Is (P <|> Q)
  gives_either hp hq = record { gives = λ at ts v p all. ⊎_elim (λ a. hp.gives at ts v a all) (λ b. hq.gives at ts v b all) p }

  pub gives_nested : {A : Type 0} {Is : ℕ → A → Type 0} (P : Rule T A) → Gives Is P → Gives Is (nested P)
  gives_nested P h = record { gives = λ at ts v p all. h.gives (at + 1) ts v p all }

  pub gives_many : {A : Type 0} {Is : ℕ → A → Type 0} {P : Rule T A} (All : ℕ → List A → Type 0) → All 0 [] →
      ((m n : ℕ) (v : A) (vs : List A) → Is m v → All n vs → All (m + n) (v ∷ vs)) → Gives Is P → Gives All (many P)
  gives_many {A} {Is} {P} All empty more h = record { gives = every } where
    every : (at : ℕ) (ts : List (Placed T)) (vs : List A) → many P at ts vs → AreValid ts → All (length ts) vs
    every at ts [] p all = subst (λ l. All (length l) []) (sym p) empty
    every at ts (v ∷ vs) p all =
        let both = subst AreValid p.2 all in
        let first = h.gives at p.0 v p.3 (all_front IsPlaced p.0 p.1 both) in
        let next = every at p.1 vs p.4 (all_back IsPlaced p.0 p.1 both) in
        subst (λ l. All (length l) (v ∷ vs)) (sym p.2) (subst (λ n. All n (v ∷ vs)) (sym (length-append p.0 p.1)) (more (length p.0) (length p.1) v vs first next))

  -- each of them is so
  pub gives_each : {A : Type 0} {Is : A → Type 0} {P : Rule T A} → Gives (λ _ v. Is v) P → Gives (λ _ vs. AllByRecursion Is vs) (many P)
  gives_each {Is = Is} h = gives_many (λ _ vs. AllByRecursion Is vs) tt (λ m n v vs a b. (a, b)) h

  pub gives_optional : {A : Type 0} {Is : ℕ → A → Type 0} {P : Rule T A} (Maybe : ℕ → Option A → Type 0) → Maybe 0 None →
      ((n : ℕ) (v : A) → Is n v → Maybe n (Some v)) → Gives Is P → Gives Maybe (optional P)
  gives_optional {P = P} Maybe missing some h =
      gives_either
      (gives_then P (λ v. pure (Some v)) h (λ m a is. gives_pure (Some a) (let same : m ≡ m + 0 = omega arith in subst (λ n. Maybe n (Some a)) same (some m a is))))
      (gives_pure None missing)
