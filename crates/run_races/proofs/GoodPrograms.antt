-- What each step of an interleaving keeps holds of every state that is reached; where that is that a clean run goes on, the
-- program is good.
use Rattle.std.proofs.Common.{suc, ◌+◌, length, arith, ◌≡◌, ◌≢◌, ℕ, List, [], ◌∷◌, ◌++◌, refl, ap, ◌∙◌, subst}
use Rattle.std.specs.Prelude.{false}
use Rattle.c_program.specs.Tree.{Program}
use Rattle.c_program.specs.Resolved.{IsResolved}
use Rattle.thread_semantics.specs.declared.cause.UndefinedCause.{UndefinedCause}
use Rattle.thread_semantics.specs.State.{State, start}
use Rattle.thread_semantics.specs.Move.{Move}
use Rattle.thread_semantics.specs.Step.{Stepped, Steps, Blocks, Undefines, and_steps, step, after}
use Rattle.thread_semantics.specs.Races.{IsGood}
use Rattle.race_model.proofs.Sound.{IsSound, start_sound}
use Rattle.race_model.proofs.Ids.{ids_are_single}
use Rattle.run_races.specs.Order.{Depends}
use Rattle.run_races.specs.Clean.{IsOrderedBy, IsClean}
use Rattle.run_races.proofs.DefinedSteps.{none_undefined}
use Rattle.run_races.proofs.RaceFreedom.{none_races}

-- a list of steps leads there
abbrev pub IsReached : Program → State → Type 0
IsReached P s = (list : List ℕ) × (after P list ≡ Steps s)

one_more : (P : Program) (L : List ℕ) (o : Stepped) (s : State) (i : ℕ) → and_steps P o L ≡ Steps s → and_steps P o (L ++ i ∷ []) ≡ step P s i
one_more P [] (Steps t) s i e = let same : t ≡ s = cc in ap (λ u. step P u i) same
one_more P [] (Blocks cause) s i e = absurd cc
one_more P [] (Undefines offset cause) s i e = absurd cc
one_more P (k ∷ L) (Steps t) s i e = one_more P L (step P t k) s i e
one_more P (k ∷ L) (Blocks cause) s i e = absurd cc
one_more P (k ∷ L) (Undefines offset cause) s i e = absurd cc

pub one_step : (P : Program) (s t : State) (i : ℕ) → IsReached P s → step P s i ≡ Steps t → IsReached P t
one_step P s t i x e = (x.0 ++ i ∷ [], one_more P x.0 (Steps (start P)) s i x.1 ∙ e)

module _ (P : Program) (K : ℕ → State → Type 0) (stays : (n : ℕ) (s t : State) (i : ℕ) → K n s → step P s i ≡ Steps t → K (suc n) t) where
  -- n: how many steps were taken
  pub kept_by_steps : (list : List ℕ) (n : ℕ) (s t : State) → K n s → and_steps P (Steps s) list ≡ Steps t → K (length list + n) t
  kept_by_steps [] n s t x e =
      let same : s ≡ t = cc in
      let none : n ≡ 0 + n = omega arith in
      subst (λ k. K k t) none (subst (K n) same x)
  kept_by_steps (i ∷ list) n s t x e = go (step P s i) refl e (λ u y q. kept_by_steps list (suc n) u t y q)
    where
      none : (list : List ℕ) (o : Stepped) → and_steps P o list ≡ Steps t → ((u : State) → o ≢ Steps u) → ⊥
      none [] o q never = never t q
      none (k ∷ list) (Steps u) q never = never u refl
      none (k ∷ list) (Blocks cause) q never = cc
      none (k ∷ list) (Undefines offset cause) q never = cc

      go : (o : Stepped) → step P s i ≡ o → and_steps P o list ≡ Steps t → ((u : State) → K (suc n) u → and_steps P (Steps u) list ≡ Steps t → K (length list + suc n) t) →
          K (suc (length list) + n) t
      go (Steps u) q more later =
          let count : length list + suc n ≡ suc (length list) + n = omega arith in
          subst (λ k. K k t) count (later u (stays n s u i x q) more)
      go (Blocks cause) q more later = absurd (none list (Blocks cause) more (λ u n. cc))
      go (Undefines offset cause) q more later = absurd (none list (Undefines offset cause) more (λ u n. cc))

-- a run goes on from there in which any two steps that depend, by D, on one another are ordered
pub record GoesOn (D : Move → ℕ → Move → Type 0) (P : Program) (s : State) : Type 0 where
  pub sound : IsSound P s
  pub reached : IsReached P s
  pub rest : List ℕ
  pub ordered : IsOrderedBy D P s rest

module _ (P : Program) (R : IsResolved P) (stays : (s t : State) (i : ℕ) → GoesOn Depends P s → step P s i ≡ Steps t → GoesOn Depends P t) where
  pub good : (list : List ℕ) → IsClean P (start P) list → IsGood P
  good list clean = record {
    defined = defined;
    calm = λ l s i j place at on races. (let x = there l s at in none_races P R s i j place x.rest x.sound x.ordered races);
    single = ids_are_single P defined;
  }
    where
      there : (l : List ℕ) (s : State) → after P l ≡ Steps s → GoesOn Depends P s
      there l s at =
          kept_by_steps P (λ n u. GoesOn Depends P u) (λ n u t i x e. stays u t i x e) l 0 (start P) s
          (record { sound = start_sound P R; reached = ([], refl); rest = list; ordered = clean }) at

      defined : (l : List ℕ) (s : State) (i offset : ℕ) (cause : UndefinedCause) → after P l ≡ Steps s → s.ended ≡ false → step P s i ≢ Undefines offset cause
      defined l s i offset cause at on = let x = there l s at in none_undefined P R s x.sound x.rest x.ordered i offset cause
