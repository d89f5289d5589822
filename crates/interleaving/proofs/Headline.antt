-- Every run of the hardware of a good program shows one interleaving.
use Rattle.std.proofs.Common.{◌≡◌, ◌≢◌, ℕ, zero, suc, ◌+◌, ◌*◌, ◌<◌, ◌≤◌, List, [], ◌∷◌, length, refl, sym, ap, ◌∙◌, subst, ⊎_elim, inl, inr, arith}
use Rattle.std.specs.Prelude.{◌⊎◌, Bool, true, false}
use Rattle.std.proofs.Math.Nat.{div-le_of_le-mul}
use Rattle.std.proofs.lemmas.Bool.{cases_lt}
use Rattle.interleaving.specs.Memory.{Location, Writes}
use Rattle.interleaving.specs.Source.{Outcome, StepsTo, Blocked, Undefined, Source, Move, accesses_of, RunsAlone}
use Rattle.interleaving.specs.Interleaving.{Deadlocked, IsGood}
use Rattle.interleaving.specs.Threaded.{IsThreaded}
use Rattle.interleaving.specs.Hardware.{World, Hardware, IsPlanned, Lag}
use Rattle.interleaving.specs.Progress.{IsStuck, Moment}
use Rattle.interleaving.specs.Headline.{Shows, MarksEnd, DoneWhereEnded, Refinement, is_still, RunsAsOne}
use Rattle.interleaving.proofs.Accesses.{memory_after-unwritten}
use Rattle.interleaving.proofs.FollowedRuns.{follows_weaker}
use Rattle.interleaving.proofs.PaidMoves.{all_moments}
use Rattle.interleaving.proofs.Update.{same_or_not}

module _ {Value Local State Slot Cores : Type 0} (P : Source Value Local State) (H : Hardware Value Local State Slot Cores) (law : IsThreaded P) where
  -- where a state is ended nobody has a move
  nobody_moves : (L : List ℕ) (w : World Value Slot Cores) (l : Lag P H L w) → P.is_ended l.state ≡ true →
      (j : ℕ) (p : Location) (hs : List (Move Value Local)) → RunsAlone P (P.local l.state j) (P.memory l.state) hs → Writes p (accesses_of hs) → ⊥
  nobody_moves L w l ended j p [] r wr = wr
  nobody_moves L w l ended j p (h ∷ hs) r wr = let a = law.mover_lives l.state j h.to h.accesses (L, l.reached) r.0 in absurd (cc (a.0, ended))

  -- so the hardware has its memory then
  pub lag_ended : IsPlanned P H → (L : List ℕ) (w : World Value Slot Cores) (l : Lag P H L w) → P.is_ended l.state ≡ true → (p : Location) → w.memory p ≡ P.memory l.state p
  lag_ended plan L w l ended p = l.memory p 0 (λ j _ wr. idle j wr) ∙ memory_after-unwritten (l.flights 0).made (P.memory l.state) p (idle 0)
    where
      idle : (j : ℕ) → Writes p (l.flights j).made → ⊥
      idle j wr =
          ⊎_elim
          (λ r. subst (λ d. Writes p d) r.1 wr)
          (λ v. nobody_moves L w l ended j p (l.flights j).moves (l.runs j) (plan.inside _ _ _ _ _ p v wr))
          (l.places j)

-- DONE
pub done_where_ended :
    {Value Local State Slot Cores : Type 0} (P : Source Value Local State) (H : Hardware Value Local State Slot Cores) (is_over : Local → Bool) (marks : Slot → Bool) →
    MarksEnd P H is_over marks → DoneWhereEnded P H marks
done_where_ended P H is_over marks law L w l =
    let over = law.ended l.state (L, l.reached) in
    ⊎_elim
    (λ r. law.rests w.cores (P.local l.state 0) (w.slots 0) r.2 ∙ sym over)
    (λ v. law.flies l.state (l.flights 0).moves (l.flights 0).made (w.slots 0) (L, l.reached) (l.runs 0) v ∙ sym over)
    (l.places 0)

module _ {Value Local State : Type 0} (P : Source Value Local State) where
  blocked_or_not : (o : Outcome State) → (o ≡ Blocked) ⊎ (o ≢ Blocked)
  blocked_or_not (StepsTo s) = inr (λ e. absurd cc)
  blocked_or_not Blocked = inl refl
  blocked_or_not Undefined = inr (λ e. absurd cc)

  below_stuck : (n : ℕ) (s : State) → ((i : ℕ) → i < n → P.step s i ≡ Blocked) ⊎ (IsStuck P s → ⊥)
  below_stuck zero s = inl (λ i lt. absurd (omega arith))
  below_stuck (suc n) s =
      ⊎_elim
      (λ b. ⊎_elim
      (λ rest. inl (λ i lt. ⊎_elim (λ (e : i ≡ n). ap (λ k. P.step s k) e ∙ b) (λ (ne : i ≢ n). rest i (omega arith)) (same_or_not i n)))
      (λ free. inr free)
      (below_stuck n s))
      (λ goes. inr (λ stuck. goes (stuck n)))
      (blocked_or_not (P.step s n))

  -- of T threads it can be told whether all are blocked
  stuck_or_not : (T : ℕ) (s : State) → ((i : ℕ) → T ≤ i → P.step s i ≡ Blocked) → IsStuck P s ⊎ (IsStuck P s → ⊥)
  stuck_or_not T s beyond =
      ⊎_elim
      (λ below. inl (λ i. ⊎_elim (λ lt. below i lt) (λ le. beyond i le) (cases_lt i T)))
      (λ free. inr free)
      (below_stuck T s)

  -- what is stuck is ended or deadlocked
  stuck_is : (s : State) (b : Bool) → P.is_ended s ≡ b → IsStuck P s → (P.is_ended s ≡ true) ⊎ Deadlocked P s
  stuck_is s true e stuck = inl e
  stuck_is s false e stuck = inr (record { runs_on = e; blocked = λ i _. stuck i })

-- what a moment that is paid for shows
module _ (M : Refinement) (good : IsGood M.source) where
  shows : (L : List ℕ) (h : M.Machine) (m : ℕ) → Moment M.source M.hardware M.T M.B M.left L (M.look h) m → Shows M.source M.views M.T M.B M.is_full (is_still M) L h m
  shows L h m now =
      let l = now.lag in
      let clocked = M.clocked good in
      record {
        state = l.state;
        reached = l.reached;
        printed = M.seen.prints h l.state l.stands;
        done = M.seen.done L h l;
        globals = λ e p. M.seen.globals h p ∙ lag_ended M.source M.hardware M.threaded M.planned L (M.look h) l e p;
        goes_on =
            ⊎_elim
            (λ stuck. ⊎_elim (λ e. inl e) (λ d. inr (inl d)) (stuck_is M.source l.state (M.source.is_ended l.state) refl stuck))
            (λ free. inr (inr (
              (λ c f same. free (clocked.lively L h c l (M.full_counts h c f) (clocked.still L h c l same))),
              div-le_of_le-mul M.B (⊎_elim (λ stuck. absurd (free stuck)) (λ paid. let le : m ≤ M.B * (length L + M.T) = omega arith in le) now.paid),
            )))
            (stuck_or_not M.source M.T l.state (λ i le. M.seen.beyond l.state i (L, l.reached) le));
      }

-- THE HEADLINE'S SECOND SENTENCE
pub runs_as_one : (M : Refinement) → RunsAsOne M
runs_as_one M good C =
    follows_weaker M.cycle M.counts (is_still M) (λ L g m. Moment M.source M.hardware M.T M.B M.left L (M.look g) m) (Shows M.source M.views M.T M.B M.is_full (is_still M)) M.first C (shows M good)
    (all_moments M.source M.hardware M.threaded good M.planned M.T M.B M.left M.timed M.look M.counts M.cycle (M.clocked good) M.first M.starts C)
