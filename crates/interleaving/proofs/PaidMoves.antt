-- Along a chain the steps pay for the moves, and so through every run.
use Rattle.std.proofs.Common.{◌≡◌, ◌≢◌, ℕ, zero, suc, ◌+◌, ◌*◌, ◌<◌, ◌≤◌, List, [], ◌∷◌, ◌++◌, length, refl, sym, ap, ◌∙◌, subst, ⊎_elim, inl, inr, arith, append_assoc, append-nil, length-append}
use Rattle.std.specs.Prelude.{◌⊎◌, Bool, true, false, Some, if◌then◌else◌}
use Rattle.interleaving.specs.Source.{Source}
use Rattle.interleaving.specs.Interleaving.{if_steps, after_from, Reached, IsGood}
use Rattle.interleaving.specs.Threaded.{IsThreaded}
use Rattle.interleaving.specs.Hardware.{World, Hardware, IsPlanned, Lag}
use Rattle.interleaving.specs.Cycle.{Chain}
use Rattle.interleaving.specs.Run.{FollowsOne}
use Rattle.interleaving.specs.Progress.{total_left, IsTimed, IsStuck, IsClocked, Moment, PaysForMoves}
use Rattle.interleaving.proofs.Alone.{after_from-append}
use Rattle.interleaving.proofs.KeptLag.{keeps_lag}
use Rattle.interleaving.proofs.FollowedRuns.{runs_follow_one}
use Rattle.interleaving.proofs.Update.{same_or_not}

pay : (n o' ov ow lw lv B a r k : ℕ) → n + o' ≤ ov + B * r → ov + lw ≡ ow + lv → lv < lw + B * a → k ≡ a + r → suc n + o' ≤ ow + B * k
pay n o' ov ow lw lv B a r k h e lt eq = subst (λ x. suc n + o' ≤ ow + B * x) (sym eq) (omega arith)

pay_cycle : (m k n o o' B l a T x : ℕ) → m + o ≤ B * (l + T) → n + o' ≤ o + B * a → k ≤ n → x ≡ l + a → m + k + o' ≤ B * (x + T)
pay_cycle m k n o o' B l a T x h t le e = subst (λ y. m + k + o' ≤ B * (y + T)) (sym e) (omega arith)

-- the sum over the slots where one changes
module _ {Value Slot Cores : Type 0} (left : Slot → ℕ) where
  pub total_left-same : (T : ℕ) (w w' : World Value Slot Cores) → ((j : ℕ) → j < T → w'.slots j ≡ w.slots j) → total_left T left w' ≡ total_left T left w
  total_left-same zero w w' same = refl
  total_left-same (suc n) w w' same =
      let rest = total_left-same n w w' (λ j lt. same j (omega arith)) in
      let here = ap left (same n (omega arith)) in
      omega arith

  -- where slot i alone changes, the sum changes by as much
  pub total_left-changed : (T : ℕ) (w w' : World Value Slot Cores) (i : ℕ) → i < T → ((j : ℕ) → j ≢ i → w'.slots j ≡ w.slots j) → total_left T left w' + left
      (w.slots i) ≡ total_left T left w + left (w'.slots i)
  total_left-changed zero w w' i lt others = absurd (omega arith)
  total_left-changed (suc n) w w' i lt others =
      ⊎_elim
      (λ (e : n ≡ i).
      let rest = total_left-same n w w' (λ j below. others j (λ f. absurd (omega arith))) in
      let now : left (w'.slots n) ≡ left (w'.slots i) = ap (λ k. left (w'.slots k)) e in
      let was : left (w.slots n) ≡ left (w.slots i) = ap (λ k. left (w.slots k)) e in
      omega arith)
      (λ (ne : n ≢ i).
      let rest = total_left-changed n w w' i (omega arith) others in
      let here = ap left (others n ne) in
      omega arith)
      (same_or_not n i)

module _ {Value Local State Slot Cores : Type 0} (P : Source Value Local State) (H : Hardware Value Local State Slot Cores) (law : IsThreaded P) (good : IsGood P)
    (plan : IsPlanned P H) (T B : ℕ) (left : Slot → ℕ) (timed : IsTimed H B left) where
  -- a chain of moves keeps the lag, and its steps pay for the changes
  pub lag_chain : (is : List ℕ) (L : List ℕ) (w w' : World Value Slot Cores) → Lag P H L w → Chain P H T is w w' →
      (added : List ℕ) × Lag P H (L ++ added) w' × (length is + total_left T left w' ≤ total_left T left w + B * length added)
  lag_chain [] L w w' l c = ([], subst (λ M. Lag P H M w') (sym (append-nil L)) (subst (λ v. Lag P H L v) c l), subst (λ v. 0 + total_left T left v ≤ total_left T left w + B * 0) c (omega arith))
  lag_chain (i ∷ is) L w w' l c =
      let v = c.0 in
      let one = keeps_lag P H law good plan L w v i l c.2 in
      let less = timed.spends (w.slots i) (v.slots i) (length one.0) one.2 in
      let rest = lag_chain is (L ++ one.0) v w' one.1 c.3 in
      let changed = total_left-changed left T w v i c.1 one.3 in (
        one.0 ++ rest.0,
        subst (λ M. Lag P H M w') (append_assoc L one.0 rest.0) rest.1,
        pay (length is) (total_left T left w') (total_left T left v) (total_left T left w)
            (left (w.slots i)) (left (v.slots i)) B (length one.0) (length rest.0) (length (one.0 ++ rest.0)) rest.2 changed less (length-append one.0 rest.0),
      )

  -- PROGRESS BY A COUNT
  pub pays_for_moves : PaysForMoves P H T B left
  pays_for_moves is L w v l c = lag_chain is L w v l c

  -- without moves nothing is added
  no_moves : (is : List ℕ) (L : List ℕ) (w w' : World Value Slot Cores) (l : Lag P H L w) (c : Chain P H T is w w') → is ≡ [] → (lag_chain is L w w' l c).0 ≡ []
  unfolding lag_chain
  no_moves [] L w w' l c e = refl
  no_moves (i ∷ is) L w w' l c e = absurd cc

  -- from a stuck state nothing is added
  stuck_stays : (L M : List ℕ) (s t : State) → Reached P L s → IsStuck P s → Reached P (L ++ M) t → s ≡ t
  stuck_stays L M s t at stuck to = go M (sym (after_from-append P P.start s L M at) ∙ to)
    where
      go : (N : List ℕ) → after_from P s N ≡ Some t → s ≡ t
      go [] e = cc
      go (i ∷ N) e = absurd (cc (subst (λ o. if_steps o (λ u. after_from P u N) ≡ Some t) (stuck i) e))

  module _ {Machine Choice : Type 0} (look : Machine → World Value Slot Cores) (counts : Machine → Choice → Bool) (cycle : Machine → Choice → Machine)
      (clocked : IsClocked P H T look counts cycle) where
    moment_paid : (L M : List ℕ) (h : Machine) (m : ℕ) (c : Choice) (l : Lag P H L (look h)) (t : Lag P H (L ++ M) (look (cycle h c))) →
        length (clocked.chain L h c l).0 + total_left T left (look (cycle h c)) ≤ total_left T left (look h) + B * length M →
        (m + total_left T left (look h) ≤ B * (length L + T)) →
        IsStuck P t.state ⊎ (m + (if counts h c then 1 else 0) + total_left T left (look (cycle h c)) ≤ B * (length (L ++ M) + T))
    moment_paid L M h m c l t cost paid = go (clocked.chain L h c l).0 refl (counts h c) refl
      where
        enough : (k : ℕ) → k ≤ length (clocked.chain L h c l).0 → m + k + total_left T left (look (cycle h c)) ≤ B * (length (L ++ M) + T)
        enough k le = pay_cycle m k (length (clocked.chain L h c l).0) (total_left T left (look h)) (total_left T left (look (cycle h c))) B (length L) (length M) T
            (length (L ++ M)) paid cost le (length-append L M)

        go : (is : List ℕ) → (clocked.chain L h c l).0 ≡ is → (b : Bool) → counts h c ≡ b →
            IsStuck P t.state ⊎ (m + (if counts h c then 1 else 0) + total_left T left (look (cycle h c)) ≤ B * (length (L ++ M) + T))
        go is e false q = inr (subst (λ b. m + (if b then 1 else 0) + total_left T left (look (cycle h c)) ≤ B * (length (L ++ M) + T)) (sym q) (enough 0 (omega arith)))
        go [] e true q =
            let stuck = clocked.lively L h c l q e in
            inl (subst (λ s. IsStuck P s) (stuck_stays L M l.state t.state l.reached stuck t.reached) stuck)
        go (i ∷ is) e true q =
            let some : length (clocked.chain L h c l).0 ≡ suc (length is) = ap length e in
            inr (subst (λ b. m + (if b then 1 else 0) + total_left T left (look (cycle h c)) ≤ B * (length (L ++ M) + T)) (sym q) (enough 1 (omega arith)))

    -- the cycle changes no slot
    abbrev pub Still : Machine → Choice → Type 0
    Still h c = (i : ℕ) → (look (cycle h c)).slots i ≡ (look h).slots i

    abbrev pub MomentOf : List ℕ → Machine → ℕ → Type 0
    MomentOf L h m = Moment P H T B left L (look h) m

    moment_cycle : (L : List ℕ) (h : Machine) (m : ℕ) (c : Choice) → MomentOf L h m →
        (added : List ℕ) × MomentOf (L ++ added) (cycle h c) (m + (if counts h c then 1 else 0)) × (Still h c → added ≡ [])
    moment_cycle L h m c now =
        let chain = clocked.chain L h c now.lag in
        let t = lag_chain chain.0 L (look h) (look (cycle h c)) now.lag chain.1 in (
          t.0,
          record {
            lag = t.1;
            paid = ⊎_elim
                (λ stuck. inl (subst (λ s. IsStuck P s) (stuck_stays L t.0 now.lag.state t.1.state now.lag.reached stuck t.1.reached) stuck))
                (λ paid. moment_paid L t.0 h m c now.lag t.1 t.2 paid)
                now.paid;
          },
          λ same. no_moves chain.0 L (look h) (look (cycle h c)) now.lag chain.1 (clocked.still L h c now.lag same),
        )

    -- every moment of a run is one that is paid for
    pub all_moments : (h : Machine) → MomentOf [] h 0 → (C : List Choice) → FollowsOne cycle counts Still MomentOf h C
    all_moments h now C = runs_follow_one cycle counts Still MomentOf moment_cycle h now C
