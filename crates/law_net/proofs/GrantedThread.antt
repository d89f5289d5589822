-- Whom a core grants: a thread that is enabled and asks, and its slot changes. Where a core grants nobody it stays and prints nothing.
use Rattle.std.proofs.Common.{◌≡◌, ℕ, zero, suc, ◌<◌, ◌⊎◌, Bool, true, nat_eq, List, [], ◌∷◌, Option, Some, None, refl, ap, ◌∙◌, subst, inl, inr, arith}
use Rattle.std.proofs.Common.{⊎_elim}
use Rattle.std.proofs.lemmas.Bool.Decides.{nat_tests}
use Rattle.std.proofs.lemmas.Bool.{both_ways}
use Rattle.hls_ints.specs.Residues as bits
use Rattle.netlist.specs.declared.netlist.Module.{Module}
use Rattle.verilog_meaning.specs.Readings.{next_reading, written}
use Rattle.verilog_meaning.specs.Cycles.{Valuation, Choice, IsSettled}
use Rattle.verilog_meaning.specs.Threads.{bit_of}
use Rattle.circuit.specs.Modules.{Obeys, Agree}
use Rattle.circuit.specs.Arbitration.{is_granted}
use Rattle.circuit.specs.Machines.{CoreMachine, Grants, ThreadMachine}
use Rattle.circuit.specs.Wiring.{NetPlaces}
use Rattle.circuit.proofs.Arbitration.{granted_below}
use Rattle.circuit.proofs.NetStep.{obeys, holds}
use Rattle.leaf_machine.specs.Steady.{Asks, Stays}
use Rattle.law_net.specs.Steady.{IsSteady}
use Rattle.law_net.proofs.FedModules.{enable_is, HasPart, part_is, may_win, winner, core_grants, thread_granted}

pub low_bit : (b : ℕ) → b < 2 → (b ≡ 0) ⊎ (b ≡ 1)
low_bit zero l = inl refl
low_bit (suc zero) l = inr refl
low_bit (suc (suc b)) l = absurd (omega arith)

pub bit_below : (a i : ℕ) → bit_of a i < 2
bit_below a i = omega arith

wins_itself : (w : ℕ) → bits.bit_of (is_granted (Some w) w) ≡ 1
wins_itself w = let t : nat_eq w w ≡ true = grind (arith, nat_tests) in ap bits.bit_of t

module _ (threads cores : ℕ) (T : ℕ → ThreadMachine) (C : ℕ → CoreMachine) (p : NetPlaces threads cores T C) (modules : List Module) (top : Module)
    (steady : IsSteady threads cores T C p modules top) (h v : Valuation) (c : Choice) (settled : IsSettled modules top h c v) where
  -- the state that core k shows
  abbrev pub core_state : (k : ℕ) → k < cores → (C k).State
  core_state k l = ((steady.wait k l).shown (h (p.core_at k ∷ []))).0

  pub core_shows : (k : ℕ) (l : k < cores) → (p.core k).shows (v (p.core_at k ∷ [])) (core_state k l)
  core_shows k l =
      let q = steady.net.cores_stand k l in
      q.2.keeps (h (p.core_at k ∷ [])) (v (p.core_at k ∷ [])) (core_state k l) (holds modules top h v c settled (p.core_at k ∷ []) q.0 q.1)
      ((steady.wait k l).shown (h (p.core_at k ∷ []))).1

  -- whether thread i may be granted by core k, and whom it grants
  abbrev pub may : (k : ℕ) → k < cores → ℕ → Bool
  may k l = may_win threads cores T C p modules top steady.net h v c settled k l (core_state k l) (core_shows k l)

  abbrev pub granted : (k : ℕ) → k < cores → Option ℕ
  granted k l = winner threads cores T C p modules top steady.net h v c settled k l (core_state k l) (core_shows k l)

  thread_obeys : (i : ℕ) (l : i < threads) → Obeys (steady.net.threads_stand i l).0 (v (p.thread_at i ∷ []))
  thread_obeys i l = obeys modules top h v c settled (p.thread_at i ∷ []) (steady.net.threads_stand i l).0 (steady.net.threads_stand i l).1

  -- the edge leaves thread i
  abbrev pub Rests : (i : ℕ) → i < threads → Type 0
  Rests i l = Stays (T i) (p.thread i) cores (steady.net.threads_stand i l).0 (v (p.thread_at i ∷ []))

  -- thread i is enabled, asks core k and is granted
  pub record Wins (k i : ℕ) : Type 0 where
    pub reach : k < cores
    pub may_be : may k reach i ≡ true
    pub below : i < threads
    pub uses : (p.thread i).uses k ≡ true
    pub asks : Asks (T i) (p.thread i) cores (steady.net.threads_stand i below).0 (v (p.thread_at i ∷ [])) k
    pub enabled : bit_of c.mask i ≡ 1
    pub moves : Rests i below → ⊥

  -- ---- who may be granted asks

  asks_by : (k i : ℕ) (l : k < cores) (b : i < threads) → may k l i ≡ true → HasPart threads cores T C p modules top steady.net h v c settled k i 0 →
      ((p.thread i).uses k ≡ true) × Asks (T i) (p.thread i) cores (steady.net.threads_stand i b).0 (v (p.thread_at i ∷ [])) k
  asks_by k i l b e (inl part) = (
    part.0,
    λ none. both_ways (may k l i) ((steady.wait k l).asked (core_state k l) i (λ j. (v (p.core_at k ∷ [])).signal ((p.core k).ask j i)) (part.1 ∙ none))
        e,
  )
  asks_by k i l b e (inr none) =
      absurd (both_ways (may k l i) ((steady.wait k l).asked (core_state k l) i (λ j. (v (p.core_at k ∷ [])).signal ((p.core k).ask j i)) none) e)

  pub asks_if : (k i : ℕ) (l : k < cores) (b : i < threads) → may k l i ≡ true →
      ((p.thread i).uses k ≡ true) × Asks (T i) (p.thread i) cores (steady.net.threads_stand i b).0 (v (p.thread_at i ∷ [])) k
  asks_if k i l b e = asks_by k i l b e (part_is threads cores T C p modules top steady.net h v c settled k i 0 l b (steady.wait k l).some)

  -- who asks is enabled
  pub enabled_if : (k i : ℕ) (l : k < cores) (b : i < threads) → (p.thread i).uses k ≡ true →
      Asks (T i) (p.thread i) cores (steady.net.threads_stand i b).0 (v (p.thread_at i ∷ [])) k → bit_of c.mask i ≡ 1
  enabled_if k i l b u asks =
      ⊎_elim
      (λ (off : bit_of c.mask i ≡ 0).
      absurd (asks ((steady.keep i b).quiet (v (p.thread_at i ∷ [])) (thread_obeys i b) (enable_is threads cores T C p modules top steady.net h v c settled i b ∙ off) k l u)))
      (λ (on : bit_of c.mask i ≡ 1). on) (low_bit (bit_of c.mask i) (bit_below c.mask i))

  -- ---- who is granted

  pub wins : (k w : ℕ) (l : k < cores) → granted k l ≡ Some w → Wins k w
  wins k w l e =
      let g = granted_below threads ((v (p.arbiter_at k ∷ [])).signal (p.arbiter k).preferred) (may k l) w e in
      let a = asks_if k w l g.0 g.1 in
      let on = enabled_if k w l g.0 a.0 a.1 in
      record {
        reach = l;
        may_be = g.1;
        below = g.0;
        uses = a.0;
        asks = a.1;
        enabled = on;
        moves = (steady.keep w g.0).granted_moves (v (p.thread_at w ∷ [])) k (thread_obeys w g.0)
            (enable_is threads cores T C p modules top steady.net h v c settled w g.0 ∙ on) l a.0 a.1
            (thread_granted threads cores T C p modules top steady.net h v c settled k l (core_state k l) (core_shows k l) w g.0 a.0
            ∙ ap (λ o. bits.bit_of (is_granted o w)) e ∙ wins_itself w);
      }

  wins_by : (k : ℕ) (l : k < cores) (o : Option ℕ) → granted k l ≡ o → (granted k l ≡ None) ⊎ ((w : ℕ) × Wins k w)
  wins_by k l None e = inl e
  wins_by k l (Some w) e = inr (w, wins k w l e)

  pub who_wins : (k : ℕ) (l : k < cores) → (granted k l ≡ None) ⊎ ((w : ℕ) × Wins k w)
  who_wins k l = wins_by k l (granted k l) refl

  -- ---- a core that grants nobody

  module _ (k : ℕ) (l : k < cores) (none : granted k l ≡ None) where
    core_obeys : Obeys (steady.net.cores_stand k l).0 (v (p.core_at k ∷ []))
    core_obeys = obeys modules top h v c settled (p.core_at k ∷ []) (steady.net.cores_stand k l).0 (steady.net.cores_stand k l).1

    pub core_rests : Agree (steady.net.cores_stand k l).0 (v (p.core_at k ∷ [])) (next_reading (steady.net.cores_stand k l).0 (v (p.core_at k ∷ [])))
    core_rests =
        let q = steady.net.cores_stand k l in
        let r = v (p.core_at k ∷ []) in
        let grants = core_grants threads cores T C p modules top steady.net h v c settled k l (core_state k l) (core_shows k l) in
        q.2.faithful r (next_reading q.0 r) (core_state k l) (core_shows k l)
        (q.2.moves r (core_state k l) None core_obeys (core_shows k l) (subst (λ o. Grants (C k) (p.core k) threads r o) none grants))

    pub core_silent : written (steady.net.cores_stand k l).0 (v (p.core_at k ∷ [])) ≡ []
    core_silent =
        let q = steady.net.cores_stand k l in
        let r = v (p.core_at k ∷ []) in
        let grants = core_grants threads cores T C p modules top steady.net h v c settled k l (core_state k l) (core_shows k l) in
        q.2.writes r (core_state k l) None core_obeys (core_shows k l) (subst (λ o. Grants (C k) (p.core k) threads r o) none grants)
