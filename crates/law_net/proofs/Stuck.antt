-- Where no cycle of one thread changes anything, no cycle does.
use Rattle.std.proofs.Common.{◌≡◌, ℕ, ◌<◌, true, false}
use Rattle.std.proofs.Common.{List, [], ◌∷◌, None, refl, sym, ap, ◌∙◌, inl, inr, ⊎_elim}
use Rattle.std.proofs.lemmas.Bool.{both_ways}
use Rattle.law_net.proofs.AgreedReadings.{agree_on, agree_back}
use Rattle.hls_ints.specs.Residues as bits
use Rattle.netlist.specs.declared.netlist.Source.TheVariants.{Assigned, Port}
use Rattle.netlist.specs.declared.netlist.Value.TheVariants.{Constant}
use Rattle.netlist.specs.declared.netlist.Module.{Module}
use Rattle.verilog_meaning.specs.Readings.{next_reading}
use Rattle.verilog_meaning.specs.Cycles.{Valuation, Choice, IsSettled, IsState, Cycle, next_state}
use Rattle.verilog_meaning.specs.Threads.{bit_of, alone, IsSame, IsStuck}
use Rattle.circuit.specs.Modules.{Agree}
use Rattle.circuit.specs.Arbitration.{is_granted}
use Rattle.circuit.specs.Machines.{CoreMachine, ThreadMachine, Hears}
use Rattle.circuit.specs.Wiring.{NetPlaces, IsAskedBy}
use Rattle.circuit.proofs.Arbitration.{none_may}
use Rattle.law_net.specs.Steady.{IsSteady}
use Rattle.law_net.proofs.FedModules.{fed, thread_granted, thread_told}
use Rattle.law_net.proofs.Same.{agrees_all}
use Rattle.law_net.proofs.GrantedThread.{Rests, Wins, core_state, core_shows, granted, may, bit_below, low_bit}
use Rattle.law_net.proofs.RestingCycle.{off_rests, all_stays, all_silent}
use Rattle.law_net.proofs.Bits.{set_here, alone_is_choice}
use Rattle.law_net.proofs.Fields.{own_obeys, own_holds, own_enable, slot_of, slot_rests}
use Rattle.law_net.proofs.Alone.{none_by, none_if_rests}
use Rattle.law_net.proofs.Written.{has_written}

module _ (threads cores : ℕ) (T : ℕ → ThreadMachine) (C : ℕ → CoreMachine) (p : NetPlaces threads cores T C) (modules : List Module) (top : Module)
    (steady : IsSteady threads cores T C p modules top) (h : Valuation) where
  -- ---- two choices of which both enable a thread

  module _ (v w : Valuation) (c d : Choice) (one : IsSettled modules top h c v) (two : IsSettled modules top h d w) where
    -- it asks the same
    asks_alike : (k i j : ℕ) (l : k < cores) (b : i < threads) → j < (C k).parts → bit_of c.mask i ≡ 1 → bit_of d.mask i ≡ 1 → (p.thread i).uses k ≡ true →
        (v (p.thread_at i ∷ [])).signal ((p.thread i).ask k j) ≡ (w (p.thread_at i ∷ [])).signal ((p.thread i).ask k j)
    asks_alike k i j l b low on too u =
        let path = p.thread_at i ∷ [] in
        let t = steady.net.threads_stand i b in
        let q = (steady.keep i b).shown (h path) in
        t.2.asks (v path) q.0 true (own_obeys threads cores T C p modules top steady i b h v c one)
        (t.2.keeps (h path) (v path) q.0 (own_holds threads cores T C p modules top steady i b h v c one) q.1)
        (own_enable threads cores T C p modules top steady i b h v c one on) k j l u low
        ∙ sym (t.2.asks (w path) q.0 true (own_obeys threads cores T C p modules top steady i b h w d two)
        (t.2.keeps (h path) (w path) q.0 (own_holds threads cores T C p modules top steady i b h w d two) q.1)
        (own_enable threads cores T C p modules top steady i b h w d two too) k j l u low)

    pub part_alike : (k i j : ℕ) (l : k < cores) (b : i < threads) → j < (C k).parts → bit_of c.mask i ≡ 1 → bit_of d.mask i ≡ 1 →
        IsAskedBy threads cores T C p modules top k i j →
        (v (p.core_at k ∷ [])).signal ((p.core k).ask j i) ≡ (w (p.core_at k ∷ [])).signal ((p.core k).ask j i)
    part_alike k i j l b low on too (inl f) =
        let q = steady.net.cores_stand k l in
        let source = Port (p.thread_at i) ((p.thread i).ask k j) in
        fed threads cores T C p modules top steady.net h v c one (p.core_at k) ((p.core k).ask j i) q.0 source q.1 (q.2.ask_inputs j i low b) f.1
        ∙ asks_alike k i j l b low on too f.0
        ∙ sym (fed threads cores T C p modules top steady.net h w d two (p.core_at k) ((p.core k).ask j i) q.0 source q.1 (q.2.ask_inputs j i low b) f.1)
    part_alike k i j l b low on too (inr f) =
        let q = steady.net.cores_stand k l in
        fed threads cores T C p modules top steady.net h v c one (p.core_at k) ((p.core k).ask j i) q.0 (Assigned (Constant 0)) q.1 (q.2.ask_inputs j i low b) f.1
        ∙ sym (fed threads cores T C p modules top steady.net h w d two (p.core_at k) ((p.core k).ask j i) q.0 (Assigned (Constant 0)) q.1 (q.2.ask_inputs j i low b) f.1)

    -- so it may be granted the same
    pub may_alike : (k i : ℕ) (l : k < cores) (b : i < threads) → bit_of c.mask i ≡ 1 → bit_of d.mask i ≡ 1 →
        may threads cores T C p modules top steady h v c one k l i ≡ may threads cores T C p modules top steady h w d two k l i
    may_alike k i l b on too =
        ap ((C k).eligible (core_state threads cores T C p modules top steady h v c one k l) i)
        ((steady.net.cores_stand k l).2.hears (λ j. (v (p.core_at k ∷ [])).signal ((p.core k).ask j i)) (λ j. (w (p.core_at k ∷ [])).signal ((p.core k).ask j i))
        (λ j low. part_alike k i j l b low on too (steady.net.asks k i j l b low)))

    -- where no core grants it, what follows is the same
    module _ (none : (k : ℕ) (l : k < cores) → granted threads cores T C p modules top steady h v c one k l ≡ None)
        (none_too : (k : ℕ) (l : k < cores) → granted threads cores T C p modules top steady h w d two k l ≡ None)
        (i : ℕ) (b : i < threads) (on : bit_of c.mask i ≡ 1) (too : bit_of d.mask i ≡ 1) where
      news : ℕ → ℕ → ℕ
      news k j = (v (p.thread_at i ∷ [])).signal ((p.thread i).told k j)

      hears : Hears (T i) (p.thread i) cores (λ k. (C k).parts) (λ k. (C k).told) (v (p.thread_at i ∷ [])) true (λ k. false) news
      unfolding news
      hears = record {
        enables = own_enable threads cores T C p modules top steady i b h v c one on;
        grants = λ k l u.
            thread_granted threads cores T C p modules top steady.net h v c one k l (core_state threads cores T C p modules top steady h v c one k l)
            (core_shows threads cores T C p modules top steady h v c one k l) i b u
            ∙ ap (λ o. bits.bit_of (is_granted o i)) (none k l);
        tells = λ k j l u low. refl;
      }

      hears_too : Hears (T i) (p.thread i) cores (λ k. (C k).parts) (λ k. (C k).told) (w (p.thread_at i ∷ [])) true (λ k. false) news
      unfolding news
      hears_too = record {
        enables = own_enable threads cores T C p modules top steady i b h w d two too;
        grants = λ k l u.
            thread_granted threads cores T C p modules top steady.net h w d two k l (core_state threads cores T C p modules top steady h w d two k l)
            (core_shows threads cores T C p modules top steady h w d two k l) i b u
            ∙ ap (λ o. bits.bit_of (is_granted o i)) (none_too k l);
        tells = λ k j l u low.
            thread_told threads cores T C p modules top steady.net h w d two k l (core_state threads cores T C p modules top steady h w d two k l)
            (core_shows threads cores T C p modules top steady h w d two k l) i j b u low
            ∙ sym (thread_told threads cores T C p modules top steady.net h v c one k l (core_state threads cores T C p modules top steady h v c one k l)
            (core_shows threads cores T C p modules top steady h v c one k l) i j b u low);
      }

      next_alike : Agree (steady.net.threads_stand i b).0 (next_reading (steady.net.threads_stand i b).0 (w (p.thread_at i ∷ [])))
          (next_reading (steady.net.threads_stand i b).0 (v (p.thread_at i ∷ [])))
      next_alike =
          let path = p.thread_at i ∷ [] in
          let t = steady.net.threads_stand i b in
          let q = (steady.keep i b).shown (h path) in
          t.2.faithful (next_reading t.0 (w path)) (next_reading t.0 (v path)) ((T i).advance true (λ k. false) news q.0)
          (t.2.moves (w path) q.0 true (λ k. false) news (own_obeys threads cores T C p modules top steady i b h w d two)
          (t.2.keeps (h path) (w path) q.0 (own_holds threads cores T C p modules top steady i b h w d two) q.1) hears_too)
          (t.2.moves (v path) q.0 true (λ k. false) news (own_obeys threads cores T C p modules top steady i b h v c one)
          (t.2.keeps (h path) (v path) q.0 (own_holds threads cores T C p modules top steady i b h v c one) q.1) hears)

      -- where one of them leaves it, the other one does
      pub rests_alike : Rests threads cores T C p modules top steady h w d two i b → Rests threads cores T C p modules top steady h v c one i b
      rests_alike rests =
          let path = p.thread_at i ∷ [] in
          let m = (steady.net.threads_stand i b).0 in
          agree_on m (v path) (h path) (next_reading m (v path)) (agree_back m (h path) (v path) (own_holds threads cores T C p modules top steady i b h v c one))
          (agree_on m (h path) (w path) (next_reading m (v path)) (own_holds threads cores T C p modules top steady i b h w d two)
          (agree_on m (w path) (next_reading m (w path)) (next_reading m (v path)) rests next_alike))

  -- ---- where no cycle of one thread changes anything

  module _ (state : IsState modules top h) (stuck : IsStuck modules top threads h) where
    there : (i : ℕ) → i < threads → (w : Valuation) × IsSettled modules top h (alone i) w
    there i l = steady.settles h (alone i) state (alone_is_choice threads i l)

    alone_rests : (i : ℕ) (l : i < threads) → Rests threads cores T C p modules top steady h (there i l).0 (alone i) (there i l).1 i l
    alone_rests i l =
        let w = there i l in
        let t = steady.net.threads_stand i l in
        let out = has_written threads cores T C p modules top steady h w.0 (alone i) w.1 in
        let g = next_state modules top w.0 in
        let cycle : Cycle modules top h (alone i) g out.0 =
        record {
          through = w.0;
          settled = w.1;
          next = record { registers = λ path m x s at r. refl; words = λ path m j k s at b. refl };
          written = out.1;
        } in
        slot_rests threads cores T C p modules top steady i l h g (alone i) out.0 cycle
        (slot_of threads cores T C p modules top steady i l h g (agrees_all modules top steady.shallow h g (stuck i g out.0 l cycle) (p.thread_at i) t.0 t.1))

    alone_none : (i : ℕ) (l : i < threads) (k : ℕ) (b : k < cores) → granted threads cores T C p modules top steady h (there i l).0 (alone i) (there i l).1 k b ≡ None
    alone_none i l = none_if_rests threads cores T C p modules top steady i l h (there i l).0 (there i l).1 (alone_rests i l)

    module _ (g : Valuation) (c : Choice) (out : List ℕ) (cycle : Cycle modules top h c g out) where
      none_wins : (k w : ℕ) → k < cores → Wins threads cores T C p modules top steady h cycle.through c cycle.settled k w → ⊥
      none_wins k w b wins =
          let a = there w wins.below in
          both_ways (may threads cores T C p modules top steady h a.0 (alone w) a.1 k wins.reach w)
          (none_may threads ((a.0 (p.arbiter_at k ∷ [])).signal (p.arbiter k).preferred) (may threads cores T C p modules top steady h a.0 (alone w) a.1 k wins.reach)
          (alone_none w wins.below k wins.reach) w wins.below)
          (sym (may_alike cycle.through a.0 c (alone w) cycle.settled a.1 k w wins.reach wins.below wins.enabled (set_here w)) ∙ wins.may_be)

      none : (k : ℕ) (b : k < cores) → granted threads cores T C p modules top steady h cycle.through c cycle.settled k b ≡ None
      none = none_by threads cores T C p modules top steady h cycle.through c cycle.settled none_wins

      thread_rests : (i : ℕ) (l : i < threads) → Rests threads cores T C p modules top steady h cycle.through c cycle.settled i l
      thread_rests i l =
          ⊎_elim (λ (off : bit_of c.mask i ≡ 0). off_rests threads cores T C p modules top steady h cycle.through c cycle.settled i l off)
          (λ (on : bit_of c.mask i ≡ 1).
          rests_alike cycle.through (there i l).0 c (alone i) cycle.settled (there i l).1 none (alone_none i l) i l on (set_here i) (alone_rests i l))
          (low_bit (bit_of c.mask i) (bit_below c.mask i))

      pub all_stuck : IsSame modules top threads h g × (out ≡ [])
      all_stuck = (
        all_stays threads cores T C p modules top steady h cycle.through c cycle.settled none g cycle.next thread_rests,
        all_silent threads cores T C p modules top steady h cycle.through c cycle.settled none out cycle.written,
      )
