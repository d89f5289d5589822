-- Cycles of one thread alone, cycles of none, and the end.
use Rattle.std.proofs.Common.{◌≡◌, ◌≢◌, ◌⊎◌, ℕ, ◌^◌, ◌<◌, Bool, true, false, List, [], ◌∷◌, ◌++◌, None, refl, sym, ap, ◌∙◌, subst, ⊎_elim, arith}
use Rattle.std.proofs.lemmas.Bool.Decides.{nat_tests}
use Rattle.hls_ints.specs.Residues as bits
use Rattle.netlist.specs.declared.netlist.Module.{Module}
use Rattle.verilog_meaning.specs.Readings.{next_reading}
use Rattle.verilog_meaning.specs.Cycles.{Path, Valuation, Choice, IsSettled, IsSameAt, Cycle, ShowsDone}
use Rattle.verilog_meaning.specs.Threads.{bit_of, alone, IsSame, IsSameSlot, Needs, slot}
use Rattle.circuit.specs.Modules.{Agree}
use Rattle.circuit.specs.Machines.{CoreMachine, ThreadMachine}
use Rattle.circuit.specs.Wiring.{NetPlaces}
use Rattle.law_net.specs.Steady.{IsSteady}
use Rattle.law_net.proofs.Same.{same_at}
use Rattle.law_net.proofs.GrantedThread.{Rests, granted, who_wins, Wins}
use Rattle.law_net.proofs.RestingCycle.{one_module, off_rests, stays_by, instance_rests, all_stays, all_silent}
use Rattle.law_net.proofs.Bits.{not_set, none_set}
use Rattle.law_net.proofs.Fields.{own_obeys, own_holds, need_low, slot_rests, slot_of, slot_agrees}

zero_not_one : (b : ℕ) → b ≡ 0 → b ≡ 1 → ⊥
zero_not_one b e f = absurd (omega arith)

set_bit : (b : Bool) → 1 ≡ bits.bit_of b → b ≡ true
set_bit true e = refl
set_bit false e = absurd (omega arith)

module _ (threads cores : ℕ) (T : ℕ → ThreadMachine) (C : ℕ → CoreMachine) (p : NetPlaces threads cores T C) (modules : List Module) (top : Module)
    (steady : IsSteady threads cores T C p modules top) where
  module _ (h v : Valuation) (c : Choice) (settled : IsSettled modules top h c v) where
    -- no core grants, where nobody wins one
    pub none_by : ((k w : ℕ) → k < cores → Wins threads cores T C p modules top steady h v c settled k w → ⊥) → (k : ℕ) (b : k < cores) →
        granted threads cores T C p modules top steady h v c settled k b ≡ None
    none_by never k b =
        ⊎_elim (λ (e : granted threads cores T C p modules top steady h v c settled k b ≡ None). e)
        (λ (o : (w : ℕ) × Wins threads cores T C p modules top steady h v c settled k w). absurd (never k o.0 b o.1))
        (who_wins threads cores T C p modules top steady h v c settled k b)

    -- a thread by an equal number
    rests_same : (w i : ℕ) (low : w < threads) (l : i < threads) → w ≡ i → Rests threads cores T C p modules top steady h v c settled i l →
        Rests threads cores T C p modules top steady h v c settled w low
    rests_same w i low l e rests =
        let a = steady.net.threads_stand w low in let b = steady.net.threads_stand i l in
        let at : p.thread_at w ≡ p.thread_at i = ap p.thread_at e in
        let one = one_module threads cores T C p modules top steady (p.thread_at w) (p.thread_at i) a.0 b.0 a.1 at b.1 in
        subst (λ x. Agree a.0 (v (x ∷ [])) (next_reading a.0 (v (x ∷ [])))) (sym at)
        (subst (λ (z : Module). Agree z (v (p.thread_at i ∷ [])) (next_reading z (v (p.thread_at i ∷ [])))) (sym one) rests)

  -- ---- cycles of one thread

  module _ (i : ℕ) (l : i < threads) where
    module _ (h v : Valuation) (settled : IsSettled modules top h (alone i) v) where
      -- no other thread wins a core
      only_it : (k w : ℕ) → Wins threads cores T C p modules top steady h v (alone i) settled k w → w ≡ i
      only_it k w wins =
          let d : (w ≡ i) ⊎ (i ≢ w) = grind (arith, nat_tests) in
          ⊎_elim (λ (e : w ≡ i). e) (λ (other : i ≢ w). absurd (zero_not_one (bit_of (2 ^ i) w) (not_set i w other) wins.enabled)) d

      -- the others rest
      others_rest : (j : ℕ) (b : j < threads) → i ≢ j → Rests threads cores T C p modules top steady h v (alone i) settled j b
      others_rest j b other = off_rests threads cores T C p modules top steady h v (alone i) settled j b (not_set i j other)

      all_rest : Rests threads cores T C p modules top steady h v (alone i) settled i l → (j : ℕ) (b : j < threads) →
          Rests threads cores T C p modules top steady h v (alone i) settled j b
      all_rest rests j b =
          let d : (j ≡ i) ⊎ (i ≢ j) = grind (arith, nat_tests) in
          ⊎_elim (λ (e : j ≡ i). rests_same h v (alone i) settled j i b l e rests) (others_rest j b) d

      -- no core grants it, where its slot stays
      pub none_if_rests : Rests threads cores T C p modules top steady h v (alone i) settled i l → (k : ℕ) (b : k < cores) →
          granted threads cores T C p modules top steady h v (alone i) settled k b ≡ None
      none_if_rests rests =
          none_by h v (alone i) settled (λ k w b wins. wins.moves (rests_same h v (alone i) settled w i wins.below l (only_it k w wins) rests))

      -- nor where it needs none
      none_if_closed : Needs modules top threads h (alone i) i 0 → (k : ℕ) (b : k < cores) → granted threads cores T C p modules top steady h v (alone i) settled k b ≡ None
      none_if_closed needs =
          none_by h v (alone i) settled
          (λ k w b wins.
          let there = subst (λ x. Needs modules top threads h (alone i) x 0) (sym (only_it k w wins)) needs in
          wins.asks ((steady.keep w wins.below).closed_quiet (v (p.thread_at w ∷ []))
          (own_obeys threads cores T C p modules top steady w wins.below h v (alone i) settled)
          (need_low threads cores T C p modules top steady w wins.below h v (alone i) (alone i) settled there) k b wins.uses))

    -- where its slot stays nothing changes, and nothing is written
    pub alone_stays : (h g : Valuation) (out : List ℕ) → Cycle modules top h (alone i) g out → IsSameSlot modules top threads i h g →
        IsSame modules top threads h g × (out ≡ [])
    alone_stays h g out cycle same =
        let v = cycle.through in let settled = cycle.settled in
        let rests = slot_rests threads cores T C p modules top steady i l h g (alone i) out cycle same in
        let none = none_if_rests h v settled rests in (
          all_stays threads cores T C p modules top steady h v (alone i) settled none g cycle.next (all_rest h v settled rests),
          all_silent threads cores T C p modules top steady h v (alone i) settled none out cycle.written,
        )

    -- a closed cycle changes its slot alone, and writes nothing
    pub closed_keeps : (h g : Valuation) (out : List ℕ) → Cycle modules top h (alone i) g out → Needs modules top threads h (alone i) i 0 →
        (out ≡ []) × ((path : Path) → ((inner : Path) → path ≢ inner ++ slot modules top threads i) → IsSameAt modules top path h g)
    closed_keeps h g out cycle needs =
        let v = cycle.through in let settled = cycle.settled in
        let none = none_if_closed h v settled needs in (
          all_silent threads cores T C p modules top steady h v (alone i) settled none out cycle.written,
          λ path other. same_at modules top steady.shallow h g steady.outside path (λ j is m at.
              stays_by threads cores T C p modules top steady h v (alone i) settled g cycle.next j m at
              (instance_rests threads cores T C p modules top steady h v (alone i) settled none j m at
              (λ w b e. others_rest h v settled w b (λ (own : i ≡ w). other [] (is ∙ ap (λ x. x ∷ []) (e ∙ ap p.thread_at (sym own)) ∙ sym (steady.slots i l)))))),
        )

  -- ---- cycles of none

  pub idles : (h g : Valuation) (c : Choice) (out : List ℕ) → Cycle modules top h c g out → c.mask ≡ 0 → IsSame modules top threads h g
  idles h g c out cycle off =
      let bit : (i : ℕ) → bit_of c.mask i ≡ 0 = λ i. ap (λ x. bit_of x i) off ∙ none_set i in
      all_stays threads cores T C p modules top steady h cycle.through c cycle.settled
      (none_by h cycle.through c cycle.settled (λ k w b wins. zero_not_one (bit_of c.mask w) (bit w) wins.enabled)) g cycle.next
      (λ i l. off_rests threads cores T C p modules top steady h cycle.through c cycle.settled i l (bit i))

  -- ---- the end

  shown_end : (h : Valuation) (c : Choice) (b : ℕ) → ShowsDone modules top h c b → (q : (T 0).Slot) → (p.thread 0).shows (h (p.thread_at 0 ∷ [])) q →
      b ≡ bits.bit_of ((T 0).is_done q)
  shown_end h c b shows q shown = sym shows.number ∙ steady.ends.is h shows.through c shows.settled shows.place shows.signal shows.is q shown

  pub ends_alike : (h g : Valuation) (c d : Choice) (a b : ℕ) → IsSameSlot modules top threads 0 h g → ShowsDone modules top h c a → ShowsDone modules top g d b → a ≡ b
  ends_alike h g c d a b same left right =
      let q = (steady.keep 0 steady.some).shown (h (p.thread_at 0 ∷ [])) in
      let t = steady.net.threads_stand 0 steady.some in
      let there = t.2.keeps (h (p.thread_at 0 ∷ [])) (g (p.thread_at 0 ∷ [])) q.0 (slot_agrees threads cores T C p modules top steady 0 steady.some h g same) q.1 in
      shown_end h c a left q.0 q.1 ∙ sym (shown_end g d b right q.0 there)

  pub end_stays : (h g : Valuation) (c : Choice) (out : List ℕ) → ShowsDone modules top h c 1 → Cycle modules top h (alone 0) g out → IsSame modules top threads h g
  end_stays h g c out shows cycle =
      let path = p.thread_at 0 ∷ [] in
      let q = (steady.keep 0 steady.some).shown (h path) in
      let t = steady.net.threads_stand 0 steady.some in
      let v = cycle.through in
      let rests = steady.ends.stays (v path) q.0 (own_obeys threads cores T C p modules top steady 0 steady.some h v (alone 0) cycle.settled)
      (t.2.keeps (h path) (v path) q.0 (own_holds threads cores T C p modules top steady 0 steady.some h v (alone 0) cycle.settled) q.1)
      (set_bit ((T 0).is_done q.0) (shown_end h c 1 shows q.0 q.1)) in
      (alone_stays 0 steady.some h g out cycle (slot_of threads cores T C p modules top steady 0 steady.some h g
      (stays_by threads cores T C p modules top steady h v (alone 0) cycle.settled g cycle.next (p.thread_at 0) t.0 t.1 rests))).0
