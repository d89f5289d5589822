-- Two cycles from one state, under choices that differ in a thread which needs no core: they do the same outside of its slot, and write the same.
use Rattle.std.proofs.Common.{◌≡◌, ◌≢◌, ◌⊎◌, ℕ, ◌<◌, Bool, true, false, nat_eq, if◌then◌else◌, List, [], ◌∷◌, Option, Some, None, codes}
use Rattle.std.proofs.Common.{refl, sym, ap, ◌∙◌, subst, inl, inr, ⊎_elim, arith}
use Rattle.std.specs.Str.{bytes_eq}
use Rattle.std.proofs.lemmas.Bool.Decides.{nat_tests}
use Rattle.hls_ints.specs.Residues as bits
use Rattle.netlist.specs.declared.netlist.Module.{Module}
use Rattle.verilog_meaning.specs.Names.{numbered}
use Rattle.verilog_meaning.specs.Readings.{written, action_bytes, next_reading, or_zero}
use Rattle.verilog_meaning.specs.Cycles.{Path, Valuation, Choice, module_at, connected, number, pref_number, choice_number, IsSettled}
use Rattle.verilog_meaning.specs.Cycles.{IsSameIn, IsSameAt, IsWritten, Cycle, written_at, next_state}
use Rattle.verilog_meaning.specs.Threads.{bit_of, Needs}
use Rattle.circuit.specs.Modules.{Agree}
use Rattle.circuit.specs.Arbitration.{granted_to, is_granted}
use Rattle.circuit.specs.Machines.{CoreMachine, Grants, after_grant, printed, ThreadMachine, Hears}
use Rattle.circuit.specs.Machines as machines
use Rattle.circuit.specs.Wiring.{NetPlaces, IsInstanceOf}
use Rattle.circuit.proofs.Arbitration.{granted_same}
use Rattle.circuit.proofs.NetStep.{obeys}
use Rattle.leaf_machine.specs.Steady.{Asks}
use Rattle.law_net.specs.Steady.{HoldsNothing, IsSteady}
use Rattle.law_net.proofs.AgreedReadings.{agree_back, agree_on}
use Rattle.law_net.proofs.FedModules.{core_grants, thread_granted, thread_told}
use Rattle.law_net.proofs.Same.{nothing_agrees, same_at}
use Rattle.law_net.proofs.GrantedThread.{core_state, core_shows, may, granted, wins, asks_if, enabled_if, bit_below, low_bit}
use Rattle.law_net.proofs.RestingCycle.{instance_is, one_module, off_rests, edge_is, stays_by}
use Rattle.law_net.proofs.Fields.{own_obeys, own_holds, own_enable, need_low}
use Rattle.law_net.proofs.Stuck.{part_alike, may_alike}
use Rattle.law_net.specs.Grants.{DifferIn, thread_at, IsOutside}
use Rattle.law_net.proofs.CycleGrants.{thread_place}

zero_not_one : (b : ℕ) → b ≡ 0 → b ≡ 1 → ⊥
zero_not_one b e f = absurd (omega arith)

-- a bit is told by whether it is 1
own_bit : (b : Bool) (x : ℕ) → x ≡ bits.bit_of b → x ≡ bits.bit_of (nat_eq x 1)
own_bit true x e = let t : nat_eq x 1 ≡ true = grind (arith, nat_tests, e) in e ∙ sym (ap bits.bit_of t)
own_bit false x e = let t : nat_eq x 1 ≡ false = grind (arith, nat_tests, e) in e ∙ sym (ap bits.bit_of t)

-- a preference is told by the list of them
preferred_by : (c : Choice) (k : ℕ) → choice_number c (numbered (codes "pref") k) ≡ pref_number (numbered (codes "pref") k) c.prefs 0
preferred_by c k =
    let other : bytes_eq (numbered (codes "pref") k) (codes "en") ≡ false = refl in
    ap (λ (b : Bool). if b then c.mask else pref_number (numbered (codes "pref") k) c.prefs 0) other

module _ (threads cores : ℕ) (T : ℕ → ThreadMachine) (C : ℕ → CoreMachine) (p : NetPlaces threads cores T C) (modules : List Module) (top : Module)
    (steady : IsSteady threads cores T C p modules top) where
  -- ---- one settled valuation

  module _ (h v : Valuation) (c : Choice) (settled : IsSettled modules top h c v) where
    -- the thread that an arbiter prefers is the choice's
    preferred_is : (k : ℕ) → k < cores → (v (p.arbiter_at k ∷ [])).signal (p.arbiter k).preferred ≡ choice_number c (numbered (codes "pref") k)
    preferred_is k l =
        let a = steady.net.arbiters_stand k l in
        let input = a.2.preferred_input in
        let n = steady.net.prefers k l in
        let from = steady.net.preferred k l in
        settled.signals (p.arbiter_at k ∷ []) a.0 (p.arbiter k).preferred input.signal (record { stands = a.1; listed = input.listed })
        ∙ ap (number modules top h c v (p.arbiter_at k ∷ []) a.0 (p.arbiter k).preferred input.signal) input.is
        ∙ ap (λ o. (v []).signal (connected modules top o (p.arbiter k).preferred)) n.1
        ∙ ap (λ o. (v []).signal (or_zero o)) n.2
        ∙ settled.signals [] top (steady.net.preferred_at k) from.signal (record { stands = refl; listed = from.stands })
        ∙ ap (number modules top h c v [] top (steady.net.preferred_at k) from.signal) from.input
        ∙ ap (choice_number c) from.named

    -- who does not ask may not be granted
    quiet_may : (k j : ℕ) (l : k < cores) (b : j < threads) →
        ((p.thread j).uses k ≡ true → Asks (T j) (p.thread j) cores (steady.net.threads_stand j b).0 (v (p.thread_at j ∷ [])) k → ⊥) →
        may threads cores T C p modules top steady h v c settled k l j ≡ false
    quiet_may k j l b quiet = by (may threads cores T C p modules top steady h v c settled k l j) refl
      where
        by : (x : Bool) → may threads cores T C p modules top steady h v c settled k l j ≡ x → may threads cores T C p modules top steady h v c settled k l j ≡ false
        by true e = let a = asks_if threads cores T C p modules top steady h v c settled k j l b e in absurd (quiet a.0 a.1)
        by false e = e

    off_may : (k j : ℕ) (l : k < cores) → j < threads → bit_of c.mask j ≡ 0 → may threads cores T C p modules top steady h v c settled k l j ≡ false
    off_may k j l b off =
        quiet_may k j l b (λ u asks. zero_not_one (bit_of c.mask j) off (enabled_if threads cores T C p modules top steady h v c settled k j l b u asks))

    closed_may : (k j : ℕ) (l : k < cores) (b : j < threads) → (v (p.thread_at j ∷ [])).signal (p.thread j).need ≡ 0 →
        may threads cores T C p modules top steady h v c settled k l j ≡ false
    closed_may k j l b low =
        quiet_may k j l b
        (λ u asks. asks ((steady.keep j b).closed_quiet (v (p.thread_at j ∷ [])) (own_obeys threads cores T C p modules top steady j b h v c settled) low k l u))

  -- ---- two

  module _ (h v w : Valuation) (c d : Choice) (one : IsSettled modules top h c v) (two : IsSettled modules top h d w) (i : ℕ) (low : i < threads)
      (differ : DifferIn i c d) (needs : Needs modules top threads h c i 0) where
    abbrev may_one : (k : ℕ) → k < cores → ℕ → Bool
    may_one k l = may threads cores T C p modules top steady h v c one k l

    abbrev may_two : (k : ℕ) → k < cores → ℕ → Bool
    may_two k l = may threads cores T C p modules top steady h w d two k l

    may_other : (k j : ℕ) (l : k < cores) (b : j < threads) → j ≢ i → may_one k l j ≡ may_two k l j
    may_other k j l b other =
        let bit = differ.others j other in
        ⊎_elim
        (λ (off : bit_of c.mask j ≡ 0). off_may h v c one k j l b off ∙ sym (off_may h w d two k j l b (sym bit ∙ off)))
        (λ (on : bit_of c.mask j ≡ 1). may_alike threads cores T C p modules top steady h v w c d one two k j l b on (sym bit ∙ on))
        (low_bit (bit_of c.mask j) (bit_below c.mask j))

    may_it : (k : ℕ) (l : k < cores) → may_one k l i ≡ may_two k l i
    may_it k l =
        closed_may h v c one k i l low (need_low threads cores T C p modules top steady i low h v c c one needs)
        ∙ sym (closed_may h w d two k i l low (need_low threads cores T C p modules top steady i low h w d c two needs))

    may_same : (k j : ℕ) (l : k < cores) → j < threads → may_one k l j ≡ may_two k l j
    may_same k j l b =
        let either : (j ≡ i) ⊎ (j ≢ i) = grind (arith, nat_tests) in
        ⊎_elim (λ (e : j ≡ i). subst (λ x. may_one k l x ≡ may_two k l x) (sym e) (may_it k l)) (λ (other : j ≢ i). may_other k j l b other) either

    -- a core grants the same thread
    abbrev won_one : (k : ℕ) → k < cores → Option ℕ
    won_one k l = granted threads cores T C p modules top steady h v c one k l

    abbrev won_two : (k : ℕ) → k < cores → Option ℕ
    won_two k l = granted threads cores T C p modules top steady h w d two k l

    preferred_same : (k : ℕ) → k < cores → (v (p.arbiter_at k ∷ [])).signal (p.arbiter k).preferred ≡ (w (p.arbiter_at k ∷ [])).signal (p.arbiter k).preferred
    preferred_same k l =
        preferred_is h v c one k l ∙ preferred_by c k ∙ ap (λ ps. pref_number (numbered (codes "pref") k) ps 0) differ.preferred
        ∙ sym (preferred_is h w d two k l ∙ preferred_by d k)

    won_same : (k : ℕ) (l : k < cores) → won_one k l ≡ won_two k l
    won_same k l =
        ap (λ x. granted_to threads x (may_one k l)) (preferred_same k l)
        ∙ granted_same threads ((w (p.arbiter_at k ∷ [])).signal (p.arbiter k).preferred) (may_one k l) (may_two k l) (λ j b. may_same k j l b)

    -- ---- threads that both enable

    module _ (j : ℕ) (b : j < threads) (on : bit_of c.mask j ≡ 1) (too : bit_of d.mask j ≡ 1) where
      abbrev path : Path
      path = p.thread_at j ∷ []

      abbrev news : ℕ → ℕ → ℕ
      news k n = (v path).signal ((p.thread j).told k n)

      abbrev grants : ℕ → Bool
      grants k = nat_eq ((v path).signal ((p.thread j).grant k)) 1

      given_one : (k : ℕ) (l : k < cores) → (p.thread j).uses k ≡ true → (v path).signal ((p.thread j).grant k) ≡ bits.bit_of (is_granted (won_one k l) j)
      given_one k l u =
          thread_granted threads cores T C p modules top steady.net h v c one k l (core_state threads cores T C p modules top steady h v c one k l)
          (core_shows threads cores T C p modules top steady h v c one k l) j b u

      given_two : (k : ℕ) (l : k < cores) → (p.thread j).uses k ≡ true → (w path).signal ((p.thread j).grant k) ≡ bits.bit_of (is_granted (won_two k l) j)
      given_two k l u =
          thread_granted threads cores T C p modules top steady.net h w d two k l (core_state threads cores T C p modules top steady h w d two k l)
          (core_shows threads cores T C p modules top steady h w d two k l) j b u

      hears : Hears (T j) (p.thread j) cores (λ k. (C k).parts) (λ k. (C k).told) (v path) true grants news
      hears = record {
        enables = own_enable threads cores T C p modules top steady j b h v c one on;
        grants = λ k l u. own_bit (is_granted (won_one k l) j) ((v path).signal ((p.thread j).grant k)) (given_one k l u);
        tells = λ k n l u less. refl;
      }

      hears_too : Hears (T j) (p.thread j) cores (λ k. (C k).parts) (λ k. (C k).told) (w path) true grants news
      hears_too = record {
        enables = own_enable threads cores T C p modules top steady j b h w d two too;
        grants = λ k l u.
            given_two k l u ∙ ap (λ o. bits.bit_of (is_granted o j)) (sym (won_same k l)) ∙ sym (given_one k l u)
            ∙ own_bit (is_granted (won_one k l) j) ((v path).signal ((p.thread j).grant k)) (given_one k l u);
        tells = λ k n l u less.
            thread_told threads cores T C p modules top steady.net h w d two k l (core_state threads cores T C p modules top steady h w d two k l)
            (core_shows threads cores T C p modules top steady h w d two k l) j n b u less
            ∙ sym (thread_told threads cores T C p modules top steady.net h v c one k l (core_state threads cores T C p modules top steady h v c one k l)
            (core_shows threads cores T C p modules top steady h v c one k l) j n b u less);
      }

      next_same : Agree (steady.net.threads_stand j b).0 (next_reading (steady.net.threads_stand j b).0 (v path)) (next_reading (steady.net.threads_stand j b).0 (w path))
      next_same =
          let t = steady.net.threads_stand j b in
          let q = (steady.keep j b).shown (h path) in
          t.2.faithful (next_reading t.0 (v path)) (next_reading t.0 (w path)) ((T j).advance true grants news q.0)
          (t.2.moves (v path) q.0 true grants news (own_obeys threads cores T C p modules top steady j b h v c one)
          (t.2.keeps (h path) (v path) q.0 (own_holds threads cores T C p modules top steady j b h v c one) q.1) hears)
          (t.2.moves (w path) q.0 true grants news (own_obeys threads cores T C p modules top steady j b h w d two)
          (t.2.keeps (h path) (w path) q.0 (own_holds threads cores T C p modules top steady j b h w d two) q.1) hears_too)

    -- ---- cores

    module _ (k : ℕ) (l : k < cores) where
      abbrev own : Module
      own = (steady.net.cores_stand k l).0

      abbrev there : Path
      there = p.core_at k ∷ []

      abbrev state : (C k).State
      state = core_state threads cores T C p modules top steady h v c one k l

      abbrev asked_one : ℕ → (C k).Ask
      asked_one = machines.asked (C k) (p.core k) (v there)

      abbrev asked_two : ℕ → (C k).Ask
      asked_two = machines.asked (C k) (p.core k) (w there)

      -- whom it grants asks the same
      asked_same : (x : ℕ) → won_one k l ≡ Some x → asked_one x ≡ asked_two x
      asked_same x e =
          let a = wins threads cores T C p modules top steady h v c one k x l e in
          let b = wins threads cores T C p modules top steady h w d two k x l (sym (won_same k l) ∙ e) in
          (steady.net.cores_stand k l).2.hears (λ n. (v there).signal ((p.core k).ask n x)) (λ n. (w there).signal ((p.core k).ask n x))
          (λ n less. part_alike threads cores T C p modules top steady h v w c d one two k x n l a.below less a.enabled b.enabled (steady.net.asks k x n l a.below less))

      moved_same : (o : Option ℕ) → won_one k l ≡ o → after_grant (C k) state asked_one o ≡ after_grant (C k) state asked_two o
      moved_same None e = refl
      moved_same (Some x) e = ap ((C k).act state x) (asked_same x e)

      printed_same : (o : Option ℕ) → won_one k l ≡ o → printed (C k) state asked_one o ≡ printed (C k) state asked_two o
      printed_same None e = refl
      printed_same (Some x) e = ap ((C k).prints state x) (asked_same x e)

      grants_one : Grants (C k) (p.core k) threads (v there) (won_one k l)
      grants_one = core_grants threads cores T C p modules top steady.net h v c one k l state (core_shows threads cores T C p modules top steady h v c one k l)

      grants_two : Grants (C k) (p.core k) threads (w there) (won_one k l)
      grants_two =
          subst (λ o. Grants (C k) (p.core k) threads (w there) o) (sym (won_same k l))
          (core_grants threads cores T C p modules top steady.net h w d two k l state (core_shows threads cores T C p modules top steady h w d two k l))

      core_same : Agree own (next_reading own (v there)) (next_reading own (w there))
      core_same =
          let q = steady.net.cores_stand k l in
          q.2.faithful (next_reading own (v there)) (next_reading own (w there)) (after_grant (C k) state asked_one (won_one k l))
          (q.2.moves (v there) state (won_one k l) (obeys modules top h v c one there q.0 q.1) (core_shows threads cores T C p modules top steady h v c one k l) grants_one)
          (subst ((p.core k).shows (next_reading own (w there))) (sym (moved_same (won_one k l) refl))
          (q.2.moves (w there) state (won_one k l) (obeys modules top h w d two there q.0 q.1) (core_shows threads cores T C p modules top steady h w d two k l) grants_two))

      core_writes : written own (v there) ≡ written own (w there)
      core_writes =
          let q = steady.net.cores_stand k l in
          q.2.writes (v there) state (won_one k l) (obeys modules top h v c one there q.0 q.1) (core_shows threads cores T C p modules top steady h v c one k l) grants_one
          ∙ printed_same (won_one k l) refl
          ∙ sym (q.2.writes (w there) state (won_one k l) (obeys modules top h w d two there q.0 q.1) (core_shows threads cores T C p modules top steady h w d two k l) grants_two)

    -- ---- what is written

    kind_writes : (j : ℕ) (m : Module) → module_at modules top (j ∷ []) ≡ Some m → IsInstanceOf threads cores T C p modules top j →
        written m (v (j ∷ [])) ≡ written m (w (j ∷ []))
    kind_writes j m at (inl (x, b, e)) =
        let t = steady.net.threads_stand x b in
        let same = one_module threads cores T C p modules top steady j (p.thread_at x) m t.0 at e t.1 in
        ap (λ (z : Module). written z (v (j ∷ []))) same ∙ t.2.silent (v (j ∷ []))
        ∙ sym (ap (λ (z : Module). written z (w (j ∷ []))) same ∙ t.2.silent (w (j ∷ [])))
    kind_writes j m at (inr (inl (k, l, e))) =
        let t = steady.net.cores_stand k l in
        let same = one_module threads cores T C p modules top steady j (p.core_at k) m t.0 at e t.1 in
        ap (λ (z : Module). written z (v (j ∷ []))) same ∙ ap (λ x. written t.0 (v (x ∷ []))) e ∙ core_writes k l
        ∙ sym (ap (λ (z : Module). written z (w (j ∷ []))) same ∙ ap (λ x. written t.0 (w (x ∷ []))) e)
    kind_writes j m at (inr (inr (k, l, e))) =
        let t = steady.net.arbiters_stand k l in
        let same = one_module threads cores T C p modules top steady j (p.arbiter_at k) m t.0 at e t.1 in
        ap (λ (z : Module). written z (v (j ∷ []))) same ∙ t.2.silent (v (j ∷ []))
        ∙ sym (ap (λ (z : Module). written z (w (j ∷ []))) same ∙ t.2.silent (w (j ∷ [])))

    path_writes : (path : Path) (o : Option Module) → module_at modules top path ≡ o → written_at modules top v path o ≡ written_at modules top w path o
    path_writes path None e = refl
    path_writes [] (Some m) e =
        let same : top ≡ m = cc in
        ap (λ (z : Module). written z (v [])) (sym same) ∙ ap (action_bytes top (v [])) steady.net.silent
        ∙ sym (ap (λ (z : Module). written z (w [])) (sym same) ∙ ap (action_bytes top (w [])) steady.net.silent)
    path_writes (j ∷ []) (Some m) e = kind_writes j m e (instance_is threads cores T C p modules top steady j m e)
    path_writes (x ∷ j ∷ rest) (Some m) e = absurd (steady.shallow x j rest m e)

    module _ (out more : List ℕ) (first : IsWritten modules top v out) (second : IsWritten modules top w more) where
      here : (path : Path) → written_at modules top v path (module_at modules top path) ≡ written_at modules top w path (module_at modules top path)
      here path = path_writes path (module_at modules top path) refl

      none_written : out ≡ [] → out ≡ more
      none_written none =
          ⊎_elim (λ (nothing : more ≡ []). none ∙ sym nothing)
          (λ (by : (path : Path) × (written_at modules top w path (module_at modules top path) ≡ more)).
          ⊎_elim (λ (z : written_at modules top v by.0 (module_at modules top by.0) ≡ []). none ∙ sym z ∙ here by.0 ∙ by.1)
          (λ (z : written_at modules top v by.0 (module_at modules top by.0) ≡ out). sym z ∙ here by.0 ∙ by.1) (first.each by.0)) second.one

      written_same : out ≡ more
      written_same =
          ⊎_elim (λ (none : out ≡ []). none_written none)
          (λ (by : (path : Path) × (written_at modules top v path (module_at modules top path) ≡ out)).
          ⊎_elim (λ (z : written_at modules top w by.0 (module_at modules top by.0) ≡ []). none_written (sym by.1 ∙ here by.0 ∙ z))
          (λ (z : written_at modules top w by.0 (module_at modules top by.0) ≡ more). sym by.1 ∙ here by.0 ∙ z) (second.each by.0)) first.one

    -- ---- what follows

    module _ (g f : Valuation) (next : IsSameIn modules top [] (next_state modules top v) g) (next_too : IsSameIn modules top [] (next_state modules top w) f) where
      slots_same : (j : ℕ) (b : j < threads) → j ≢ i →
          Agree (steady.net.threads_stand j b).0 (g (p.thread_at j ∷ [])) (f (p.thread_at j ∷ []))
      slots_same j b other =
          let bit = differ.others j other in
          let t = steady.net.threads_stand j b in
          let path = p.thread_at j ∷ [] in
          ⊎_elim
          (λ (off : bit_of c.mask j ≡ 0).
          agree_on t.0 (g path) (h path) (f path)
          (agree_back t.0 (h path) (g path)
          (stays_by threads cores T C p modules top steady h v c one g next (p.thread_at j) t.0 t.1 (off_rests threads cores T C p modules top steady h v c one j b off)))
          (stays_by threads cores T C p modules top steady h w d two f next_too (p.thread_at j) t.0 t.1
          (off_rests threads cores T C p modules top steady h w d two j b (sym bit ∙ off))))
          (λ (on : bit_of c.mask j ≡ 1).
          agree_on t.0 (g path) (next_reading t.0 (v path)) (f path)
          (agree_back t.0 (next_reading t.0 (v path)) (g path) (edge_is threads cores T C p modules top steady h v c one g next (p.thread_at j) t.0 t.1))
          (agree_on t.0 (next_reading t.0 (v path)) (next_reading t.0 (w path)) (f path) (next_same j b on (sym bit ∙ on))
          (edge_is threads cores T C p modules top steady h w d two f next_too (p.thread_at j) t.0 t.1)))
          (low_bit (bit_of c.mask j) (bit_below c.mask j))

      cores_same : (k : ℕ) (l : k < cores) → Agree (steady.net.cores_stand k l).0 (g (p.core_at k ∷ [])) (f (p.core_at k ∷ []))
      cores_same k l =
          let q = steady.net.cores_stand k l in
          let at = p.core_at k ∷ [] in
          agree_on q.0 (g at) (next_reading q.0 (v at)) (f at)
          (agree_back q.0 (next_reading q.0 (v at)) (g at) (edge_is threads cores T C p modules top steady h v c one g next (p.core_at k) q.0 q.1))
          (agree_on q.0 (next_reading q.0 (v at)) (next_reading q.0 (w at)) (f at) (core_same k l)
          (edge_is threads cores T C p modules top steady h w d two f next_too (p.core_at k) q.0 q.1))

      -- an instance by an equal number
      moved : (j x : ℕ) (m k : Module) → module_at modules top (j ∷ []) ≡ Some m → j ≡ x → module_at modules top (x ∷ []) ≡ Some k → Agree k (g (x ∷ [])) (f (x ∷ [])) →
          Agree m (g (j ∷ [])) (f (j ∷ []))
      moved j x m k at e stands agrees =
          subst (λ y. Agree m (g (y ∷ [])) (f (y ∷ []))) (sym e)
          (subst (λ (z : Module). Agree z (g (x ∷ [])) (f (x ∷ []))) (sym (one_module threads cores T C p modules top steady j x m k at e stands)) agrees)

      kind_same : (path : Path) → IsOutside modules top threads (thread_at modules top threads i) path → (j : ℕ) → path ≡ j ∷ [] → (m : Module) →
          module_at modules top (j ∷ []) ≡ Some m → IsInstanceOf threads cores T C p modules top j → Agree m (g (j ∷ [])) (f (j ∷ []))
      kind_same path away j is m at (inl (x, b, e)) =
          let t = steady.net.threads_stand x b in
          let either : (x ≡ i) ⊎ (x ≢ i) = grind (arith, nat_tests) in
          ⊎_elim
          (λ (same : x ≡ i).
          absurd (away [] (is ∙ ap (λ z. z ∷ []) (e ∙ ap p.thread_at same ∙ sym (thread_place threads cores T C p modules top steady i low)))))
          (λ (other : x ≢ i). moved j (p.thread_at x) m t.0 at e t.1 (slots_same x b other)) either
      kind_same path away j is m at (inr (inl (k, l, e))) =
          let q = steady.net.cores_stand k l in moved j (p.core_at k) m q.0 at e q.1 (cores_same k l)
      kind_same path away j is m at (inr (inr (k, l, e))) =
          let a = steady.net.arbiters_stand k l in
          let same = one_module threads cores T C p modules top steady j (p.arbiter_at k) m a.0 at e a.1 in
          nothing_agrees m (g (j ∷ [])) (f (j ∷ [])) (subst HoldsNothing (sym same) (steady.arbiters k l))

      outside_same : (path : Path) → IsOutside modules top threads (thread_at modules top threads i) path → IsSameAt modules top path g f
      outside_same path away =
          same_at modules top steady.shallow g f steady.outside path
          (λ j is m at. kind_same path away j is m at (instance_is threads cores T C p modules top steady j m at))

  pub alike : (h g f : Valuation) (c d : Choice) (out more : List ℕ) (i : ℕ) → i < threads → DifferIn i c d → Needs modules top threads h c i 0 →
      Cycle modules top h c g out → Cycle modules top h d f more →
      (out ≡ more) × ((path : Path) → IsOutside modules top threads (thread_at modules top threads i) path → IsSameAt modules top path g f)
  alike h g f c d out more i low differ needs a b = (
    written_same h a.through b.through c d a.settled b.settled i low differ needs out more a.written b.written,
    λ path away. outside_same h a.through b.through c d a.settled b.settled i low differ needs g f a.next b.next path away,
  )
