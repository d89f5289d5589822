-- One cycle of a net of threads, cores and arbiters is one step of its machine.
use Rattle.std.proofs.Common.{◌≡◌, ℕ, zero, suc, ◌+◌, ◌-◌, ◌/◌, ◌%◌, ◌^◌, ◌<◌, Bool, nat_eq, List, [], ◌∷◌, Option, Some, None, slice_get, codes, refl, sym, ap, ◌∙◌, subst, inl, inr, arith}
use Rattle.verilog_meaning.specs.Residues as bits
use Rattle.netlist.specs.declared.netlist.Value.TheVariants.{Copy, Constant, Select}
use Rattle.netlist.specs.declared.netlist.Source.{Source}
use Rattle.netlist.specs.declared.netlist.Source.TheVariants.{Input, Assigned, Port, Register}
use Rattle.netlist.specs.declared.netlist.Signal.{Signal}
use Rattle.netlist.specs.declared.netlist.Instance.{Instance}
use Rattle.netlist.specs.declared.netlist.Module.{Module}
use Rattle.verilog_meaning.specs.Readings.{next_reading, written, or_zero}
use Rattle.verilog_meaning.specs.Names.{numbered}
use Rattle.verilog_meaning.specs.Cycles.{Path, Valuation, Choice, module_at, connected, number, choice_number, IsSettled, IsRegister, next_at, next_state}
use Rattle.verilog_meaning.specs.Threads.{bit_of}
use Rattle.circuit.specs.Modules.{Obeys, Agree, HasInput}
use Rattle.circuit.specs.Arbitration.{granted_to, is_granted}
use Rattle.circuit.specs.Machines.{CoreMachine, CorePlaces, IsCore, Grants, after_grant, printed, ThreadMachine, ThreadPlaces, IsThread, Hears}
use Rattle.circuit.specs.Machines as machines
use Rattle.circuit.specs.Wiring.{preference, is_enabled, NetState, asked, won, stepped, printed_by, IsFed, IsChosen, NetPlaces, IsNet, ShowsAll, IsEnabledBy, IsAskedBy}
use Rattle.circuit.proofs.Arbitration.{granted_below}

-- a bit of a mask
select_is : (a i : ℕ) → (a / 2 ^ i) % 2 ^ (i + 1 - i) ≡ bits.bit_of (nat_eq (bit_of a i) 1)
select_is a i =
    let one : i + 1 - i ≡ 1 = omega arith in
    ap (λ k. (a / 2 ^ i) % 2 ^ k) one ∙ bit_is ((a / 2 ^ i) % 2) (omega arith)
  where
    bit_is : (b : ℕ) → b < 2 → b ≡ bits.bit_of (nat_eq b 1)
    bit_is zero l = refl
    bit_is (suc zero) l = refl
    bit_is (suc (suc b)) l = absurd (omega arith)

-- a mask of one bit
whole_is : (a i : ℕ) → i ≡ 0 → a < 2 → a ≡ bits.bit_of (nat_eq (bit_of a i) 1)
whole_is a i e l = whole_bit a l ∙ ap (λ k. bits.bit_of (nat_eq (bit_of a k) 1)) (sym e)
  where
    whole_bit : (b : ℕ) → b < 2 → b ≡ bits.bit_of (nat_eq (bit_of b 0) 1)
    whole_bit zero l = refl
    whole_bit (suc zero) l = refl
    whole_bit (suc (suc b)) l = absurd (omega arith)

-- a settled valuation obeys each module's own equations
module _ (modules : List Module) (top : Module) (h v : Valuation) (c : Choice) (settled : IsSettled modules top h c v) where
  pub obeys : (path : Path) (m : Module) → module_at modules top path ≡ Some m → Obeys m (v path)
  obeys path m at = record {
    equations = λ x s right e q. settled.signals path m x s (record { stands = at; listed = e }) ∙ ap (number modules top h c v path m x s) q;
    within = λ x s e. settled.within path m x s (record { stands = at; listed = e });
  }

  register_is : (path : Path) (m : Module) (x : ℕ) (s : Signal) (source : Source) → IsRegister source → number modules top h c v path m x s source ≡ (h path).signal x
  register_is path m x s (Register n) i = refl
  register_is path m x s Input i = absurd i
  register_is path m x s (Assigned a) i = absurd i
  register_is path m x s (Port a b) i = absurd i

  -- its registers and words are the state's
  pub holds : (path : Path) (m : Module) → module_at modules top path ≡ Some m → Agree m (h path) (v path)
  holds path m at = record {
    registers = λ x s e i. sym (settled.signals path m x s (record { stands = at; listed = e }) ∙ register_is path m x s s.source i);
    words = λ j k s e l. sym (settled.words path j k);
  }

  input_is : (j x : ℕ) (m : Module) → module_at modules top (j ∷ []) ≡ Some m → HasInput m x → (n : Instance) → slice_get top.instances j ≡ Some n → (place : ℕ)
      → slice_get n.inputs x ≡ Some place → (v (j ∷ [])).signal x ≡ (v []).signal place
  input_is j x m at i n e place q =
      settled.signals (j ∷ []) m x i.signal (record { stands = at; listed = i.listed })
      ∙ ap (number modules top h c v (j ∷ []) m x i.signal) i.is
      ∙ ap (λ o. (v []).signal (connected modules top o x)) e
      ∙ ap (λ o. (v []).signal (or_zero o)) q

module _ (threads cores : ℕ) (T : ℕ → ThreadMachine) (C : ℕ
    → CoreMachine) (p : NetPlaces threads cores T C) (modules : List Module) (top : Module) (net : IsNet threads cores T C p modules top) (h v : Valuation) (c : Choice)
    (settled : IsSettled modules top h c v) where
  fed : (j x : ℕ) (m : Module) (source : Source) → module_at modules top (j ∷ []) ≡ Some m → HasInput m x → (f : IsFed threads cores T C top j x source)
      → (v (j ∷ [])).signal x ≡ number modules top h c v [] top f.place f.signal source
  fed j x m source at i f =
      input_is modules top h v c settled j x m at i f.instance f.listed f.place f.connects
      ∙ settled.signals [] top f.place f.signal (record { stands = refl; listed = f.stands }) ∙ ap (number modules top h c v [] top f.place f.signal) f.drives

  chosen : (name : List ℕ) (x : ℕ) → IsChosen threads cores T C top name x → (v []).signal x ≡ choice_number c name
  chosen name x i =
      settled.signals [] top x i.signal (record { stands = refl; listed = i.stands })
      ∙ ap (number modules top h c v [] top x i.signal) i.input ∙ ap (choice_number c) i.named

  module _ (s : NetState threads cores T C) (shown : ShowsAll threads cores T C p modules top h s) where
    thread_obeys : (i : ℕ) (l : i < threads) → Obeys (net.threads_stand i l).0 (v (p.thread_at i ∷ []))
    thread_obeys i l = obeys modules top h v c settled (p.thread_at i ∷ []) (net.threads_stand i l).0 (net.threads_stand i l).1

    core_obeys : (k : ℕ) (l : k < cores) → Obeys (net.cores_stand k l).0 (v (p.core_at k ∷ []))
    core_obeys k l = obeys modules top h v c settled (p.core_at k ∷ []) (net.cores_stand k l).0 (net.cores_stand k l).1

    thread_now : (i : ℕ) (l : i < threads) → (p.thread i).shows (v (p.thread_at i ∷ [])) (s.slots i)
    thread_now i l =
        let t = net.threads_stand i l in
        t.2.keeps (h (p.thread_at i ∷ [])) (v (p.thread_at i ∷ [])) (s.slots i) (holds modules top h v c settled (p.thread_at i ∷ []) t.0 t.1) (shown.slots i l)

    core_now : (k : ℕ) (l : k < cores) → (p.core k).shows (v (p.core_at k ∷ [])) (s.states k)
    core_now k l =
        let t = net.cores_stand k l in
        t.2.keeps (h (p.core_at k ∷ [])) (v (p.core_at k ∷ [])) (s.states k) (holds modules top h v c settled (p.core_at k ∷ []) t.0 t.1) (shown.states k l)

    enabled_by : (i : ℕ) (l : i < threads) → IsEnabledBy threads cores T C p modules top net.mask_at i
        → (v (p.thread_at i ∷ [])).signal (p.thread i).enable ≡ bits.bit_of (is_enabled c.mask i)
    enabled_by i l (inl f) =
        let t = net.threads_stand i l in
        fed (p.thread_at i) (p.thread i).enable t.0 (Assigned (Select net.mask_at i i)) t.1 t.2.enable_input f
        ∙ ap (λ a. (a / 2 ^ i) % 2 ^ (i + 1 - i)) (chosen (codes "en") net.mask_at net.mask)
        ∙ select_is c.mask i
    enabled_by i l (inr f) =
        let t = net.threads_stand i l in
        let mask = chosen (codes "en") net.mask_at net.mask in
        let wide : (v []).signal net.mask_at < 2 ^ 1 =
        subst (λ w. (v []).signal net.mask_at < 2 ^ w) f.1.wide (settled.within [] top net.mask_at f.1.signal (record { stands = refl; listed = f.1.listed })) in
        let low : c.mask < 2 = subst (λ a. a < 2) mask wide in
        fed (p.thread_at i) (p.thread i).enable t.0 (Assigned (Copy net.mask_at)) t.1 t.2.enable_input f.2
        ∙ mask ∙ whole_is c.mask i f.0 low

    enable_is : (i : ℕ) (l : i < threads) → (v (p.thread_at i ∷ [])).signal (p.thread i).enable ≡ bits.bit_of (is_enabled c.mask i)
    enable_is i l = enabled_by i l (net.enables i l)

    -- part j of what thread i asks of core k
    part_is : (k i j : ℕ) (l : k < cores) (b : i < threads) → j < (C k).parts → IsAskedBy threads cores T C p modules top k i j
        → (v (p.core_at k ∷ [])).signal ((p.core k).ask j i) ≡ (T i).asks (is_enabled c.mask i) (s.slots i) k j
    part_is k i j l b d (inl f) =
        let t = net.threads_stand i b in let q = net.cores_stand k l in
        fed (p.core_at k) ((p.core k).ask j i) q.0 (Port (p.thread_at i) ((p.thread i).ask k j)) q.1 (q.2.ask_inputs j i d b) f.1
        ∙ t.2.asks (v (p.thread_at i ∷ [])) (s.slots i) (is_enabled c.mask i) (thread_obeys i b) (thread_now i b) (enable_is i b) k j l f.0 d
    part_is k i j l b d (inr f) =
        let t = net.threads_stand i b in let q = net.cores_stand k l in
        fed (p.core_at k) ((p.core k).ask j i) q.0 (Assigned (Constant 0)) q.1 (q.2.ask_inputs j i d b) f.1
        ∙ sym (t.2.asks_none (s.slots i) (is_enabled c.mask i) k j f.0)

    ask_is : (k i : ℕ) (l : k < cores) (b : i < threads) → machines.asked (C k) (p.core k) (v (p.core_at k ∷ [])) i ≡ asked threads cores T C c s k i
    ask_is k i l b =
        (net.cores_stand k l).2.hears (λ j. (v (p.core_at k ∷ [])).signal ((p.core k).ask j i)) (λ j. (T i).asks (is_enabled c.mask i) (s.slots i) k j)
        (λ j d. part_is k i j l b d (net.asks k i j l b d))

    module _ (k : ℕ) (l : k < cores) where
      abbrev eligible : ℕ → Bool
      eligible i = (C k).eligible (s.states k) i (asked threads cores T C c s k i)

      offer_is : (i : ℕ) → i < threads → (v (p.arbiter_at k ∷ [])).signal ((p.arbiter k).ask i) ≡ bits.bit_of ((C k).eligible (s.states k) i (asked threads cores T C c s k i))
      offer_is i b =
          let a = net.arbiters_stand k l in let q = net.cores_stand k l in
          fed (p.arbiter_at k) ((p.arbiter k).ask i) a.0 (Port (p.core_at k) ((p.core k).offer i)) a.1 (a.2.ask_inputs i b) (net.offers k i l b)
          ∙ q.2.offers (v (p.core_at k ∷ [])) (s.states k) (core_obeys k l) (core_now k l) i b
          ∙ ap (λ x. bits.bit_of ((C k).eligible (s.states k) i x)) (ask_is k i l b)

      preferred_is : (v (p.arbiter_at k ∷ [])).signal (p.arbiter k).preferred ≡ preference c k
      preferred_is =
          let a = net.arbiters_stand k l in let f = net.prefers k l in
          input_is modules top h v c settled (p.arbiter_at k) (p.arbiter k).preferred a.0 a.1 a.2.preferred_input f.0 f.1 (net.preferred_at k) f.2
          ∙ chosen (numbered (codes "pref") k) (net.preferred_at k) (net.preferred k l)

      grant_is : (i : ℕ) → i < threads → (v (p.arbiter_at k ∷ [])).signal ((p.arbiter k).grant i) ≡ bits.bit_of (is_granted (won threads cores T C c s k) i)
      grant_is i b =
          let a = net.arbiters_stand k l in
          a.2.grants (v (p.arbiter_at k ∷ [])) (λ x. (C k).eligible (s.states k) x (asked threads cores T C c s k x))
          (obeys modules top h v c settled (p.arbiter_at k ∷ []) a.0 a.1) offer_is i b
          ∙ ap (λ x. bits.bit_of (is_granted (granted_to threads x (λ y. (C k).eligible (s.states k) y (asked threads cores T C c s k y))) i)) preferred_is

      core_grants : Grants (C k) (p.core k) threads (v (p.core_at k ∷ [])) (won threads cores T C c s k)
      core_grants = record {
        below = λ w e. (granted_below threads (preference c k) (λ x. (C k).eligible (s.states k) x (asked threads cores T C c s k x)) w e).0;
        bits = λ i b.
            let q = net.cores_stand k l in
            fed (p.core_at k) ((p.core k).grant i) q.0 (Port (p.arbiter_at k) ((p.arbiter k).grant i)) q.1 (q.2.grant_inputs i b) (net.granting k i l b)
            ∙ grant_is i b;
      }

      -- asks that are the same for the granted thread
      after_same : (o : Option ℕ) → ((w : ℕ) → o ≡ Some w → w < threads)
          → after_grant (C k) (s.states k) (machines.asked (C k) (p.core k) (v (p.core_at k ∷ []))) o ≡ after_grant (C k) (s.states k) (asked threads cores T C c s k) o
      after_same None below = refl
      after_same (Some w) below = ap ((C k).act (s.states k) w) (ask_is k w l (below w refl))

      printed_same : (o : Option ℕ) → ((w : ℕ) → o ≡ Some w → w < threads)
          → printed (C k) (s.states k) (machines.asked (C k) (p.core k) (v (p.core_at k ∷ []))) o ≡ printed (C k) (s.states k) (asked threads cores T C c s k) o
      printed_same None below = refl
      printed_same (Some w) below = ap ((C k).prints (s.states k) w) (ask_is k w l (below w refl))

      core_next : (p.core k).shows (next_reading (net.cores_stand k l).0 (v (p.core_at k ∷ []))) ((stepped threads cores T C c s).states k)
      core_next =
          subst ((p.core k).shows (next_reading (net.cores_stand k l).0 (v (p.core_at k ∷ []))))
          (after_same (won threads cores T C c s k) core_grants.below)
          ((net.cores_stand k l).2.moves (v (p.core_at k ∷ [])) (s.states k) (won threads cores T C c s k) (core_obeys k l) (core_now k l) core_grants)

      -- what a core writes is what the machine prints there
      pub core_writes : written (net.cores_stand k l).0 (v (p.core_at k ∷ [])) ≡ printed_by threads cores T C c s k
      core_writes =
          (net.cores_stand k l).2.writes (v (p.core_at k ∷ [])) (s.states k) (won threads cores T C c s k) (core_obeys k l) (core_now k l) core_grants
          ∙ printed_same (won threads cores T C c s k) core_grants.below

    thread_hears : (i : ℕ) (b : i < threads) → Hears (T i) (p.thread i) cores (λ k. (C k).parts) (λ k. (C k).told) (v (p.thread_at i ∷ [])) (is_enabled c.mask i) (λ k. is_granted
        (won threads cores T C c s k) i) (λ k j. (C k).tells (s.states k) i j)
    thread_hears i b =
        let t = net.threads_stand i b in
        record {
          enables = enable_is i b;
          grants = λ k l u.
              fed (p.thread_at i) ((p.thread i).grant k) t.0 (Port (p.arbiter_at k) ((p.arbiter k).grant i)) t.1 (t.2.grant_inputs k l u) (net.grants i k b l u)
              ∙ grant_is k l i b;
          tells = λ k j l u d.
              fed (p.thread_at i) ((p.thread i).told k j) t.0 (Port (p.core_at k) ((p.core k).tell j i)) t.1 (t.2.told_inputs k j l u d) (net.tells i k j b l u d)
              ∙ (net.cores_stand k l).2.tells (v (p.core_at k ∷ [])) (s.states k) (core_obeys k l) (core_now k l) j i d b;
        }

    thread_next : (i : ℕ) (b : i < threads) → (p.thread i).shows (next_reading (net.threads_stand i b).0 (v (p.thread_at i ∷ []))) ((stepped threads cores T C c s).slots i)
    thread_next i b =
        (net.threads_stand i b).2.moves (v (p.thread_at i ∷ [])) (s.slots i) (is_enabled c.mask i) (λ k. is_granted (won threads cores T C c s k) i) (λ k j. (C k).tells (s.states k) i j)
        (thread_obeys i b) (thread_now i b) (thread_hears i b)

    -- one cycle of the net is one step of the machine
    pub net_step : ShowsAll threads cores T C p modules top (next_state modules top v) (stepped threads cores T C c s)
    net_step = record {
      slots = λ i b. subst (λ o. (p.thread i).shows (next_at modules top o (v (p.thread_at i ∷ []))) ((stepped threads cores T C c s).slots i)) (sym (net.threads_stand i b).1) (thread_next i b);
      states = λ k l. subst (λ o. (p.core k).shows (next_at modules top o (v (p.core_at k ∷ []))) ((stepped threads cores T C c s).states k)) (sym (net.cores_stand k l).1) (core_next k l);
    }
