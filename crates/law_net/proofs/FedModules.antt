-- What reaches the modules of a settled net: the enables, what cores are asked, what arbiters grant, and what cores tell.
use Rattle.std.proofs.Common.{◌≡◌, ℕ, zero, suc, ◌+◌, ◌-◌, ◌/◌, ◌%◌, ◌^◌, ◌<◌, ◌⊎◌, Bool, true, List, [], ◌∷◌, Option, Some, refl, sym, ap, ◌∙◌, subst, inl, inr, arith}
use Rattle.hls_ints.specs.Residues as bits
use Rattle.netlist.specs.declared.netlist.Value.TheVariants.{Copy, Constant, Select}
use Rattle.netlist.specs.declared.netlist.Source.{Source}
use Rattle.netlist.specs.declared.netlist.Source.TheVariants.{Assigned, Port}
use Rattle.netlist.specs.declared.netlist.Module.{Module}
use Rattle.verilog_meaning.specs.Readings.{or_zero}
use Rattle.verilog_meaning.specs.Cycles.{Valuation, Choice, module_at, connected, number, choice_number, IsSettled}
use Rattle.verilog_meaning.specs.Threads.{bit_of}
use Rattle.circuit.specs.Modules.{HasInput}
use Rattle.circuit.specs.Arbitration.{granted_to, is_granted}
use Rattle.circuit.specs.Machines.{CoreMachine, Grants, ThreadMachine}
use Rattle.circuit.specs.Machines as machines
use Rattle.circuit.specs.Wiring.{IsFed, NetPlaces, IsNet, IsEnabledBy, IsAskedBy}
use Rattle.circuit.proofs.Arbitration.{granted_below}
use Rattle.circuit.proofs.NetStep.{obeys}

-- a mask of one bit
whole_is : (a i : ℕ) → i ≡ 0 → a < 2 → a ≡ bit_of a i
whole_is a i e l = whole_bit a l ∙ ap (λ k. bit_of a k) (sym e)
  where
    whole_bit : (b : ℕ) → b < 2 → b ≡ bit_of b 0
    whole_bit zero l = refl
    whole_bit (suc zero) l = refl
    whole_bit (suc (suc b)) l = absurd (omega arith)

module _ (threads cores : ℕ) (T : ℕ → ThreadMachine) (C : ℕ → CoreMachine) (p : NetPlaces threads cores T C) (modules : List Module) (top : Module)
    (net : IsNet threads cores T C p modules top) (h v : Valuation) (c : Choice) (settled : IsSettled modules top h c v) where
  pub fed : (j x : ℕ) (m : Module) (source : Source) → module_at modules top (j ∷ []) ≡ Some m → HasInput m x → (f : IsFed threads cores T C top j x source) →
      (v (j ∷ [])).signal x ≡ number modules top h c v [] top f.place f.signal source
  fed j x m source at i f =
      settled.signals (j ∷ []) m x i.signal (record { stands = at; listed = i.listed })
      ∙ ap (number modules top h c v (j ∷ []) m x i.signal) i.is
      ∙ ap (λ o. (v []).signal (connected modules top o x)) f.listed
      ∙ ap (λ o. (v []).signal (or_zero o)) f.connects
      ∙ settled.signals [] top f.place f.signal (record { stands = refl; listed = f.stands }) ∙ ap (number modules top h c v [] top f.place f.signal) f.drives

  mask_is : (v []).signal net.mask_at ≡ c.mask
  mask_is =
      let i = net.mask in
      settled.signals [] top net.mask_at i.signal (record { stands = refl; listed = i.stands })
      ∙ ap (number modules top h c v [] top net.mask_at i.signal) i.input ∙ ap (choice_number c) i.named

  enabled_by : (i : ℕ) (l : i < threads) → IsEnabledBy threads cores T C p modules top net.mask_at i → (v (p.thread_at i ∷ [])).signal (p.thread i).enable ≡ bit_of c.mask i
  enabled_by i l (inl f) =
      let t = net.threads_stand i l in
      let one : i + 1 - i ≡ 1 = omega arith in
      fed (p.thread_at i) (p.thread i).enable t.0 (Assigned (Select net.mask_at i i)) t.1 t.2.enable_input f
      ∙ ap (λ a. (a / 2 ^ i) % 2 ^ (i + 1 - i)) mask_is
      ∙ ap (λ k. (c.mask / 2 ^ i) % 2 ^ k) one
  enabled_by i l (inr f) =
      let t = net.threads_stand i l in
      let wide : (v []).signal net.mask_at < 2 ^ 1 =
      subst (λ w. (v []).signal net.mask_at < 2 ^ w) f.1.wide (settled.within [] top net.mask_at f.1.signal (record { stands = refl; listed = f.1.listed })) in
      let low : c.mask < 2 = subst (λ a. a < 2) mask_is wide in
      fed (p.thread_at i) (p.thread i).enable t.0 (Assigned (Copy net.mask_at)) t.1 t.2.enable_input f.2 ∙ mask_is ∙ whole_is c.mask i f.0 low

  -- a thread is enabled by its bit
  pub enable_is : (i : ℕ) (l : i < threads) → (v (p.thread_at i ∷ [])).signal (p.thread i).enable ≡ bit_of c.mask i
  enable_is i l = enabled_by i l (net.enables i l)

  -- part j of what thread i asks of core k
  abbrev pub HasPart : ℕ → ℕ → ℕ → Type 0
  HasPart k i j =
      (((p.thread i).uses k ≡ true) × ((v (p.core_at k ∷ [])).signal ((p.core k).ask j i) ≡ (v (p.thread_at i ∷ [])).signal ((p.thread i).ask k j)))
      ⊎ ((v (p.core_at k ∷ [])).signal ((p.core k).ask j i) ≡ 0)

  part_by : (k i j : ℕ) (l : k < cores) (b : i < threads) → j < (C k).parts → IsAskedBy threads cores T C p modules top k i j → HasPart k i j
  part_by k i j l b d (inl f) =
      let q = net.cores_stand k l in
      inl (f.0, fed (p.core_at k) ((p.core k).ask j i) q.0 (Port (p.thread_at i) ((p.thread i).ask k j)) q.1 (q.2.ask_inputs j i d b) f.1)
  part_by k i j l b d (inr f) =
      let q = net.cores_stand k l in
      inr (fed (p.core_at k) ((p.core k).ask j i) q.0 (Assigned (Constant 0)) q.1 (q.2.ask_inputs j i d b) f.1)

  pub part_is : (k i j : ℕ) (l : k < cores) (b : i < threads) → j < (C k).parts → HasPart k i j
  part_is k i j l b d = part_by k i j l b d (net.asks k i j l b d)

  module _ (k : ℕ) (l : k < cores) (s : (C k).State) (shown : (p.core k).shows (v (p.core_at k ∷ [])) s) where
    -- whether thread i may be granted, and which thread is
    abbrev pub may_win : ℕ → Bool
    may_win i = (C k).eligible s i (machines.asked (C k) (p.core k) (v (p.core_at k ∷ [])) i)

    abbrev pub winner : Option ℕ
    winner = granted_to threads ((v (p.arbiter_at k ∷ [])).signal (p.arbiter k).preferred) may_win

    offer_is : (i : ℕ) → i < threads → (v (p.arbiter_at k ∷ [])).signal ((p.arbiter k).ask i) ≡ bits.bit_of (may_win i)
    offer_is i b =
        let a = net.arbiters_stand k l in let q = net.cores_stand k l in
        fed (p.arbiter_at k) ((p.arbiter k).ask i) a.0 (Port (p.core_at k) ((p.core k).offer i)) a.1 (a.2.ask_inputs i b) (net.offers k i l b)
        ∙ q.2.offers (v (p.core_at k ∷ [])) s (obeys modules top h v c settled (p.core_at k ∷ []) q.0 q.1) shown i b

    pub grant_is : (i : ℕ) → i < threads → (v (p.arbiter_at k ∷ [])).signal ((p.arbiter k).grant i) ≡ bits.bit_of (is_granted winner i)
    grant_is i b =
        let a = net.arbiters_stand k l in
        a.2.grants (v (p.arbiter_at k ∷ [])) may_win (obeys modules top h v c settled (p.arbiter_at k ∷ []) a.0 a.1) offer_is i b

    pub core_grants : Grants (C k) (p.core k) threads (v (p.core_at k ∷ [])) winner
    core_grants = record {
      below = λ w e. (granted_below threads ((v (p.arbiter_at k ∷ [])).signal (p.arbiter k).preferred) may_win w e).0;
      bits = λ i b.
          let q = net.cores_stand k l in
          fed (p.core_at k) ((p.core k).grant i) q.0 (Port (p.arbiter_at k) ((p.arbiter k).grant i)) q.1 (q.2.grant_inputs i b) (net.granting k i l b) ∙ grant_is i b;
    }

    pub thread_granted : (i : ℕ) (b : i < threads) → (p.thread i).uses k ≡ true → (v (p.thread_at i ∷ [])).signal ((p.thread i).grant k) ≡ bits.bit_of (is_granted winner i)
    thread_granted i b u =
        let t = net.threads_stand i b in
        fed (p.thread_at i) ((p.thread i).grant k) t.0 (Port (p.arbiter_at k) ((p.arbiter k).grant i)) t.1 (t.2.grant_inputs k l u) (net.grants i k b l u) ∙ grant_is i b

    pub thread_told : (i j : ℕ) (b : i < threads) → (p.thread i).uses k ≡ true → j < (C k).told →
        (v (p.thread_at i ∷ [])).signal ((p.thread i).told k j) ≡ (C k).tells s i j
    thread_told i j b u d =
        let t = net.threads_stand i b in let q = net.cores_stand k l in
        fed (p.thread_at i) ((p.thread i).told k j) t.0 (Port (p.core_at k) ((p.core k).tell j i)) t.1 (t.2.told_inputs k j l u d) (net.tells i k j b l u d)
        ∙ q.2.tells (v (p.core_at k ∷ [])) s (obeys modules top h v c settled (p.core_at k ∷ []) q.0 q.1) shown j i d b
