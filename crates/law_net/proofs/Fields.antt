-- What each cycle of a net of threads that keep to themselves does.
use Rattle.std.proofs.Common.{◌≡◌, ℕ, ◌<◌, List, [], ◌∷◌, Some, slice_get, refl, sym, ap, ◌∙◌, subst}
use Rattle.law_net.proofs.AgreedReadings.{agree_on, agree_back}
use Rattle.hls_ints.specs.Residues as bits
use Rattle.netlist.specs.declared.netlist.Module.{Module}
use Rattle.verilog_meaning.specs.Readings.{next_reading}
use Rattle.verilog_meaning.specs.Cycles.{Path, Valuation, Choice, module_at, IsSettled, IsSameIn, Cycle}
use Rattle.verilog_meaning.specs.Threads.{bit_of, IsSameSlot, Needs}
use Rattle.circuit.specs.Modules.{Obeys, Agree}
use Rattle.circuit.specs.Machines.{CoreMachine, ThreadMachine}
use Rattle.circuit.specs.Wiring.{NetPlaces}
use Rattle.circuit.proofs.NetStep.{obeys, holds}
use Rattle.law_net.specs.Steady.{IsSteady}
use Rattle.law_net.proofs.FedModules.{enable_is}
use Rattle.law_net.proofs.Same.{same_in, agrees_in}
use Rattle.law_net.proofs.GrantedThread.{Rests}
use Rattle.law_net.proofs.RestingCycle.{one_module, off_rests, edge_is, stays_by, rests_by}

module _ (threads cores : ℕ) (T : ℕ → ThreadMachine) (C : ℕ → CoreMachine) (p : NetPlaces threads cores T C) (modules : List Module) (top : Module)
    (steady : IsSteady threads cores T C p modules top) where
  -- ---- slots

  module _ (i : ℕ) (l : i < threads) where
    abbrev own : Module
    own = (steady.net.threads_stand i l).0

    abbrev path : Path
    path = p.thread_at i ∷ []

    pub slot_of : (h g : Valuation) → Agree own (h path) (g path) → IsSameSlot modules top threads i h g
    slot_of h g a =
        subst (λ q. IsSameIn modules top q h g) (sym (steady.slots i l))
        (same_in modules top steady.shallow h g (p.thread_at i)
        (λ m at. subst (λ (z : Module). Agree z (h path) (g path))
        (one_module threads cores T C p modules top steady (p.thread_at i) (p.thread_at i) own m (steady.net.threads_stand i l).1 refl at) a))

    pub slot_agrees : (h g : Valuation) → IsSameSlot modules top threads i h g → Agree own (h path) (g path)
    slot_agrees h g same =
        agrees_in modules top steady.shallow h g (p.thread_at i) (subst (λ q. IsSameIn modules top q h g) (steady.slots i l) same) own (steady.net.threads_stand i l).1

    module _ (h v : Valuation) (c : Choice) (settled : IsSettled modules top h c v) where
      pub own_obeys : Obeys own (v path)
      own_obeys = obeys modules top h v c settled path own (steady.net.threads_stand i l).1

      pub own_holds : Agree own (h path) (v path)
      own_holds = holds modules top h v c settled path own (steady.net.threads_stand i l).1

      pub own_enable : bit_of c.mask i ≡ 1 → (v path).signal (p.thread i).enable ≡ 1
      own_enable on = enable_is threads cores T C p modules top steady.net h v c settled i l ∙ on

      -- its need is told by its slot
      need_told : (q : (T i).Slot) → (p.thread i).shows (h path) q → (v path).signal (p.thread i).need ≡ bits.bit_of ((T i).needs q)
      need_told q shown =
          let t = steady.net.threads_stand i l in
          t.2.needs (v path) q own_obeys (t.2.keeps (h path) (v path) q own_holds shown)

    need_is : (h : Valuation) (c : Choice) (b : ℕ) → Needs modules top threads h c i b → (q : (T i).Slot) → (p.thread i).shows (h path) q → b ≡ bits.bit_of ((T i).needs q)
    need_is h c b needs q shown =
        let here : module_at modules top path ≡ Some needs.kind = ap (module_at modules top) (sym (steady.slots i l)) ∙ needs.stands in
        let one : own ≡ needs.kind = one_module threads cores T C p modules top steady (p.thread_at i) (p.thread_at i) own needs.kind (steady.net.threads_stand i l).1 refl here in
        let signal = steady.need i l needs.place needs.signal
        (record { listed = ap (λ (z : Module). slice_get z.signals needs.place) one ∙ needs.is.listed; named = needs.is.named }) in
        sym needs.number
        ∙ ap (λ x. (needs.through x).signal needs.place) (steady.slots i l)
        ∙ ap (λ x. (needs.through path).signal x) signal
        ∙ need_told h needs.through c needs.settled q shown

    -- where it needs no core under one choice, it needs none under any
    pub need_low : (h v : Valuation) (c d : Choice) → IsSettled modules top h c v → Needs modules top threads h d i 0 → (v path).signal (p.thread i).need ≡ 0
    need_low h v c d settled needs =
        let q = (steady.keep i l).shown (h path) in
        need_told h v c settled q.0 q.1 ∙ sym (need_is h d 0 needs q.0 q.1)

    pub needs_alike : (h g : Valuation) (c d : Choice) (a b : ℕ) → IsSameSlot modules top threads i h g →
        Needs modules top threads h c i a → Needs modules top threads g d i b → a ≡ b
    needs_alike h g c d a b same left right =
        let q = (steady.keep i l).shown (h path) in
        let there = (steady.net.threads_stand i l).2.keeps (h path) (g path) q.0 (slot_agrees h g same) q.1 in
        need_is h c a left q.0 q.1 ∙ sym (need_is g d b right q.0 there)

    -- ---- cycles

    pub slot_stays : (h g : Valuation) (c : Choice) (out : List ℕ) → Cycle modules top h c g out → bit_of c.mask i ≡ 0 → IsSameSlot modules top threads i h g
    slot_stays h g c out cycle off =
        slot_of h g (stays_by threads cores T C p modules top steady h cycle.through c cycle.settled g cycle.next (p.thread_at i) own (steady.net.threads_stand i l).1
        (off_rests threads cores T C p modules top steady h cycle.through c cycle.settled i l off))

    pub slot_rests : (h g : Valuation) (c : Choice) (out : List ℕ) (cycle : Cycle modules top h c g out) → IsSameSlot modules top threads i h g →
        Rests threads cores T C p modules top steady h cycle.through c cycle.settled i l
    slot_rests h g c out cycle same =
        rests_by threads cores T C p modules top steady h cycle.through c cycle.settled g cycle.next (p.thread_at i) own (steady.net.threads_stand i l).1 (slot_agrees h g same)

    pub closed_changes : (h g : Valuation) (c : Choice) (out : List ℕ) → Cycle modules top h c g out → bit_of c.mask i ≡ 1 → Needs modules top threads h c i 0 →
        IsSameSlot modules top threads i h g → ⊥
    closed_changes h g c out cycle on needs same =
        (steady.keep i l).closed_moves (cycle.through path) (own_obeys h cycle.through c cycle.settled) (need_low h cycle.through c c cycle.settled needs)
        (own_enable h cycle.through c cycle.settled on) (slot_rests h g c out cycle same)

    pub closed_same : (h k g f : Valuation) (c d : Choice) (out more : List ℕ) → Cycle modules top h c g out → Cycle modules top k d f more → bit_of c.mask i ≡ 1 →
        bit_of d.mask i ≡ 1 → Needs modules top threads h c i 0 → IsSameSlot modules top threads i h k → IsSameSlot modules top threads i g f
    closed_same h k g f c d out more a b on too needs same =
        let r = a.through path in let q = b.through path in
        let both = agree_on own r (h path) q (agree_back own (h path) r (own_holds h a.through c a.settled))
        (agree_on own (h path) (k path) q (slot_agrees h k same) (own_holds k b.through d b.settled)) in
        let next = (steady.keep i l).closed_alike r q (own_obeys h a.through c a.settled) (own_obeys k b.through d b.settled) both (need_low h a.through c c a.settled needs)
        (own_enable h a.through c a.settled on) (own_enable k b.through d b.settled too) in
        let at = (steady.net.threads_stand i l).1 in
        let left = edge_is threads cores T C p modules top steady h a.through c a.settled g a.next (p.thread_at i) own at in
        let right = edge_is threads cores T C p modules top steady k b.through d b.settled f b.next (p.thread_at i) own at in
        slot_of g f (agree_on own (g path) (next_reading own r) (f path) (agree_back own (next_reading own r) (g path) left)
        (agree_on own (next_reading own r) (next_reading own q) (f path) next right))
