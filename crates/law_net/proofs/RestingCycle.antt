-- A cycle in which no core grants: what the edge leaves, and that nothing is written.
use Rattle.std.proofs.Common.{◌≡◌, ℕ, ◌<◌, List, [], ◌∷◌, Option, Some, None, slice_get, refl, sym, ap, ◌∙◌, subst, inl, inr, ⊎_elim}
use Rattle.law_net.proofs.AgreedReadings.{agree_on, agree_back}
use Rattle.netlist.specs.declared.netlist.Instance.{Instance}
use Rattle.netlist.specs.declared.netlist.Module.{Module}
use Rattle.verilog_meaning.specs.Readings.{Reading, next_reading, written, action_bytes}
use Rattle.verilog_meaning.specs.Cycles.{Path, Valuation, Choice, module_at, IsSettled, IsSameIn, IsWritten, written_at, next_at, next_state}
use Rattle.verilog_meaning.specs.Threads.{bit_of}
use Rattle.circuit.specs.Modules.{Agree}
use Rattle.circuit.specs.Machines.{CoreMachine, ThreadMachine}
use Rattle.circuit.specs.Wiring.{NetPlaces, IsInstanceOf}
use Rattle.circuit.proofs.Staged.{from_then}
use Rattle.circuit.proofs.NetStep.{obeys, holds}
use Rattle.law_net.specs.Steady.{IsSteady}
use Rattle.law_net.proofs.FedModules.{enable_is}
use Rattle.law_net.proofs.Same.{nothing_agrees, same_all, agrees_all}
use Rattle.law_net.proofs.GrantedThread.{Rests, granted, core_rests, core_silent}

module _ (threads cores : ℕ) (T : ℕ → ThreadMachine) (C : ℕ → CoreMachine) (p : NetPlaces threads cores T C) (modules : List Module) (top : Module)
    (steady : IsSteady threads cores T C p modules top) where
  pub instance_is : (j : ℕ) (m : Module) → module_at modules top (j ∷ []) ≡ Some m → IsInstanceOf threads cores T C p modules top j
  instance_is j m at =
      let a = from_then (λ (n : Instance). slice_get modules n.of) (slice_get top.instances j) m at in
      steady.net.all j a.0 a.1

  -- the module of an instance is the one that stands there
  pub one_module : (j i : ℕ) (m k : Module) → module_at modules top (j ∷ []) ≡ Some m → j ≡ i → module_at modules top (i ∷ []) ≡ Some k → m ≡ k
  one_module j i m k at e stands =
      let same : Some m ≡ Some k = sym at ∙ ap (λ x. module_at modules top (x ∷ [])) e ∙ stands in cc

  module _ (h v : Valuation) (c : Choice) (settled : IsSettled modules top h c v) where
    -- whoever is not enabled rests
    pub off_rests : (i : ℕ) (l : i < threads) → bit_of c.mask i ≡ 0 → Rests threads cores T C p modules top steady h v c settled i l
    off_rests i l off =
        let t = steady.net.threads_stand i l in
        (steady.keep i l).rests (v (p.thread_at i ∷ [])) (obeys modules top h v c settled (p.thread_at i ∷ []) t.0 t.1)
        (enable_is threads cores T C p modules top steady.net h v c settled i l ∙ off)

    -- ---- from one state to the next

    module _ (g : Valuation) (next : IsSameIn modules top [] (next_state modules top v) g) (j : ℕ) (m : Module) (at : module_at modules top (j ∷ []) ≡ Some m) where
      pub edge_is : Agree m (next_reading m (v (j ∷ []))) (g (j ∷ []))
      edge_is =
          let here : next_state modules top v (j ∷ []) ≡ next_reading m (v (j ∷ [])) = ap (λ (o : Option Module). next_at modules top o (v (j ∷ []))) at in
          subst (λ (x : Reading). Agree m x (g (j ∷ []))) here (agrees_all modules top steady.shallow (next_state modules top v) g next j m at)

      pub stays_by : Agree m (v (j ∷ [])) (next_reading m (v (j ∷ []))) → Agree m (h (j ∷ [])) (g (j ∷ []))
      stays_by same =
          agree_on m (h (j ∷ [])) (v (j ∷ [])) (g (j ∷ [])) (holds modules top h v c settled (j ∷ []) m at)
          (agree_on m (v (j ∷ [])) (next_reading m (v (j ∷ []))) (g (j ∷ [])) same edge_is)

      pub rests_by : Agree m (h (j ∷ [])) (g (j ∷ [])) → Agree m (v (j ∷ [])) (next_reading m (v (j ∷ [])))
      rests_by same =
          agree_on m (v (j ∷ [])) (h (j ∷ [])) (next_reading m (v (j ∷ []))) (agree_back m (h (j ∷ [])) (v (j ∷ [])) (holds modules top h v c settled (j ∷ []) m at))
          (agree_on m (h (j ∷ [])) (g (j ∷ [])) (next_reading m (v (j ∷ []))) same (agree_back m (next_reading m (v (j ∷ []))) (g (j ∷ [])) edge_is))

    -- ---- where no core grants

    module _ (none : (k : ℕ) (l : k < cores) → granted threads cores T C p modules top steady h v c settled k l ≡ None) where
      by_kind : (j : ℕ) (m : Module) → module_at modules top (j ∷ []) ≡ Some m →
          ((i : ℕ) (l : i < threads) → j ≡ p.thread_at i → Rests threads cores T C p modules top steady h v c settled i l) →
          IsInstanceOf threads cores T C p modules top j → Agree m (v (j ∷ [])) (next_reading m (v (j ∷ [])))
      by_kind j m at rest (inl (i, l, e)) =
          let t = steady.net.threads_stand i l in
          let one = one_module j (p.thread_at i) m t.0 at e t.1 in
          subst (λ x. Agree m (v (x ∷ [])) (next_reading m (v (x ∷ [])))) (sym e)
          (subst (λ (z : Module). Agree z (v (p.thread_at i ∷ [])) (next_reading z (v (p.thread_at i ∷ [])))) (sym one) (rest i l e))
      by_kind j m at rest (inr (inl (k, l, e))) =
          let t = steady.net.cores_stand k l in
          let one = one_module j (p.core_at k) m t.0 at e t.1 in
          subst (λ x. Agree m (v (x ∷ [])) (next_reading m (v (x ∷ [])))) (sym e)
          (subst (λ (z : Module). Agree z (v (p.core_at k ∷ [])) (next_reading z (v (p.core_at k ∷ [])))) (sym one)
          (core_rests threads cores T C p modules top steady h v c settled k l (none k l)))
      by_kind j m at rest (inr (inr (k, l, e))) =
          let t = steady.net.arbiters_stand k l in
          let one = one_module j (p.arbiter_at k) m t.0 at e t.1 in
          subst (λ (z : Module). Agree z (v (j ∷ [])) (next_reading m (v (j ∷ [])))) (sym one)
          (nothing_agrees t.0 (v (j ∷ [])) (next_reading m (v (j ∷ []))) (steady.arbiters k l))

      -- an instance stays, where it is not one of a thread that moves
      pub instance_rests : (j : ℕ) (m : Module) → module_at modules top (j ∷ []) ≡ Some m →
          ((i : ℕ) (l : i < threads) → j ≡ p.thread_at i → Rests threads cores T C p modules top steady h v c settled i l) →
          Agree m (v (j ∷ [])) (next_reading m (v (j ∷ [])))
      instance_rests j m at rest = by_kind j m at rest (instance_is j m at)

      -- where all threads stay, all does
      pub all_stays : (g : Valuation) → IsSameIn modules top [] (next_state modules top v) g →
          ((i : ℕ) (l : i < threads) → Rests threads cores T C p modules top steady h v c settled i l) → IsSameIn modules top [] h g
      all_stays g next rest =
          same_all modules top steady.shallow h g steady.outside (λ j m at. stays_by g next j m at (instance_rests j m at (λ i l e. rest i l)))

      silent_kind : (j : ℕ) (m : Module) → module_at modules top (j ∷ []) ≡ Some m → IsInstanceOf threads cores T C p modules top j → written m (v (j ∷ [])) ≡ []
      silent_kind j m at (inl (i, l, e)) =
          let t = steady.net.threads_stand i l in
          ap (λ (z : Module). written z (v (j ∷ []))) (one_module j (p.thread_at i) m t.0 at e t.1) ∙ t.2.silent (v (j ∷ []))
      silent_kind j m at (inr (inl (k, l, e))) =
          let t = steady.net.cores_stand k l in
          ap (λ (z : Module). written z (v (j ∷ []))) (one_module j (p.core_at k) m t.0 at e t.1)
          ∙ ap (λ x. written t.0 (v (x ∷ []))) e
          ∙ core_silent threads cores T C p modules top steady h v c settled k l (none k l)
      silent_kind j m at (inr (inr (k, l, e))) =
          let t = steady.net.arbiters_stand k l in
          ap (λ (z : Module). written z (v (j ∷ []))) (one_module j (p.arbiter_at k) m t.0 at e t.1) ∙ t.2.silent (v (j ∷ []))

      silent_at : (path : Path) (o : Option Module) → module_at modules top path ≡ o → written_at modules top v path o ≡ []
      silent_at path None e = refl
      silent_at [] (Some m) e =
          let same : top ≡ m = cc in
          ap (λ (z : Module). written z (v [])) (sym same) ∙ ap (action_bytes top (v [])) steady.net.silent
      silent_at (j ∷ []) (Some m) e = silent_kind j m e (instance_is j m e)
      silent_at (i ∷ j ∷ rest) (Some m) e = absurd (steady.shallow i j rest m e)

      -- nothing is written
      pub all_silent : (out : List ℕ) → IsWritten modules top v out → out ≡ []
      all_silent out w =
          ⊎_elim (λ (z : out ≡ []). z)
          (λ (one : (path : Path) × (written_at modules top v path (module_at modules top path) ≡ out)). sym one.1 ∙ silent_at one.0 (module_at modules top one.0) refl)
          w.one
