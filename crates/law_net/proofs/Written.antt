-- What a settled valuation writes, one instance writes.
use Rattle.std.proofs.Common.{◌≡◌, ◌≢◌, ◌⊎◌, ℕ, ◌<◌, ◌≤◌, List, [], ◌∷◌, Option, Some, None, refl, sym, ap, ◌∙◌, inl, inr, ⊎_elim, arith}
use Rattle.std.proofs.lemmas.Bool.Decides.{nat_tests}
use Rattle.netlist.specs.declared.netlist.Module.{Module}
use Rattle.verilog_meaning.specs.Readings.{written, action_bytes}
use Rattle.verilog_meaning.specs.Cycles.{Path, Valuation, Choice, module_at, IsSettled, IsWritten, written_at}
use Rattle.circuit.specs.Machines.{CoreMachine, printed, ThreadMachine}
use Rattle.circuit.specs.Machines as machines
use Rattle.circuit.specs.Wiring.{NetPlaces, IsInstanceOf}
use Rattle.circuit.proofs.NetStep.{obeys}
use Rattle.law_net.specs.Steady.{IsSteady}
use Rattle.law_net.proofs.FedModules.{core_grants}
use Rattle.law_net.proofs.GrantedThread.{core_state, core_shows, granted}
use Rattle.law_net.proofs.RestingCycle.{instance_is, one_module}

nothing_printed : (c : CoreMachine) (s : c.State) (asks : ℕ → c.Ask) (o : Option ℕ) → ((t : c.State) (i : ℕ) (a : c.Ask) → c.prints t i a ≡ []) → printed c s asks o ≡ []
nothing_printed c s asks None h = refl
nothing_printed c s asks (Some w) h = h s w (asks w)

module _ (threads cores : ℕ) (T : ℕ → ThreadMachine) (C : ℕ → CoreMachine) (p : NetPlaces threads cores T C) (modules : List Module) (top : Module)
    (steady : IsSteady threads cores T C p modules top) (h v : Valuation) (c : Choice) (settled : IsSettled modules top h c v) where
  -- the core that prints stands at a path
  abbrev Printer : Path → Type 0
  Printer path = (steady.printer < cores) × (path ≡ p.core_at steady.printer ∷ [])

  core_writes : (k : ℕ) (l : k < cores) → k ≢ steady.printer → written (steady.net.cores_stand k l).0 (v (p.core_at k ∷ [])) ≡ []
  core_writes k l other =
      let q = steady.net.cores_stand k l in
      let r = v (p.core_at k ∷ []) in
      let s = core_state threads cores T C p modules top steady h v c settled k l in
      let shows = core_shows threads cores T C p modules top steady h v c settled k l in
      let o = granted threads cores T C p modules top steady h v c settled k l in
      q.2.writes r s o (obeys modules top h v c settled (p.core_at k ∷ []) q.0 q.1) shows
      (core_grants threads cores T C p modules top steady.net h v c settled k l s shows)
      ∙ nothing_printed (C k) s (machines.asked (C k) (p.core k) r) o (steady.alone k l other)

  by_kind : (j : ℕ) (m : Module) → module_at modules top (j ∷ []) ≡ Some m → IsInstanceOf threads cores T C p modules top j →
      (written m (v (j ∷ [])) ≡ []) ⊎ Printer (j ∷ [])
  by_kind j m at (inl (i, l, e)) =
      let t = steady.net.threads_stand i l in
      inl (ap (λ (z : Module). written z (v (j ∷ []))) (one_module threads cores T C p modules top steady j (p.thread_at i) m t.0 at e t.1) ∙ t.2.silent (v (j ∷ [])))
  by_kind j m at (inr (inl (k, l, e))) =
      let t = steady.net.cores_stand k l in
      let d : (k ≡ steady.printer) ⊎ (k ≢ steady.printer) = grind (arith, nat_tests) in
      ⊎_elim
      (λ (is : k ≡ steady.printer).
      let below : steady.printer < cores = omega arith in
      inr (below, ap (λ x. x ∷ []) (e ∙ ap p.core_at is)))
      (λ (other : k ≢ steady.printer).
      inl (ap (λ (z : Module). written z (v (j ∷ []))) (one_module threads cores T C p modules top steady j (p.core_at k) m t.0 at e t.1)
      ∙ ap (λ x. written t.0 (v (x ∷ []))) e ∙ core_writes k l other)) d
  by_kind j m at (inr (inr (k, l, e))) =
      let t = steady.net.arbiters_stand k l in
      inl (ap (λ (z : Module). written z (v (j ∷ []))) (one_module threads cores T C p modules top steady j (p.arbiter_at k) m t.0 at e t.1) ∙ t.2.silent (v (j ∷ [])))

  by_path : (path : Path) (o : Option Module) → module_at modules top path ≡ o → (written_at modules top v path o ≡ []) ⊎ Printer path
  by_path path None e = inl refl
  by_path [] (Some m) e =
      let same : top ≡ m = cc in
      inl (ap (λ (z : Module). written z (v [])) (sym same) ∙ ap (action_bytes top (v [])) steady.net.silent)
  by_path (j ∷ []) (Some m) e = by_kind j m e (instance_is threads cores T C p modules top steady j m e)
  by_path (i ∷ j ∷ rest) (Some m) e = absurd (steady.shallow i j rest m e)

  pub has_written : (out : List ℕ) × IsWritten modules top v out
  has_written =
      let d : (steady.printer < cores) ⊎ (cores ≤ steady.printer) = grind (arith, nat_tests) in
      ⊎_elim
      (λ (l : steady.printer < cores).
      let there = p.core_at steady.printer ∷ [] in (
        written_at modules top v there (module_at modules top there),
        record {
          each = λ path. ⊎_elim (λ (z : written_at modules top v path (module_at modules top path) ≡ []). inl z)
              (λ (q : Printer path). inr (ap (λ x. written_at modules top v x (module_at modules top x)) q.1)) (by_path path (module_at modules top path) refl);
          one = inr (there, refl);
        },
      ))
      (λ (none : cores ≤ steady.printer). (
        [],
        record {
          each = λ path. ⊎_elim (λ (z : written_at modules top v path (module_at modules top path) ≡ []). inl z)
              (λ (q : Printer path). absurd (let l = q.0 in omega (arith, l, none))) (by_path path (module_at modules top path) refl);
          one = inl refl;
        },
      )) d
