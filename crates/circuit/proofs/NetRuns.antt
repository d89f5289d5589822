-- Cycles and runs of a net of threads, cores and arbiters are steps and runs of its machine.
use Rattle.std.proofs.Common.{◌≡◌, ◌≢◌, ℕ, ◌<◌, ◌⊎◌, Bool, true, false, nat_lt, if◌then◌else◌, List, [], ◌∷◌, ◌++◌, Option, Some, None, slice_get, refl, sym, ap, ◌∙◌}
use Rattle.std.proofs.Common.{subst, inl, inr, ⊎_elim, arith}
use Rattle.std.proofs.lemmas.Bool.Decides.{nat_tests}
use Rattle.netlist.specs.declared.netlist.Instance.{Instance}
use Rattle.netlist.specs.declared.netlist.Module.{Module}
use Rattle.verilog_meaning.specs.Readings.{written, action_bytes, initial_reading}
use Rattle.verilog_meaning.specs.Cycles.{Path, Valuation, Choice, module_at, IsSettled, IsSameIn, IsWritten, written_at, next_state, Cycle, Runs, initial_state}
use Rattle.circuit.specs.Modules.{Agree}
use Rattle.circuit.specs.Machines.{CoreMachine, printed, ThreadMachine}
use Rattle.circuit.specs.Wiring.{NetState, asked, won, stepped, printed_by, output, outputs, run, start, PrintsAlone, NetPlaces, IsNet, IsInstanceOf, ShowsAll}
use Rattle.circuit.proofs.Staged.{from_then}
use Rattle.circuit.proofs.NetStep.{net_step, core_writes}

-- states that are the same agree in each module
agree : (modules : List Module) (top : Module) (h g : Valuation) → IsSameIn modules top [] h g → (j : ℕ) (m : Module) → module_at modules top (j ∷ []) ≡ Some m → Agree m (h (j ∷ [])) (g (j ∷ []))
agree modules top h g same j m at = record {
  registers = λ x s e i. same.registers (j ∷ []) m x s (record { stands = at; listed = e }) i;
  words = λ i k s e l. same.words (j ∷ []) m i k s (record { stands = at; listed = e }) l;
}

silent_printed : (c : CoreMachine) (s : c.State) (asks : ℕ → c.Ask) (o : Option ℕ) → ((t : c.State) (i : ℕ) (a : c.Ask) → c.prints t i a ≡ []) → printed c s asks o ≡ []
silent_printed c s asks None h = refl
silent_printed c s asks (Some w) h = h s w (asks w)

module _ (threads cores : ℕ) (T : ℕ → ThreadMachine) (C : ℕ → CoreMachine) (p : NetPlaces threads cores T C) (modules : List Module) (top : Module) (net : IsNet threads cores T C p modules top) where
  shows_same : (h g : Valuation) (s : NetState threads cores T C) → IsSameIn modules top [] h g → ShowsAll threads cores T C p modules top h s → ShowsAll threads cores T C p modules top g s
  shows_same h g s same shown = record {
    slots = λ i l.
        let t = net.threads_stand i l in
        t.2.keeps (h (p.thread_at i ∷ [])) (g (p.thread_at i ∷ [])) (s.slots i) (agree modules top h g same (p.thread_at i) t.0 t.1) (shown.slots i l);
    states = λ k l.
        let t = net.cores_stand k l in
        t.2.keeps (h (p.core_at k ∷ [])) (g (p.core_at k ∷ [])) (s.states k) (agree modules top h g same (p.core_at k) t.0 t.1) (shown.states k l);
  }

  -- the initial constants show the machine's start
  pub starts : ShowsAll threads cores T C p modules top (initial_state modules top) (start threads cores T C)
  starts = record {
    slots = λ i l. let t = net.threads_stand i l in subst (λ o. (p.thread i).shows (initial_reading o) (T i).start) (sym t.1) t.2.starts;
    states = λ k l. let t = net.cores_stand k l in subst (λ o. (p.core k).shows (initial_reading o) (C k).start) (sym t.1) t.2.starts;
  }

  -- no module of an instance has instances; core number printer alone prints
  module _ (shallow : (i j : ℕ) (rest : Path) (m : Module) → module_at modules top (i ∷ j ∷ rest) ≡ Some m → ⊥) (printer : ℕ) (alone : PrintsAlone threads cores T C printer) where
    module _ (h v : Valuation) (c : Choice) (settled : IsSettled modules top h c v) (s : NetState threads cores T C) (shown : ShowsAll threads cores T C p modules top h s) where
      -- a core prints what the step prints, or nothing
      core_written : (k : ℕ) (l : k < cores) → (written_at modules top v (p.core_at k ∷ []) (module_at modules top (p.core_at k ∷ [])) ≡ []) ⊎ (written_at modules top v
          (p.core_at k ∷ []) (module_at modules top (p.core_at k ∷ [])) ≡ output threads cores T C c s printer)
      core_written k l =
          let is = ap (written_at modules top v (p.core_at k ∷ [])) (net.cores_stand k l).1 ∙ core_writes threads cores T C p modules top net h v c settled s shown k l in
          ⊎_elim
          (λ (e : k ≡ printer).
          let t : nat_lt k cores ≡ true = grind (arith, nat_tests) in
          inr (is ∙ ap (λ b. if b then printed_by threads cores T C c s k else []) (sym t) ∙ ap (output threads cores T C c s) e))
          (λ (ne : k ≢ printer). inl (is ∙ silent_printed (C k) (s.states k) (asked threads cores T C c s k) (won threads cores T C c s k) (alone k l ne)))
          (let d : (k ≡ printer) ⊎ (k ≢ printer) = grind (arith, nat_tests) in d)

      -- the same of every instance
      instance_written : (j : ℕ) (m : Module) → module_at modules top (j ∷ []) ≡ Some m → IsInstanceOf threads cores T C p modules top j
          → (written_at modules top v (j ∷ []) (Some m) ≡ []) ⊎ (written_at modules top v (j ∷ []) (Some m) ≡ output threads cores T C c s printer)
      instance_written j m e (inl (i, l, q)) =
          let t = net.threads_stand i l in
          let same : Some m ≡ Some t.0 = sym e ∙ ap (λ x. module_at modules top (x ∷ [])) q ∙ t.1 in
          let one : m ≡ t.0 = cc in
          inl (ap (λ (z : Module). written z (v (j ∷ []))) one ∙ t.2.silent (v (j ∷ [])))
      instance_written j m e (inr (inl (k, l, q))) =
          let Q : ℕ → Type 0 = λ x. (written_at modules top v (x ∷ []) (module_at modules top (x ∷ [])) ≡ []) ⊎ (written_at modules top v (x ∷ []) (module_at modules top
          (x ∷ [])) ≡ output threads cores T C c s printer) in
          let R : Option Module → Type 0 = λ o. (written_at modules top v (j ∷ []) o ≡ []) ⊎ (written_at modules top v (j ∷ []) o ≡ output threads cores T C c s printer) in
          subst R e (subst Q (sym q) (core_written k l))
      instance_written j m e (inr (inr (k, l, q))) =
          let t = net.arbiters_stand k l in
          let same : Some m ≡ Some t.0 = sym e ∙ ap (λ x. module_at modules top (x ∷ [])) q ∙ t.1 in
          let one : m ≡ t.0 = cc in
          inl (ap (λ (z : Module). written z (v (j ∷ []))) one ∙ t.2.silent (v (j ∷ [])))

      all_written : (path : Path) (o : Option Module) → module_at modules top path ≡ o
          → (written_at modules top v path o ≡ []) ⊎ (written_at modules top v path o ≡ output threads cores T C c s printer)
      all_written path None e = inl refl
      all_written [] (Some m) e =
          let same : top ≡ m = cc in
          inl (ap (λ (z : Module). written z (v [])) (sym same) ∙ ap (action_bytes top (v [])) net.silent)
      all_written (j ∷ []) (Some m) e =
          let a = from_then (λ (n : Instance). slice_get modules n.of) (slice_get top.instances j) m e in
          instance_written j m e (net.all j a.0 a.1)
      all_written (i ∷ j ∷ rest) (Some m) e = absurd (shallow i j rest m e)

      -- where nothing is written, the step prints nothing
      from_nothing : (out : List ℕ) → IsWritten modules top v out → out ≡ [] → (b : Bool) → nat_lt printer cores ≡ b → output threads cores T C c s printer ≡ out
      from_nothing out w none true e =
          let l : printer < cores = grind (arith, nat_tests) in
          let exact : output threads cores T C c s printer ≡ written_at modules top v (p.core_at printer ∷ []) (module_at modules top (p.core_at printer ∷ [])) =
          ap (λ b. if b then printed_by threads cores T C c s printer else []) e
          ∙ sym (ap (written_at modules top v (p.core_at printer ∷ [])) (net.cores_stand printer l).1 ∙ core_writes threads cores T C p modules top net h v c settled s shown printer l) in
          ⊎_elim (λ (z : written_at modules top v (p.core_at printer ∷ []) (module_at modules top (p.core_at printer ∷ [])) ≡ []). exact ∙ z ∙ sym none)
          (λ (z : written_at modules top v (p.core_at printer ∷ []) (module_at modules top (p.core_at printer ∷ [])) ≡ out). exact ∙ z) (w.each (p.core_at printer ∷ []))
      from_nothing out w none false e = ap (λ b. if b then printed_by threads cores T C c s printer else []) e ∙ sym none

      pub step_writes : (out : List ℕ) → IsWritten modules top v out → out ≡ output threads cores T C c s printer
      step_writes out w =
          ⊎_elim (λ (none : out ≡ []). sym (from_nothing out w none (nat_lt printer cores) refl))
          (λ (one : (path : Path) × (written_at modules top v path (module_at modules top path) ≡ out)).
          ⊎_elim (λ (z : written_at modules top v one.0 (module_at modules top one.0) ≡ []). sym (from_nothing out w (sym one.1 ∙ z) (nat_lt printer cores) refl))
          (λ (z : written_at modules top v one.0 (module_at modules top one.0) ≡ output threads cores T C c s printer). sym one.1 ∙ z)
          (all_written one.0 (module_at modules top one.0) refl))
          w.one

      -- what the step prints is written
      pub step_is_written : printer < cores → IsWritten modules top v (output threads cores T C c s printer)
      step_is_written l = record {
        each = λ path. all_written path (module_at modules top path) refl;
        one =
            let t : nat_lt printer cores ≡ true = grind (arith, nat_tests) in
            inr (
              p.core_at printer ∷ [],
              ap (written_at modules top v (p.core_at printer ∷ [])) (net.cores_stand printer l).1 ∙ core_writes threads cores T C p modules top net h v c settled s shown printer l
                  ∙ ap (λ b. if b then printed_by threads cores T C c s printer else []) (sym t),
            );
      }

    -- a cycle of the net is a step of the machine
    pub cycle_steps : (h g : Valuation) (c : Choice) (out : List ℕ) (s : NetState threads cores T C) → Cycle modules top h c g out → ShowsAll threads cores T C p modules top h s
        → ShowsAll threads cores T C p modules top g (stepped threads cores T C c s) × (out ≡ output threads cores T C c s printer)
    cycle_steps h g c out s cycle shown = (
      shows_same (next_state modules top cycle.through) g (stepped threads cores T C c s) cycle.next (net_step threads cores T C p modules top net h cycle.through c cycle.settled s shown),
      step_writes h cycle.through c cycle.settled s shown out cycle.written,
    )

    -- a run of the net is a run of the machine
    pub runs_steps : (choices : List Choice) (h g : Valuation) (out : List ℕ) (s : NetState threads cores T C) → Runs modules top h choices g out
        → ShowsAll threads cores T C p modules top h s → ShowsAll threads cores T C p modules top g (run threads cores T C s choices) × (out ≡ outputs threads cores T C printer s choices)
    runs_steps [] h g out s (same, none) shown = (shows_same h g s same shown, none)
    runs_steps (c ∷ choices) h g out s (mid, first, rest, cycle, runs, joined) shown =
        let step = cycle_steps h mid c first s cycle shown in
        let more = runs_steps choices mid g rest (stepped threads cores T C c s) runs step.0 in (
          more.0,
          joined ∙ ap (λ x. x ++ rest) step.1 ∙ ap (λ x. output threads cores T C c s printer ++ x) more.1,
        )
