-- Cycles and runs of the net are steps and runs of the machine, from state to state.
use Rattle.std.proofs.Common.{◌≡◌, ℕ, ◌^◌, ◌<◌, List, [], ◌∷◌, Option, Some, None, refl, subst}
use Rattle.std.proofs.lemmas.List.{append-nil}
use Rattle.c_program.specs.Tree.{Program}
use Rattle.netlist.specs.declared.netlist.Module.{Module}
use Rattle.verilog_meaning.specs.Cycles.{Path, Valuation, Choice, IsAt, HasMemory, IsState, IsSameIn, Cycle, Runs, initial_state}
use Rattle.circuit.specs.Wiring.{stepped, run, outputs, start, PrintsAlone, ShowsAll}
use Rattle.circuit.proofs.Staged.{net_fits, net_statements, no_deeper}
use Rattle.circuit.proofs.States.{keeps_states}
use Rattle.circuit.proofs.NetRuns.{starts, cycle_steps, runs_steps}
use Rattle.block_ir.specs.Asked.{printer_core}
use Rattle.law_cycle.specs.Family.{CoreKind, Bank, Mutex, Barrier, ThreadIds, Printer, machine_of}
use Rattle.printer_cores.specs.declared.printer.Shape.{Shape as PrinterShape}
use Rattle.law_cycle.specs.Built.{Parts, Machine}
use Rattle.law_cycle.specs.Bodies.{numbers_of, core_at, core_machine, core_count}
use Rattle.law_cycle.proofs.Listed.{printer_back}
use Rattle.law_net.specs.Follows.{machine_of_thread}
use Rattle.law_net.specs.Whole.{places_of, IsWhole}

-- a core that is no printer prints nothing
prints_none : (o : Option CoreKind) → ((s : PrinterShape) → o ≡ Some (Printer s) → ⊥) → (state : (machine_of o).State) (i : ℕ) (a : (machine_of o).Ask) →
    (machine_of o).prints state i a ≡ []
prints_none None none state i a = refl
prints_none (Some (Bank c)) none state i a = refl
prints_none (Some (Mutex c)) none state i a = refl
prints_none (Some (Barrier c)) none state i a = refl
prints_none (Some (ThreadIds c)) none state i a = refl
prints_none (Some (Printer c)) none state i a = absurd (none c refl)

-- what is the same as a state is one
same_state : (modules : List Module) (top : Module) (h g : Valuation) → IsSameIn modules top [] h g → IsState modules top h → IsState modules top g
same_state modules top h g same state = record {
  registers = λ path m x s at i.
      let There : Path → Type 0 = λ q. IsAt modules top q m x s → (h q).signal x ≡ (g q).signal x in
      let e = subst There (append-nil path) (λ there. same.registers path m x s there i) at in
      subst (λ n. n < 2 ^ s.width) e (state.registers path m x s at i);
  words = λ path m j k s at l.
      let There : Path → Type 0 = λ q. HasMemory modules top q m j s → (h q).word j k ≡ (g q).word j k in
      let e = subst There (append-nil path) (λ there. same.words path m j k s there l) at in
      subst (λ n. n < 2 ^ s.width) e (state.words path m j k s at l);
}

module _ (P : Program) (K : Parts) (modules : List Module) (top : Module) (whole : IsWhole P K modules top) where
  -- a state of the net shows one of the machine
  abbrev pub Shows : Valuation → Machine K → Type 0
  Shows h s = ShowsAll K.cores.threads (core_count K.cores) (machine_of_thread K) (core_machine K.cores)
      (places_of P K modules top whole.at) modules top h s

  pub prints_alone : PrintsAlone K.cores.threads (core_count K.cores) (machine_of_thread K) (core_machine K.cores) (printer_core (numbers_of K.cores))
  prints_alone k l other s i a = prints_none (core_at K.cores k) (λ p e. other (printer_back K.cores k p e)) s i a

  pub initial_shows : Shows (initial_state modules top) (start K.cores.threads (core_count K.cores) (machine_of_thread K) (core_machine K.cores))
  initial_shows = starts K.cores.threads (core_count K.cores) (machine_of_thread K) (core_machine K.cores)
      (places_of P K modules top whole.at) modules top whole.net

  pub cycle_shows : (h g : Valuation) (c : Choice) (out : List ℕ) (s : Machine K) → Cycle modules top h c g out → Shows h s
      → Shows g (stepped K.cores.threads (core_count K.cores) (machine_of_thread K) (core_machine K.cores) c s)
  cycle_shows h g c out s cycle shown =
      (cycle_steps K.cores.threads (core_count K.cores) (machine_of_thread K) (core_machine K.cores)
      (places_of P K modules top whole.at) modules top whole.net
      (no_deeper modules top whole.stages whole.staged) (printer_core (numbers_of K.cores)) prints_alone h g c out s cycle shown).0

  pub run_shows : (choices : List Choice) (h : Valuation) (out : List ℕ) → Runs modules top (initial_state modules top) choices h out
      → Shows h (run K.cores.threads (core_count K.cores) (machine_of_thread K) (core_machine K.cores)
      (start K.cores.threads (core_count K.cores) (machine_of_thread K) (core_machine K.cores)) choices)
      × (out ≡ outputs K.cores.threads (core_count K.cores) (machine_of_thread K) (core_machine K.cores) (printer_core (numbers_of K.cores))
      (start K.cores.threads (core_count K.cores) (machine_of_thread K) (core_machine K.cores)) choices)
  run_shows choices h out runs =
      runs_steps K.cores.threads (core_count K.cores) (machine_of_thread K) (core_machine K.cores)
      (places_of P K modules top whole.at) modules top whole.net
      (no_deeper modules top whole.stages whole.staged) (printer_core (numbers_of K.cores)) prints_alone choices (initial_state modules top) h out
      (start K.cores.threads (core_count K.cores) (machine_of_thread K) (core_machine K.cores)) runs initial_shows

  pub run_shows_from : (choices : List Choice) (from h : Valuation) (out : List ℕ) (s : Machine K) → Runs modules top from choices h out → Shows from s
      → Shows h (run K.cores.threads (core_count K.cores) (machine_of_thread K) (core_machine K.cores) s choices)
      × (out ≡ outputs K.cores.threads (core_count K.cores) (machine_of_thread K) (core_machine K.cores) (printer_core (numbers_of K.cores)) s choices)
  run_shows_from choices from h out s runs shown =
      runs_steps K.cores.threads (core_count K.cores) (machine_of_thread K) (core_machine K.cores)
      (places_of P K modules top whole.at) modules top whole.net
      (no_deeper modules top whole.stages whole.staged) (printer_core (numbers_of K.cores)) prints_alone choices from h out s runs shown

  pub initial_is_state : IsState modules top (initial_state modules top)
  initial_is_state = (keeps_states modules top (net_fits modules top whole.stages whole.staged) (net_statements modules top whole.stages whole.staged)).0

  pub cycle_state : (h g : Valuation) (c : Choice) (out : List ℕ) → IsState modules top h → Cycle modules top h c g out → IsState modules top g
  cycle_state = (keeps_states modules top (net_fits modules top whole.stages whole.staged) (net_statements modules top whole.stages whole.staged)).1

  pub run_state : (choices : List Choice) (h g : Valuation) (out : List ℕ) → Runs modules top h choices g out → IsState modules top h → IsState modules top g
  run_state [] h g out (same, none) state = same_state modules top h g same state
  run_state (c ∷ choices) h g out (mid, first, rest, cycle, runs, joined) state =
      run_state choices mid g rest runs (cycle_state h mid c first state cycle)
