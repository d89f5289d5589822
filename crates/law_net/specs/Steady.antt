-- When a net of threads, cores and arbiters is threaded: what is promised of its modules, over every reading that they obey, beyond that they are
-- threads, cores and arbiters.
use Rattle.std.specs.Prelude.{◌≡◌, ℕ, ◌<◌, true, List, [], ◌∷◌, Some, slice_get, codes}
use Rattle.hls_ints.specs.Residues.{bit_of}
use Rattle.netlist.specs.declared.netlist.Signal.{Signal}
use Rattle.netlist.specs.declared.netlist.Module.{Module}
use Rattle.verilog_meaning.specs.Names.{IsSignal}
use Rattle.verilog_meaning.specs.Ports.{HasPorts}
use Rattle.verilog_meaning.specs.Readings.{Reading}
use Rattle.verilog_meaning.specs.Cycles.{Path, Valuation, Choice, module_at, IsRegister, IsSettled, IsState}
use Rattle.verilog_meaning.specs.Threads.{Place, Depends, HasThread, IsChoice, IsThreaded, slot}
use Rattle.circuit.specs.Modules.{Obeys}
use Rattle.circuit.specs.Machines.{CoreMachine, ThreadMachine}
use Rattle.circuit.specs.Turns.{WaitsForAsks}
use Rattle.circuit.specs.Wiring.{NetPlaces, IsNet, PrintsAlone}
use Rattle.leaf_machine.specs.Steady.{KeepsToItself, Stays}

-- a module has no registers and no memories
pub record HoldsNothing (m : Module) : Type 0 where
  pub registers : (x : ℕ) (s : Signal) → slice_get m.signals x ≡ Some s → IsRegister s.source → ⊥
  pub memories : m.memories ≡ []

module _ (threads cores : ℕ) (T : ℕ → ThreadMachine) (C : ℕ → CoreMachine) (p : NetPlaces threads cores T C) (modules : List Module) (top : Module) where
  -- the output done shows whether the slot of thread 0 is done; and then it stays
  pub record ShowsEnd (m : Module) : Type 0 where
    pub is : (h v : Valuation) (c : Choice) → IsSettled modules top h c v → (x : ℕ) (s : Signal) → IsSignal top (codes "done") x s → (q : (T 0).Slot) →
        (p.thread 0).shows (h (p.thread_at 0 ∷ [])) q → (v []).signal x ≡ bit_of ((T 0).is_done q)
    pub stays : (r : Reading) (q : (T 0).Slot) → Obeys m r → (p.thread 0).shows r q → (T 0).is_done q ≡ true → Stays (T 0) (p.thread 0) cores m r

  -- a net of threads that keep to themselves: only they and the cores hold anything
  pub record IsSteady : Type 0 where
    pub net : IsNet threads cores T C p modules top
    pub some : 0 < threads
    pub ports : HasPorts top threads
    pub loopless : (q : Place) → Depends modules top q q → ⊥
    pub shallow : (i j : ℕ) (rest : Path) (m : Module) → module_at modules top (i ∷ j ∷ rest) ≡ Some m → ⊥
    pub settles : (h : Valuation) (c : Choice) → IsState modules top h → IsChoice threads c → (v : Valuation) × IsSettled modules top h c v
    pub has : (i : ℕ) → i < threads → HasThread modules top threads i
    pub slots : (i : ℕ) → i < threads → slot modules top threads i ≡ p.thread_at i ∷ []
    pub need : (i : ℕ) (l : i < threads) (x : ℕ) (s : Signal) → IsSignal (net.threads_stand i l).0 (codes "need") x s → x ≡ (p.thread i).need
    pub keep : (i : ℕ) (l : i < threads) → KeepsToItself (T i) (p.thread i) cores (net.threads_stand i l).0
    pub wait : (k : ℕ) → k < cores → WaitsForAsks (C k) (p.core k)
    pub arbiters : (k : ℕ) (l : k < cores) → HoldsNothing (net.arbiters_stand k l).0
    pub outside : HoldsNothing top
    pub printer : ℕ
    pub alone : PrintsAlone threads cores T C printer
    pub ends : ShowsEnd (net.threads_stand 0 some).0

-- THE NET IS THREADED: so is each such net
abbrev pub SteadyIsThreaded : Type 1
SteadyIsThreaded =
    (threads cores : ℕ) (T : ℕ → ThreadMachine) (C : ℕ → CoreMachine) (p : NetPlaces threads cores T C) (modules : List Module) (top : Module) →
    IsSteady threads cores T C p modules top → IsThreaded modules top threads
