-- Modules without instances that a layout can wire without a loop: what they put out depends on no grant.
use Rattle.std.specs.Prelude.{◌≡◌, ℕ, ◌+◌, ◌*◌, ◌<◌, ◌≤◌, Bool, true, false, List, length}
use Rattle.netlist.specs.declared.netlist.Signal.{Signal}
use Rattle.netlist.specs.declared.netlist.Module.{Module}
use Rattle.netlist.specs.declared.netlist.Netlist.{Netlist}
use Rattle.verilog_meaning.specs.Cycles.{Valuation, Choice, IsAt, IsSettled, IsState, Cycle, initial_state}
use Rattle.verilog_meaning.specs.Threads.{IsChoice}
use Rattle.circuit.specs.Modules.{IsLeaf}
use Rattle.circuit.specs.Staging.{Stages, IsStaged}
use Rattle.top_parts.specs.declared.layout.Core.{Core}
use Rattle.top_parts.specs.declared.layout.Layout.{Layout}
use Rattle.top_parts.specs.Parts.{group_widths, ask_widths, thread_outputs, core_outputs}
use Rattle.circuit.specs.Interfaces.{first_of, HasPorts}
use Rattle.top_wiring.specs.Ports.{threads, cores, told, thread_inputs, core_inputs, arbiter_inputs, arbiter_outputs, EachModule}
use Rattle.top_wiring.specs.Wired.{IsWired}

-- only late signals may depend on what is late
module _ (layout : Layout) (late : ℕ → Bool) where
  abbrev pub AreEarly : Module → List ℕ → Type 0
  AreEarly m outputs = (x : ℕ) → x < length outputs → late (first_of m outputs + x) ≡ false

  pub record IsThreadLeaf (m : Module) : Type 0 where
    pub leaf : IsLeaf m (length (thread_inputs layout)) late
    pub ports : HasPorts m (thread_inputs layout) (thread_outputs (ask_widths layout.cores))
    pub grants_late : (k : ℕ) → k < cores layout → late (2 + k) ≡ true
    pub told_late : (x : ℕ) → x < told layout → late (2 + cores layout + x) ≡ true
    pub early : AreEarly m (thread_outputs (ask_widths layout.cores))

  pub record IsCoreLeaf (c : Core) (m : Module) : Type 0 where
    pub leaf : IsLeaf m (length (core_inputs layout c)) late
    pub ports : HasPorts m (core_inputs layout c) (core_outputs (threads layout) c)
    pub grants_late : (i : ℕ) → i < threads layout → late (1 + (threads layout * length (group_widths c.groups) + i)) ≡ true
    pub early : AreEarly m (core_outputs (threads layout) c)

  pub record IsArbiterLeaf (m : Module) : Type 0 where
    pub leaf : IsLeaf m (length (arbiter_inputs layout)) late
    pub ports : HasPorts m (arbiter_inputs layout) (arbiter_outputs layout)

-- which signals of each instance are late, and what the modules are then
pub record AreLeaves (layout : Layout) (modules : List Module) : Type 0 where
  pub late : ℕ → ℕ → Bool
  pub each : EachModule layout modules (λ i m. IsThreadLeaf layout (late i) m) (λ k c m. IsCoreLeaf layout (late (threads layout + k)) c m)
      (λ k m. IsArbiterLeaf layout (late (threads layout + cores layout + k)) m)

-- the signals of the net can be put in stages, where the modules are such leaves
abbrev pub NetsHaveStages : Type 0
NetsHaveStages =
    (layout : Layout) (modules : List Module) (n : Netlist) (w : IsWired modules layout n) → 1 ≤ threads layout → AreLeaves layout modules
    → (stages : Stages) × IsStaged n.modules w.top stages

-- a state for each choice of n threads has exactly one settled valuation, and cycles lead from states to states
pub record SettlesOnce (modules : List Module) (top : Module) (n : ℕ) : Type 0 where
  pub exists : (h : Valuation) (c : Choice) → IsState modules top h → IsChoice n c → (v : Valuation) × IsSettled modules top h c v
  pub unique : (h : Valuation) (c : Choice) (v w : Valuation) → IsSettled modules top h c v → IsSettled modules top h c w →
      (path : List ℕ) (m : Module) (x : ℕ) (s : Signal) → IsAt modules top path m x s → (v path).signal x ≡ (w path).signal x
  pub starts : IsState modules top (initial_state modules top)
  pub keeps : (h g : Valuation) (c : Choice) (out : List ℕ) → IsState modules top h → Cycle modules top h c g out → IsState modules top g

-- THE NET SETTLES: where the modules are such leaves, each state has exactly one settled valuation for each choice
abbrev pub NetsSettle : Type 0
NetsSettle =
    (layout : Layout) (modules : List Module) (n : Netlist) (w : IsWired modules layout n) → 1 ≤ threads layout → AreLeaves layout modules
    → SettlesOnce n.modules w.top (threads layout)
