-- The net as one machine: where the modules keep their promises as threads, cores and arbiters, at the places of the layout.
use Rattle.std.specs.Prelude.{◌≡◌, ℕ, ◌+◌, ◌*◌, ◌<◌, ◌≤◌, true, List, [], length, take, Some, slice_get}
use Rattle.netlist.specs.declared.netlist.Module.{Module}
use Rattle.netlist.specs.declared.netlist.Netlist.{Netlist}
use Rattle.verilog_meaning.specs.Readings.{Reading}
use Rattle.verilog_meaning.specs.Cycles.{Valuation, Choice, Cycle, Runs, ShowsDone, initial_state}
use Rattle.hls_ints.specs.Residues.{bit_of}
use Rattle.circuit.specs.Modules.{Obeys}
use Rattle.circuit.specs.Interfaces.{first_of}
use Rattle.circuit.specs.Arbitration.{ArbiterPlaces, Arbitrates}
use Rattle.circuit.specs.Machines.{CoreMachine, CorePlaces, IsCore, ThreadMachine, ThreadPlaces, IsThread}
use Rattle.circuit.specs.Wiring.{NetState, stepped, output, start, run, outputs, PrintsAlone, NetPlaces, IsNet, ShowsAll}
use Rattle.top_parts.specs.declared.layout.Group.{Group}
use Rattle.top_parts.specs.declared.layout.Core.{Core}
use Rattle.top_parts.specs.declared.layout.Layout.{Layout}
use Rattle.top_parts.specs.Parts.{group_widths, ask_widths, thread_outputs, core_outputs}
use Rattle.top_wiring.specs.Ports.{threads, cores, asked, asked_before, told_before, arbiter_outputs, EachModule}
use Rattle.top_wiring.specs.Wired.{IsWired}

module _ (layout : Layout) where
  -- the places of a thread's module
  pub record IsThreadAt (t : ThreadMachine) (p : ThreadPlaces t) (C : ℕ → CoreMachine) (m : Module) : Type 0 where
    pub is : IsThread t p (cores layout) (λ k. (C k).parts) (λ k. (C k).told) m
    pub uses : (k : ℕ) → k < cores layout → p.uses k ≡ true
    pub enable : p.enable ≡ 1
    pub grant : (k : ℕ) → k < cores layout → p.grant k ≡ 2 + k
    pub told : (k j : ℕ) → k < cores layout → j < (C k).told → p.told k j ≡ 2 + cores layout + (told_before layout k + j)
    -- it shows whether it is done
    pub done : (r : Reading) (s : t.Slot) → Obeys m r → p.shows r s →
        r.signal (first_of m (thread_outputs (ask_widths layout.cores)) + (asked layout + 1)) ≡ bit_of (t.is_done s)
    pub ask : (k j : ℕ) → k < cores layout → j < (C k).parts → p.ask k j ≡ first_of m (thread_outputs (ask_widths layout.cores)) + (asked_before layout k + j)

  -- the places of a core's module
  pub record IsCoreAt (c : CoreMachine) (p : CorePlaces c) (core : Core) (m : Module) : Type 0 where
    pub is : IsCore c p (threads layout) m
    pub parts : c.parts ≡ length (group_widths core.groups)
    pub told : c.told ≡ length core.told
    -- number j of group g, of thread i
    pub ask : (g j i : ℕ) (group : Group) → slice_get core.groups g ≡ Some group → j < group.count → i < threads layout →
        p.ask (length (group_widths (take g core.groups)) + j) i ≡ 1 + (threads layout * length (group_widths (take g core.groups)) + (i * group.count + j))
    pub grant : (i : ℕ) → i < threads layout → p.grant i ≡ 1 + (threads layout * length (group_widths core.groups) + i)
    pub offer : (i : ℕ) → i < threads layout → p.offer i ≡ first_of m (core_outputs (threads layout) core) + i
    pub tell : (j i : ℕ) → j < length core.told → i < threads layout →
        p.tell j i ≡ first_of m (core_outputs (threads layout) core) + (threads layout + (j * threads layout + i))

  -- the places of the arbiter's module
  pub record IsArbiterAt (p : ArbiterPlaces) (m : Module) : Type 0 where
    pub is : Arbitrates (threads layout) p m
    pub preferred : p.preferred ≡ 1
    pub ask : (i : ℕ) → i < threads layout → p.ask i ≡ 2 + i
    pub grant : (i : ℕ) → i < threads layout → p.grant i ≡ first_of m (arbiter_outputs layout) + i

  module _ (T : ℕ → ThreadMachine) (C : ℕ → CoreMachine) (p : NetPlaces (threads layout) (cores layout) T C) where
    -- the modules keep their promises at these places, and none has instances
    pub record KeepPromises (modules : List Module) : Type 0 where
      pub thread_at : (i : ℕ) → i < threads layout → p.thread_at i ≡ i
      pub core_at : (k : ℕ) → k < cores layout → p.core_at k ≡ threads layout + k
      pub arbiter_at : (k : ℕ) → k < cores layout → p.arbiter_at k ≡ threads layout + cores layout + k
      pub each : EachModule layout modules (λ i m. IsThreadAt (T i) (p.thread i) C m) (λ k core m. IsCoreAt (C k) (p.core k) core m) (λ k m. IsArbiterAt (p.arbiter k) m)
      pub alone : (number : ℕ) (m : Module) → slice_get modules number ≡ Some m → m.instances ≡ []

    -- the module top of a net is the machine of its threads and cores
    module _ (modules : List Module) (top : Module) where
      abbrev pub Shows : Valuation → NetState (threads layout) (cores layout) T C → Type 0
      Shows = ShowsAll (threads layout) (cores layout) T C p modules top

      pub record IsMachine : Type 0 where
        pub wired : IsNet (threads layout) (cores layout) T C p modules top
        -- the initial constants show its start
        pub starts : Shows (initial_state modules top) (start (threads layout) (cores layout) T C)
        -- where no core but number printer prints, a cycle is a step and writes what is printed
        pub steps : (printer : ℕ) → PrintsAlone (threads layout) (cores layout) T C printer →
            (h g : Valuation) (c : Choice) (out : List ℕ) (s : NetState (threads layout) (cores layout) T C) → Cycle modules top h c g out → Shows h s →
            Shows g (stepped (threads layout) (cores layout) T C c s) × (out ≡ output (threads layout) (cores layout) T C c s printer)
        -- and so is each run
        pub runs : (printer : ℕ) → PrintsAlone (threads layout) (cores layout) T C printer →
            (choices : List Choice) (h g : Valuation) (out : List ℕ) (s : NetState (threads layout) (cores layout) T C) → Runs modules top h choices g out → Shows h s →
            Shows g (run (threads layout) (cores layout) T C s choices) × (out ≡ outputs (threads layout) (cores layout) T C printer s choices)
        -- done is shown where thread 0 is done
        pub done : (h : Valuation) (c : Choice) (b : ℕ) (s : NetState (threads layout) (cores layout) T C) → Shows h s → ShowsDone modules top h c b → b ≡ bit_of ((T 0).is_done (s.slots 0))

-- THE NET IS ONE MACHINE: where its modules keep their promises at the places of the layout, `top` is the machine of its threads and cores
abbrev pub IsOneMachine : (T : ℕ → ThreadMachine) (C : ℕ → CoreMachine) → ((layout : Layout) → NetPlaces (threads layout) (cores layout) T C) → Type 0
IsOneMachine T C places =
    (layout : Layout) (modules : List Module) (n : Netlist) (w : IsWired modules layout n) → 1 ≤ threads layout → KeepPromises layout T C (places layout) modules
    → IsMachine layout T C (places layout) n.modules w.top
