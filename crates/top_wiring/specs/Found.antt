-- What is found by name in a net that is wired so: top itself, its ports, the slots of the threads, and done.
use Rattle.std.specs.Prelude.{◌≡◌, ◌≢◌, ℕ, ◌+◌, ◌<◌, List, [], ◌∷◌, Some, slice_get, codes}
use Rattle.netlist.specs.declared.netlist.Source.TheVariants.{Port}
use Rattle.netlist.specs.declared.netlist.Signal.{Signal}
use Rattle.netlist.specs.declared.netlist.Module.{Module}
use Rattle.netlist.specs.declared.netlist.Netlist.{Netlist}
use Rattle.verilog_meaning.specs.Names.{top_of, IsSignal}
use Rattle.verilog_meaning.specs.Cycles.{Choice, module_at}
use Rattle.verilog_meaning.specs.Ports.{HasPorts}
use Rattle.verilog_meaning.specs.Threads.{slot, IsChoice}
use Rattle.circuit.specs.Interfaces.{first_of}
use Rattle.circuit.specs.Nets.{FitsChoice}
use Rattle.top_parts.specs.declared.layout.Layout.{Layout}
use Rattle.top_parts.specs.Parts.{ask_widths, thread_outputs}
use Rattle.top_wiring.specs.Top.{input, output, done_place, IsSmall}
use Rattle.top_wiring.specs.Ports.{threads, cores, asked}
use Rattle.top_wiring.specs.Wired.{IsWired}

module _ (layout : Layout) (modules : List Module) where
  -- a signal is driven by the output done of thread 0
  abbrev pub ShowsDone : Signal → Type 0
  ShowsDone s =
      (number : ℕ) (m : Module) → slice_get layout.threads 0 ≡ Some number → slice_get modules number ≡ Some m
      → s.source ≡ Port 0 (first_of m (thread_outputs (ask_widths layout.cores)) + (asked layout + 1))

  pub record IsFound (n : Netlist) (top : Module) : Type 0 where
    -- no other module has the name of top
    pub top_is : ((k : ℕ) (m : Module) → slice_get modules k ≡ Some m → m.name ≢ codes "top") → top_of n.modules ≡ Some top
    -- the mask has a bit for each thread, and the numbers of a choice fit
    pub enable : IsSignal top (codes "en") 1 (input (codes "en") (threads layout))
    pub fits : (c : Choice) → IsChoice (threads layout) c → FitsChoice n.modules top c
    -- the ports are those of a net of so many threads, with a pref for each core
    pub ports : HasPorts top (threads layout)
    pub prefs : ports.arbiters ≡ cores layout
    -- the slot of thread i is instance i, which is one of its module
    pub slots : (i : ℕ) → i < threads layout → slot n.modules top (threads layout) i ≡ i ∷ []
    pub runs : (i number : ℕ) (m : Module) → slice_get layout.threads i ≡ Some number → slice_get modules number ≡ Some m → module_at n.modules top (i ∷ []) ≡ Some m
    -- one signal has the name done, and copies what thread 0 shows
    pub done_at : ℕ
    pub done : IsSignal top (codes "done") done_at (output (done_place modules layout))
    pub done_alone : (x : ℕ) (s : Signal) → IsSignal top (codes "done") x s → x ≡ done_at
    pub done_wire : (wire : Signal) × (slice_get top.signals (done_place modules layout) ≡ Some wire) × ShowsDone wire

-- TOP IS FOUND: so it is in each net that is wired
abbrev pub TopsAreFound : Type 0
TopsAreFound = (layout : Layout) (modules : List Module) (n : Netlist) (w : IsWired modules layout n) → IsSmall layout → IsFound layout modules n w.top
