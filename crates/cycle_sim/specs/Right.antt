-- What a sound netlist gives the simulator.
use Rattle.std.specs.Prelude.{◌≡◌, ℕ, ◌≤◌, Some, codes}
use Rattle.netlist.specs.declared.netlist.Source.TheVariants.{Input}
use Rattle.netlist.specs.declared.netlist.Signal.{Signal}
use Rattle.netlist.specs.declared.netlist.Module.{Module}
use Rattle.netlist.specs.declared.netlist.Netlist.{Netlist}
use Rattle.netlist.specs.Sound.{IsSound}
use Rattle.verilog_meaning.specs.Ports.{HasDone}
use Rattle.verilog_meaning.specs.Names.{numbered, top_of, IsSignal}
use Rattle.sim_layout.specs.Rounds.{threads_of}
use Rattle.cycle_sim.specs.Opened.{IsRightNet, IsOpenable, HasPrinters}

-- in a sound netlist each width fits
abbrev pub RightOfSound : Type 0
RightOfSound = (n : Netlist) → IsSound n → IsRightNet n.modules

-- in a sound netlist one instance at most has a $write
abbrev pub OnePrinterOfSound : Type 0
OnePrinterOfSound = (n : Netlist) → IsSound n → HasPrinters n.modules → ⊥

-- in a sound netlist there are as many threads as the signal `en` of its outermost module has bits
abbrev pub ThreadsOfSound : Type 0
ThreadsOfSound = (n : Netlist) → IsSound n → (top : Module) (x : ℕ) (s : Signal) → top_of n.modules ≡ Some top → IsSignal top (codes "en") x s → threads_of n.modules ≡ s.width

-- each input `pref_k` has 4 bits or more
abbrev pub HasWidePrefs : Module → Type 0
HasWidePrefs top = (x k : ℕ) (s : Signal) → IsSignal top (numbered (codes "pref") k) x s → s.source ≡ Input → 4 ≤ s.width

-- a sound netlist can be opened where its outermost module has an output `done` of one bit and such inputs
abbrev pub OpenableOfSound : Type 0
OpenableOfSound =
    (n : Netlist) → IsSound n → (top : Module) → top_of n.modules ≡ Some top → HasDone top → HasWidePrefs top → IsOpenable n.modules
