-- What a text of a net of threads is for a reader and for a simulator.
use Rattle.std.specs.Prelude.{◌≡◌, ℕ, Bool, List, Some}
use Rattle.verilog_tree.specs.declared.tree.Net.{Net}
use Rattle.verilog_tree.specs.Reads.{Reads}
use Rattle.verilog_tree.specs.WellFormed.{IsWellFormed}
use Rattle.netlist.specs.declared.netlist.Module.{Module}
use Rattle.netlist.specs.NetlistOf.{netlist_of}
use Rattle.verilog_meaning.specs.Names.{top_of}
use Rattle.verilog_meaning.specs.Ports.{HasPorts}
use Rattle.verilog_meaning.specs.Follows.{IsDetermined}
use Rattle.cycle_sim.specs.Round.{IsRound}
use Rattle.verilog_reader.specs.Faults.{IsRead}

-- a text of a well-formed net whose outermost module has the ports of a net of threads is read as this net
abbrev pub IsReadAgain : Type 0
IsReadAgain =
    (text : List ℕ) (net : Net) (top : Module) (threads : ℕ) → Reads text net → IsWellFormed net → top_of (netlist_of net).modules ≡ Some top
    → HasPorts top threads → IsRead text net

-- two runs of a well-formed net that settles each state in one way have as many cycles, write the same, and show done alike
abbrev pub RunsOnce : Type 0
RunsOnce =
    (net : Net) (top : Module) (threads most : ℕ) → IsWellFormed net → top_of (netlist_of net).modules ≡ Some top → IsDetermined (netlist_of net).modules top threads
    → (n k : ℕ) (done shown : Bool) (out more : List ℕ) → IsRound (netlist_of net).modules threads most n done out → IsRound (netlist_of net).modules threads most k shown more
    → (n ≡ k) × (done ≡ shown) × (out ≡ more)
