-- What becomes of a Verilog text that is run under the choices of `top_rr`.
use Rattle.std.specs.Prelude.{◌≡◌, ℕ, List, string_bytes}
use Rattle.verilog_tree.specs.declared.tree.Net.{Net}
use Rattle.verilog_tree.specs.Spelling.{Text}
use Rattle.netlist.specs.declared.netlist.Module.{Module}
use Rattle.netlist.specs.declared.netlist.Netlist.{Netlist}
use Rattle.netlist.specs.NetlistOf.{netlist_of}
use Rattle.sim_layout.specs.Rounds.{threads_of}
use Rattle.cycle_sim.specs.Round.{IsRound}
use Rattle.cycle_sim.specs.declared.run.Ran.{Ran}
use Rattle.verilog_reader.specs.declared.read.ReadError.{ReadError}
use Rattle.verilog_reader.specs.declared.read.ReadError.TheVariants as read
use Rattle.verilog_reader.specs.Faults.{IsRead, IsFault}
use Rattle.sim_loops.specs.First.{IsLoopless}
use Rattle.sim_loops.specs.Dotted.{IsLoopPath}
use Rattle.sim_command.specs.declared.sim.SimError.{SimError}
use Rattle.sim_command.specs.declared.sim.SimError.TheVariants as error

-- no signal of the net depends on itself; with all threads enabled and all prefs the cycle's number modulo 16 it did this
pub record IsRun (modules : List Module) (most : ℕ) (r : Ran) : Type 0 where
  pub loopless : IsLoopless modules
  pub ran : IsRound modules (threads_of modules) most r.cycles r.is_done r.printed

-- the text spells a net that a simulator runs, and this is what it did
pub record IsSimulatedRun (text : Text) (most : ℕ) (r : Ran) : Type 0 where
  pub net : Net
  pub read : IsRead text net
  pub loopless : IsLoopless (netlist_of net).modules
  pub ran : IsRound (netlist_of net).modules (threads_of (netlist_of net).modules) most r.cycles r.is_done r.printed

-- why a text was not run: it spells no such net, and this is where; or it does, and this is the path of the first signal that depends on itself
abbrev pub Fails : Text → SimError → Type 0
Fails text (error.NotNet offset) = IsFault text offset × ((n : Net) → IsRead text n → ⊥)
Fails text (error.Loop path) = (n : Net) × IsRead text n × IsLoopPath (netlist_of n).modules (string_bytes path)
Fails text error.Memory = Unit {0}

-- ---- of the parts

abbrev pub not_read : ReadError → SimError
not_read (read.NotNet offset) = error.NotNet offset
not_read read.Memory = error.Memory

abbrev pub IsNetlistOf : Text → Netlist → Type 0
IsNetlistOf text l = (n : Net) × IsRead text n × (l ≡ netlist_of n)

abbrev pub Stops : List Module → SimError → Type 0
Stops modules (error.NotNet offset) = ⊥
Stops modules (error.Loop path) = IsLoopPath modules (string_bytes path)
Stops modules error.Memory = Unit {0}
