-- The text that is written of the net of a table.
use Rattle.std.specs.Prelude.{◌≡◌, ℕ, List, length, All, Some}
use Rattle.c_program.specs.Tree.{Program}
use Rattle.c_program.specs.Weight.{thread_count}
use Rattle.thread_semantics.specs.Races.{IsGood}
use Rattle.verilog_tree.specs.declared.tree.Net.{Net}
use Rattle.verilog_tree.specs.Reads.{Reads}
use Rattle.netlist.specs.declared.netlist.Module.{Module}
use Rattle.netlist.specs.declared.netlist.Netlist.{Netlist}
use Rattle.netlist.specs.NetlistOf.{netlist_of}
use Rattle.netlist.specs.Sound.{IsSound}
use Rattle.verilog_meaning.specs.Names.{top_of}
use Rattle.verilog_meaning.specs.Ports.{HasDone}
use Rattle.verilog_meaning.specs.Cycles.{Valuation, Choice, Reaches}
use Rattle.verilog_meaning.specs.Threads.{IsChoice, Place, Depends}
use Rattle.verilog_meaning.specs.Follows.{IsDetermined, FollowsAlways}
use Rattle.circuit.specs.Nets.{FitsChoice}
use Rattle.leaf_machine.specs.Leaves.{LeafPorts}
use Rattle.good_verilog.specs.Program.{seen_of}
use Rattle.good_verilog.specs.GoodVerilog.{IsGoodVerilog}
use Rattle.core_tables.specs.Tables.{Table, layout_of, modules_of}
use Rattle.core_tables.specs.Whole.{IsWholeTable, AreThreads}
use Rattle.law_net.specs.Rounded.{HasRound}
use Rattle.net_emitter.specs.Written.{IsWritten}

-- the netlist that a text reads as: it is sound, its `top` has the output `done`, no signal depends on itself, it takes the choices of
-- so many threads, and `top_rr` stands beside `top`
pub record IsNetOf (threads : ℕ) (n : Netlist) (text : List ℕ) : Type 0 where
  pub net : Net
  pub reads : Reads text net
  pub is : netlist_of net ≡ n
  pub sound : IsSound n
  pub top : Module
  pub is_top : top_of n.modules ≡ Some top
  pub done : HasDone top
  pub loopless : (p : Place) → Depends n.modules top p p → ⊥
  pub takes : (top : Module) → top_of n.modules ≡ Some top → (c : Choice) → IsChoice threads c → FitsChoice n.modules top c
  pub round : HasRound n.modules top threads

-- THE TEXT READS AS THE NET: so does that of a whole table, by the tree that it was written of
abbrev pub TextsAreNets : Type 0
TextsAreNets =
    (t : Table) (modules : ℕ → Module) (leaves : ℕ → LeafPorts) (n : Netlist) (net : Net) (text : List ℕ) → IsWholeTable t → AreThreads t modules leaves →
    IsWritten (layout_of t) (modules_of t) n net text → (read : IsNetOf (length t.threads) n text) × (read.net ≡ net)

-- a net is determined, has a run for every list of choices, and follows a program if that is good
pub record FollowsProgram (P : Program) (modules : List Module) (top : Module) : Type 0 where
  pub determined : IsDetermined modules top (thread_count P)
  pub runs : (choices : List Choice) → All (IsChoice (thread_count P)) choices → (h : Valuation) × (out : List ℕ) × Reaches modules top choices h out
  pub follows : IsGood P → FollowsAlways modules top (thread_count P) (seen_of P)

-- THE TEXT IS GOOD: the text of a whole table, of as many threads as a program has, is good Verilog of it, where the net follows it
abbrev pub TextsAreGood : Type 0
TextsAreGood =
    (P : Program) (t : Table) (modules : ℕ → Module) (leaves : ℕ → LeafPorts) (n : Netlist) (net : Net) (text : List ℕ) → IsWholeTable t → AreThreads t modules leaves →
    length t.threads ≡ thread_count P → (written : IsWritten (layout_of t) (modules_of t) n net text) → FollowsProgram P n.modules written.wired.top → IsGoodVerilog P text
