-- Good Verilog of a program: what the written text is proved to be.
use Rattle.std.specs.Prelude.{◌≡◌, ℕ, List, All, Some, codes}
use Rattle.c_program.specs.Tree.{Program}
use Rattle.c_program.specs.Weight.{thread_count}
use Rattle.thread_semantics.specs.Races.{IsGood}
use Rattle.verilog_tree.specs.declared.tree.Net.{Net}
use Rattle.verilog_tree.specs.Reads.{Reads}
use Rattle.verilog_tree.specs.WellFormed.{IsWellFormed}
use Rattle.netlist.specs.NetlistOf.{netlist_of}
use Rattle.netlist.specs.declared.netlist.Module.{Module}
use Rattle.verilog_meaning.specs.Names.{top_of}
use Rattle.verilog_meaning.specs.Ports.{HasDone, TakesInput}
use Rattle.verilog_meaning.specs.Cycles.{Valuation, Choice, Reaches}
use Rattle.verilog_meaning.specs.Threads.{IsChoice}
use Rattle.verilog_meaning.specs.Follows.{FollowsAlways, IsDetermined}
use Rattle.good_verilog.specs.Program.{seen_of}

-- The text reads as a well-formed net. Its outermost module enables the program's threads, by a bit for each, and shows done.
-- Each state has exactly one settled valuation for each choice, with one value of done, and each list of choices leads to a
-- state with what was written. If the program is good, the net follows it: for every list of
-- choices of enables and preferred threads there is one interleaving of which each moment of the run shows a beginning.
pub record IsGoodVerilog (P : Program) (text : List ℕ) : Type 0 where
  pub net : Net
  pub reads : Reads text net
  pub formed : IsWellFormed net
  pub top : Module
  pub is_top : top_of (netlist_of net).modules ≡ Some top
  pub enables : TakesInput top (codes "en") (thread_count P)
  pub shows : HasDone top
  pub determined : IsDetermined (netlist_of net).modules top (thread_count P)
  pub runs : (choices : List Choice) → All (IsChoice (thread_count P)) choices → (h : Valuation) × (out : List ℕ) × Reaches (netlist_of net).modules top choices h out
  pub follows : IsGood P → FollowsAlways (netlist_of net).modules top (thread_count P) (seen_of P)
