-- The text that is written of the net of a table.
use Rattle.std.specs.Prelude.{◌≡◌, ℕ, ◌^◌, ◌<◌, ◌≤◌, List, length, Some, slice_get}
use Rattle.verilog_tree.specs.declared.tree.Net.{Net}
use Rattle.verilog_tree.specs.Reads.{IsFull, Reads}
use Rattle.verilog_tree.specs.WellFormed.{IsWellFormed}
use Rattle.netlist.specs.declared.netlist.Module.{Module}
use Rattle.netlist.specs.declared.netlist.Netlist.{Netlist}
use Rattle.netlist.specs.NetlistOf.{netlist_of}
use Rattle.netlist.specs.Laid.{IsLaid}
use Rattle.netlist.specs.Sound.{IsSound}
use Rattle.top_parts.specs.declared.layout.Layout.{Layout}
use Rattle.top_wiring.specs.Sound.{AreSound}
use Rattle.top_wiring.specs.Wired.{IsWired}
use Rattle.core_places.specs.Tables.{Table, IsArbiterModule, layout_of, modules_of}
use Rattle.core_family.specs.declared.cores.Cores.{Cores}
use Rattle.netlist_text.specs.Portable.{HasFreeNames, IsPortable}
use Rattle.core_places.specs.Placing.{AreKinds, placed}

-- a net of these modules, its text's tree and the text, as they are promised: by `wire` of the net, by `text_of` of the tree,
-- and by `write` of the text
pub record IsWritten (layout : Layout) (modules : List Module) (n : Netlist) (net : Net) (text : List ℕ) : Type 0 where
  pub wired : IsWired modules layout n
  pub sound : AreSound layout modules → IsSound n
  pub netlist : IsLaid n → netlist_of net ≡ n
  pub formed : IsSound n → IsWellFormed net
  pub portable : IsSound n → HasFreeNames n → IsPortable net
  pub reads : IsFull net → Reads text net

-- the table of these threads and cores
abbrev pub table_of : List ℕ → List Module → Module → Cores → List Module → Table
table_of threads routines arbiter w kinds = record { threads = threads; routines = routines; arbiter = arbiter; cores = placed w; kinds = kinds }

-- there are not too many of them, and each thread has one of the modules
pub record FitsTable (threads : List ℕ) (routines : List Module) (w : Cores) : Type 0 where
  pub count : length threads ≡ w.threads
  pub few_routines : length routines ≤ 64
  pub runs : (i number : ℕ) → slice_get threads i ≡ Some number → number < length routines
  pub few_cores : length (placed w) < 2 ^ 15
  pub narrow : w.printer.values ≤ 4

-- it is written of their table, with an arbiter and with the modules of the cores
pub record IsTextOf (threads : List ℕ) (routines : List Module) (w : Cores) (n : Netlist) (text : List ℕ) : Type 0 where
  pub arbiter : Module
  pub kinds : List Module
  pub granting : IsArbiterModule w.threads arbiter
  pub are : AreKinds w kinds
  pub net : Net
  pub written : IsWritten (layout_of (table_of threads routines arbiter w kinds)) (modules_of (table_of threads routines arbiter w kinds)) n net text
