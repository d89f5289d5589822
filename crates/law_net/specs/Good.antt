-- The text of a program's hardware is good Verilog of it.
use Rattle.std.specs.Prelude.{◌≡◌, ℕ, ◌≤◌, List}
use Rattle.c_program.specs.Tree.{Program}
use Rattle.verilog_tree.specs.declared.tree.Net.{Net}
use Rattle.netlist.specs.declared.netlist.Netlist.{Netlist}
use Rattle.good_verilog.specs.GoodVerilog.{IsGoodVerilog}
use Rattle.core_tables.specs.Tables.{Table, IsArbiterModule, layout_of, modules_of}
use Rattle.core_tables.specs.Whole.{AreThreads}
use Rattle.net_emitter.specs.Placing.{AreKinds, placed}
use Rattle.law_cycle.specs.Built.{Parts, thread_modules, thread_leaves, IsBuilt}
use Rattle.law_net.specs.Tables.{HaveThreads, IsLaidTable}
use Rattle.net_emitter.specs.Written.{IsWritten}
use Rattle.law_net.specs.Texts.{IsNetOf}

-- THREADS STAND: those of the parts do in each table that is laid out of them
abbrev pub ThreadsStand : Type 0
ThreadsStand = (P : Program) (K : Parts) (t : Table) → IsBuilt P K → IsLaidTable K t → AreThreads t (thread_modules K) (thread_leaves K)

-- THE TEXT IS GOOD: each text of the net of a program's parts is good Verilog of it, and reads as that net, by the tree that it was written of
abbrev pub LaidTablesAreGood : Type 0
LaidTablesAreGood =
    (P : Program) (K : Parts) (t : Table) (n : Netlist) (net : Net) (text : List ℕ) → IsBuilt P K → IsLaidTable K t →
    IsWritten (layout_of t) (modules_of t) n net text → IsGoodVerilog P text × ((read : IsNetOf K.cores.threads n text) × (read.net ≡ net))

-- ---- the cores as they are placed

-- a table of the parts' cores, each at its place, with their modules and those of the threads
pub record IsPlacedTable (K : Parts) (t : Table) : Type 0 where
  pub threads : HaveThreads K t
  pub granting : IsArbiterModule K.cores.threads t.arbiter
  pub cores : t.cores ≡ placed K.cores
  pub kinds : AreKinds K.cores t.kinds

-- PLACED TABLES ARE LAID: for a printer of four values at most
abbrev pub PlacedTablesAreLaid : Type 0
PlacedTablesAreLaid = (P : Program) (K : Parts) (t : Table) → IsBuilt P K → K.cores.printer.values ≤ 4 → IsPlacedTable K t → IsLaidTable K t
