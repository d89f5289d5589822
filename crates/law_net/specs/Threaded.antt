-- The net that is wired of a whole table is threaded, where the modules of its threads keep to themselves.
use Rattle.std.specs.Prelude.{ℕ, ◌<◌, length}
use Rattle.netlist.specs.declared.netlist.Module.{Module}
use Rattle.netlist.specs.declared.netlist.Netlist.{Netlist}
use Rattle.verilog_meaning.specs.Threads.{IsThreaded}
use Rattle.top_wiring.specs.Wired.{IsWired}
use Rattle.leaf_machine.specs.Leaves.{LeafPorts, IsSlotBit, IsThreadLeaf}
use Rattle.leaf_machine.specs.Steady.{IsSteadyThread, IsSteadyMain}
use Rattle.core_tables.specs.Tables.{Table, layout_of, modules_of}
use Rattle.core_tables.specs.Laws.{parts, told}
use Rattle.core_tables.specs.Whole.{IsWholeTable, AreThreads}

-- each thread's module keeps to itself; main's tells by its slot whether it is done, and then stays
pub record AreSteady (t : Table) (modules : ℕ → Module) (leaves : ℕ → LeafPorts) : Type 0 where
  pub inputs : ℕ → ℕ
  pub leaf : (i : ℕ) → i < length t.threads → IsThreadLeaf (modules i) (inputs i) (leaves i) (length t.cores) (parts t) (told t)
  pub each : (i : ℕ) → i < length t.threads → IsSteadyThread (length t.cores) (modules i) (leaves i)
  pub done : IsSlotBit (modules 0) (inputs 0) (leaves 0) (length t.cores) (parts t) (told t) (leaves 0).done
  pub main : IsSteadyMain (length t.cores) (modules 0) (leaves 0)

-- THE NET OF A TABLE IS THREADED
abbrev pub NetOfTableIsThreaded : Type 0
NetOfTableIsThreaded =
    (t : Table) (modules : ℕ → Module) (leaves : ℕ → LeafPorts) (n : Netlist) → IsWholeTable t → AreThreads t modules leaves → AreSteady t modules leaves →
    (wired : IsWired (modules_of t) (layout_of t) n) → IsThreaded n.modules wired.top (length t.threads)
