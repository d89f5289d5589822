-- The net that is wired of a whole table obeys the laws of grants.
use Rattle.std.specs.Prelude.{ℕ, ◌<◌, length}
use Rattle.netlist.specs.declared.netlist.Module.{Module}
use Rattle.netlist.specs.declared.netlist.Netlist.{Netlist}
use Rattle.top_wiring.specs.Wired.{IsWired}
use Rattle.leaf_machine.specs.Leaves.{LeafPorts}
use Rattle.core_tables.specs.Tables.{Table, layout_of, modules_of}
use Rattle.core_tables.specs.Whole.{IsWholeTable, AreThreads}
use Rattle.law_cycle.specs.Bodies.{TurnsBeat}
use Rattle.law_net.specs.Threaded.{AreSteady}
use Rattle.law_net.specs.Grants.{IsGranting}

-- THE NET OF A TABLE GRANTS: so does each that is wired of one, where the module of each thread turns its beat
abbrev pub NetOfTableGrants : Type 0
NetOfTableGrants =
    (t : Table) (modules : ℕ → Module) (leaves : ℕ → LeafPorts) (beats : ℕ → ℕ) (n : Netlist) → IsWholeTable t → AreThreads t modules leaves →
    AreSteady t modules leaves → ((i : ℕ) → i < length t.threads → TurnsBeat (modules i) (beats i)) → (wired : IsWired (modules_of t) (layout_of t) n) →
    IsGranting n.modules wired.top (length t.threads)
