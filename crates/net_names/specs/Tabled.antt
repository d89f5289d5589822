-- The tables of a module.
use Rattle.std.specs.Prelude.{◌≡◌, ℕ, List}
use Rattle.std.specs.List.{flat_map}
use Rattle.verilog_tree.specs.declared.tree.Module.{Module}
use Rattle.netlist.specs.NetlistOf.{assign_items, instance_items, initial_constants}
use Rattle.net_names.specs.declared.tables.Drivers.{Drivers}
use Rattle.net_names.specs.declared.tables.Names.{Names}
use Rattle.net_names.specs.declared.tables.Tables.{Tables}
use Rattle.net_names.specs.Names.{names_in, memory_names_in}
use Rattle.net_names.specs.Ties.{all_ties}

pub record AreNames (m : Module) (n : Names) : Type 0 where
  pub signals : n.signals ≡ names_in m
  pub memories : n.memories ≡ memory_names_in m

-- of a module after so many of these
pub record AreDrivers (modules : List Module) (before : ℕ) (m : Module) (d : Drivers) : Type 0 where
  pub assigns : d.assigns ≡ assign_items m
  pub ties : d.ties ≡ all_ties modules before (instance_items m) 0

pub record AreTables (modules : List Module) (before : ℕ) (m : Module) (t : Tables) : Type 0 where
  pub names : AreNames m t.names
  pub drivers : AreDrivers modules before m t.drivers
  pub initials : t.initials ≡ flat_map initial_constants m.items
