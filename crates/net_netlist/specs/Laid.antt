-- A module's signals, memories and instances over tables of what it declares.
use Rattle.std.specs.Prelude.{ℕ, ◌+◌, Bool, true, false, not, List, [], ◌∷◌, ◌++◌, map, Option, None, Some, take, if◌then◌else◌}
use Rattle.std.specs.List.{flat_map}
use Rattle.verilog_tree.specs.declared.tree.Expression.{Expression}
use Rattle.verilog_tree.specs.declared.tree.Port.{Port}
use Rattle.verilog_tree.specs.declared.tree.InitialConstant.{InitialConstant}
use Rattle.verilog_tree.specs.declared.tree.Connection.{Connection}
use Rattle.verilog_tree.specs.declared.tree.Instance as text_instance
use Rattle.verilog_tree.specs.declared.tree.Module as text_module
use Rattle.verilog_tree.specs.declared.tree.Item.{Item}
use Rattle.verilog_tree.specs.declared.tree.Item.TheVariants as i
use Rattle.netlist.specs.declared.netlist.Source.{Source}
use Rattle.netlist.specs.declared.netlist.Source.TheVariants as source
use Rattle.netlist.specs.declared.netlist.Signal.{Signal}
use Rattle.netlist.specs.declared.netlist.Memory.{Memory}
use Rattle.netlist.specs.declared.netlist.Instance.{Instance}
use Rattle.netlist.specs.NetlistOf.{Name, width_of, value, assigned, initial_of, words_of, connected, place}
use Rattle.net_names.specs.declared.kinds.Kind.{Kind}
use Rattle.net_names.specs.declared.tables.Tables.{Tables}
use Rattle.net_names.specs.Names.{is_side}
use Rattle.net_names.specs.Kinds.{module_at}
use Rattle.net_names.specs.Ties.{tied_source}

abbrev pub driven_source : Tables → Option Expression → Name → Source
driven_source t None x = tied_source t.drivers.ties x
driven_source t (Some right) x = source.Assigned (value t.names.signals t.names.memories right)

-- what drives a wire or an output
abbrev pub driver : Tables → Name → Source
driver t x = driven_source t (assigned t.drivers.assigns x) x

abbrev pub signal : Name → ℕ → Bool → Source → Signal
signal name width is_output source = record { name = name; width = width; is_output = is_output; source = source }

abbrev pub side_source : Tables → Bool → Name → Source
side_source t true x = source.Input
side_source t false x = driver t x

-- the signal of a port, if the port is of that side
abbrev pub port_signal : Tables → Bool → Port → List Signal
port_signal t inputs p = if is_side inputs p.direction then signal p.name (width_of p.high) (not inputs) (side_source t inputs p.name) ∷ [] else []

-- the signal of a wire or a register
abbrev pub item_signal : Tables → Item → List Signal
item_signal t (i.Wire x) = signal x.name (width_of x.high) false (driver t x.name) ∷ []
item_signal t (i.Register x) = signal x.name (width_of x.high) false (source.Register (initial_of t.initials x.name None)) ∷ []
item_signal t _ = []

abbrev pub all_signals : Tables → text_module.Module → List Signal
all_signals t m = flat_map (port_signal t true) m.ports ++ flat_map (item_signal t) m.items ++ flat_map (port_signal t false) m.ports

abbrev pub item_memory : List InitialConstant → Item → List Memory
item_memory constants (i.Memory x) = record { name = x.name; width = x.high + 1; initial = words_of constants x.name 0 (x.last + 1) } ∷ []
item_memory constants _ = []

-- ---- instances

abbrev pub port_place : List Name → List Connection → Bool → Port → List ℕ
port_place signals cs inputs p = if is_side inputs p.direction then place signals (connected cs p.name) ∷ [] else []

abbrev pub module_of_kind : Option Kind → Option text_module.Module
module_of_kind None = None
module_of_kind (Some k) = Some k.module.now

abbrev pub kind_places : List Name → List Connection → Bool → Option text_module.Module → List ℕ
kind_places signals cs inputs None = []
kind_places signals cs inputs (Some m) = flat_map (port_place signals cs inputs) m.ports

abbrev pub instance_at : List text_module.Module → ℕ → List Name → text_instance.Instance → Instance
instance_at modules before signals n = record {
  name = n.name;
  of = place (map (λ (m : text_module.Module). m.name) (take before modules)) n.module_name;
  inputs = kind_places signals n.connections true (module_at modules before n.module_name);
  outputs = kind_places signals n.connections false (module_at modules before n.module_name);
}

abbrev pub item_instance : List text_module.Module → ℕ → List Name → Item → List Instance
item_instance modules before signals (i.Instance n) = instance_at modules before signals n ∷ []
item_instance modules before signals _ = []
