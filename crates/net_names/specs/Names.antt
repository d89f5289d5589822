-- What a module declares, by its ports and items.
use Rattle.std.specs.Prelude.{ℕ, ◌+◌, Bool, true, false, not, List, [], ◌∷◌, ◌++◌, length, if◌then◌else◌}
use Rattle.std.specs.List.{flat_map}
use Rattle.verilog_tree.specs.declared.tree.Direction.{Direction}
use Rattle.verilog_tree.specs.declared.tree.Direction.TheVariants as direction
use Rattle.verilog_tree.specs.declared.tree.Port.{Port}
use Rattle.verilog_tree.specs.declared.tree.Item.{Item}
use Rattle.verilog_tree.specs.declared.tree.Item.TheVariants as i
use Rattle.verilog_tree.specs.declared.tree.Module.{Module}
use Rattle.netlist.specs.NetlistOf.{Name}

-- whether a port is an input, where inputs are asked for, and else whether it is an output
abbrev pub is_side : Bool → Direction → Bool
is_side inputs direction.Input = inputs
is_side inputs direction.Output = not inputs

abbrev pub side_name : Bool → Port → List Name
side_name inputs p = if is_side inputs p.direction then p.name ∷ [] else []

abbrev pub side_names : Bool → List Port → List Name
side_names inputs ports = flat_map (side_name inputs) ports

-- the name of a wire or register
abbrev pub item_name : Item → List Name
item_name (i.Wire x) = x.name ∷ []
item_name (i.Register x) = x.name ∷ []
item_name _ = []

abbrev pub item_names : List Item → List Name
item_names items = flat_map item_name items

abbrev pub memory_name : Item → List Name
memory_name (i.Memory x) = x.name ∷ []
memory_name _ = []

-- the names of a module's signals
abbrev pub names_in : Module → List Name
names_in m = side_names true m.ports ++ item_names m.items ++ side_names false m.ports

abbrev pub memory_names_in : Module → List Name
memory_names_in m = flat_map memory_name m.items

-- so many signals stand before a module's outputs
abbrev pub first_output : Module → ℕ
first_output m = length (side_names true m.ports) + length (item_names m.items)
