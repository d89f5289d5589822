-- The modules that stand earlier.
use Rattle.std.specs.Prelude.{◌≡◌, ℕ, List, Option, None, Some, take, slice_get}
use Rattle.verilog_tree.specs.declared.tree.Module.{Module}
use Rattle.netlist.specs.NetlistOf.{Name, place, module_names}
use Rattle.net_names.specs.declared.kinds.Kind.{Kind}
use Rattle.net_names.specs.Names.{first_output}

-- the module of a name among those before one
abbrev pub module_at : List Module → ℕ → Name → Option Module
module_at modules before name = slice_get (take before modules) (place (module_names (take before modules)) name)

abbrev pub IsKind : List Module → ℕ → Name → Option Kind → Type 0
IsKind modules before name None = module_at modules before name ≡ None
IsKind modules before name (Some k) = (module_at modules before name ≡ Some k.module.now) × (k.first_output ≡ first_output k.module.now)
