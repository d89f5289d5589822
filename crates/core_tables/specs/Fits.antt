-- The cores of a net at the places of a layout.
use Rattle.std.specs.Prelude.{ℕ, List, [], ◌∷◌, map, Some}
use Rattle.netlist.specs.declared.netlist.Module.{Module}
use Rattle.circuit.specs.Interfaces.{HasInterface}
use Rattle.top_parts.specs.declared.layout.Group.{Group}
use Rattle.top_parts.specs.declared.layout.Core.{Core}
use Rattle.top_parts.specs.declared.layout.Layout.{Layout}
use Rattle.top_wiring.specs.Parts.{core_outputs}
use Rattle.top_wiring.specs.Ports.{threads, core_inputs}
use Rattle.top_wiring.specs.Leaves.{IsCoreLeaf}
use Rattle.top_wiring.specs.Machine.{IsCoreAt}
use Rattle.core_family.specs.Family.{CoreKind, Printer, machine_of, places_of, port_of, is_late, IsCoreModule}

abbrev pub group : ℕ → ℕ → Group
group count width = record { count = count; width = width }

-- each part of an ask is a group of its own, but the values of the printer are one
abbrev pub groups_of : CoreKind → List Group
groups_of (Printer s) = group 1 1 ∷ group 1 16 ∷ group s.values 64 ∷ []
groups_of s = map (group 1) (port_of s).asks

-- a core of this shape: the number of its module, and the name of its instance
abbrev pub core_of : CoreKind → ℕ → List ℕ → Core
core_of shape number name = record { «module» = number; name = name; groups = groups_of shape; told = (port_of shape).told }

-- a module keeps the promise of a core at the places of a layout, no output of it follows a grant, and it has the core's ports
pub record FitsLayout (layout : Layout) (shape : CoreKind) (core : Core) (m : Module) : Type 0 where
  pub at : IsCoreAt layout (machine_of (Some shape)) (places_of (Some shape)) core m
  pub leaf : IsCoreLeaf layout (is_late shape) core m
  pub interface : HasInterface m (core_inputs layout core) (core_outputs (threads layout) core)

-- CORES FIT: so does each module of a core of as many threads as the layout has
abbrev pub CoresFit : Type 0
CoresFit =
    (layout : Layout) (shape : CoreKind) (number : ℕ) (name : List ℕ) (m : Module) → IsCoreModule (threads layout) shape m →
    FitsLayout layout shape (core_of shape number name) m
