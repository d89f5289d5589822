-- The module in a table of modules: its ports stand in the order of its cores.
use Rattle.std.specs.Prelude.{◌≡◌, false}
use Rattle.verilog_tree.specs.Scope.{is_clk}
use Rattle.block_ir.specs.declared.code.ThreadCode.{ThreadCode}
use Rattle.block_ir.specs.declared.plan.Planned.{Planned}
use Rattle.netlist.specs.declared.netlist.Module.{Module}
use Rattle.leaf_machine.specs.Ports.{IsRoutineModule}
use Rattle.thread_slots.specs.declared.shape.Shape.{Shape}
use Rattle.thread_layout.specs.Leaf.{leaf_of}
use Rattle.thread_layout.specs.Thread.{inputs_of, core_ports, IsServed}

-- THE MODULE IS ONE OF A ROUTINE, under a name that is not the clock's
abbrev pub IsRoutineOfServedCode : Shape → ThreadCode → Planned → Module → Type 0
IsRoutineOfServedCode shape code plan m =
    is_clk shape.name ≡ false → IsServed shape code plan → IsRoutineModule shape.name (core_ports shape) m (inputs_of shape) (leaf_of shape m)
