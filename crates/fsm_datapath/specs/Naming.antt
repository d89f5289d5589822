-- The registers of variables are called after the locals of C.
use Rattle.std.specs.Prelude.{◌+◌, map, length, string_bytes}
use Rattle.block_ir.specs.declared.code.ThreadCode.{ThreadCode}
use Rattle.block_ir.specs.declared.plan.Planned.{Planned}
use Rattle.netlist.specs.declared.netlist.Module.{Module}
use Rattle.thread_slots.specs.declared.shape.Shape.{Shape}
use Rattle.thread_slots.specs.Naming.{AreNamed}
use Rattle.thread_layout.specs.Thread.{inputs_of, IsServed}

-- THE REGISTERS of variables, one behind the other, are called after them
abbrev pub NamesServedVariables : Shape → ThreadCode → Planned → Module → Type 0
NamesServedVariables shape code plan m =
    IsServed shape code plan → AreNamed m.signals (inputs_of shape + 3) (map string_bytes code.names) (length code.variables)
