-- The registers of variables are called after the locals of C.
use Rattle.std.proofs.Common.{ℕ, ◌+◌, length, map, subst}
use Rattle.std.specs.Prelude.{string_bytes}
use Rattle.block_ir.specs.declared.code.ThreadCode.{ThreadCode}
use Rattle.block_ir.specs.declared.plan.Planned.{Planned}
use Rattle.netlist.specs.declared.netlist.Module.{Module}
use Rattle.thread_slots.specs.declared.shape.Shape.{Shape}
use Rattle.thread_slots.specs.Naming.{AreNamed}
use Rattle.thread_slots.proofs.LaidRegisters.{are_named_later}
use Rattle.thread_layout.specs.Modules.{IsModule}
use Rattle.thread_layout.specs.Thread.{inputs_of}
use Rattle.thread_layout.proofs.Placed.{from_registers, inputs_long}
use Rattle.fsm_datapath.specs.Naming.{NamesServedVariables}

pub variables_named : (shape : Shape) (code : ThreadCode) (plan : Planned) (m : Module) → IsModule shape code plan m → NamesServedVariables shape code plan m
variables_named shape code plan m t served =
    are_named_later t.laid.with_registers m.signals (inputs_of shape + 3) (map string_bytes code.names) (length code.variables) (from_registers shape code plan m t served)
    (subst (λ (n : ℕ). AreNamed t.laid.with_registers (n + 3) (map string_bytes code.names) (length code.variables)) (inputs_long shape code plan m t served)
    t.laid.slot.variables_named)
