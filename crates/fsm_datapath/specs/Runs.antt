-- The module of any thread runs its code by its plan.
use Rattle.std.specs.Prelude.{ℕ}
use Rattle.block_ir.specs.declared.code.ThreadCode.{ThreadCode}
use Rattle.block_ir.specs.declared.plan.Planned.{Planned}
use Rattle.netlist.specs.declared.netlist.Module.{Module}
use Rattle.thread_promise.specs.Serving.{RunsCode}
use Rattle.thread_slots.specs.declared.shape.Shape.{Shape}
use Rattle.thread_layout.specs.Leaf.{served_ports}
use Rattle.thread_layout.specs.Thread.{numbers_of, inputs_of, IsServed, places_of}

-- THE PROMISE of the module of any thread, for whatever number of its routine
abbrev pub ServesCode : Shape → ThreadCode → Planned → Module → Type 0
ServesCode shape code plan m =
    IsServed shape code plan → (routine : ℕ) →
    RunsCode shape.globals shape.spreads (numbers_of shape) shape.is_main routine code plan m (places_of (inputs_of shape) code plan) (served_ports shape m)
