-- The numbers of a stage in the register of a slot: its own, and of a barrier wait that at which the thread meets others.
use Rattle.std.specs.Prelude.{ℕ, nat_eq, Bool, true, false, ◌&&◌, ◌||◌}
use Rattle.block_ir.specs.declared.code.Act.TheVariants.{BarrierWait}
use Rattle.block_ir.specs.declared.code.Stage.{Stage}
use Rattle.block_ir.specs.declared.code.Stage.TheVariants as stage
use Rattle.block_datapath.specs.Moves.{meeting}

-- a stage that the thread leaves for a meeting
abbrev pub is_wait : Stage → Bool
is_wait (stage.Act (BarrierWait barrier) next) = true
is_wait _ = false

-- x is one of the numbers of stage l, in a code of n stages
abbrev pub numbers : ℕ → ℕ → Stage → ℕ → Bool
numbers n l s x = nat_eq x l || (is_wait s && nat_eq x (meeting n l))
