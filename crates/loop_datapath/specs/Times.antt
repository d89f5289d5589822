-- The plan of a pipelined loop as the code says it, and where the values of its operations are found.
use Rattle.std.specs.Prelude.{ℕ, ◌+◌, ◌-◌, nat_eq, nat_lt, Bool, ◌&&◌, if◌then◌else◌, List, slice_index_or, ℤ}
use Rattle.block_ir.specs.declared.block.Block.{Block}
use Rattle.plan_blocks.specs.View.{planned_view}
use Rattle.planned_loop.specs.Loop.{Loop}
use Rattle.planned_loop.specs.Plan.{LoopPlan}
use Rattle.loop_datapath.specs.declared.times.OperationTime.{OperationTime}
use Rattle.loop_datapath.specs.declared.times.LoopTimes.{LoopTimes}
use Rattle.loop_datapath.specs.declared.times.ValuePlace.{ValuePlace}
use Rattle.loop_datapath.specs.declared.times.ValuePlace.TheVariants.{Wire, Register}

abbrev pub no_time : OperationTime
no_time = record { stage = 0; phase = 0; chain = 0 }

abbrev pub time_at : List OperationTime → ℕ → OperationTime
time_at list k = slice_index_or list k no_time

-- register d of a chain stands d behind its first one, and so does the bit of stage s
abbrev pub times_view : LoopTimes → LoopPlan
times_view t = record {
  interval = t.interval;
  stages = t.stages;
  stage = λ k. (time_at t.operations k).stage;
  phase = λ k. (time_at t.operations k).phase;
  register = λ k d. (time_at t.operations k).chain + d;
  bit = λ s. t.bits + s;
}

-- a loop of the code as its plan sees it
abbrev pub loop_of : Block → ℕ → Loop
loop_of turn comparison = record { block = planned_view turn; comparison = comparison }

-- where so many iterations are ahead, in this phase, the operation is just giving its value in the one that is d behind the oldest one
abbrev pub is_now : OperationTime → ℕ → ℕ → ℕ → Bool
is_now t begun phase d = nat_eq (t.stage + d) begun && nat_eq t.phase phase

-- before that phase of a round the value of this round is not there yet
abbrev pub lateness : OperationTime → ℕ → ℕ
lateness t phase = if nat_lt t.phase phase then 0 else 1

-- how many registers of the chain the value has passed
abbrev pub age_of : OperationTime → ℕ → ℕ → ℕ → ℕ
age_of t begun phase d = begun - (t.stage + d + lateness t phase)

-- WHERE THE VALUE of an operation is
abbrev pub value_place : List OperationTime → ℕ → ℕ → ℕ → ℕ → ValuePlace
value_place times begun phase d k =
    let t = time_at times k in if is_now t begun phase d then Wire else Register (t.chain + age_of t begun phase d)

-- what is there, where the wires of operations show this, and registers hold this
abbrev pub at_place : (ℕ → ℤ) → (ℕ → ℤ) → ℕ → ValuePlace → ℤ
at_place wire registers k Wire = wire k
at_place wire registers k (Register n) = registers n
