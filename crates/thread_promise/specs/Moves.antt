-- The stage numbers of a slot, and how a slot leaves an act, rest and a meeting.
--
-- Of a code of n stages a slot has a stage below n; or n, where it rests: main is over, another thread has not begun, or is over; or
-- n + 1 + l, where it meets: its barrier wait at stage l is granted.
use Rattle.std.specs.Prelude.{ℕ, ◌+◌, Bool, false, not, nat_eq, if◌then◌else◌, ℤ, pos, Option, Some, None}
use Rattle.hls_ints.specs.Words.{signed_word}
use Rattle.block_ir.specs.declared.code.Act.{Act}
use Rattle.block_ir.specs.declared.code.Act.TheVariants as act
use Rattle.block_ir.specs.declared.code.Stage.{Stage}
use Rattle.block_ir.specs.declared.code.Stage.TheVariants as stage
use Rattle.block_ir.specs.Asked.{Asked, asked, Numbers, core_of}
use Rattle.plan_conditions.specs.Slot.{Slot}

abbrev pub meeting : ℕ → ℕ → ℕ
meeting n l = n + 1 + l

-- the stage to which a granted act of stage l leads, in a code of n stages
abbrev pub stage_after : ℕ → ℕ → Act → ℕ → ℕ
stage_after n l (act.BarrierWait barrier) next = meeting n l
stage_after n l act.Return next = n
stage_after n l _ next = next

abbrev pub is_variable : Option ℕ → ℕ → Bool
is_variable None x = false
is_variable (Some y) x = nat_eq x y

-- a slot that begins, with its argument in a variable; what else its variables and arrays hold stays
abbrev pub set_out : Option ℕ → ℕ → Slot → Slot
set_out argument a q = record {
  routine = q.routine;
  stage = 0;
  state = 0;
  granted = λ k. false;
  variables = λ x. if is_variable argument x then signed_word 64 a else q.variables x;
  arrays = q.arrays;
  registers = q.registers;
  words = q.words;
  beat = not q.beat;
}

-- the slot of a thread before its first move: main is at its first stage, another thread rests
abbrev pub first_slot : Bool → ℕ → ℕ → Slot
first_slot main routine stages = record {
  routine = routine;
  stage = if main then 0 else stages;
  state = 0;
  granted = λ k. false;
  variables = λ x. pos 0;
  arrays = λ l. pos 0;
  registers = λ x. pos 0;
  words = λ n. pos 0;
  beat = false;
}

-- what a thread asks at a stage, and which core
abbrev pub asked_in : Bool → Option Stage → (ℕ → ℤ) → Option Asked
asked_in main (Some (stage.Act a next)) variables = asked main a variables
asked_in main _ variables = None

abbrev pub core_asked : Numbers → Option Asked → Option ℕ
core_asked N None = None
core_asked N (Some a) = core_of N a
