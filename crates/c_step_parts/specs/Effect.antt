-- What the code's effects of acts stand for.
use Rattle.std.specs.Prelude.{ℕ, ◌+◌, ◌++◌, if◌then◌else◌, nat_eq, List, [], ◌∷◌, length, ℤ, unsigned_abs}
use Rattle.c_program.specs.Tree.{Piece}
use Rattle.thread_semantics.specs.State.{State}
use Rattle.thread_semantics.specs.Step.{Stepped, Steps, Blocks, Undefines, with_slot, with_mutex, with_barrier}
use Rattle.c_step_parts.specs.declared.act.Effect.{Effect}
use Rattle.c_step_parts.specs.declared.act.Effect.TheVariants as effect
use Rattle.c_state.specs.View.{slot_of, barrier_of}

abbrev pub Pieces : Type 0
Pieces = List Piece

-- an effect in the state s, by the statement at an offset
abbrev pub effect_of : Effect → State → ℕ → Stepped
effect_of (effect.Prints text) s offset = Steps (record s { output = s.output ++ text })
effect_of (effect.PutSlot n slot) s offset = Steps (with_slot s n (slot_of slot))
effect_of (effect.PutMutex n mutex) s offset = with_mutex s n mutex
effect_of (effect.PutBarrier n barrier) s offset = with_barrier s n (barrier_of barrier)
effect_of (effect.Blocks cause) s offset = Blocks cause
effect_of (effect.Undefines cause) s offset = Undefines offset cause

-- the waiters of a barrier that thread i joins
abbrev pub waiters_after : ℤ → List ℕ → ℕ → List ℕ
waiters_after count waiters i = if nat_eq (length waiters + 1) (unsigned_abs count) then [] else i ∷ waiters
