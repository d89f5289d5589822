-- What the code's states stand for.
use Rattle.std.specs.Prelude.{List, map, drop, ℤ, Vec}
use Rattle.std.specs.declared.alloc.Global.{Global}
use Rattle.c_evaluation.specs.Outcome.{rows_of, memory_of}
use Rattle.c_evaluation.specs.View.{work_of}
use Rattle.thread_semantics.specs.Memory.{Memory}
use Rattle.thread_semantics.specs.Work.{Work}
use Rattle.thread_semantics.specs.State.{Frame, Slot, Unused, Running, Finished, Barrier, NoBarrier, Awaits, State}
use Rattle.c_state.specs.declared.state.Frame.{Frame as FrameCode}
use Rattle.c_state.specs.declared.state.Slot.{Slot as SlotCode}
use Rattle.c_state.specs.declared.state.Slot.TheVariants as slot
use Rattle.c_state.specs.declared.state.Barrier.{Barrier as BarrierCode}
use Rattle.c_state.specs.declared.state.Barrier.TheVariants as barrier
use Rattle.c_state.specs.declared.state.State.{State as StateCode}

-- the calls of a thread
abbrev pub Calls : Type 0
Calls = List Frame

abbrev pub frame_of : FrameCode → Frame
frame_of f = record {
  function = f.function;
  locals = rows_of f.locals.items;
  work = work_of f.work.items;
  kept = f.kept.items;
}

-- the memory that a call sees over these globals
abbrev pub memory_in : FrameCode → List (Vec ℤ Global) → Memory
memory_in f globals = memory_of f.locals.items globals

-- the work of a call after its first item
abbrev pub later_work : FrameCode → List Work
later_work f = drop 1 (work_of f.work.items)

abbrev pub slot_of : SlotCode → Slot
slot_of slot.Unused = Unused
slot_of (slot.Running frames) = Running (map frame_of frames.items)
slot_of slot.Finished = Finished

abbrev pub barrier_of : BarrierCode → Barrier
barrier_of barrier.Uninitialised = NoBarrier
barrier_of (barrier.Awaits count waiters) = Awaits count waiters.items

abbrev pub state_of : StateCode → State
state_of s = record {
  globals = rows_of s.globals.items;
  slots = map slot_of s.slots.items;
  mutexes = s.mutexes.items;
  barriers = map barrier_of s.barriers.items;
  output = s.output;
  ended = s.ended;
}
