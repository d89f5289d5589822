-- Laws of the machine of the thread ids.
use Rattle.std.specs.Prelude.{◌≡◌, ◌≢◌, ℕ, ◌+◌, ◌<◌, true, Option, Some}
use Rattle.netlist.specs.declared.netlist.Module.{Module}
use Rattle.verilog_meaning.specs.Readings.{Reading, next_reading}
use Rattle.circuit.specs.Modules.{Obeys, Agree}
use Rattle.circuit.specs.Machines.{Grants, IsCore, after_grant}
use Rattle.circuit.specs.Turns.{WaitsForAsks}
use Rattle.core_states.specs.Machines.{IdTable, ids_tell}
use Rattle.thread_id_cores.specs.declared.thread_ids.Shape.{Shape}
use Rattle.thread_id_cores.specs.Machine.{Ask, thread_ids_machine, thread_ids_places, told_place, Shows}
use Rattle.thread_id_cores.specs.ThreadIds.{offers}

-- RUNNERS STAY: what a thread is told that runs, it is told after a grant to another one
abbrev pub RunnersStay : Type 0
RunnersStay =
    (shape : Shape) (s : IdTable) (i j : ℕ) (a : Ask) → i ≢ j → ids_tell s i 0 ≡ 1 → (thread_ids_machine shape).eligible s j a ≡ true →
    (told : ℕ) → ids_tell ((thread_ids_machine shape).act s j a) i told ≡ ids_tell s i told

-- and so it is after a cycle in which another one is granted that may be, or none
abbrev pub RunnersStayInCycle : Type 0
RunnersStayInCycle =
    (shape : Shape) (s : IdTable) (i : ℕ) (asks : ℕ → Ask) (o : Option ℕ) → ids_tell s i 0 ≡ 1 →
    ((w : ℕ) → o ≡ Some w → (i ≢ w) × ((thread_ids_machine shape).eligible s w (asks w) ≡ true)) →
    (told : ℕ) → ids_tell (after_grant (thread_ids_machine shape) s asks o) i told ≡ ids_tell s i told

-- and so a module that keeps the machine's promise tells it: where the thread is told that it runs, and a request that was offered to another
-- thread is granted, or none, it is told the same in the next cycle
abbrev pub RunnersStayTold : Type 0
RunnersStayTold =
    (shape : Shape) (m : Module) → IsCore (thread_ids_machine shape) (thread_ids_places shape) shape.threads m → (r h : Reading) (s : IdTable) (o : Option ℕ) (i j : ℕ) →
    Obeys m r → Shows shape r s → Grants (thread_ids_machine shape) (thread_ids_places shape) shape.threads r o → r.signal (told_place shape.threads 0 i) ≡ 1 →
    ((w : ℕ) → o ≡ Some w → (i ≢ w) × (r.signal (offers shape.threads + w) ≡ 1)) →
    Obeys m h → Agree m (next_reading m r) h → j < 2 → i < shape.threads → h.signal (told_place shape.threads j i) ≡ r.signal (told_place shape.threads j i)

-- WHO ASKS NOTHING WAITS: every reading shows some table, and nothing is offered to whom the first part of an ask is 0
abbrev pub ThreadIdsWait : Type 0
ThreadIdsWait = (shape : Shape) → WaitsForAsks (thread_ids_machine shape) (thread_ids_places shape)

-- UNUSED WORDS: the argument of a join, and the id and the argument of a finish, change nothing
abbrev pub JoinsAlike : Type 0
JoinsAlike =
    (shape : Shape) (s : IdTable) (i : ℕ) (a b : Ask) → a.operation ≡ 1 → b.operation ≡ 1 → a.id ≡ b.id → (thread_ids_machine shape).act s i a ≡ (thread_ids_machine shape).act s i b

abbrev pub FinishesAlike : Type 0
FinishesAlike = (shape : Shape) (s : IdTable) (i : ℕ) (a b : Ask) → a.operation ≡ 2 → b.operation ≡ 2 → (thread_ids_machine shape).act s i a ≡ (thread_ids_machine shape).act s i b
