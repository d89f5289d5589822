-- The table of the thread ids as a machine: a thread asks to create an id, to join one, or to finish. A create may be granted where the
-- id does not run, a join where it is finished; each thread is told whether it runs, and its argument.
use Rattle.std.specs.Prelude.{◌≡◌, ℕ, zero, suc, ◌+◌, ◌<◌, Bool, ◌&&◌, nat_lt, replicate, List, [], length, slice_index}
use Rattle.verilog_meaning.specs.Readings.{Reading}
use Rattle.circuit.specs.Table.{place}
use Rattle.circuit.specs.Fits as table
use Rattle.circuit.specs.Machines.{CoreMachine, CorePlaces}
use Rattle.core_states.specs.Machines.{IdTable, ids_eligible, ids_after, ids_tell}
use Rattle.thread_id_cores.specs.declared.thread_ids.Shape.{Shape}
use Rattle.thread_id_cores.specs.Rows as row
use Rattle.thread_id_cores.specs.ThreadIds.{rows, at, grants, offers, tells, handed}

-- whether a thread asks, the operation, the id and the argument
pub record Ask : Type 0 where
  pub asks : Bool
  pub operation : ℕ
  pub id : ℕ
  pub argument : ℕ

-- the numbers of an ask
abbrev pub ask_of : (ℕ → ℕ) → Ask
ask_of f = record { asks = nat_lt 0 (f 0); operation = f 1; id = f 2; argument = f 3 }

-- no id is in use
abbrev pub begun : ℕ → IdTable
begun threads = record { statuses = replicate threads 0; arguments = replicate threads 0 }

abbrev pub thread_ids_machine : Shape → CoreMachine
thread_ids_machine shape = record {
  State = IdTable;
  Ask = Ask;
  start = begun shape.threads;
  parts = 4;
  ask_of = ask_of;
  eligible = λ s i a. a.asks && ids_eligible s a.operation a.id;
  act = λ s i a. ids_after s i a.operation a.id a.argument;
  prints = λ s i a. [];
  told = 2;
  tells = ids_tell;
}

-- a reading shows the statuses and the arguments
pub record Shows (shape : Shape) (r : Reading) (s : IdTable) : Type 0 where
  pub sized : length s.statuses ≡ shape.threads
  pub statuses : (k : ℕ) → k < shape.threads → r.word 0 k ≡ slice_index s.statuses k
  pub each : length s.arguments ≡ shape.threads
  pub arguments : (k : ℕ) → k < shape.threads → r.word 1 k ≡ slice_index s.arguments k

-- where the module has its ports
abbrev pub part_place : ℕ → ℕ → ℕ → ℕ
part_place n zero i = at n row.asks + i
part_place n (suc zero) i = at n row.operations + i
part_place n (suc (suc zero)) i = at n row.ids + i
part_place n (suc (suc (suc j))) i = at n row.arguments + i

abbrev pub told_place : ℕ → ℕ → ℕ → ℕ
told_place n zero i = tells n + i
told_place n (suc j) i = handed n + i

abbrev pub thread_ids_places : (shape : Shape) → CorePlaces (thread_ids_machine shape)
thread_ids_places shape = record {
  shows = Shows shape;
  ask = part_place shape.threads;
  offer = λ i. offers shape.threads + i;
  grant = λ i. grants shape.threads + i;
  tell = told_place shape.threads;
}

-- the input ports stand before this place: the clock, whether each thread asks, its operation, its id, its argument, and whether each is granted
abbrev pub inputs : Shape → ℕ
inputs shape = place shape.threads rows (table.inputs rows)

abbrev pub input_widths : Shape → List ℕ
input_widths shape = table.input_widths rows shape.threads

-- whether each may be granted, whether it runs, and its argument
abbrev pub output_widths : Shape → List ℕ
output_widths shape = table.output_widths rows shape.threads

-- the grants, and what follows from them; the output ports do not
abbrev pub is_late : Shape → ℕ → Bool
is_late shape = table.is_late rows shape.threads
