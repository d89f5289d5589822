-- A bank as a machine: a thread asks to read or to write a word; a write that is granted changes one word, and a read that
-- is granted keeps the word for its thread, until that thread's next one.
use Rattle.std.specs.Prelude.{◌≡◌, ℕ, zero, suc, ◌+◌, ◌<◌, Bool, nat_lt, if◌then◌else◌, replicate, List, [], length, slice_index, slice_set}
use Rattle.circuit.specs.Readings.{Reading}
use Rattle.circuit.specs.declared.table.Row.{Row}
use Rattle.circuit.specs.Table.{place}
use Rattle.circuit.specs.Fits as table
use Rattle.circuit.specs.Machines.{CoreMachine, CorePlaces}
use Rattle.bank_cores.specs.declared.bank.Shape.{Shape}
use Rattle.bank_cores.specs.Rows as row
use Rattle.bank_cores.specs.Bank.{rows, at, grants, kept, offers, tells}

-- the words of the bank, and for each thread the word that it read last, 0 before its first
pub record Words : Type 0 where
  pub words : List ℕ
  pub kept : List ℕ

-- whether a thread asks, whether it writes, and the address and the value
pub record Ask : Type 0 where
  pub asks : Bool
  pub writes : Bool
  pub address : ℕ
  pub value : ℕ

-- the numbers of an ask
abbrev pub ask_of : (ℕ → ℕ) → Ask
ask_of f = record { asks = nat_lt 0 (f 0); writes = nat_lt 0 (f 1); address = f 2; value = f 3 }

abbrev pub begun : List ℕ → ℕ → Words
begun initial threads = record { words = initial; kept = replicate threads 0 }

-- past the last word a write changes nothing
abbrev pub written : Words → ℕ → ℕ → Words
written s address value = record { words = slice_set s.words address value; kept = s.kept }

-- past the last word 0 is read
abbrev pub read : Words → ℕ → ℕ → Words
read s thread address = record { words = s.words; kept = slice_set s.kept thread (slice_index s.words address) }

abbrev pub acted : Words → ℕ → Ask → Words
acted s thread a = if a.writes then written s a.address a.value else read s thread a.address

abbrev pub bank_machine : Shape → CoreMachine
bank_machine shape = record {
  State = Words;
  Ask = Ask;
  start = begun shape.initial shape.threads;
  parts = 4;
  ask_of = ask_of;
  eligible = λ s i a. a.asks;
  act = acted;
  prints = λ s i a. [];
  told = 1;
  tells = λ s i j. slice_index s.kept i;
}

-- a reading shows the words and the kept ones
pub record Shows (shape : Shape) (r : Reading) (s : Words) : Type 0 where
  pub sized : length s.words ≡ length shape.initial
  pub words : (k : ℕ) → k < length shape.initial → r.word 0 k ≡ slice_index s.words k
  pub each : length s.kept ≡ shape.threads
  pub kept : (i : ℕ) → i < shape.threads → r.signal (kept shape.threads + i) ≡ slice_index s.kept i

-- where the module has its ports
abbrev pub part_place : ℕ → ℕ → ℕ → ℕ
part_place n zero i = at n row.asks + i
part_place n (suc zero) i = at n row.operations + i
part_place n (suc (suc zero)) i = at n row.addresses + i
part_place n (suc (suc (suc j))) i = at n row.values + i

abbrev pub bank_places : (shape : Shape) → CorePlaces (bank_machine shape)
bank_places shape = record {
  shows = Shows shape;
  ask = part_place shape.threads;
  offer = λ i. offers shape.threads + i;
  grant = λ i. grants shape.threads + i;
  tell = λ j i. tells shape.threads + i;
}

-- the table of a shape
abbrev pub table_of : Shape → List Row
table_of shape = rows shape.address_width shape.width

-- the input ports stand before this place: the clock, whether each thread asks, whether it writes, their addresses, their values, and
-- whether each is granted
abbrev pub inputs : Shape → ℕ
inputs shape = place shape.threads (table_of shape) (table.inputs (table_of shape))

abbrev pub input_widths : Shape → List ℕ
input_widths shape = table.input_widths (table_of shape) shape.threads

-- whether each may be granted, and the word that is kept for each
abbrev pub output_widths : Shape → List ℕ
output_widths shape = table.output_widths (table_of shape) shape.threads

-- the grants, and what follows from them; the output ports do not
abbrev pub is_late : Shape → ℕ → Bool
is_late shape = table.is_late (table_of shape) shape.threads
