-- A small block, `a = g; g = a + 1`, its plan, and what it does under some grants.
use Rattle.std.specs.Prelude.{◌≡◌, ℕ, nat_eq, ℤ, pos, ◌+ℤ◌, List, [], ◌∷◌, Bool, true, false, Some, None, if◌then◌else◌}
use Rattle.interleaving.specs.Memory.{Location, Memory, Read, Write}
use Rattle.planned_block.specs.Block.{Constant, Value, Simple, BankRead, BankWrite, Jump, Block, element}
use Rattle.planned_block.specs.Run.{block_run}
use Rattle.planned_block.specs.Plan.{Plan}
use Rattle.planned_block.specs.Table.{sequential}
use Rattle.planned_block.specs.Slot.{Slot}
use Rattle.planned_block.specs.Advance.{advance}

-- the global is object 0, the variable 5
abbrev pub block : Block
block = record {
  operations = record { kind = BankRead 0; left = Constant (pos 0); right = Constant (pos 0) }
      ∷ record { kind = Simple (λ x y. x +ℤ y); left = Value 0; right = Constant (pos 1) }
      ∷ record { kind = BankWrite 0; left = Constant (pos 0); right = Value 1 } ∷ [];
  finals = record { variable = 5; value = Value 0 } ∷ [];
  next = Jump 1;
  steps = 2;
}

-- starts 0, 2 and 3, end 4; the word read goes into register 0, the sum into register 1
abbrev pub plan : Plan
plan = record {
  start = λ k. if nat_eq k 0 then 0 else (if nat_eq k 1 then 2 else 3);
  states = 4;
  register = λ k. if nat_eq k 0 then Some 0 else (if nat_eq k 1 then Some 1 else None);
  until = λ k. if nat_eq k 2 then 0 else 3;
}

-- `a = g` alone
abbrev pub copy : Block
copy = record {
  operations = record { kind = BankRead 0; left = Constant (pos 0); right = Constant (pos 0) } ∷ [];
  finals = record { variable = 5; value = Value 0 } ∷ [];
  next = Jump 1;
  steps = 1;
}

abbrev pub six : Memory ℤ
six = λ l. pos 6

abbrev pub zeros : ℕ → ℤ
zeros x = pos 0

abbrev pub one_bank : Location → ℕ
one_bank l = l.object

abbrev pub first : Slot
first = record {
  routine = 0;
  stage = 0;
  state = 0;
  granted = λ k. false;
  variables = zeros;
  arrays = λ l. pos 0;
  registers = zeros;
  words = zeros;
  beat = false;
}

-- the slot after these cycles, in each of which all requests are granted, or none
abbrev pub after_grants : List Bool → Slot → Slot
after_grants [] q = q
after_grants (g ∷ gs) q = after_grants gs (advance one_bank block plan q six (λ k. g))

-- the run reads 6 and writes 7
abbrev pub RunReadsAndWrites : Type 0
RunReadsAndWrites = (block_run block zeros (λ l. pos 0) six).accesses ≡ Read (element 0 (pos 0)) ∷ Write (element 0 (pos 0)) (pos 7) ∷ []

-- with stalls in the first and the fifth cycle the block is in its last state after five cycles, and over after six, with 6 in the variable
pub record StallsTwice : Type 0 where
  pub waits : (after_grants (false ∷ true ∷ true ∷ true ∷ false ∷ []) first).state ≡ 3
  pub over : (after_grants (false ∷ true ∷ true ∷ true ∷ false ∷ true ∷ []) first).stage ≡ 1
  pub variable : (after_grants (false ∷ true ∷ true ∷ true ∷ false ∷ true ∷ []) first).variables 5 ≡ pos 6

-- a block that is `a = g` alone has start 0 and end 2; one without operations takes one state
pub record SequentialRows : Type 0 where
  pub copy_start : (sequential copy).start 0 ≡ 0
  pub copy_end : (sequential copy).states ≡ 2
  pub empty_end : (sequential (record { operations = []; finals = []; next = Jump 1; steps = 0 })).states ≡ 1
