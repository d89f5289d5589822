-- What a run of a block does: its operations one after another.
use Rattle.std.specs.Prelude.{◌≡◌, ℕ, zero, suc, ◌<◌, nat_eq, ℤ, pos, if◌then◌else◌, List, [], ◌∷◌, ◌++◌, Option, Some, None}
use Rattle.interleaving.specs.Memory.{Memory, Access, Read, Write, memory_after}
use Rattle.interleaving.specs.AnyOrder.{Event, ReadEvent, WriteEvent, ReadsRight}
use Rattle.planned_block.specs.Block.{Kind, Simple, Multiply, Divide, BankRead, BankWrite, ArrayRead, ArrayWrite}
use Rattle.planned_block.specs.Block.{Operation, Block, operation_at, size, operand_value, element}

-- the access of a global that a kind of operation makes, on these operands
abbrev pub bank_access : Kind → ℤ → ℤ → List (Access ℤ)
bank_access (Simple f) l r = []
bank_access (Multiply f) l r = []
bank_access (Divide f) l r = []
bank_access (BankRead x) l r = Read (element x l) ∷ []
bank_access (BankWrite x) l r = Write (element x l) r ∷ []
bank_access (ArrayRead x) l r = []
bank_access (ArrayWrite x) l r = []

-- the access of a local array that it makes
abbrev pub array_access : Kind → ℤ → ℤ → List (Access ℤ)
array_access (Simple f) l r = []
array_access (Multiply f) l r = []
array_access (Divide f) l r = []
array_access (BankRead x) l r = []
array_access (BankWrite x) l r = []
array_access (ArrayRead x) l r = Read (element x l) ∷ []
array_access (ArrayWrite x) l r = Write (element x l) r ∷ []

-- the value that it gives; a write gives 0
abbrev pub value_of : Kind → Memory ℤ → Memory ℤ → ℤ → ℤ → ℤ
value_of (Simple f) arrays m l r = f l r
value_of (Multiply f) arrays m l r = f l r
value_of (Divide f) arrays m l r = f l r
value_of (BankRead x) arrays m l r = m (element x l)
value_of (BankWrite x) arrays m l r = pos 0
value_of (ArrayRead x) arrays m l r = arrays (element x l)
value_of (ArrayWrite x) arrays m l r = pos 0

-- a run so far: the values of its operations, the local arrays, the globals, and the accesses of globals made
pub record Running : Type 0 where
  pub values : ℕ → ℤ
  pub arrays : Memory ℤ
  pub memory : Memory ℤ
  pub accesses : List (Access ℤ)

abbrev pub started : Memory ℤ → Memory ℤ → Running
started arrays m = record { values = λ j. pos 0; arrays = arrays; memory = m; accesses = [] }

-- operation k
abbrev pub run_operation : (ℕ → ℤ) → ℕ → Operation → Running → Running
run_operation variables k o s =
    let l = operand_value variables s.values o.left in
    let r = operand_value variables s.values o.right in
    record {
      values = λ j. if nat_eq j k then value_of o.kind s.arrays s.memory l r else s.values j;
      arrays = memory_after (array_access o.kind l r) s.arrays;
      memory = memory_after (bank_access o.kind l r) s.memory;
      accesses = s.accesses ++ bank_access o.kind l r;
    }

-- count operations from n on, one after another
abbrev pub run_from : Block → (ℕ → ℤ) → ℕ → ℕ → Running → Running
run_from b variables zero n s = s
run_from b variables (suc count) n s = run_from b variables count (suc n) (run_operation variables n (operation_at b n) s)

-- the run of a block from these variables, arrays and globals
abbrev pub block_run : Block → (ℕ → ℤ) → Memory ℤ → Memory ℤ → Running
block_run b variables arrays m = run_from b variables (size b) 0 (started arrays m)

-- the accesses with the values read, where the operation's value is v
abbrev pub bank_events : Kind → ℤ → ℤ → ℤ → List (Event ℤ)
bank_events (Simple f) l r v = []
bank_events (Multiply f) l r v = []
bank_events (Divide f) l r v = []
bank_events (BankRead x) l r v = ReadEvent (element x l) v ∷ []
bank_events (BankWrite x) l r v = WriteEvent (element x l) r ∷ []
bank_events (ArrayRead x) l r v = []
bank_events (ArrayWrite x) l r v = []

abbrev pub array_events : Kind → ℤ → ℤ → ℤ → List (Event ℤ)
array_events (Simple f) l r v = []
array_events (Multiply f) l r v = []
array_events (Divide f) l r v = []
array_events (BankRead x) l r v = []
array_events (BankWrite x) l r v = []
array_events (ArrayRead x) l r v = ReadEvent (element x l) v ∷ []
array_events (ArrayWrite x) l r v = WriteEvent (element x l) r ∷ []

-- what an operation computes from its operands alone
abbrev pub computes : Kind → Option (ℤ → ℤ → ℤ)
computes (Simple f) = Some f
computes (Multiply f) = Some f
computes (Divide f) = Some f
computes (BankRead x) = None
computes (BankWrite x) = Some (λ l r. pos 0)
computes (ArrayRead x) = None
computes (ArrayWrite x) = Some (λ l r. pos 0)

-- the events of count operations from n on, in their order
abbrev pub events_from : (ℕ → List (Event ℤ)) → ℕ → ℕ → List (Event ℤ)
events_from events zero n = []
events_from events (suc count) n = events n ++ events_from events count (suc n)

-- the same without steps: values for the operations, whose reads are right in the order of the block
module _ (b : Block) (variables values : ℕ → ℤ) where
  abbrev pub bank_events_at : ℕ → List (Event ℤ)
  bank_events_at k = bank_events (operation_at b k).kind (operand_value variables values (operation_at b k).left) (operand_value variables values (operation_at b k).right) (values k)

  abbrev pub array_events_at : ℕ → List (Event ℤ)
  array_events_at k = array_events (operation_at b k).kind (operand_value variables values (operation_at b k).left) (operand_value variables values (operation_at b k).right) (values k)

  pub record IsRun (arrays m : Memory ℤ) : Type 0 where
    pub computed : (k : ℕ) (f : ℤ → ℤ → ℤ) → k < size b → computes (operation_at b k).kind ≡ Some f →
        values k ≡ f (operand_value variables values (operation_at b k).left) (operand_value variables values (operation_at b k).right)
    pub bank : ReadsRight m (events_from bank_events_at (size b) 0)
    pub array : ReadsRight arrays (events_from array_events_at (size b) 0)
