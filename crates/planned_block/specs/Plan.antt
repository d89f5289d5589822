-- Plans of blocks, and what makes one right.
use Rattle.std.specs.Prelude.{◌≡◌, ◌≢◌, ℕ, suc, ◌<◌, ◌≤◌, ◌+◌, Bool, true, false, ◌||◌, Option, Some, ◌⊎◌}
use Rattle.planned_block.specs.Block.{Kind, Simple, Multiply, Divide, BankRead, BankWrite, ArrayRead, ArrayWrite, Block, operation_at, size, Uses, IsUsedAtEnd}

pub record Plan : Type 0 where
  -- the state in which an operation starts
  pub start : ℕ → ℕ
  -- the number of states; an act, which is no block, has none
  pub states : ℕ
  -- the register that keeps its value past its last state, where one does, and the last state in which the value is used
  pub register : ℕ → Option ℕ
  pub until : ℕ → ℕ

-- how many states an operation works in after its first one. A bank gives the word read from the state after the grant on
abbrev pub further_states : Kind → ℕ
further_states (Simple f) = 0
further_states (Multiply f) = 1
further_states (Divide f) = 7
further_states (BankRead x) = 1
further_states (BankWrite x) = 0
further_states (ArrayRead x) = 0
further_states (ArrayWrite x) = 0

abbrev pub is_simple : Kind → Bool
is_simple (Simple f) = true
is_simple (Multiply f) = false
is_simple (Divide f) = false
is_simple (BankRead x) = false
is_simple (BankWrite x) = false
is_simple (ArrayRead x) = false
is_simple (ArrayWrite x) = false

-- the last state in which operation k works: its value is there when this state is left
abbrev pub last_state : Block → Plan → ℕ → ℕ
last_state b p k = p.start k + further_states (operation_at b k).kind

-- what an operation accesses, and whether it writes it
pub data Target : Type 0 where
  NoTarget : Target
  OfGlobal : (global : ℕ) (writes : Bool) → Target
  OfArray : (array : ℕ) (writes : Bool) → Target

abbrev pub target_of : Kind → Target
target_of (Simple f) = NoTarget
target_of (Multiply f) = NoTarget
target_of (Divide f) = NoTarget
target_of (BankRead x) = OfGlobal x false
target_of (BankWrite x) = OfGlobal x true
target_of (ArrayRead x) = OfArray x false
target_of (ArrayWrite x) = OfArray x true

-- from one access of a global to the next: a word read is kept until the next read, so it has to be taken before
abbrev pub gap_after : Bool → ℕ
gap_after true = 1
gap_after false = 2

-- the plan keeps the orders of the block, and no two values are in one register at once
pub record KeepsOrders (b : Block) (p : Plan) : Type 0 where
  -- a block uses the values of earlier operations
  pub earlier : (j k : ℕ) → k < size b → Uses (operation_at b k) j → j < k
  pub final : (k : ℕ) → IsUsedAtEnd b k → k < size b
  -- no operation starts before its operands are there
  pub waits : (j k : ℕ) → k < size b → Uses (operation_at b k) j → last_state b p j ≤ p.start k
  pub ends : (k : ℕ) → k < size b → last_state b p k < p.states
  -- accesses of one global stay in their order, and a word read is taken before the next access
  pub banks : (j k x : ℕ) (v w : Bool) → j < k → k < size b → target_of (operation_at b j).kind ≡ OfGlobal x v → target_of (operation_at b k).kind ≡ OfGlobal x w →
      p.start j + gap_after v ≤ p.start k
  -- so do accesses of one local array, one of them a write
  pub arrays : (j k x : ℕ) (v w : Bool) → j < k → k < size b → target_of (operation_at b j).kind ≡ OfArray x v → target_of (operation_at b k).kind ≡ OfArray x w →
      (v || w) ≡ true → p.start j < p.start k
  -- a value is kept to the last state in which a user works: the index of a read to the state that takes the word
  pub used : (j k : ℕ) → k < size b → Uses (operation_at b k) j → last_state b p k ≤ p.until j
  pub used_last : (k : ℕ) → IsUsedAtEnd b k → p.states ≤ suc (p.until k)
  pub has : (k : ℕ) → k < size b → last_state b p k < p.until k → (r : ℕ) × (p.register k ≡ Some r)
  pub short : (k r : ℕ) → k < size b → p.register k ≡ Some r → last_state b p k < p.until k
  pub apart : (j k r : ℕ) → j < size b → k < size b → j ≢ k → p.register j ≡ Some r → p.register k ≡ Some r → (p.until j ≤ last_state b p k) ⊎ (p.until k ≤ last_state b p j)
