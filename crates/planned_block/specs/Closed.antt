-- States that ask no core and take no word: what they become is told by the slot alone.
use Rattle.std.specs.Prelude.{◌≡◌, ℕ, ◌<◌, ℤ, Bool, false}
use Rattle.interleaving.specs.Memory.{Location, Memory}
use Rattle.planned_block.specs.Block.{BankRead, Block, operation_at, size}
use Rattle.planned_block.specs.Plan.{Plan, last_state}
use Rattle.planned_block.specs.Slot.{Slot, asks}
use Rattle.planned_block.specs.Advance.{advance}

pub record IsClosed (b : Block) (p : Plan) (q : Slot) : Type 0 where
  pub asks_none : (k : ℕ) → k < size b → asks b p q k ≡ false
  pub takes_none : (k x : ℕ) → k < size b → last_state b p k ≡ q.state → (operation_at b k).kind ≡ BankRead x → ⊥

-- the same slot beside other words, which stand in the cores and not in the thread's module
abbrev pub with_words : Slot → (ℕ → ℤ) → Slot
with_words q words = record {
  routine = q.routine;
  stage = q.stage;
  state = q.state;
  granted = q.granted;
  variables = q.variables;
  arrays = q.arrays;
  registers = q.registers;
  words = words;
  beat = q.beat;
}

-- all but the words
pub record SameButWords (q r : Slot) : Type 0 where
  pub routine : q.routine ≡ r.routine
  pub stage : q.stage ≡ r.stage
  pub state : q.state ≡ r.state
  pub granted : (k : ℕ) → q.granted k ≡ r.granted k
  pub variables : (x : ℕ) → q.variables x ≡ r.variables x
  pub arrays : (l : Location) → q.arrays l ≡ r.arrays l
  pub registers : (x : ℕ) → q.registers x ≡ r.registers x
  pub beat : q.beat ≡ r.beat

-- CLOSED: from a closed state the next slot, but for the words, is the same whatever the words, the memory and the grants
abbrev pub IsClosedAlone : (Location → ℕ) → Block → Plan → Type 0
IsClosedAlone bank b p =
    (q : Slot) → IsClosed b p q → (words : ℕ → ℤ) (m n : Memory ℤ) (grant other : ℕ → Bool) →
    SameButWords (advance bank b p q m grant) (advance bank b p (with_words q words) n other)
