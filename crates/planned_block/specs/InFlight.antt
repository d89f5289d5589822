-- A planned block in flight: how far it is in its run.
use Rattle.std.specs.Prelude.{◌≡◌, ℕ, zero, suc, ◌<◌, ◌≤◌, nat_lt, ℤ, List, [], ◌++◌, Bool, true, if◌then◌else◌, Some}
use Rattle.interleaving.specs.Memory.{Location, Memory, Access, memory_after}
use Rattle.interleaving.specs.AnyOrder.{Event, accesses_in, Remains}
use Rattle.planned_block.specs.Block.{BankRead, Block, operation_at, size, operand_value, element}
use Rattle.planned_block.specs.Plan.{Plan, last_state}
use Rattle.planned_block.specs.Run.{computes, bank_events_at, array_events_at, events_from}
use Rattle.planned_block.specs.Slot.{Slot, was_granted}

-- the events of those of count operations from n on that are not done
abbrev pub events_but : (ℕ → List (Event ℤ)) → (ℕ → Bool) → ℕ → ℕ → List (Event ℤ)
events_but events done zero n = []
events_but events done (suc count) n = if done n then events_but events done count (suc n) else events n ++ events_but events done count (suc n)

-- what was started in a state before this one
abbrev pub started_before : Plan → ℕ → ℕ → Bool
started_before p state k = nat_lt (p.start k) state

-- m is the memory and first the arrays where the run began, values are those of the run, and all its accesses;
-- made and stored are the accesses of globals and of arrays made so far
pub record InFlight (bank : Location → ℕ) (b : Block) (p : Plan) (m : Memory ℤ) (all : List (Access ℤ)) (first : Memory ℤ) (values : ℕ → ℤ) (made stored : List (Access ℤ)) (q : Slot) : Type 0 where
  pub inside : q.state < p.states
  pub computed : (k : ℕ) (f : ℤ → ℤ → ℤ) → k < size b → computes (operation_at b k).kind ≡ Some f →
      values k ≡ f (operand_value q.variables values (operation_at b k).left) (operand_value q.variables values (operation_at b k).right)
  -- the accesses of globals left are those of the requests not granted
  pub banks : Remains m all made (events_but (bank_events_at b q.variables values) (was_granted b p q) (size b) 0)
  -- the arrays are where the operations of earlier states have put them
  pub array : Remains first (accesses_in (events_from (array_events_at b q.variables values) (size b) 0)) stored
      (events_but (array_events_at b q.variables values) (started_before p q.state) (size b) 0)
  pub arrays : (l : Location) → q.arrays l ≡ memory_after stored first l
  -- a value in use is in its register
  pub registers : (k r : ℕ) → k < size b → last_state b p k < q.state → q.state ≤ p.until k → p.register k ≡ Some r → q.registers r ≡ values k
  -- the word of a read stands in its bank from the grant on until it is taken
  pub word_granted : (k x : ℕ) → k < size b → (operation_at b k).kind ≡ BankRead x → p.start k ≡ q.state → q.granted k ≡ true →
      q.words (bank (element x (operand_value q.variables values (operation_at b k).left))) ≡ values k
  pub word_taken : (k x : ℕ) → k < size b → (operation_at b k).kind ≡ BankRead x → suc (p.start k) ≡ q.state →
      q.words (bank (element x (operand_value q.variables values (operation_at b k).left))) ≡ values k
