-- The globals as a thread's module knows them: their elements stand in banks, each of which is asked for the access of it that an operation of
-- the state makes.
--
-- Banks have numbers in order of declaration, and of one global by their own: element j of a global with K banks stands in the word j / K of
-- its bank j mod K.
use Rattle.std.specs.Prelude.{◌≡◌, ℕ, ◌+◌, ◌/◌, ◌%◌, ◌<◌, ◌≤◌, ◌⊎◌, Bool, true, sum_by, List, Option, Some, None, slice_get, ℤ}
use Rattle.plan_conditions.specs.Memory.{Location}
use Rattle.bank_partition.specs.declared.banks.Spread.{Spread}
use Rattle.bank_partition.specs.Counts.{words_of}
use Rattle.block_ir.specs.declared.block.Operation.{Operation}
use Rattle.block_ir.specs.declared.block.Operation.TheVariants.{Unary, Binary, ReadGlobal, WriteGlobal, ReadArray, WriteArray}
use Rattle.block_ir.specs.declared.block.Block.{Block}
use Rattle.block_ir.specs.declared.plan.BlockPlan.{BlockPlan}
use Rattle.plan_conditions.specs.Block.{operation_at, size, element}
use Rattle.plan_conditions.specs.Plan.{OfGlobal, target_of}
use Rattle.plan_conditions.specs.Slot.{Slot, operand_now}
use Rattle.plan_conditions.specs.Advance.{requests, wires}
use Rattle.plan_conditions.specs.View.{planned_view, plan_view}

-- ---- banks

-- one of the numbers of banks that a global may have
abbrev pub IsSmallPower : ℕ → Type 0
IsSmallPower n = (n ≡ 1) ⊎ ((n ≡ 2) ⊎ ((n ≡ 4) ⊎ (n ≡ 8)))

-- how many banks there are
abbrev pub bank_total : List Spread → ℕ
bank_total spreads = sum_by (λ (s : Spread). s.count) spreads

abbrev pub bank_at : ℕ → Option Spread → Location → ℕ
bank_at total None l = total + l.object
bank_at total (Some s) l = s.first + l.index % s.count

-- the number of the bank of a location; what is no global's has one of its own, past those of all banks
abbrev pub bank_of : List Spread → Location → ℕ
bank_of spreads l = bank_at (bank_total spreads) (slice_get spreads l.object) l

-- an address for element j of a global: that of its word, or one past the last word of the bank where it is no element
pub record IsAddress (s : Spread) (j address : ℕ) : Type 0 where
  pub inside : j < s.length → address ≡ j / s.count
  pub outside : s.length ≤ j → words_of s.count (j % s.count) s.length ≤ address

-- ---- blocks that access globals

-- the global x has n elements
abbrev pub IsGlobalOf : List Spread → ℕ → ℕ → Type 0
IsGlobalOf spreads x n = (s : Spread) × (slice_get spreads x ≡ Some s) × (s.length ≡ n)

-- an access of a global says how many elements it has
abbrev pub IsAccess : List Spread → Operation → Type 0
IsAccess spreads (Unary operator ty a) = Unit {0}
IsAccess spreads (Binary operator ty a b) = Unit {0}
IsAccess spreads (ReadGlobal x n i) = IsGlobalOf spreads x n
IsAccess spreads (WriteGlobal x n i a) = IsGlobalOf spreads x n
IsAccess spreads (ReadArray x n i) = Unit {0}
IsAccess spreads (WriteArray x n i a) = Unit {0}

-- ---- what a state asks

module _ (spreads : List Spread) (b : Block) (p : BlockPlan) (q : Slot) where
  abbrev pub wires_now : ℕ → ℤ
  wires_now = wires (bank_of spreads) (planned_view b) (plan_view b p) q

  -- the place of the global x that operation k accesses, the bank of that, and what the operation writes there
  abbrev pub place_now : ℕ → ℕ → Location
  place_now k x = element x (operand_now (planned_view b) (plan_view b p) q wires_now (operation_at (planned_view b) k).left)

  abbrev pub bank_now : ℕ → ℕ → ℕ
  bank_now k x = bank_of spreads (place_now k x)

  abbrev pub written_now : ℕ → ℤ
  written_now k = operand_now (planned_view b) (plan_view b p) q wires_now (operation_at (planned_view b) k).right

  -- operation k, which accesses the global x, has a request that is still to be granted
  pub record IsOpen (k x : ℕ) (writes : Bool) : Type 0 where
    pub below : k < size (planned_view b)
    pub requested : requests (planned_view b) (plan_view b p) q k ≡ true
    pub target : target_of (operation_at (planned_view b) k).kind ≡ OfGlobal x writes
