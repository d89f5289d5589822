-- Plans of pipelined loops, and what makes one right. An iteration begins each interval of states. State s of an iteration is in the
-- stage s / interval, in the phase s % interval of its round.
use Rattle.std.specs.Prelude.{◌≡◌, ℕ, zero, suc, ◌+◌, ◌<◌, nat_eq, List, [], ◌∷◌, Bool, true, ◌||◌, ◌⊎◌, Option, Some, None, if◌then◌else◌}
use Rattle.std.specs.Option.{option_or}
use Rattle.planned_block.specs.Block.{Operand, Constant, Variable, Value, Through, Operation, Final, operation_at, size, UsesIn, Uses, IsAmong}
use Rattle.planned_block.specs.Plan.{target_of, OfGlobal, OfArray}
use Rattle.planned_loop.specs.Loop.{Loop}

pub record LoopPlan : Type 0 where
  pub interval : ℕ
  -- how many stages an iteration has
  pub stages : ℕ
  -- the last state of an operation: its value is there when this state is left
  pub stage : ℕ → ℕ
  pub phase : ℕ → ℕ
  -- the register that has the value of an operation in the round after the one that gave it, and in each round more
  pub register : ℕ → ℕ → ℕ
  -- the register that says whether an iteration is in a stage
  pub bit : ℕ → ℕ

-- what the last of the finals gives the variable
abbrev pub final_of : List Final → ℕ → Option Operand
final_of [] x = None
final_of (f ∷ fs) x = option_or (final_of fs x) (if nat_eq x f.variable then Some f.value else None)

-- the operand is this variable, through conversions
abbrev pub Names : Operand → ℕ → Type 0
Names (Constant n) x = ⊥
Names (Variable y) x = y ≡ x
Names (Value k) x = ⊥
Names (Through f a) x = Names a x

abbrev pub IsOperand : Operation → Operand → Type 0
IsOperand o a = (a ≡ o.left) ⊎ (a ≡ o.right)

abbrev pub ComesFrom : (Operand → ℕ → Type 0) → Option Operand → ℕ → ℕ → Type 0
ComesFrom C None x i = C (Variable x) i
ComesFrom C (Some a) x i = C a i

-- the operand is made of the value that operation i had so many iterations before, handed on by variables alone
abbrev pub Comes : List Final → ℕ → Operand → ℕ → Type 0
Comes finals zero a i = UsesIn a i
Comes finals (suc t) a i = (x : ℕ) × Names a x × ComesFrom (Comes finals t) (final_of finals x) x i

module _ (l : Loop) (p : LoopPlan) where
  -- the last state of i is before that of j in the iteration t later
  abbrev pub IsBefore : ℕ → ℕ → ℕ → Type 0
  IsBefore i j t = (p.stage i < p.stage j + t) ⊎ ((p.stage i ≡ p.stage j + t) × (p.phase i < p.phase j))

  -- it is the same state of the same iteration
  abbrev pub IsBeside : ℕ → ℕ → ℕ → Type 0
  IsBeside i j t = (t ≡ 0) × (p.stage i ≡ p.stage j) × (p.phase i ≡ p.phase j)

  pub record KeepsLoop : Type 0 where
    pub some : 0 < p.stages
    pub inside : (k : ℕ) → k < size l.block → (p.stage k < p.stages) × (p.phase k < p.interval)
    -- operations use earlier ones
    pub earlier : (j k : ℕ) → k < size l.block → Uses (operation_at l.block k) j → j < k
    pub final : (k : ℕ) (f : Final) → IsAmong l.block.finals f → UsesIn f.value k → k < size l.block
    -- the comparison is known in its iteration's first stage, and before anything else is done
    pub compares : l.comparison < size l.block
    pub first : p.stage l.comparison ≡ 0
    pub tested : (k : ℕ) → l.comparison < k → k < size l.block → IsBefore l.comparison k 0
    -- no operation works before its operands are there, those of earlier iterations among them
    pub waits : (k t i : ℕ) (a : Operand) → k < size l.block → IsOperand (operation_at l.block k) a → Comes l.block.finals t a i →
        IsBefore i k t ⊎ IsBeside i k t
    -- accesses of one array, one of them a write, stay in their order, also from iteration to iteration
    pub ordered : (j k x : ℕ) (v w : Bool) → j < k → k < size l.block → target_of (operation_at l.block j).kind ≡ OfArray x v →
        target_of (operation_at l.block k).kind ≡ OfArray x w → (v || w) ≡ true → IsBefore j k 0
    pub apart : (j k x : ℕ) (v w : Bool) → j < size l.block → k < size l.block → target_of (operation_at l.block j).kind ≡ OfArray x v →
        target_of (operation_at l.block k).kind ≡ OfArray x w → (v || w) ≡ true → IsBefore j k 1
    -- the condition writes nothing, and no operation accesses a global
    pub writes : (k x : ℕ) → k < size l.block → target_of (operation_at l.block k).kind ≡ OfArray x true → l.comparison < k
    pub local : (k x : ℕ) (w : Bool) → k < size l.block → target_of (operation_at l.block k).kind ≡ OfGlobal x w → ⊥
