-- A loop whose condition, body and step are straight-line code, and its iterations one after another.
use Rattle.std.specs.Prelude.{◌≡◌, ℕ, zero, suc, ◌<◌, ℤ, pos, Bool, true, not, ◌&&◌}
use Rattle.interleaving.specs.Memory.{Memory, memory_after}
use Rattle.planned_block.specs.Block.{Operand, Block, operation_at, size, operand_value, finished, is_zero}
use Rattle.planned_block.specs.Run.{array_access, value_of}

-- the operations of condition, body and step in order, and what the variables hold after an iteration;
-- the condition's are those up to the comparison
pub record Loop : Type 0 where
  pub block : Block
  pub comparison : ℕ

-- a loop accesses no global
abbrev pub nothing : Memory ℤ
nothing = λ l. pos 0

-- the variables as iteration n begins, the value of its operation k, and the local arrays before that operation
pub record Iterations : Type 0 where
  pub variables : ℕ → ℕ → ℤ
  pub value : ℕ → ℕ → ℤ
  pub content : ℕ → ℕ → Memory ℤ

module _ (l : Loop) (it : Iterations) where
  abbrev pub operand_in : ℕ → Operand → ℤ
  operand_in n a = operand_value (it.variables n) (it.value n) a

  -- each iteration goes on from the one before
  pub record AreIterations : Type 0 where
    pub computed : (n k : ℕ) → k < size l.block →
        it.value n k ≡ value_of (operation_at l.block k).kind (it.content n k) nothing (operand_in n (operation_at l.block k).left)
        (operand_in n (operation_at l.block k).right)
    pub stored : (n k : ℕ) → k < size l.block →
        it.content n (suc k)
        ≡ memory_after (array_access (operation_at l.block k).kind (operand_in n (operation_at l.block k).left) (operand_in n (operation_at l.block k).right))
        (it.content n k)
    pub finals : (n x : ℕ) → it.variables (suc n) x ≡ finished (operand_in n) l.block.finals (it.variables n) x
    pub arrays : (n : ℕ) → it.content (suc n) 0 ≡ it.content n (size l.block)

  -- the comparison of iteration n
  abbrev pub holds : ℕ → Bool
  holds n = not (is_zero (it.value n l.comparison))

  -- the first n comparisons hold
  abbrev pub runs : ℕ → Bool
  runs zero = true
  runs (suc n) = runs n && holds n
