-- What the act of a printf works on: variables of 64 bits that hold its values.
use Rattle.std.specs.Prelude.{◌≡◌, ℕ, zero, suc, ◌+◌, ◌<◌, ◌≤◌, List, [], ◌∷◌, ◌++◌, length, ℤ, Option, slice_get}
use Rattle.hls_ints.specs.Types.{IntegerType, long_int, wrapped}
use Rattle.c_program.specs.Tree.{Expression}
use Rattle.thread_semantics.specs.Memory.{Location, Memory, Evaluation, Gives, and_then}
use Rattle.thread_semantics.specs.Value.{value}
use Rattle.block_ir.specs.declared.operand.Operand.{Operand}
use Rattle.block_ir.specs.declared.block.Operation.{Operation}
use Rattle.block_ir.specs.declared.code.ActOperand.{ActOperand}
use Rattle.block_ir.specs.declared.code.ActOperand.TheVariants.{Variable}
use Rattle.block_ir.specs.Run.{Running, operations_run}
use Rattle.code_blocks.specs.declared.homes.Home.{Home}
use Rattle.code_blocks.specs.declared.open_block.OpenBlock.{OpenBlock}
use Rattle.code_blocks.specs.Needs.{AreBelow}
use Rattle.code_blocks.specs.Evaluating.{Holds, Reads, held_by}
use Rattle.code_blocks.specs.Assigning.{HaveHomes, Spares}
use Rattle.code_blocks.specs.Closing.{HasNoted}

-- the variables from n on hold these words of 64 bits
abbrev pub HoldWords : (ℕ → ℤ) → ℕ → List ℤ → Type 0
HoldWords variables n [] = Unit {0}
HoldWords variables n (w ∷ ws) = (wrapped long_int (variables n) ≡ wrapped long_int w) × HoldWords variables (suc n) ws

-- so many variables from n on, as operands
abbrev pub word_operands : ℕ → ℕ → List ActOperand
word_operands n zero = []
word_operands n (suc count) = Variable n long_int ∷ word_operands (suc n) count

-- what the arguments come to, from left to right, each converted to its conversion's type
abbrev pub converted_argument : IntegerType → Expression → Memory → Evaluation (List ℤ)
converted_argument ty e m = and_then (value e m) (λ v. Gives (wrapped ty v ∷ []) [])

abbrev pub converted_arguments : List IntegerType → List Expression → Memory → Evaluation (List ℤ)
converted_arguments [] es m = Gives [] []
converted_arguments (ty ∷ types) [] m = Gives [] []
converted_arguments (ty ∷ types) (e ∷ es) m =
    and_then (value e m) (λ v. and_then (converted_arguments types es m) (λ vs. Gives (wrapped ty v ∷ vs) []))

-- from r to s nothing is written and these globals are read, and the variables from n on hold these words
pub record Held (homes : List Home) (before current : List (Option Operand)) (variables : ℕ → ℤ) (n : ℕ) (m : Memory) (r s : Running) (ws : List ℤ) (ls : List Location) : Type 0 where
  pub reads : Reads r s ls
  pub holds : Holds homes current variables m s
  pub words : HoldWords (held_by current variables s.values) n ws
  pub spares : Spares homes n (held_by before variables r.values) (held_by current variables s.values) r.arrays s.arrays

-- operations were added that put the values that F comes to into the variables from n on, which no local has
pub record Puts (homes : List Home) (n : ℕ) (F : Memory → Evaluation (List ℤ)) (old new : OpenBlock) : Type 0 where
  pub operations : List Operation
  pub added : new.operations ≡ old.operations ++ operations
  pub size : length new.current ≡ length old.current
  pub steps : new.steps ≡ old.steps
  pub noted : HasNoted old → HasNoted new
  pub below : AreBelow (length old.operations) old.current → AreBelow (length new.operations) new.current
  pub kept : (x : ℕ) → x < n → slice_get new.current x ≡ slice_get old.current x
  pub does : (variables : ℕ → ℤ) (r : Running) (m : Memory) (ws : List ℤ) (ls : List Location) →
      AreBelow (length old.operations) old.current → length r.values ≡ length old.operations → HaveHomes homes n m.locals →
      n + length ws ≤ length old.current → Holds homes old.current variables m r → F m ≡ Gives ws ls →
      Held homes old.current new.current variables n m r (operations_run variables operations r) ws ls

abbrev pub PutsValue : List Home → ℕ → IntegerType → Expression → OpenBlock → OpenBlock → Type 0
PutsValue homes n ty e old new = Puts homes n (λ m. converted_argument ty e m) old new

abbrev pub PutsValues : List Home → ℕ → List IntegerType → List Expression → OpenBlock → OpenBlock → Type 0
PutsValues homes n types es old new = Puts homes n (λ m. converted_arguments types es m) old new
