-- The values of a block that are used at its end: what a variable gets, and what the branch tests.
use Rattle.std.specs.Prelude.{◌≡◌, ℕ, ◌<◌, List, [], ◌∷◌, length, Bool, false, ◌||◌, nat_eq, slice_index_or}
use Rattle.block_ir.specs.declared.operand.Source.{Source}
use Rattle.block_ir.specs.declared.operand.Source.TheVariants.{Constant, Variable, Value}
use Rattle.block_ir.specs.declared.block.Final.{Final}
use Rattle.block_ir.specs.declared.block.Next.{Next}
use Rattle.block_ir.specs.declared.block.Next.TheVariants.{Jump, Branch}
use Rattle.block_ir.specs.declared.block.Block.{Block}

-- the source is the value of operation k
abbrev pub is_value : Source → ℕ → Bool
is_value (Constant ty v) k = false
is_value (Variable x ty) k = false
is_value (Value j ty) k = nat_eq j k

abbrev pub any_final : List Final → ℕ → Bool
any_final [] k = false
any_final (f ∷ fs) k = is_value f.value.source k || any_final fs k

abbrev pub next_uses : Next → ℕ → Bool
next_uses (Jump l) k = false
next_uses (Branch test l m) k = is_value test.source k

abbrev pub is_used_at_end : Block → ℕ → Bool
is_used_at_end b k = any_final b.finals k || next_uses b.next k

-- a mark for each operation
pub record AreUsedAtEnd (b : Block) (used : List Bool) : Type 0 where
  pub count : length used ≡ length b.operations
  pub each : (k : ℕ) → k < length b.operations → slice_index_or used k false ≡ is_used_at_end b k

-- those that pass the test are marked too, and no others
pub record IsMarked (test : ℕ → Bool) (old new : List Bool) : Type 0 where
  pub count : length new ≡ length old
  pub each : (k : ℕ) → k < length old → slice_index_or new k false ≡ (slice_index_or old k false || test k)
