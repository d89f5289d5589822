-- Operations compute what an expression comes to.
use Rattle.std.specs.Prelude.{◌≡◌, ℕ, ℤ, List, [], ◌∷◌, ◌++◌, length, Option, Some, None, slice_get}
use Rattle.hls_ints.specs.Types.{IntegerType}
use Rattle.c_program.specs.declared.tree.Storage.{Storage}
use Rattle.c_program.specs.declared.tree.Storage.TheVariants.{Automatic, Static}
use Rattle.c_program.specs.Tree.{Expression}
use Rattle.thread_semantics.specs.Memory.{Location, Memory, Gives, element}
use Rattle.thread_semantics.specs.Value.{value}
use Rattle.block_ir.specs.declared.operand.Operand.{Operand}
use Rattle.block_ir.specs.declared.operand.Source.TheVariants.{Variable as FromVariable, Value as FromValue}
use Rattle.block_ir.specs.declared.block.Operation.{Operation}
use Rattle.block_ir.specs.declared.block.Operation.TheVariants.{ReadArray, ReadGlobal}
use Rattle.block_ir.specs.Run.{Running, operand_value, operations_run}
use Rattle.code_following.specs.Following.{reads_of}
use Rattle.code_blocks.specs.declared.homes.Home.{Home}
use Rattle.code_blocks.specs.declared.homes.Home.TheVariants as home
use Rattle.code_blocks.specs.declared.places.Target.{Target}
use Rattle.code_blocks.specs.declared.places.Target.TheVariants as target
use Rattle.code_blocks.specs.declared.open_block.OpenBlock.{OpenBlock}
use Rattle.code_blocks.specs.Typing.{Computes}
use Rattle.code_blocks.specs.Needs.{plain, IsBelow, AreBelow}

-- what a variable holds by now: the operand that the block has put there, or what the block found
abbrev pub current_operand : Option (Option Operand) → ℕ → IntegerType → Operand
current_operand (Some (Some o)) x ty = o
current_operand (Some None) x ty = plain (FromVariable x ty)
current_operand None x ty = plain (FromVariable x ty)

abbrev pub current_value : Option (Option Operand) → (ℕ → ℤ) → List ℤ → ℕ → ℤ
current_value (Some (Some o)) variables values x = operand_value variables values o
current_value (Some None) variables values x = variables x
current_value None variables values x = variables x

-- what the variables hold in a run so far
abbrev pub held_by : List (Option Operand) → (ℕ → ℤ) → List ℤ → ℕ → ℤ
held_by current variables values x = current_value (slice_get current x) variables values x

-- where an element of an object of n stands; an object with one element has no other
abbrev pub local_target : Option Home → ℕ → ℕ → IntegerType → Operand → Target
local_target (Some (home.Array a)) x n ty index = target.Array a n ty index
local_target (Some (home.Variable k)) x n ty index = target.Variable k ty
local_target None x n ty index = target.Variable x ty

abbrev pub target_at : List Home → Storage → ℕ → ℕ → IntegerType → Operand → Target
target_at homes Automatic x n ty index = local_target (slice_get homes x) x n ty index
target_at homes Static x n ty index = target.Global x n ty index

abbrev pub with_more : OpenBlock → List Operation → OpenBlock
with_more b operations = record b { operations = b.operations ++ operations }

-- the block once it is read, and the operand
abbrev pub load_block : Target → OpenBlock → OpenBlock
load_block (target.Variable n ty) b = b
load_block (target.Array a n ty index) b = with_more b (ReadArray a n index ∷ [])
load_block (target.Global g n ty index) b = with_more b (ReadGlobal g n index ∷ [])

abbrev pub loaded : Target → OpenBlock → Operand
loaded (target.Variable n ty) b = current_operand (slice_get b.current n) n ty
loaded (target.Array a n ty index) b = plain (FromValue (length b.operations) ty)
loaded (target.Global g n ty index) b = plain (FromValue (length b.operations) ty)

-- what stands for element j of local x in a run so far
abbrev pub local_value : Option Home → List (Option Operand) → (ℕ → ℤ) → Running → ℕ → ℕ → ℤ
local_value (Some (home.Array a)) current variables r x j = r.arrays a j
local_value (Some (home.Variable n)) current variables r x j = current_value (slice_get current n) variables r.values n
local_value None current variables r x j = current_value (slice_get current x) variables r.values x

-- a run so far holds what a step sees
pub record Holds (homes : List Home) (current : List (Option Operand)) (variables : ℕ → ℤ) (m : Memory) (r : Running) : Type 0 where
  pub locals : (x j : ℕ) (v : ℤ) → element m.locals x j ≡ Some (Some v) → local_value (slice_get homes x) current variables r x j ≡ v
  pub globals : (x j : ℕ) (v : ℤ) → element m.globals x j ≡ Some v → r.globals x j ≡ v

-- from r to s nothing is written, and these globals are read
pub record Reads (r s : Running) (reads : List Location) : Type 0 where
  pub more : List ℤ
  pub values : s.values ≡ r.values ++ more
  pub arrays : s.arrays ≡ r.arrays
  pub globals : s.globals ≡ r.globals
  pub accesses : s.accesses ≡ r.accesses ++ reads_of reads

-- operations were added whose values give what the expression comes to, wherever it has a value
pub record Evaluates (homes : List Home) (e : Expression) (old new : OpenBlock) (a : Operand) : Type 0 where
  pub operations : List Operation
  pub added : new ≡ with_more old operations
  pub computes : Computes homes e old new a
  pub below : AreBelow (length old.operations) old.current → IsBelow (length new.operations) a
  pub reads : (variables : ℕ → ℤ) (r : Running) (m : Memory) (v : ℤ) (ls : List Location) →
      AreBelow (length old.operations) old.current → length r.values ≡ length old.operations → Holds homes old.current variables m r →
      value e m ≡ Gives v ls → Reads r (operations_run variables operations r) ls
  pub gives : (variables : ℕ → ℤ) (r : Running) (m : Memory) (v : ℤ) (ls : List Location) →
      AreBelow (length old.operations) old.current → length r.values ≡ length old.operations → Holds homes old.current variables m r →
      value e m ≡ Gives v ls → operand_value variables (operations_run variables operations r).values a ≡ v
