-- The arguments of a call go to the homes of its parameters.
use Rattle.std.specs.Prelude.{◌≡◌, ℕ, ◌+◌, ◌*◌, ◌<◌, ◌≤◌, List, [], ◌∷◌, ◌++◌, length, ℤ, Option, Some, slice_get}
use Rattle.hls_ints.specs.Types.{IntegerType, wrapped}
use Rattle.c_program.specs.declared.tree.LocalVariable.{LocalVariable}
use Rattle.c_program.specs.Tree.{Expression}
use Rattle.c_program.specs.Weight.{expressions_weight}
use Rattle.c_program.specs.Resolved.{AreExpressions}
use Rattle.thread_semantics.specs.Memory.{Location, Memory, Gives}
use Rattle.thread_semantics.specs.Value.{values}
use Rattle.block_ir.specs.declared.operand.Operand.{Operand}
use Rattle.block_ir.specs.declared.block.Operation.{Operation}
use Rattle.block_ir.specs.Run.{Running, operations_run}
use Rattle.code_blocks.specs.declared.homes.Home.{Home}
use Rattle.code_blocks.specs.declared.homes.Home.TheVariants as home
use Rattle.code_blocks.specs.declared.open_block.OpenBlock.{OpenBlock}
use Rattle.code_blocks.specs.Needs.{AreBelow}
use Rattle.code_blocks.specs.Evaluating.{Holds, Reads, held_by}
use Rattle.code_blocks.specs.Closing.{HasNoted}
use Rattle.code_blocks.specs.Typing.{Typing, IsTypedHome, Works}
use Rattle.code_blocks.specs.Assigning.{HaveHomes, StoresVariable, Spares}

-- a value goes there
abbrev pub PutsThere : Home → IntegerType → Operand → OpenBlock → OpenBlock → Type 0
PutsThere (home.Variable n) ty value old new = StoresVariable n ty value old new
PutsThere (home.Array a) ty value old new = new ≡ old

-- the homes of the first locals have the values, each converted to its local's type
abbrev pub IsPassed : (ℕ → ℤ) → Home → ℤ → Type 0
IsPassed held (home.Variable n) w = held n ≡ w
IsPassed held (home.Array a) w = Unit {0}

abbrev pub ArePassed : (ℕ → ℤ) → List Home → List LocalVariable → List ℤ → Type 0
ArePassed held [] locals vs = Unit {0}
ArePassed held (h ∷ room) [] vs = Unit {0}
ArePassed held (h ∷ room) (l ∷ locals) [] = Unit {0}
ArePassed held (h ∷ room) (l ∷ locals) (v ∷ vs) = IsPassed held h (wrapped l.ty v) × ArePassed held room locals vs

-- the variables of a room are known, each is one local's, and none is a local's of the caller
pub record IsReady (homes room : List Home) (size : ℕ) : Type 0 where
  pub spare : (x y n : ℕ) → slice_get homes x ≡ Some (home.Variable n) → slice_get room y ≡ Some (home.Variable n) → ⊥
  pub apart : (x y n : ℕ) → slice_get room x ≡ Some (home.Variable n) → slice_get room y ≡ Some (home.Variable n) → x ≡ y
  pub within : (y n : ℕ) → slice_get room y ≡ Some (home.Variable n) → n < size

-- from r to s nothing is written, these globals are read, and the values are passed
pub record Passed (homes room : List Home) (locals : List LocalVariable) (before current : List (Option Operand)) (variables : ℕ → ℤ) (m : Memory) (r s : Running) (vs : List ℤ)
    (ls : List Location) : Type 0 where
  pub reads : Reads r s ls
  pub holds : Holds homes current variables m s
  pub passed : ArePassed (held_by current variables s.values) room locals vs
  pub spares : (size : ℕ) → Spares room size (held_by before variables r.values) (held_by current variables s.values) r.arrays s.arrays

-- operations were added that pass the values of the expressions
pub record Passes (homes room : List Home) (locals : List LocalVariable) (es : List Expression) (old new : OpenBlock) : Type 0 where
  pub operations : List Operation
  pub added : new.operations ≡ old.operations ++ operations
  pub size : length new.current ≡ length old.current
  pub steps : new.steps ≡ old.steps
  pub noted : HasNoted old → HasNoted new
  pub below : AreBelow (length old.operations) old.current → AreBelow (length new.operations) new.current
  pub does : (variables : ℕ → ℤ) (r : Running) (m : Memory) (vs : List ℤ) (ls : List Location) →
      AreBelow (length old.operations) old.current → length r.values ≡ length old.operations → HaveHomes homes (length old.current) m.locals →
      IsReady homes room (length old.current) → length es ≤ length room → length es ≤ length locals → Holds homes old.current variables m r → values es m ≡ Gives vs ls →
      Passed homes room locals old.current new.current variables m r (operations_run variables operations r) vs ls

abbrev pub WorksOnArguments : List Home → List Home → List LocalVariable → List Expression → OpenBlock → OpenBlock → Type 0
WorksOnArguments homes room locals es old new =
    Works homes (3 * expressions_weight es + length es)
    (λ (S : Typing). AreExpressions S.program S.function es × ((x : ℕ) (l : LocalVariable) → slice_get locals x ≡ Some l → IsTypedHome S.types l (slice_get room x))) old new
