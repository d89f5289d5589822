-- Operations do a step that assigns.
use Rattle.std.specs.Prelude.{◌≡◌, ℕ, suc, ◌<◌, ◌≤◌, List, [], ◌∷◌, ◌++◌, length, ℤ, pos, Option, Some, None, slice_get, slice_set}
use Rattle.hls_ints.specs.Types.{IntegerType, int_type, wrapped}
use Rattle.c_program.specs.declared.tree.Storage.{Storage}
use Rattle.c_program.specs.declared.tree.Storage.TheVariants.{Automatic, Static}
use Rattle.c_program.specs.Tree.{Expression, Place}
use Rattle.thread_semantics.specs.Memory.{Location, Memory, Evaluation, Gives, with_element}
use Rattle.thread_semantics.specs.Move.{Assignment}
use Rattle.block_ir.specs.declared.operand.Operand.{Operand}
use Rattle.block_ir.specs.declared.operand.Source.TheVariants.{Constant as FromConstant}
use Rattle.block_ir.specs.declared.block.Operation.{Operation}
use Rattle.block_ir.specs.declared.block.Operation.TheVariants.{WriteArray, WriteGlobal}
use Rattle.block_ir.specs.Run.{Cells, Access, Write, Running, operations_run}
use Rattle.code_following.specs.Following.{reads_of}
use Rattle.code_blocks.specs.declared.homes.Home.{Home}
use Rattle.code_blocks.specs.declared.homes.Home.TheVariants as home
use Rattle.code_blocks.specs.declared.places.Target.{Target}
use Rattle.code_blocks.specs.declared.places.Target.TheVariants as target
use Rattle.code_blocks.specs.declared.open_block.OpenBlock.{OpenBlock}
use Rattle.code_blocks.specs.Needs.{plain, IsConverted, AreBelow}
use Rattle.code_blocks.specs.Evaluating.{target_at, with_more, Holds, Evaluates, held_by}
use Rattle.code_blocks.specs.Closing.{HasNoted}

-- the variable n holds the value, converted to the type, from now on
pub record StoresVariable (n : ℕ) (ty : IntegerType) (value : Operand) (old new : OpenBlock) : Type 0 where
  pub stored : Operand
  pub converted : IsConverted ty value stored
  pub operations : new.operations ≡ old.operations
  pub current : new.current ≡ slice_set old.current n (Some stored)
  pub steps : new.steps ≡ old.steps
  pub noted : HasNoted old → HasNoted new

-- an operation writes the value, converted to the type
pub record StoresElement (writes : Operand → Operation) (ty : IntegerType) (value : Operand) (old new : OpenBlock) : Type 0 where
  pub stored : Operand
  pub converted : IsConverted ty value stored
  pub added : new ≡ with_more old (writes stored ∷ [])

abbrev pub Stores : Target → Operand → OpenBlock → OpenBlock → Type 0
Stores (target.Variable n ty) value old new = StoresVariable n ty value old new
Stores (target.Array a n ty index) value old new = StoresElement (λ w. WriteArray a n index w) ty value old new
Stores (target.Global g n ty index) value old new = StoresElement (λ w. WriteGlobal g n index w) ty value old new

-- the place is this target, once its index is evaluated
pub record PlacesScalar (homes : List Home) (storage : Storage) (x : ℕ) (ty : IntegerType) (old new : OpenBlock) (t : Target) : Type 0 where
  pub same : new ≡ old
  pub at : t ≡ target_at homes storage x 1 ty (plain (FromConstant int_type (pos 0)))

pub record PlacesElement (homes : List Home) (storage : Storage) (x n : ℕ) (ty : IntegerType) (e : Expression) (old new : OpenBlock) (t : Target) : Type 0 where
  pub index : Operand
  pub evaluates : Evaluates homes e old new index
  pub at : t ≡ target_at homes storage x n ty index

abbrev pub Places : List Home → Place → OpenBlock → OpenBlock → Target → Type 0
Places homes (Place.Scalar storage x ty) old new t = PlacesScalar homes storage x ty old new t
Places homes (Place.Element storage x n ty e) old new t = PlacesElement homes storage x n ty e old new t

-- The homes of the locals of a call.

-- a local that stands in a variable has at most one element, and the block knows the variable
abbrev pub IsHomed : ℕ → Option Home → List (Option ℤ) → Type 0
IsHomed size None row = ⊥
IsHomed size (Some (home.Variable n)) row = (length row ≤ 1) × (n < size)
IsHomed size (Some (home.Array a)) row = Unit {0}

pub record HaveHomes (homes : List Home) (size : ℕ) (locals : List (List (Option ℤ))) : Type 0 where
  pub homed : (x : ℕ) (row : List (Option ℤ)) → slice_get locals x ≡ Some row → IsHomed size (slice_get homes x) row
  -- no two have one home
  pub variables : (x y n : ℕ) → slice_get homes x ≡ Some (home.Variable n) → slice_get homes y ≡ Some (home.Variable n) → x ≡ y
  pub arrays : (x y a : ℕ) → slice_get homes x ≡ Some (home.Array a) → slice_get homes y ≡ Some (home.Array a) → x ≡ y

-- a local that is assigned to has that element
pub record HasElement (locals : List (List (Option ℤ))) (x j : ℕ) : Type 0 where
  pub row : List (Option ℤ)
  pub found : slice_get locals x ≡ Some row
  pub within : j < length row

abbrev pub IsThere : Storage → List (List (Option ℤ)) → ℕ → ℕ → Type 0
IsThere Automatic locals x j = HasElement locals x j
IsThere Static locals x j = Unit {0}

-- What a step that assigns leaves.

abbrev pub memory_after : Storage → Assignment → Memory → Memory
memory_after Automatic a m = record {
  locals = with_element m.locals a.target.variable a.target.index (Some (wrapped a.target.ty a.value));
  globals = m.globals;
}
memory_after Static a m = record {
  locals = m.locals;
  globals = with_element m.globals a.target.variable a.target.index (wrapped a.target.ty a.value);
}

abbrev pub writes_of : Storage → Assignment → List Access
writes_of Automatic a = []
writes_of Static a = Write a.target.variable a.target.index (wrapped a.target.ty a.value) ∷ []

-- the variables below size and the arrays that are no local's home hold what they held
pub record Spares (homes : List Home) (size : ℕ) (variables after : ℕ → ℤ) (arrays cells : Cells) : Type 0 where
  pub variables_ : (n : ℕ) → n < size → ((x : ℕ) → slice_get homes x ≡ Some (home.Variable n) → ⊥) → after n ≡ variables n
  pub arrays_ : (a : ℕ) → ((x : ℕ) → slice_get homes x ≡ Some (home.Array a) → ⊥) → cells a ≡ arrays a

-- from r to s the reads and the write of the step are made, s holds what the step leaves, and nothing else is changed
pub record Assigned (homes : List Home) (before current : List (Option Operand)) (variables : ℕ → ℤ) (m : Memory) (r s : Running) (a : Assignment) (ls : List Location) : Type 0 where
  pub accesses : s.accesses ≡ r.accesses ++ (reads_of ls ++ writes_of a.target.storage a)
  pub holds : Holds homes current variables (memory_after a.target.storage a m) s
  pub spares : (size : ℕ) → Spares homes size (held_by before variables r.values) (held_by current variables s.values) r.arrays s.arrays

-- operations were added that do the step, wherever it is defined
pub record Assigns (homes : List Home) (F : Memory → Evaluation Assignment) (old new : OpenBlock) : Type 0 where
  pub operations : List Operation
  pub added : new.operations ≡ old.operations ++ operations
  pub size : length new.current ≡ length old.current
  pub steps : new.steps ≡ suc old.steps
  pub noted : HasNoted old → HasNoted new
  pub below : AreBelow (length old.operations) old.current → AreBelow (length new.operations) new.current
  pub does : (variables : ℕ → ℤ) (r : Running) (m : Memory) (a : Assignment) (ls : List Location) →
      AreBelow (length old.operations) old.current → length r.values ≡ length old.operations →
      HaveHomes homes (length old.current) m.locals → Holds homes old.current variables m r → F m ≡ Gives a ls →
      IsThere a.target.storage m.locals a.target.variable a.target.index →
      Assigned homes old.current new.current variables m r (operations_run variables operations r) a ls
