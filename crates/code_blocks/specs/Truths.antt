-- Operands of conditions, and where && and || as a value keep their truth.
use Rattle.std.specs.Prelude.{◌≡◌, ℕ, suc, ◌+◌, ◌*◌, ◌^◌, ◌<◌, ◌≤◌, Bool, true, false, not, List, [], ◌∷◌, ◌++◌, length, ℤ, pos, Option, Some, None, slice_get}
use Rattle.hls_ints.specs.Types.{int_type, long_int}
use Rattle.hls_ints.specs.Operators.{is_zero}
use Rattle.c_program.specs.declared.tree.Storage.TheVariants.{Automatic}
use Rattle.c_program.specs.declared.tree.BinaryOperator.TheVariants.{ShiftRight}
use Rattle.c_program.specs.declared.tree.UnaryOperator.TheVariants.{Not}
use Rattle.c_program.specs.Tree.{Expression, Function}
use Rattle.c_program.specs.Weight.{expression_weight}
use Rattle.c_program.specs.Resolved.{scalar, IsExpression}
use Rattle.thread_semantics.specs.Memory.{Location, Memory, Gives}
use Rattle.thread_semantics.specs.Value.{value}
use Rattle.thread_semantics.specs.Work.{Work, noted}
use Rattle.thread_semantics.specs.Move.{truth_in}
use Rattle.block_ir.specs.declared.operand.Operand.{Operand}
use Rattle.block_ir.specs.declared.operand.Source.TheVariants.{Constant, Value}
use Rattle.block_ir.specs.declared.block.Operation.{Operation}
use Rattle.block_ir.specs.declared.block.Operation.TheVariants.{Unary, Binary}
use Rattle.block_ir.specs.Run.{Running, operand_value, operations_run}
use Rattle.code_following.specs.Following.{reads_of}
use Rattle.code_following.specs.Typed.{IsTypedOperand}
use Rattle.code_blocks.specs.declared.homes.Home.{Home}
use Rattle.code_blocks.specs.declared.places.Target.{Target}
use Rattle.code_blocks.specs.declared.open_block.OpenBlock.{OpenBlock}
use Rattle.code_blocks.specs.declared.truths.Note.{Note}
use Rattle.code_blocks.specs.Needs.{plain, AreBelow}
use Rattle.code_blocks.specs.Evaluating.{target_at, with_more, Holds, held_by}
use Rattle.code_blocks.specs.Closing.{HasNoted}
use Rattle.code_blocks.specs.Assigning.{Stores, HaveHomes, HasElement, Spares}
use Rattle.code_blocks.specs.Typing.{Typing, Fits, IsTypedOpen}

-- ---- where a truth is kept

abbrev pub opposite_note : Option Note → Option Note
opposite_note None = None
opposite_note (Some note) = Some (record note { turned = not note.turned })

abbrev pub turned_truth : Bool → Bool → Bool
turned_truth true truth = not truth
turned_truth false truth = truth

-- the local and what it keeps, where an operand has this truth
abbrev pub noted_truth : Option Note → Bool → Option (ℕ × Bool)
noted_truth None truth = None
noted_truth (Some note) truth = Some (note.slot, turned_truth note.turned truth)

-- so the steps of the program keep the truth of a condition before this work
abbrev pub IsNoted : Option Note → List Work → Type 0
IsNoted note k = (truth : Bool) → noted truth k ≡ noted_truth note truth

-- the local is one that keeps values
abbrev pub HasSlot : Function → Option Note → Type 0
HasSlot f None = Unit {0}
HasSlot f (Some note) = slice_get f.locals note.slot ≡ Some (scalar long_int)

abbrev pub HasElementIfAny : Option Note → List (List (Option ℤ)) → Type 0
HasElementIfAny None locals = Unit {0}
HasElementIfAny (Some note) locals = HasElement locals note.slot 0

-- ---- operations

-- 1 where the value is 0, and else 0, where it is turned; or the other way round
abbrev pub truth_operations : Bool → ℕ → Operand → List Operation
truth_operations true n a = Binary ShiftRight int_type (plain (Constant int_type (pos 1))) a ∷ []
truth_operations false n a =
    Binary ShiftRight int_type (plain (Constant int_type (pos 1))) a ∷ Unary Not int_type (plain (Value n int_type)) ∷ []

-- the last of them, behind n operations
abbrev pub truth_operand : Bool → ℕ → Operand
truth_operand true n = plain (Value n int_type)
truth_operand false n = plain (Value (suc n) int_type)

-- the truth is put behind the other operations, and the local holds it
pub record KeepsTruthAt (homes : List Home) (note : Note) (a : Operand) (old new : OpenBlock) : Type 0 where
  pub mid : OpenBlock
  pub put : mid ≡ with_more old (truth_operations note.turned (length old.operations) a)
  pub few : length mid.operations < 2 ^ 32
  pub target : Target
  pub at : target ≡ target_at homes Automatic note.slot 1 long_int (plain (Constant int_type (pos 0)))
  pub stores : Stores target (truth_operand note.turned (length old.operations)) mid new
  pub fewer : length mid.operations < 2 ^ 32 → length new.operations < 2 ^ 32

abbrev pub KeepsTruth : List Home → Option Note → Operand → OpenBlock → OpenBlock → Type 0
KeepsTruth homes None a old new = new ≡ old
KeepsTruth homes (Some note) a old new = KeepsTruthAt homes note a old new

-- ---- what they do

-- from r to s the operand is evaluated, to v, its truth is kept, and nothing else is changed
pub record HasLooked (homes : List Home) (note : Option Note) (before current : List (Option Operand)) (variables : ℕ → ℤ) (m : Memory) (r s : Running) (a : Operand) (v : ℤ) (ls : List Location) :
    Type 0 where
  pub accesses : s.accesses ≡ r.accesses ++ reads_of ls
  pub gives : operand_value variables s.values a ≡ v
  pub holds : Holds homes current variables (record m { locals = truth_in (noted_truth note (not (is_zero v))) m.locals }) s
  pub spares : (size : ℕ) → Spares homes size (held_by before variables r.values) (held_by current variables s.values) r.arrays s.arrays

-- operations were added that evaluate the operand and keep its truth, wherever it has a value
pub record LooksAt (homes : List Home) (note : Option Note) (e : Expression) (old new : OpenBlock) (a : Operand) : Type 0 where
  pub operations : List Operation
  pub added : new.operations ≡ old.operations ++ operations
  pub size : length new.current ≡ length old.current
  pub steps : new.steps ≡ old.steps
  pub noted : HasNoted old → HasNoted new
  pub count : length new.operations ≤ length old.operations + (3 * expression_weight e + 4)
  pub typed : (S : Typing) → Fits S homes → HasSlot S.function note → IsExpression S.program S.function e → IsTypedOpen S.types old →
      IsTypedOpen S.types new × IsTypedOperand S.types new.operations a
  pub does : (variables : ℕ → ℤ) (r : Running) (m : Memory) (v : ℤ) (ls : List Location) →
      AreBelow (length old.operations) old.current → length r.values ≡ length old.operations →
      HaveHomes homes (length old.current) m.locals → HasElementIfAny note m.locals → Holds homes old.current variables m r → value e m ≡ Gives v ls →
      HasLooked homes note old.current new.current variables m r (operations_run variables operations r) a v ls
