-- What lowering calls typed is what the promise of a thread's module calls typed.
use Rattle.std.proofs.Common.{◌≡◌, ℕ, zero, suc, List, [], ◌∷◌, ◌++◌, length, Option, Some, None, refl, sym, ap, ◌∙◌, subst, arith, append_assoc, length-append}
use Rattle.std.specs.Prelude.{slice_get}
use Rattle.std.proofs.lemmas.List.{append-nil}
use Rattle.std.proofs.lemmas.Option.{slice_get_within}
use Rattle.lists.proofs.Places.{get_front}
use Rattle.hls_ints.specs.Types.{IntegerType}
use Rattle.c_program.specs.declared.tree.UnaryOperator.{UnaryOperator}
use Rattle.c_program.specs.declared.tree.UnaryOperator.TheVariants.{Plus, Minus, Complement, Not}
use Rattle.c_program.specs.declared.tree.BinaryOperator.{BinaryOperator}
use Rattle.c_program.specs.declared.tree.BinaryOperator.TheVariants.{Multiply, Divide, Remainder, Add, Subtract, ShiftLeft, ShiftRight}
use Rattle.c_program.specs.declared.tree.BinaryOperator.TheVariants.{Less, Greater, LessEqual, GreaterEqual, Equal, NotEqual, And, ExclusiveOr, InclusiveOr}
use Rattle.c_program.specs.Types.{unary_type, binary_type}
use Rattle.block_ir.specs.declared.operand.Source.{Source}
use Rattle.block_ir.specs.declared.operand.Source.TheVariants.{Constant, Variable, Value}
use Rattle.block_ir.specs.declared.operand.Operand.{Operand}
use Rattle.block_ir.specs.declared.block.Operation.{Operation}
use Rattle.block_ir.specs.declared.block.Operation.TheVariants.{Unary, Binary, ReadGlobal, WriteGlobal, ReadArray, WriteArray}
use Rattle.block_ir.specs.declared.block.Final.{Final}
use Rattle.block_ir.specs.declared.block.Next.{Next}
use Rattle.block_ir.specs.declared.block.Next.TheVariants.{Jump, Branch}
use Rattle.block_ir.specs.declared.block.Block.{Block}
use Rattle.block_ir.specs.declared.code.Array.{Array}
use Rattle.block_ir.specs.declared.code.ThreadCode.{ThreadCode}
use Rattle.plan_blocks.specs.Alike.{SourceNeedsBelow, NeedsBelow, OperationNeedsBelow, EachNeedsEarlier, FinalsNeedBelow, NextNeedsBelow, IsInOrder}
use Rattle.operator_words.specs.Shown.{unary_result, binary_result}
use Rattle.thread_promise.specs.Types as promise
use Rattle.bank_partition.specs.declared.banks.Spread.{Spread}
use Rattle.thread_promise.specs.Globals.{IsGlobalOf, IsAccess}
use Rattle.code_following.specs.Typed.{Types, type_there, element_there, IsArray, last_type, source_type, operand_type, value_type}
use Rattle.code_following.specs.Typed.{IsTypedSource, IsTypedOperand, IsTypedOperation, AreTyped, IsTypedFinal, IsTypedNext, IsTypedBlock}

-- the types of results

unary_same : (operator : UnaryOperator) (ty : IntegerType) → unary_result operator ty ≡ unary_type operator ty
unary_same Plus ty = refl
unary_same Minus ty = refl
unary_same Complement ty = refl
unary_same Not ty = refl

binary_same : (operator : BinaryOperator) (ty : IntegerType) → binary_result operator ty ≡ binary_type operator ty
binary_same Multiply ty = refl
binary_same Divide ty = refl
binary_same Remainder ty = refl
binary_same Add ty = refl
binary_same Subtract ty = refl
binary_same ShiftLeft ty = refl
binary_same ShiftRight ty = refl
binary_same Less ty = refl
binary_same Greater ty = refl
binary_same LessEqual ty = refl
binary_same GreaterEqual ty = refl
binary_same Equal ty = refl
binary_same NotEqual ty = refl
binary_same And ty = refl
binary_same ExclusiveOr ty = refl
binary_same InclusiveOr ty = refl

last_same : (ty : IntegerType) (types : List IntegerType) → promise.last_type ty types ≡ last_type ty types
last_same ty [] = refl
last_same ty (t ∷ types) = last_same t types

source_same : (s : Source) → promise.source_type s ≡ source_type s
source_same (Constant ty v) = refl
source_same (Variable x ty) = refl
source_same (Value k ty) = refl

operand_same : (o : Operand) → promise.operand_type o ≡ operand_type o
operand_same o = last_same (promise.source_type o.source) o.conversions ∙ ap (λ ty. last_type ty o.conversions) (source_same o.source)

global_same : (o : Option IntegerType) → promise.or_int o ≡ type_there o
global_same None = refl
global_same (Some ty) = refl

module _ (T : Types) (code : ThreadCode) (variables : T.variables ≡ code.variables) (arrays : T.arrays ≡ code.arrays) where
  -- arrays are those of the code
  element_same : (o : Option Array) → promise.element_type o ≡ element_there o
  element_same None = refl
  element_same (Some a) = refl

  array_there : (x n : ℕ) (ty : IntegerType) → IsArray T x n ty → slice_get code.arrays x ≡ Some (record { ty = ty; length = n })
  array_there x n ty h = ap (λ (l : List Array). slice_get l x) (sym arrays) ∙ h

  value_same : (o : Operation) → promise.value_type T.globals code o ≡ value_type T o
  value_same (Unary operator ty a) = unary_same operator ty
  value_same (Binary operator ty a b) = binary_same operator ty
  value_same (ReadGlobal x n i) = global_same (slice_get T.globals x)
  value_same (WriteGlobal x n i a) = refl
  value_same (ReadArray x n i) = element_same (slice_get code.arrays x) ∙ ap (λ (l : List Array). element_there (slice_get l x)) (sym arrays)
  value_same (WriteArray x n i a) = refl

  module _ (all : List Operation) where
    -- what is typed behind the first of all operations is typed behind all
    source_typed : (before more : List Operation) (s : Source) → all ≡ before ++ more → IsTypedSource T before s → promise.IsTypedSource T.globals code all s
    source_typed before more (Constant ty v) is h = h
    source_typed before more (Variable x ty) is h = ap (λ ts. slice_get ts x) (sym variables) ∙ h
    source_typed before more (Value k ty) is h =
        let at : slice_get all k ≡ Some h.0 = ap (λ os. slice_get os k) is ∙ get_front before more k h.0 h.1 in
        (h.0, at, value_same h.0 ∙ h.2)

    pub operand_typed : (before more : List Operation) (o : Operand) → all ≡ before ++ more → IsTypedOperand T before o → promise.IsTypedOperand T.globals code all o
    operand_typed before more o is h = source_typed before more o.source is h

    operation_typed : (before more : List Operation) (o : Operation) → all ≡ before ++ more → IsTypedOperation T before o → promise.IsTypedOperation T.globals code all o
    operation_typed before more (Unary operator ty a) is h = operand_typed before more a is h
    operation_typed before more (Binary operator ty a b) is h = (operand_typed before more a is h.0, operand_typed before more b is h.1)
    operation_typed before more (ReadGlobal x n i) is h = (operand_typed before more i is h.0, h.1)
    operation_typed before more (WriteGlobal x n i a) is h =
        (operand_typed before more i is h.0, operand_typed before more a is h.1, h.2 ∙ ap Some (sym (operand_same a)))
    operation_typed before more (ReadArray x n i) is h = (operand_typed before more i is h.0, (record { ty = h.1.0; length = n }, array_there x n h.1.0 h.1.1, refl))
    operation_typed before more (WriteArray x n i a) is h =
        let own = array_there x n (operand_type a) h.2 in (
          operand_typed before more i is h.0,
          operand_typed before more a is h.1,
          (record { ty = operand_type a; length = n }, own, refl),
          (record { ty = operand_type a; length = n }, own, operand_same a),
        )

    operations_typed : (before os : List Operation) → all ≡ before ++ os → AreTyped T before os → (k : ℕ) (o : Operation) → slice_get os k ≡ Some o →
        promise.IsTypedOperation T.globals code all o
    operations_typed before [] is h k o e = cc
    operations_typed before (x ∷ os) is h zero o e =
        subst (promise.IsTypedOperation T.globals code all) (let same : x ≡ o = cc in same) (operation_typed before (x ∷ os) x is h.0)
    operations_typed before (x ∷ os) is h (suc k) o e = operations_typed (before ++ x ∷ []) os (is ∙ sym (append_assoc before (x ∷ []) os)) h.1 k o e

  module _ (n m : ℕ) (b : Block) (t : IsTypedBlock T n m b) where
    abbrev typed_in : (o : Operand) → IsTypedOperand T b.operations o → promise.IsTypedOperand T.globals code b.operations o
    typed_in o h = operand_typed b.operations b.operations [] o (let e : b.operations ≡ b.operations ++ [] = sym (append-nil b.operations) in e) h

    next_typed : (to : Next) → n ≡ length code.stages → IsTypedNext T n b.operations to → promise.IsTypedNext T.globals code b.operations to
    next_typed (Jump l) is h = omega arith
    next_typed (Branch test l k) is h = (typed_in test h.0, let a = h.1 in omega arith, let a = h.2 in omega arith)

    pub block_typed : n ≡ length code.stages → promise.IsTypedBlock T.globals code b
    block_typed is = record {
      operations = operations_typed b.operations [] b.operations refl t.operations;
      finals = λ k f e.
          let h = t.finals k f e in
          (typed_in f.value h.0, ap (λ ts. slice_get ts f.variable) (sym variables) ∙ h.1 ∙ ap Some (sym (operand_same f.value)));
      next = next_typed b.next is t.next;
    }

-- What is typed accesses globals that have banks.

module _ (T : Types) (spreads : List Spread) (spread : (x n : ℕ) → slice_get T.lengths x ≡ Some n → IsGlobalOf spreads x n) where
  access_is : (before : List Operation) (o : Operation) → IsTypedOperation T before o → IsAccess spreads o
  access_is before (Unary operator ty a) h = tt
  access_is before (Binary operator ty a b) h = tt
  access_is before (ReadGlobal x n i) h = spread x n h.2
  access_is before (WriteGlobal x n i a) h = spread x n h.3
  access_is before (ReadArray x n i) h = tt
  access_is before (WriteArray x n i a) h = tt

  pub accesses_are : (before os : List Operation) → AreTyped T before os → (k : ℕ) (o : Operation) → slice_get os k ≡ Some o → IsAccess spreads o
  accesses_are before [] h k o e = cc
  accesses_are before (x ∷ os) h zero o e = subst (IsAccess spreads) (let same : x ≡ o = cc in same) (access_is before x h.0)
  accesses_are before (x ∷ os) h (suc k) o e = accesses_are (before ++ x ∷ []) os h.1 k o e

-- What is typed uses earlier operations alone.

module _ (T : Types) where
  source_below : (before : List Operation) (s : Source) → IsTypedSource T before s → SourceNeedsBelow (length before) s
  source_below before (Constant ty v) h = tt
  source_below before (Variable x ty) h = tt
  source_below before (Value k ty) h = slice_get_within before k h.0 h.1

  operand_below : (before : List Operation) (o : Operand) → IsTypedOperand T before o → NeedsBelow (length before) o
  operand_below before o h = source_below before o.source h

  operation_below : (before : List Operation) (o : Operation) → IsTypedOperation T before o → OperationNeedsBelow (length before) o
  operation_below before (Unary operator ty a) h = operand_below before a h
  operation_below before (Binary operator ty a b) h = (operand_below before a h.0, operand_below before b h.1)
  operation_below before (ReadGlobal x n i) h = operand_below before i h.0
  operation_below before (WriteGlobal x n i a) h = (operand_below before i h.0, operand_below before a h.1)
  operation_below before (ReadArray x n i) h = operand_below before i h.0
  operation_below before (WriteArray x n i a) h = (operand_below before i h.0, operand_below before a h.1)

  each_earlier : (before os : List Operation) (n : ℕ) → length before ≡ n → AreTyped T before os → EachNeedsEarlier n os
  each_earlier before [] n is h = tt
  each_earlier before (o ∷ os) n is h = (
    subst (λ k. OperationNeedsBelow k o) is (operation_below before o h.0),
    each_earlier (before ++ o ∷ []) os (suc n) (let l = length-append before (o ∷ []) in omega (arith, l, is)) h.1,
  )

  finals_below : (before : List Operation) (fs : List Final) → ((k : ℕ) (f : Final) → slice_get fs k ≡ Some f → IsTypedFinal T before f) → FinalsNeedBelow (length before) fs
  finals_below before [] h = tt
  finals_below before (f ∷ fs) h = (operand_below before f.value (h 0 f refl).0, finals_below before fs (λ k g e. h (suc k) g e))

  next_below : (n : ℕ) (before : List Operation) (to : Next) → IsTypedNext T n before to → NextNeedsBelow (length before) to
  next_below n before (Jump l) h = tt
  next_below n before (Branch test l k) h = operand_below before test h.0

  pub in_order : (n m : ℕ) (b : Block) → IsTypedBlock T n m b → IsInOrder b
  in_order n m b t = record {
    operations = each_earlier [] b.operations 0 refl t.operations;
    finals = finals_below b.operations b.finals t.finals;
    next = next_below n b.operations b.next t.next;
  }
