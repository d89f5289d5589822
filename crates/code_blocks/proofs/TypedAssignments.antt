-- Operations of assignments and of a printf's values are typed.
use Rattle.std.proofs.Common.{◌≡◌, ℕ, suc, ◌+◌, ◌*◌, ◌-◌, ◌^◌, ◌<◌, ◌≤◌, false, List, [], ◌∷◌, ◌++◌, length, take, drop, get_or, Some, refl, sym, ap, ◌∙◌, subst, ⊎_elim, pos}
use Rattle.std.proofs.Common.{arith, append-nil, append_assoc, length-append}
use Rattle.std.specs.Prelude.{slice_get, slice_set}
use Rattle.std.proofs.lemmas.List.Sums.{sum_by-cons}
use Rattle.lists.proofs.Places.{set_element}
use Rattle.hls_ints.specs.Types.{IntegerType, long_int, int_type}
use Rattle.c_program.specs.declared.tree.Expression.{Expression as ExpressionTree}
use Rattle.c_program.specs.declared.tree.BinaryOperator.{BinaryOperator}
use Rattle.c_program.specs.declared.tree.BinaryOperator.TheVariants.{Less, Greater, LessEqual, GreaterEqual, Equal, NotEqual}
use Rattle.c_program.specs.Plain.{expression_of, expressions_of}
use Rattle.c_program.specs.Tree.{Expression, Place}
use Rattle.c_program.specs.Types.{binary_type}
use Rattle.c_program.specs.Weight.{expression_weight, place_weight}
use Rattle.c_program.specs.Resolved.{is_comparison, place_type, IsPlace}
use Rattle.block_ir.specs.declared.operand.Source.TheVariants.{Constant, Value}
use Rattle.block_ir.specs.declared.operand.Operand.{Operand}
use Rattle.block_ir.specs.declared.block.Operation.{Operation}
use Rattle.block_ir.specs.declared.block.Operation.TheVariants.{Binary, WriteGlobal, WriteArray}
use Rattle.code_blocks.specs.declared.homes.Home.{Home}
use Rattle.code_blocks.specs.declared.places.Target.{Target}
use Rattle.code_blocks.specs.declared.places.Target.TheVariants as target
use Rattle.code_blocks.specs.declared.open_block.OpenBlock.{OpenBlock}
use Rattle.code_blocks.specs.Needs.{plain, IsConverted}
use Rattle.code_blocks.specs.Evaluating.{load_block, loaded, with_more, Evaluates}
use Rattle.code_blocks.specs.Assigning.{Stores, Places}
use Rattle.code_following.specs.Typed.{Types, operand_type, IsTypedOperand, AreTyped}
use Rattle.code_blocks.specs.Typing.{Typing, Fits, IsTypedOpen, WorksOnAssignment, WorksOnUpdate, WorksOnValue, WorksOnValues}
use Rattle.code_blocks.proofs.Values.{load_operations, load_added}
use Rattle.code_blocks.proofs.Puts.{rest_is}
use Rattle.code_blocks.proofs.TypedExpressions.{operand_more, operand_converted, open_more, computed_last, target_type, IsTypedTarget, target_more, target_typed, load_typed, load_count}

-- operations are added behind those that are there
abbrev pub Grows : OpenBlock → OpenBlock → Type 0
Grows old new = (more : List Operation) × (new.operations ≡ old.operations ++ more)

grows_on : (a b c : OpenBlock) → Grows a b → Grows b c → Grows a c
grows_on a b c g h = (g.0 ++ h.0, h.1 ∙ ap (λ os. os ++ h.0) g.1 ∙ append_assoc a.operations g.0 h.0)

grows_by : (old new : OpenBlock) (os : List Operation) → new ≡ with_more old os → Grows old new
grows_by old new os is = (os, ap (λ (z : OpenBlock). z.operations) is)

module _ (T : Types) (old new : OpenBlock) (g : Grows old new) where
  pub operand_on : (a : Operand) → IsTypedOperand T old.operations a → IsTypedOperand T new.operations a
  operand_on a h = subst (λ os. IsTypedOperand T os a) (sym g.1) (operand_more T old.operations g.0 a h)

  pub target_on : (t : Target) → IsTypedTarget T old.operations t → IsTypedTarget T new.operations t
  target_on t h = subst (λ os. IsTypedTarget T os t) (sym g.1) (target_more T old.operations g.0 t h)

-- The index of a place.

pub record IsPlaced (T : Types) (b : OpenBlock) (t : Target) (ty : IntegerType) : Type 0 where
  pub block : IsTypedOpen T b
  pub target : IsTypedTarget T b.operations t
  pub type : target_type t ≡ ty

pub place_typed : (homes : List Home) (place : Place) (old new : OpenBlock) (t : Target) → Places homes place old new t → (S : Typing) → Fits S homes → IsPlace S.program S.function place →
    IsTypedOpen S.types old → IsPlaced S.types new t (place_type place)
place_typed homes (Place.Scalar storage x ty) old new t p S fits is open_ =
    let zero_ : IsTypedOperand S.types new.operations (plain (Constant int_type (pos 0))) = refl in
    let h = target_typed S homes fits new.operations x 1 ty (plain (Constant int_type (pos 0))) zero_ storage is in
    record {
      block = subst (IsTypedOpen S.types) (sym p.same) open_;
      target = subst (IsTypedTarget S.types new.operations) (sym p.at) h.0;
      type = ap target_type p.at ∙ h.1;
    }
place_typed homes (Place.Element storage x n ty e) old new t p S fits is open_ =
    let i = p.evaluates.computes.typed S fits is.1 open_ in
    let h = target_typed S homes fits new.operations x n ty p.index i.operand storage is.0 in
    record {
      block = i.block;
      target = subst (IsTypedTarget S.types new.operations) (sym p.at) h.0;
      type = ap target_type p.at ∙ h.1;
    }

pub place_count : (homes : List Home) (place : Place) (old new : OpenBlock) (t : Target) → Places homes place old new t → length new.operations ≤ length old.operations + 3 * place_weight place
place_count homes (Place.Scalar storage x ty) old new t p = let e = ap (λ (z : OpenBlock). length z.operations) p.same in omega arith
place_count homes (Place.Element storage x n ty e) old new t p = let c = p.evaluates.computes.count in omega (arith, c)

pub place_grows : (homes : List Home) (place : Place) (old new : OpenBlock) (t : Target) → Places homes place old new t → Grows old new
place_grows homes (Place.Scalar storage x ty) old new t p = ([], ap (λ (z : OpenBlock). z.operations) p.same ∙ sym (append-nil old.operations))
place_grows homes (Place.Element storage x n ty e) old new t p = grows_by old new p.evaluates.operations p.evaluates.added

-- What is stored.

module _ (T : Types) where
  pub variable_stored : (n : ℕ) (ty : IntegerType) (w : Operand) (old new : OpenBlock) → new.operations ≡ old.operations → new.current ≡ slice_set old.current n (Some w) →
      slice_get T.variables n ≡ Some ty → IsTypedOperand T old.operations w → operand_type w ≡ ty → IsTypedOpen T old → IsTypedOpen T new
  variable_stored n ty w old new same current at typed is open_ = record {
    operations = subst (AreTyped T []) (sym same) open_.operations;
    few = (let e = ap length same in let f = open_.few in omega (arith, e, f));
    current = λ x a e.
        ⊎_elim
        (λ p. let o : a ≡ w = cc in (
          subst (IsTypedOperand T new.operations) (sym o) (subst (λ os. IsTypedOperand T os w) (sym same) typed),
          ap (slice_get T.variables) p.0 ∙ at ∙ ap Some (sym is ∙ ap operand_type (sym o)),
        ))
        (λ p. let h = open_.current x a p.1 in (subst (λ os. IsTypedOperand T os a) (sym same) h.0, h.1))
        (set_element old.current n x (Some w) (Some a) (ap (λ l. slice_get l x) (sym current) ∙ e));
  }

  pub store_typed : (t : Target) (value : Operand) (old new : OpenBlock) → Stores t value old new → (length old.operations < 2 ^ 32 → length new.operations < 2 ^ 32) →
      IsTypedTarget T old.operations t → IsTypedOperand T old.operations value → IsTypedOpen T old → IsTypedOpen T new
  store_typed (target.Variable n ty) value old new s few at typed open_ =
      variable_stored n ty s.stored old new s.operations s.current at (operand_converted T ty old.operations value s.stored s.converted typed) s.converted.type open_
  store_typed (target.Array x n ty index) value old new s few at typed open_ =
      open_more T old new (WriteArray x n index s.stored) s.added (few open_.few) open_
      (at.0, operand_converted T ty old.operations value s.stored s.converted typed, at.1 ∙ ap (λ k. Some (record { ty = k; length = n })) (sym s.converted.type))
  store_typed (target.Global x n ty index) value old new s few at typed open_ =
      open_more T old new (WriteGlobal x n index s.stored) s.added (few open_.few) open_
      (at.0, operand_converted T ty old.operations value s.stored s.converted typed, at.1 ∙ ap Some (sym s.converted.type), at.2)

pub store_count : (t : Target) (value : Operand) (old new : OpenBlock) → Stores t value old new → length new.operations ≤ length old.operations + 1
store_count (target.Variable n ty) value old new s = let e = ap length s.operations in omega arith
store_count (target.Array x n ty index) value old new s =
    let e = ap (λ (z : OpenBlock). length z.operations) s.added ∙ length-append old.operations (WriteArray x n index s.stored ∷ []) in omega arith
store_count (target.Global x n ty index) value old new s =
    let e = ap (λ (z : OpenBlock). length z.operations) s.added ∙ length-append old.operations (WriteGlobal x n index s.stored ∷ []) in omega arith

-- one more step of the program
pub stepped_typed : (T : Types) (b new : OpenBlock) → new ≡ record b { steps = suc b.steps } → IsTypedOpen T b → IsTypedOpen T new
stepped_typed T b new is open_ = subst (IsTypedOpen T) (sym is) (record { operations = open_.operations; few = open_.few; current = open_.current })

pub stepped_count : (b new : OpenBlock) → new ≡ record b { steps = suc b.steps } → length new.operations ≡ length b.operations
stepped_count b new is = ap (λ (z : OpenBlock). length z.operations) is

-- Assignments.

pub assignment_works : (homes : List Home) (place : Place) (e : Expression) (old mid found last new : OpenBlock) (t : Target) (a : Operand) →
    Evaluates homes e old mid a → Places homes place mid found t → Stores t a found last → (length found.operations < 2 ^ 32 → length last.operations < 2 ^ 32) →
    new ≡ record last { steps = suc last.steps } → WorksOnAssignment homes place e old new
assignment_works homes place e old mid found last new t a first at st few stepped = record {
  count =
      (let c = first.computes.count in let p = place_count homes place mid found t at in let s = store_count t a found last st in
      let l = stepped_count last new stepped in omega (arith, c, p, s, l));
  typed = λ S fits is open_.
      let i = first.computes.typed S fits is.1 open_ in
      let p = place_typed homes place mid found t at S fits is.0 i.block in
      stepped_typed S.types last new stepped
      (store_typed S.types t a found last st few p.target (operand_on S.types mid found (place_grows homes place mid found t at) a i.operand) p.block);
}

-- what is no comparison gives a value of the type that it works in
type_kept : (operator : BinaryOperator) (ty : IntegerType) → is_comparison operator ≡ false → binary_type operator ty ≡ ty
type_kept Less ty e = cc
type_kept Greater ty e = cc
type_kept LessEqual ty e = cc
type_kept GreaterEqual ty e = cc
type_kept Equal ty e = cc
type_kept NotEqual ty e = cc
type_kept operator ty e = refl

pub update_works : (homes : List Home) (place : Place) (operator : BinaryOperator) (ty : IntegerType) (e : Expression) (old mid found read made last new : OpenBlock) (t : Target) (a b c : Operand) →
    Evaluates homes e old mid b → Places homes place mid found t → read ≡ load_block t found → a ≡ loaded t found → (length found.operations < 2 ^ 32 → length read.operations < 2 ^ 32) →
    made ≡ with_more read (Binary operator ty a b ∷ []) → c ≡ plain (Value (length read.operations) ty) → length made.operations < 2 ^ 32 →
    Stores t c made last → (length made.operations < 2 ^ 32 → length last.operations < 2 ^ 32) → new ≡ record last { steps = suc last.steps } → WorksOnUpdate homes place operator ty e old new
update_works homes place operator ty e old mid found read made last new t a b c first at is_read is_loaded few_read is_made is_value few_made st few stepped = record {
  count =
      (let n = first.computes.count in let p = place_count homes place mid found t at in let r = load_count t found read is_read in
      let m = ap (λ (z : OpenBlock). length z.operations) is_made ∙ length-append read.operations (Binary operator ty a b ∷ []) in
      let s = store_count t c made last st in let l = stepped_count last new stepped in omega (arith, n, p, r, m, s, l));
  typed = λ S fits is open_.
      let i = first.computes.typed S fits is.operand open_ in
      let p = place_typed homes place mid found t at S fits is.target i.block in
      let left = load_typed S.types t found read a is_read is_loaded few_read p.target p.block in
      let right : IsTypedOperand S.types read.operations b = operand_on S.types mid read (grows_on mid found read (place_grows homes place mid found t at) loads) b i.operand in
      let value = computed_last S.types read made (Binary operator ty a b) ty c is_made few_made is_value (type_kept operator ty is.compound) left.block (left.operand, right) in
      stepped_typed S.types last new stepped
      (store_typed S.types t c made last st few
      (target_on S.types found made (grows_on found read made loads (grows_by read made (Binary operator ty a b ∷ []) is_made)) t p.target) value.operand value.block);
}
  where
    loads : Grows found read
    loads = grows_by found read (load_operations t) (is_read ∙ load_added t found)

-- Values of a printf.

pub value_works : (homes : List Home) (n : ℕ) (ty : IntegerType) (e : Expression) (old mid new : OpenBlock) (a b w : Operand) →
    Evaluates homes e old mid a → IsConverted ty a b → IsConverted long_int b w → new.current ≡ slice_set mid.current n (Some w) → new.operations ≡ mid.operations → WorksOnValue homes n e old new
value_works homes n ty e old mid new a b w first one two current same = record {
  count = (let c = first.computes.count in let l = ap length same in omega (arith, c, l));
  typed = λ S fits is open_.
      let i = first.computes.typed S fits is.0 open_ in
      variable_stored S.types n long_int w mid new same current is.1
      (operand_converted S.types long_int mid.operations b w two (operand_converted S.types ty mid.operations a b one i.operand)) two.type i.block;
}

pub values_done : (homes : List Home) (n : ℕ) (es : List Expression) (b : OpenBlock) → WorksOnValues homes n es b b
values_done homes n es b = record { count = omega arith; typed = λ S fits is open_. open_ }

pub values_works : (homes : List Home) (n next : ℕ) (trees others : List ExpressionTree) (e : ExpressionTree) (old mid new : OpenBlock) →
    1 ≤ length trees → e ≡ get_or trees 0 e → others ≡ take (length trees - 1) (drop 1 trees) → next ≡ n →
    WorksOnValue homes n (expression_of e) old mid → WorksOnValues homes (next + 1) (expressions_of others) mid new → WorksOnValues homes n (expressions_of trees) old new
values_works homes n next [] others e old mid new some front others_are same one two = absurd (omega arith)
values_works homes n next (x ∷ xs) others e old mid new some front others_are same one two =
    let first : WorksOnValue homes n (expression_of x) old mid = subst (λ z. WorksOnValue homes n (expression_of z) old mid) front one in
    let number : next + 1 ≡ suc n = omega arith in
    let second : WorksOnValues homes (suc n) (expressions_of xs) mid new =
    subst (λ k. WorksOnValues homes k (expressions_of xs) mid new) number (subst (λ l. WorksOnValues homes (next + 1) (expressions_of l) mid new) (others_are ∙ rest_is x xs) two) in
    record {
      count =
          (let c = first.count in let d = second.count in
          let s = sum_by-cons expression_weight (expression_of x) (expressions_of xs) in omega (arith, c, d, s));
      typed = λ S fits is open_.
          second.typed S fits (is.0.1, λ j lt. subst (λ k. slice_get S.types.variables k ≡ Some long_int) (let k : n + suc j ≡ suc n + j = omega arith in k) (is.1 (suc j) (omega arith)))
          (first.typed S fits (is.0.0, subst (λ k. slice_get S.types.variables k ≡ Some long_int) (let k : n + 0 ≡ n = omega arith in k) (is.1 0 (omega arith))) open_);
    }
