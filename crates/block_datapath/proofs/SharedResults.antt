-- Results of shared units: each stands in one of the lists, and works at the type of its operation.
use Rattle.std.proofs.Common.{◌≡◌, ℕ, suc, Bool, true, false, if◌then◌else◌, List, [], ◌∷◌, slice_get, Some, None, refl, ap, sym, ◌∙◌}
use Rattle.hls_ints.specs.Types.{IntegerType, width_of}
use Rattle.c_program.specs.declared.tree.BinaryOperator.{BinaryOperator}
use Rattle.c_program.specs.declared.tree.BinaryOperator.TheVariants.{Multiply, Divide, Remainder}
use Rattle.operator_wires.specs.Shown.{binary_result}
use Rattle.planned_block.proofs.Bits.{both_true, is_same}
use Rattle.block_datapath.specs.declared.registers.UnitResults.{UnitResults}
use Rattle.block_ir.specs.declared.operand.Operand.{Operand}
use Rattle.block_datapath.specs.Units.{same_operator, same_type, unit_type, is_for, unit_place, has_constant, shared_place}

-- what has units gives values of the type at which it works
gives_own : (a b : BinaryOperator) (ty : IntegerType) → same_operator a b ≡ true → binary_result b ty ≡ ty
gives_own Multiply Multiply ty e = refl
gives_own Divide Divide ty e = refl
gives_own Remainder Remainder ty e = refl
gives_own a b ty e = absurd cc

-- and its units are as wide
width_own : (operator : BinaryOperator) (ty : IntegerType) → width_of (unit_type operator ty) ≡ width_of ty
width_own Multiply ty = refl
width_own operator ty = refl

-- THE LIST in which the result of a unit stands
pub record IsListed (us : List UnitResults) (operator : BinaryOperator) (ty : IntegerType) (n place : ℕ) : Type 0 where
  pub number : ℕ
  pub results : UnitResults
  pub listed : slice_get us number ≡ Some results
  pub stands : slice_get results.places n ≡ Some place
  pub serves : is_for operator ty results ≡ true

pub listed_at : (us : List UnitResults) (operator : BinaryOperator) (ty : IntegerType) (n place : ℕ) → unit_place us operator ty n ≡ Some place → IsListed us operator ty n place
listed_at [] operator ty n place e = absurd cc
listed_at (u ∷ us) operator ty n place e = by_test (listed_at us operator ty n place) (is_for operator ty u) refl e
  where
    by_test : (unit_place us operator ty n ≡ Some place → IsListed us operator ty n place) → (t : Bool) → is_for operator ty u ≡ t →
        (if t then slice_get u.places n else unit_place us operator ty n) ≡ Some place → IsListed (u ∷ us) operator ty n place
    by_test later true f e = record { number = 0; results = u; listed = refl; stands = e; serves = f }
    by_test later false f e =
        let t = later e in
        record { number = suc t.number; results = t.results; listed = t.listed; stands = t.stands; serves = t.serves }

module _ (us : List UnitResults) (operator : BinaryOperator) (ty : IntegerType) (n place : ℕ) (e : unit_place us operator ty n ≡ Some place) where
  -- THE TYPE of the result, and the width of its unit
  pub result_own : binary_result operator ty ≡ ty
  result_own =
      let t = listed_at us operator ty n place e in
      gives_own t.results.operator operator ty (both_true (same_operator t.results.operator operator) (same_type t.results.ty (unit_type operator ty)) t.serves).0

  pub wide_as : (t : IsListed us operator ty n place) → width_of t.results.ty ≡ width_of ty
  wide_as t =
      let same = (both_true (same_operator t.results.operator operator) (same_type t.results.ty (unit_type operator ty)) t.serves).1 in
      is_same (width_of t.results.ty) (width_of (unit_type operator ty)) (both_true _ _ same).0 ∙ width_own operator ty

-- WHAT IS SHARED: where an operation shares a unit, its operands are no constants, and its result stands there
pub shared_at : (us : List UnitResults) (operator : BinaryOperator) (ty : IntegerType) (a b : Operand) (n place : ℕ) → shared_place us operator ty a b n ≡ Some place →
    (has_constant a b ≡ false) × (unit_place us operator ty n ≡ Some place)
shared_at us operator ty a b n place e = by_test (has_constant a b) refl
  where
    by_test : (t : Bool) → has_constant a b ≡ t → (has_constant a b ≡ false) × (unit_place us operator ty n ≡ Some place)
    by_test true f =
        absurd (let none : None ≡ Some place = sym (ap (λ (t : Bool). if t then None else unit_place us operator ty n) f) ∙ e in cc)
    by_test false f = (f, sym (ap (λ (t : Bool). if t then None else unit_place us operator ty n) f) ∙ e)
