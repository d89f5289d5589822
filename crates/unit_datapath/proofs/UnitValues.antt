-- What units of an operator and a type show is what an operation of their kind gives.
use Rattle.std.proofs.Common.{◌≡◌, ℕ, Bool, true, not, ℤ, refl, sym, ap, subst, ◌∙◌}
use Rattle.std.specs.Prelude.{◌*ℤ◌}
use Rattle.std.proofs.lemmas.Bool.{and_from, and_parts}
use Rattle.hls_ints.specs.Residues.{residue_of}
use Rattle.hls_ints.specs.Types.{IntegerType, Width, bits, bits_8, bits_16, bits_32, bits_64, width_at, width_of, wrapped}
use Rattle.hls_ints.specs.Words.{word_product}
use Rattle.hls_ints.proofs.Conversions.{residue_of-wrapped, wrapped-range, wrapped-same}
use Rattle.c_program.specs.declared.tree.BinaryOperator.{BinaryOperator}
use Rattle.c_program.specs.declared.tree.BinaryOperator.TheVariants as operator
use Rattle.block_ir.specs.Arithmetic.{binary_at, binary_total}
use Rattle.operator_words.specs.Shown.{binary_result}
use Rattle.operator_words.proofs.Residues.{product_is}
use Rattle.netlist.specs.declared.netlist.Module.{Module}
use Rattle.verilog_meaning.specs.Readings.{Reading}
use Rattle.operator_wires.specs.Words.{IsWord}
use Rattle.block_datapath.specs.Units.{unit_type, same_operator, same_type, word_at}
use Rattle.unit_datapath.specs.declared.kinds.UnitKind.{UnitKind}
use Rattle.unit_datapath.specs.Kinds.{is_of}
use Rattle.unit_datapath.proofs.UnitKinds.{same_width, same_sign}

-- ---- types and operators that are the same

width_back : (w : Width) → width_at (bits w) ≡ w
width_back bits_8 = refl
width_back bits_16 = refl
width_back bits_32 = refl
width_back bits_64 = refl

pub one_width : (v w : Width) → bits v ≡ bits w → v ≡ w
one_width v w e = sym (width_back v) ∙ ap width_at e ∙ width_back w

pub type_is : (s t : IntegerType) → same_type s t ≡ true → s ≡ t
type_is s t e =
    ap (λ (w : Width). record { width = w; signed = s.signed }) (one_width s.width t.width (same_width s t e))
    ∙ ap (λ (b : Bool). record { width = t.width; signed = b }) (same_sign s t e)

pub operator_is : (a b : BinaryOperator) → same_operator a b ≡ true → a ≡ b
operator_is operator.Multiply operator.Multiply e = refl
operator_is operator.Multiply operator.Divide e = absurd cc
operator_is operator.Multiply operator.Remainder e = absurd cc
operator_is operator.Multiply operator.Add e = absurd cc
operator_is operator.Multiply operator.Subtract e = absurd cc
operator_is operator.Multiply operator.ShiftLeft e = absurd cc
operator_is operator.Multiply operator.ShiftRight e = absurd cc
operator_is operator.Multiply operator.Less e = absurd cc
operator_is operator.Multiply operator.Greater e = absurd cc
operator_is operator.Multiply operator.LessEqual e = absurd cc
operator_is operator.Multiply operator.GreaterEqual e = absurd cc
operator_is operator.Multiply operator.Equal e = absurd cc
operator_is operator.Multiply operator.NotEqual e = absurd cc
operator_is operator.Multiply operator.And e = absurd cc
operator_is operator.Multiply operator.ExclusiveOr e = absurd cc
operator_is operator.Multiply operator.InclusiveOr e = absurd cc
operator_is operator.Divide operator.Multiply e = absurd cc
operator_is operator.Divide operator.Divide e = refl
operator_is operator.Divide operator.Remainder e = absurd cc
operator_is operator.Divide operator.Add e = absurd cc
operator_is operator.Divide operator.Subtract e = absurd cc
operator_is operator.Divide operator.ShiftLeft e = absurd cc
operator_is operator.Divide operator.ShiftRight e = absurd cc
operator_is operator.Divide operator.Less e = absurd cc
operator_is operator.Divide operator.Greater e = absurd cc
operator_is operator.Divide operator.LessEqual e = absurd cc
operator_is operator.Divide operator.GreaterEqual e = absurd cc
operator_is operator.Divide operator.Equal e = absurd cc
operator_is operator.Divide operator.NotEqual e = absurd cc
operator_is operator.Divide operator.And e = absurd cc
operator_is operator.Divide operator.ExclusiveOr e = absurd cc
operator_is operator.Divide operator.InclusiveOr e = absurd cc
operator_is operator.Remainder operator.Multiply e = absurd cc
operator_is operator.Remainder operator.Divide e = absurd cc
operator_is operator.Remainder operator.Remainder e = refl
operator_is operator.Remainder operator.Add e = absurd cc
operator_is operator.Remainder operator.Subtract e = absurd cc
operator_is operator.Remainder operator.ShiftLeft e = absurd cc
operator_is operator.Remainder operator.ShiftRight e = absurd cc
operator_is operator.Remainder operator.Less e = absurd cc
operator_is operator.Remainder operator.Greater e = absurd cc
operator_is operator.Remainder operator.LessEqual e = absurd cc
operator_is operator.Remainder operator.GreaterEqual e = absurd cc
operator_is operator.Remainder operator.Equal e = absurd cc
operator_is operator.Remainder operator.NotEqual e = absurd cc
operator_is operator.Remainder operator.And e = absurd cc
operator_is operator.Remainder operator.ExclusiveOr e = absurd cc
operator_is operator.Remainder operator.InclusiveOr e = absurd cc
operator_is operator.Add b e = absurd cc
operator_is operator.Subtract b e = absurd cc
operator_is operator.ShiftLeft b e = absurd cc
operator_is operator.ShiftRight b e = absurd cc
operator_is operator.Less b e = absurd cc
operator_is operator.Greater b e = absurd cc
operator_is operator.LessEqual b e = absurd cc
operator_is operator.GreaterEqual b e = absurd cc
operator_is operator.Equal b e = absurd cc
operator_is operator.NotEqual b e = absurd cc
operator_is operator.And b e = absurd cc
operator_is operator.ExclusiveOr b e = absurd cc
operator_is operator.InclusiveOr b e = absurd cc

-- ---- kinds

-- the operations that units of an operator of a kind make are of the kind
pub made_of_kind : (kind : UnitKind) (o : BinaryOperator) (ty : IntegerType) → same_operator o o ≡ true → is_of kind o kind.ty ≡ true → same_type kind.ty (unit_type o ty) ≡ true →
    is_of kind o ty ≡ true
made_of_kind kind operator.Multiply ty s k e = and_from (not kind.divides) (same_type kind.ty (unit_type operator.Multiply ty))
    (and_parts (not kind.divides) (same_type kind.ty (unit_type operator.Multiply kind.ty)) k).0 e
made_of_kind kind operator.Divide ty s k e = and_from kind.divides (same_type kind.ty ty) (and_parts kind.divides (same_type kind.ty kind.ty) k).0 e
made_of_kind kind operator.Remainder ty s k e = and_from kind.divides (same_type kind.ty ty) (and_parts kind.divides (same_type kind.ty kind.ty) k).0 e
made_of_kind kind operator.Add ty s k e = absurd cc
made_of_kind kind operator.Subtract ty s k e = absurd cc
made_of_kind kind operator.ShiftLeft ty s k e = absurd cc
made_of_kind kind operator.ShiftRight ty s k e = absurd cc
made_of_kind kind operator.Less ty s k e = absurd cc
made_of_kind kind operator.Greater ty s k e = absurd cc
made_of_kind kind operator.LessEqual ty s k e = absurd cc
made_of_kind kind operator.GreaterEqual ty s k e = absurd cc
made_of_kind kind operator.Equal ty s k e = absurd cc
made_of_kind kind operator.NotEqual ty s k e = absurd cc
made_of_kind kind operator.And ty s k e = absurd cc
made_of_kind kind operator.ExclusiveOr ty s k e = absurd cc
made_of_kind kind operator.InclusiveOr ty s k e = absurd cc

pub kind_result : (kind : UnitKind) (o : BinaryOperator) → is_of kind o kind.ty ≡ true → binary_result o kind.ty ≡ kind.ty
kind_result kind operator.Multiply e = refl
kind_result kind operator.Divide e = refl
kind_result kind operator.Remainder e = refl
kind_result kind operator.Add e = absurd cc
kind_result kind operator.Subtract e = absurd cc
kind_result kind operator.ShiftLeft e = absurd cc
kind_result kind operator.ShiftRight e = absurd cc
kind_result kind operator.Less e = absurd cc
kind_result kind operator.Greater e = absurd cc
kind_result kind operator.LessEqual e = absurd cc
kind_result kind operator.GreaterEqual e = absurd cc
kind_result kind operator.Equal e = absurd cc
kind_result kind operator.NotEqual e = absurd cc
kind_result kind operator.And e = absurd cc
kind_result kind operator.ExclusiveOr e = absurd cc
kind_result kind operator.InclusiveOr e = absurd cc

-- ---- values

-- a conversion to a type twice
pub twice : (ty : IntegerType) (a : ℤ) → wrapped ty (wrapped ty a) ≡ wrapped ty a
twice ty a = wrapped-same ty (wrapped ty a) (wrapped-range ty a)

-- a product modulo 2 to the width is that of the factors modulo it
product_residue : (W : Width) (a b v w : ℤ) → residue_of (bits W) a ≡ residue_of (bits W) v → residue_of (bits W) b ≡ residue_of (bits W) w →
    residue_of (bits W) (a *ℤ b) ≡ residue_of (bits W) (v *ℤ w)
product_residue W a b v w e f =
    sym (product_is W a b)
    ∙ ap (λ (n : ℕ). word_product (bits W) n (residue_of (bits W) b)) e
    ∙ ap (word_product (bits W) (residue_of (bits W) v)) f
    ∙ product_is W v w

module _ (m : Module) (r : Reading) (place : ℕ) (ty : IntegerType) (a b : ℤ) where
  -- a unit's word, where it works in the type of units
  abbrev pub unit_word_is : BinaryOperator → Type 0
  unit_word_is o =
      IsWord m r (word_at place (binary_result o (unit_type o ty))) (binary_result o (unit_type o ty))
      (binary_total o (unit_type o ty) (wrapped (unit_type o ty) a) (wrapped (unit_type o ty) b))

  product_word : unit_word_is operator.Multiply → IsWord m r (word_at place ty) ty (binary_total operator.Multiply ty a b)
  product_word t =
      let u : IntegerType = unit_type operator.Multiply ty in
      let same : (v : ℤ) → residue_of (width_of ty) (wrapped u (wrapped u v)) ≡ residue_of (width_of ty) (wrapped ty v) =
      λ v. residue_of-wrapped u (wrapped u v) ∙ residue_of-wrapped u v ∙ sym (residue_of-wrapped ty v) in
      record {
        says = refl;
        sign = refl;
        wide = t.wide;
        shows = t.shows ∙ residue_of-wrapped u (wrapped u (wrapped u a) *ℤ wrapped u (wrapped u b))
            ∙ product_residue ty.width (wrapped u (wrapped u a)) (wrapped u (wrapped u b)) (wrapped ty a) (wrapped ty b) (same a) (same b)
            ∙ sym (residue_of-wrapped ty (wrapped ty a *ℤ wrapped ty b));
        typed = wrapped-range ty (wrapped ty a *ℤ wrapped ty b);
      }

  own_word : (value : ℤ → ℤ → ℤ) → IsWord m r (word_at place ty) ty (value (wrapped ty (wrapped ty a)) (wrapped ty (wrapped ty b))) →
      IsWord m r (word_at place ty) ty (value (wrapped ty a) (wrapped ty b))
  own_word value t =
      subst (λ (z : ℤ). IsWord m r (word_at place ty) ty (value (wrapped ty a) z)) (twice ty b)
      (subst (λ (z : ℤ). IsWord m r (word_at place ty) ty (value z (wrapped ty (wrapped ty b)))) (twice ty a) t)

  pub unit_value : (o : BinaryOperator) → same_operator o o ≡ true → unit_word_is o → IsWord m r (word_at place ty) ty (binary_total o ty a b)
  unit_value operator.Multiply s t = product_word t
  unit_value operator.Divide s t = own_word (binary_at operator.Divide ty) t
  unit_value operator.Remainder s t = own_word (binary_at operator.Remainder ty) t
  unit_value operator.Add s t = absurd cc
  unit_value operator.Subtract s t = absurd cc
  unit_value operator.ShiftLeft s t = absurd cc
  unit_value operator.ShiftRight s t = absurd cc
  unit_value operator.Less s t = absurd cc
  unit_value operator.Greater s t = absurd cc
  unit_value operator.LessEqual s t = absurd cc
  unit_value operator.GreaterEqual s t = absurd cc
  unit_value operator.Equal s t = absurd cc
  unit_value operator.NotEqual s t = absurd cc
  unit_value operator.And s t = absurd cc
  unit_value operator.ExclusiveOr s t = absurd cc
  unit_value operator.InclusiveOr s t = absurd cc
