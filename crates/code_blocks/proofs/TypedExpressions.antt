-- Operations of expressions are typed.
use Rattle.std.proofs.Common.{◌≡◌, ℕ, ◌+◌, ◌^◌, ◌<◌, ◌≤◌, List, [], ◌∷◌, ◌++◌, length, ℤ, pos, Option, Some, None, refl, sym, ap, ◌∙◌, subst, arith, append-nil}
use Rattle.std.proofs.Common.{append_assoc, length-append}
use Rattle.std.specs.Prelude.{slice_get}
use Rattle.std.proofs.lemmas.Option.{slice_get_within}
use Rattle.lists.proofs.Places.{get_last, get_front, get_mapped}
use Rattle.hls_ints.specs.Types.{IntegerType, int_type}
use Rattle.c_program.specs.declared.tree.LocalVariable.{LocalVariable}
use Rattle.c_program.specs.declared.tree.Storage.{Storage}
use Rattle.c_program.specs.declared.tree.Storage.TheVariants.{Automatic, Static}
use Rattle.c_program.specs.declared.tree.UnaryOperator.{UnaryOperator}
use Rattle.c_program.specs.declared.tree.BinaryOperator.{BinaryOperator}
use Rattle.c_program.specs.Tree.{Expression, GlobalVariable}
use Rattle.c_program.specs.Types.{type_of, unary_type, binary_type}
use Rattle.c_program.specs.Weight.{expression_weight}
use Rattle.c_program.specs.Resolved.{global_object, IsObject, IsExpression}
use Rattle.block_ir.specs.declared.operand.Source.{Source}
use Rattle.block_ir.specs.declared.operand.Source.TheVariants.{Constant, Variable, Value}
use Rattle.block_ir.specs.declared.operand.Operand.{Operand}
use Rattle.block_ir.specs.declared.block.Operation.{Operation}
use Rattle.block_ir.specs.declared.block.Operation.TheVariants.{Unary, Binary, ReadGlobal, ReadArray}
use Rattle.code_blocks.specs.declared.homes.Home.{Home}
use Rattle.code_blocks.specs.declared.homes.Home.TheVariants as home
use Rattle.code_blocks.specs.declared.places.Target.{Target}
use Rattle.code_blocks.specs.declared.places.Target.TheVariants as target
use Rattle.code_blocks.specs.declared.open_block.OpenBlock.{OpenBlock}
use Rattle.code_blocks.specs.Needs.{plain, IsConverted}
use Rattle.code_blocks.specs.Evaluating.{current_operand, local_target, target_at, load_block, loaded, with_more}
use Rattle.code_following.specs.Typed.{Types, operand_type, type_there, element_there, IsArray, value_type, IsTypedSource, IsTypedOperand, IsTypedOperation, AreTyped}
use Rattle.code_blocks.specs.Typing.{Typing, IsTypedHome, Fits, IsTypedOpen, IsComputed, Computes}

module _ (T : Types) where
  pub source_more : (before more : List Operation) (s : Source) → IsTypedSource T before s → IsTypedSource T (before ++ more) s
  source_more before more (Constant ty v) h = h
  source_more before more (Variable x ty) h = h
  source_more before more (Value k ty) h = (h.0, get_front before more k h.0 h.1, h.2)

  pub operand_more : (before more : List Operation) (o : Operand) → IsTypedOperand T before o → IsTypedOperand T (before ++ more) o
  operand_more before more o h = source_more before more o.source h

  -- the same of an operand that stands for the other, converted
  pub operand_converted : (ty : IntegerType) (before : List Operation) (a b : Operand) → IsConverted ty a b → IsTypedOperand T before a → IsTypedOperand T before b
  operand_converted ty before a b c h = subst (IsTypedSource T before) (sym c.source) h

  typed_last : (before os : List Operation) (o : Operation) → AreTyped T before os → IsTypedOperation T (before ++ os) o → AreTyped T before (os ++ o ∷ [])
  typed_last before [] o h t = (subst (λ l. IsTypedOperation T l o) (append-nil before) t, tt)
  typed_last before (p ∷ os) o h t =
      (h.0, typed_last (before ++ p ∷ []) os o h.1 (subst (λ l. IsTypedOperation T l o) (sym (append_assoc before (p ∷ []) os)) t))

  -- one more operation
  pub open_more : (b new : OpenBlock) (o : Operation) → new ≡ with_more b (o ∷ []) → length new.operations < 2 ^ 32 → IsTypedOpen T b → IsTypedOperation T b.operations o → IsTypedOpen T new
  open_more b new o added few open_ typed = record {
    operations = subst (AreTyped T []) (sym os) (typed_last [] b.operations o open_.operations typed);
    few = few;
    current = λ x a e.
        let h = open_.current x a (ap (λ (z : OpenBlock). slice_get z.current x) (sym added) ∙ e) in
        (subst (λ l. IsTypedOperand T l a) (sym os) (operand_more b.operations (o ∷ []) a h.0), h.1);
  }
    where
      os : new.operations ≡ b.operations ++ o ∷ []
      os = ap (λ (z : OpenBlock). z.operations) added

  -- and its value
  pub value_last : (b new : OpenBlock) (o : Operation) (ty : IntegerType) → new ≡ with_more b (o ∷ []) → value_type T o ≡ ty → IsTypedOperand T new.operations (plain (Value (length b.operations) ty))
  value_last b new o ty added is =
      (o, ap (λ (z : OpenBlock). slice_get z.operations (length b.operations)) added ∙ get_last b.operations o, is)

  pub computed_last : (b new : OpenBlock) (o : Operation) (ty : IntegerType) (a : Operand) → new ≡ with_more b (o ∷ []) → length new.operations < 2 ^ 32 → a ≡ plain (Value (length b.operations) ty) →
      value_type T o ≡ ty → IsTypedOpen T b → IsTypedOperation T b.operations o → IsComputed T new a ty
  computed_last b new o ty a added few place is open_ typed =
      subst (λ z. IsComputed T new z ty) (sym place) (record {
        block = open_more b new o added few open_ typed;
        operand = value_last b new o ty added is;
        type = refl;
      })

-- What is read.

abbrev pub target_type : Target → IntegerType
target_type (target.Variable n ty) = ty
target_type (target.Array a n ty index) = ty
target_type (target.Global g n ty index) = ty

abbrev pub IsTypedTarget : Types → List Operation → Target → Type 0
IsTypedTarget T before (target.Variable n ty) = slice_get T.variables n ≡ Some ty
IsTypedTarget T before (target.Array a n ty index) = IsTypedOperand T before index × IsArray T a n ty
IsTypedTarget T before (target.Global g n ty index) = IsTypedOperand T before index × (slice_get T.globals g ≡ Some ty) × (slice_get T.lengths g ≡ Some n)

pub target_more : (T : Types) (before more : List Operation) (t : Target) → IsTypedTarget T before t → IsTypedTarget T (before ++ more) t
target_more T before more (target.Variable n ty) h = h
target_more T before more (target.Array a n ty index) h = (operand_more T before more index h.0, h.1)
target_more T before more (target.Global g n ty index) h = (operand_more T before more index h.0, h.1, h.2)

module _ (S : Typing) (homes : List Home) (fits : Fits S homes) (before : List Operation) (x length_ : ℕ) (ty : IntegerType) (index : Operand)
    (typed : IsTypedOperand S.types before index) where
  local_typed : (o : Option Home) → IsTypedHome S.types (record { ty = ty; length = length_ }) o →
      IsTypedTarget S.types before (local_target o x length_ ty index) × (target_type (local_target o x length_ ty index) ≡ ty)
  local_typed (Some (home.Variable n)) h = (h, refl)
  local_typed (Some (home.Array a)) h = ((typed, h), refl)
  local_typed None h = absurd h

  global_typed : (o : Option GlobalVariable) → slice_get S.program.globals x ≡ o → global_object o ≡ Some (record { ty = ty; length = length_ }) →
      (slice_get S.types.globals x ≡ Some ty) × (slice_get S.types.lengths x ≡ Some length_)
  global_typed None e is = cc
  global_typed (Some g) e is =
      let same : record { ty = g.ty; length = g.length } ≡ record { ty = ty; length = length_ } = cc in (
        ap (λ l. slice_get l x) fits.globals ∙ get_mapped (λ (z : GlobalVariable). z.ty) S.program.globals x g e ∙ ap Some (ap (λ (l : LocalVariable). l.ty) same),
        ap (λ l. slice_get l x) fits.lengths ∙ get_mapped (λ (z : GlobalVariable). z.length) S.program.globals x g e ∙ ap Some (ap (λ (l : LocalVariable). l.length) same),
      )

  -- a declared object
  pub target_typed : (storage : Storage) → IsObject S.program S.function storage x length_ ty →
      IsTypedTarget S.types before (target_at homes storage x length_ ty index) × (target_type (target_at homes storage x length_ ty index) ≡ ty)
  target_typed Automatic is = local_typed (slice_get homes x) (fits.locals x (record { ty = ty; length = length_ }) is)
  target_typed Static is = let g = global_typed (slice_get S.program.globals x) refl is in ((typed, g.0, g.1), refl)

module _ (T : Types) where
  there : (types : List IntegerType) (x : ℕ) (ty : IntegerType) → slice_get types x ≡ Some ty → (x < length types) × (type_there (slice_get types x) ≡ ty)
  there types x ty e = (slice_get_within types x ty e, ap type_there e)

  held : (b : OpenBlock) (n : ℕ) (ty : IntegerType) (o : Option (Option Operand)) → slice_get b.current n ≡ o → slice_get T.variables n ≡ Some ty → IsTypedOpen T b →
      IsComputed T b (current_operand o n ty) ty
  held b n ty (Some (Some a)) e at open_ =
      let h = open_.current n a e in
      record { block = open_; operand = h.0; type = (let same : Some (operand_type a) ≡ Some ty = sym h.1 ∙ at in cc) }
  held b n ty (Some None) e at open_ = record { block = open_; operand = at; type = refl }
  held b n ty None e at open_ = record { block = open_; operand = at; type = refl }

  pub load_typed : (t : Target) (b new : OpenBlock) (a : Operand) → new ≡ load_block t b → a ≡ loaded t b → (length b.operations < 2 ^ 32 → length new.operations < 2 ^ 32) →
      IsTypedTarget T b.operations t → IsTypedOpen T b → IsComputed T new a (target_type t)
  load_typed (target.Variable n ty) b new a is place few at open_ = rw (is, place) (held b n ty (slice_get b.current n) refl at open_)
  load_typed (target.Array x n ty index) b new a is place few at open_ =
      computed_last T b new (ReadArray x n index) ty a is (few open_.few) place (ap element_there at.1) open_ (at.0, (ty, at.1))
  load_typed (target.Global x n ty index) b new a is place few at open_ =
      let h = there T.globals x ty at.1 in
      computed_last T b new (ReadGlobal x n index) ty a is (few open_.few) place h.1 open_ (at.0, h.0, at.2)

pub load_count : (t : Target) (b new : OpenBlock) → new ≡ load_block t b → length new.operations ≤ length b.operations + 1
load_count (target.Variable n ty) b new is = let e = ap (λ (z : OpenBlock). length z.operations) is in omega arith
load_count (target.Array x n ty index) b new is = let e = ap (λ (z : OpenBlock). length z.operations) is ∙ length-append b.operations (ReadArray x n index ∷ []) in omega arith
load_count (target.Global x n ty index) b new is = let e = ap (λ (z : OpenBlock). length z.operations) is ∙ length-append b.operations (ReadGlobal x n index ∷ []) in omega arith

-- Expressions.

pub constant_computes : (homes : List Home) (ty : IntegerType) (n : ℤ) (b : OpenBlock) → Computes homes (Expression.Constant ty n) b b (plain (Constant ty n))
constant_computes homes ty n b = record {
  count = omega arith;
  typed = λ S fits is open_. record { block = open_; operand = is; type = refl };
}

pub variable_computes : (homes : List Home) (storage : Storage) (x : ℕ) (ty : IntegerType) (b new : OpenBlock) (index a : Operand) (t : Target) →
    index ≡ plain (Constant int_type (pos 0)) → t ≡ target_at homes storage x 1 ty index → new ≡ load_block t b → a ≡ loaded t b →
    (length b.operations < 2 ^ 32 → length new.operations < 2 ^ 32) → Computes homes (Expression.Variable storage x ty) b new a
variable_computes homes storage x ty b new index a t first at added place few = record {
  count = (let c = load_count t b new added in omega (arith, c));
  typed = λ S fits is open_.
      let zero_ : IsTypedOperand S.types b.operations index = subst (IsTypedOperand S.types b.operations) (sym first) refl in
      let h = target_typed S homes fits b.operations x 1 ty index zero_ storage is in
      subst (IsComputed S.types new a) (ap target_type at ∙ h.1)
      (load_typed S.types t b new a added place few (subst (IsTypedTarget S.types b.operations) (sym at) h.0) open_);
}

pub element_computes : (homes : List Home) (e : Expression) (storage : Storage) (x n : ℕ) (ty : IntegerType) (old mid new : OpenBlock) (index a : Operand) (t : Target) →
    Computes homes e old mid index → t ≡ target_at homes storage x n ty index → new ≡ load_block t mid → a ≡ loaded t mid →
    (length mid.operations < 2 ^ 32 → length new.operations < 2 ^ 32) → Computes homes (Expression.Element storage x n ty e) old new a
element_computes homes e storage x n ty old mid new index a t first at added place few = record {
  count = (let c = load_count t mid new added in let d = first.count in omega (arith, c, d));
  typed = λ S fits is open_.
      let i = first.typed S fits is.1 open_ in
      let h = target_typed S homes fits mid.operations x n ty index i.operand storage is.0 in
      subst (IsComputed S.types new a) (ap target_type at ∙ h.1)
      (load_typed S.types t mid new a added place few (subst (IsTypedTarget S.types mid.operations) (sym at) h.0) i.block);
}

pub unary_computes : (homes : List Home) (e : Expression) (operator : UnaryOperator) (ty ty' : IntegerType) (old mid new : OpenBlock) (a b : Operand) →
    Computes homes e old mid a → new ≡ with_more mid (Unary operator ty a ∷ []) → b ≡ plain (Value (length mid.operations) ty') → ty' ≡ unary_type operator ty → length new.operations < 2 ^ 32 →
    Computes homes (Expression.Unary operator ty e) old new b
unary_computes homes e operator ty ty' old mid new a b first added place is_type few = record {
  count = (let c = ap (λ (z : OpenBlock). length z.operations) added ∙ length-append mid.operations (Unary operator ty a ∷ []) in let d = first.count in omega (arith, c, d));
  typed = λ S fits is open_.
      let i = first.typed S fits is.1 open_ in
      subst (IsComputed S.types new b) is_type (computed_last S.types mid new (Unary operator ty a) ty' b added few place (sym is_type) i.block i.operand);
}

pub converted_computes : (homes : List Home) (e e' : Expression) (ty : IntegerType) (old mid : OpenBlock) (a b : Operand) → expression_weight e ≤ expression_weight e' → type_of e' ≡ ty →
    ((S : Typing) → IsExpression S.program S.function e' → IsExpression S.program S.function e) → Computes homes e old mid a → IsConverted ty a b → Computes homes e' old mid b
converted_computes homes e e' ty old mid a b light is_type inner first c = record {
  count = (let d = first.count in omega (arith, d, light));
  typed = λ S fits is open_.
      let i = first.typed S fits (inner S is) open_ in
      record { block = i.block; operand = operand_converted S.types ty mid.operations a b c i.operand; type = c.type ∙ sym is_type };
}

pub binary_computes : (homes : List Home) (e f : Expression) (operator : BinaryOperator) (ty ty' : IntegerType) (old mid last new : OpenBlock) (more : List Operation) (a b c : Operand) →
    Computes homes e old mid a → Computes homes f mid last b → last.operations ≡ mid.operations ++ more → new ≡ with_more last (Binary operator ty a b ∷ []) →
    c ≡ plain (Value (length last.operations) ty') → ty' ≡ binary_type operator ty → length new.operations < 2 ^ 32 → Computes homes (Expression.Binary operator ty e f) old new c
binary_computes homes e f operator ty ty' old mid last new more a b c first second longer added place is_type few = record {
  count =
      (let k = ap (λ (z : OpenBlock). length z.operations) added ∙ length-append last.operations (Binary operator ty a b ∷ []) in
      let d = first.count in let g = second.count in omega (arith, k, d, g));
  typed = λ S fits is open_.
      let i = first.typed S fits is.1 open_ in
      let j = second.typed S fits is.2 i.block in
      let left : IsTypedOperand S.types last.operations a = subst (λ l. IsTypedOperand S.types l a) (sym longer) (operand_more S.types mid.operations more a i.operand) in
      subst (IsComputed S.types new c) is_type (computed_last S.types last new (Binary operator ty a b) ty' c added few place (sym is_type) j.block (left, j.operand));
}
