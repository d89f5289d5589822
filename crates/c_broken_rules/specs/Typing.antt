-- The type of an expression, by the declarations that are in sight (C99 6.3.1.8, 6.4.4.1, 6.5). What has no integer type, or breaks a
-- rule where it stands, counts as an int.
use Rattle.std.specs.Prelude.{ℕ, Bool, false, ◌||◌, if◌then◌else◌, fold, is_some, List, [], ◌∷◌, Option, Some, None}
use Rattle.std.specs.List.{list_all}
use Rattle.std.specs.Str.{bytes_eq}
use Rattle.hls_ints.specs.Types.{IntegerType, int_type, promoted, usual_type}
use Rattle.c_token.specs.declared.constant.Constant.{Constant}
use Rattle.c_token.specs.declared.constant.Constant.TheVariants as constant
use Rattle.c_tree.specs.declared.expression.UnaryOperator.{UnaryOperator}
use Rattle.c_tree.specs.declared.expression.UnaryOperator.TheVariants as unary
use Rattle.c_tree.specs.declared.expression.BinaryOperator.{BinaryOperator}
use Rattle.c_tree.specs.declared.expression.BinaryOperator.TheVariants as binary
use Rattle.c_tree.specs.declared.expression.Name.{Name}
use Rattle.c_tree.specs.declared.expression.Specifiers.{Specifiers}
use Rattle.c_tree.specs.declared.expression.Expression.{Expression}
use Rattle.c_tree.specs.declared.expression.Argument.TheOpen.{Argument-F, Form-F, Call-F, Choice-F, Expression-F, Place-F, Pointer-F, Term-F}
use Rattle.c_tree.specs.declared.expression.Argument.TheFolds.{fold-Expression}
use Rattle.c_tree.specs.declared.declaration.Function.{Function}
use Rattle.c_rules.specs.declared.specifiers.BaseType.{BaseType}
use Rattle.c_rules.specs.declared.specifiers.BaseType.TheVariants as base
use Rattle.c_rules.specs.declared.specifiers.BasicType.{BasicType}
use Rattle.c_rules.specs.Constants.{constant_type}
use Rattle.c_rules.specs.Library.{function_named}
use Rattle.c_rules.specs.Specifiers.{base_of, c_type, plain_integer}
use Rattle.c_expressions.specs.Expressions.{is_short_circuit}
use Rattle.c_broken_rules.specs.Sight.{Declared, Where, declaration_in}

abbrev pub Nothing : Type 0
Nothing = Unit {0}

abbrev pub type_of_base : BaseType → IntegerType
type_of_base (base.Integer ty) = c_type ty
type_of_base other = int_type

-- of an object at file scope, or what a function returns
abbrev pub type_of_words : Specifiers → IntegerType
type_of_words s = type_of_base (base_of s.words)

abbrev pub type_of_plain : Option BasicType → IntegerType
type_of_plain (Some ty) = c_type ty
type_of_plain None = int_type

-- of a cast, a variable of a block or a parameter
abbrev pub plain_type : Specifiers → IntegerType
plain_type s = type_of_plain (plain_integer s)

abbrev pub type_of_constant : Constant → IntegerType
type_of_constant (constant.Typed value ty) = constant_type ty
type_of_constant constant.TooLarge = int_type

-- the type of an object
abbrev pub type_of_object : Option Declared → IntegerType
type_of_object None = int_type
type_of_object (Some (Declared.OfFunction f)) = int_type
type_of_object (Some (Declared.OfObject words pointer d)) = if pointer then int_type else type_of_words words
type_of_object (Some (Declared.OfParameter p)) = if p.is_pointer then int_type else plain_type p.specifiers
type_of_object (Some (Declared.OfVariable words d)) = plain_type words

-- whether a function of the name is among those that are defined
abbrev pub is_defined : List Function → List ℕ → Bool
is_defined [] name = false
is_defined (f ∷ more) name = bytes_eq name f.name.bytes || is_defined more name

-- the type that a function returns, where it is defined
abbrev pub type_of_function : List Function → Option Declared → IntegerType
type_of_function defined (Some (Declared.OfFunction f)) = if is_defined defined f.name.bytes then type_of_words f.specifiers else int_type
type_of_function defined other = int_type

-- ! is an int; the others have the promoted type of their operand (6.5.3.3)
abbrev pub unary_type : UnaryOperator → IntegerType → IntegerType
unary_type unary.Not ty = int_type
unary_type operator ty = promoted ty

-- comparisons and short circuits are an int, a shift has the promoted type of its left operand (6.5.5 to 6.5.14)
abbrev pub binary_type : BinaryOperator → IntegerType → IntegerType → IntegerType
binary_type binary.LogicalOr left right = int_type
binary_type binary.LogicalAnd left right = int_type
binary_type binary.Equal left right = int_type
binary_type binary.NotEqual left right = int_type
binary_type binary.Less left right = int_type
binary_type binary.Greater left right = int_type
binary_type binary.LessEqual left right = int_type
binary_type binary.GreaterEqual left right = int_type
binary_type binary.ShiftLeft left right = promoted left
binary_type binary.ShiftRight left right = promoted left
binary_type operator left right = usual_type left right

-- an operator with the type of its right operand
pub record Typed : Type 0 where
  pub operator : BinaryOperator
  pub type : IntegerType

-- where those functions are defined in the text
module _ (defined : List Function) (w : Where) where
  abbrev pub Layer : (Type 0 → Type 0 → Type 0 → Type 0 → Type 0 → Type 0 → Type 0 → Type 0 → Type 0) → Type 0
  Layer F = F Nothing IntegerType Name IntegerType IntegerType Name Nothing Typed

  -- what is in sight under a name, which no declaration of a known function hides
  abbrev pub declared_as : Name → Option Declared
  declared_as name = if is_some (function_named name.bytes) then None else declaration_in w.scopes name.bytes

  -- && and || are an int
  abbrev pub terms_type : IntegerType → List Typed → IntegerType
  terms_type first terms =
      if list_all (λ (t : Typed). is_short_circuit t.operator) terms then int_type
      else fold (λ left (t : Typed). binary_type t.operator left t.type) first terms

  abbrev pub form_type : Layer Form-F → IntegerType
  form_type (Form-F.Constant value at) = type_of_constant value
  form_type (Form-F.Place name) = type_of_object (declared_as name)
  form_type (Form-F.Call name) = type_of_function defined (declared_as name)
  form_type (Form-F.Unary operator ty) = unary_type operator ty
  form_type (Form-F.Cast words ty) = plain_type words
  form_type (Form-F.Binary first terms) = terms_type first terms
  form_type (Form-F.Conditional first choices) = fold usual_type first choices

  abbrev pub expression_type : Expression → IntegerType
  expression_type =
      fold-Expression Nothing IntegerType Name IntegerType IntegerType Name Nothing Typed
      (λ (l : Layer Argument-F). tt)
      form_type
      (λ (l : Layer Call-F). l.name)
      (λ (l : Layer Choice-F). l.otherwise)
      (λ (l : Layer Expression-F). l.form)
      (λ (l : Layer Place-F). l.name)
      (λ (l : Layer Pointer-F). tt)
      (λ (l : Layer Term-F). record { operator = l.operator; type = l.operand })

  -- a switch works at the promoted type of its value (6.8.4.2)
  abbrev pub switch_type : Expression → IntegerType
  switch_type e = promoted (expression_type e)
