-- What the single findings of a walk have to write into a ledger, each by the part that it is about: then the whole walk writes
-- what the parts of the text are (the files behind this one).
use Rattle.std.proofs.Common.{◌≡◌, ℕ, suc, Bool, true, false, List, [], ◌∷◌, length, Option, Some, None}
use Rattle.std.specs.Prelude.{not, nat_le}
use Rattle.c_token.specs.declared.constant.Constant.{Constant}
use Rattle.c_tree.specs.declared.expression.Name.{Name}
use Rattle.c_tree.specs.declared.expression.Argument.{Argument as ArgumentTree}
use Rattle.c_tree.specs.declared.expression.Expression.{Expression as ExpressionTree, out-Expression}
use Rattle.hls_ints.specs.Types.{IntegerType}
use Rattle.c_program.specs.Tree.{Expression}
use Rattle.c_rules.specs.declared.fault.Rule.{Rule}
use Rattle.c_rules.specs.declared.fault.Rule.TheVariants as rule
use Rattle.c_rules.specs.declared.library.LibraryFunction.{LibraryFunction}
use Rattle.c_rules.specs.declared.names.Known.TheVariants as known
use Rattle.c_rules.specs.declared.names.Meaning.TheVariants as meaning
use Rattle.c_rules.specs.declared.names.ObjectKind.{ObjectKind}
use Rattle.c_rules.specs.declared.names.Header.{Header}
use Rattle.c_rules.specs.declared.names.Scope.{Scope}
use Rattle.c_rules.specs.Constants.{constancy}
use Rattle.c_rules.specs.Dimensions.{times}
use Rattle.c_rules.specs.Names.{look_up, is_argument}
use Rattle.c_rules.specs.Walks.{finds, finds_if, finds_any}
use Rattle.c_expressions.specs.Callees as c
use Rattle.c_expressions.specs.Expressions as e
use Rattle.c_expressions.specs.Targets as t
use Rattle.c_calls.specs.Arguments as a
use Rattle.c_calls.specs.Calls as k
use Rattle.c_rules.specs.declared.constants.Constancy.{Constancy}
use Rattle.c_rules.specs.declared.constants.Constancy.TheVariants as is
use Rattle.c_rules.specs.declared.specifiers.BasicType.{BasicType}
use Rattle.c_rules.specs.Specifiers.{plain, spelled_by}
use Rattle.c_tree.specs.declared.expression.Specifiers.{Specifiers}
use Rattle.c_resolution.specs.Locals.{length_from, positive, refused_local}
use Rattle.c_resolution.specs.Globals.{initial_from}
use Rattle.c_broken_rules.specs.Sight.{Where}
use Rattle.c_broken_rules.specs.Parts.{Part, create_parts}
use Rattle.c_broken_rules.proofs.Ledgers.{Ledger, Good}

-- the rules that are no part's by itself: wrong kind, argument count, out of place
abbrev pub IsOther : Rule → Type 0
IsOther rule.Kind = Unit {0}
IsOther rule.Arguments = Unit {0}
IsOther rule.Place = Unit {0}
IsOther r = ⊥

-- the length that an array is given
abbrev pub length_by : Option ℕ → ℕ
length_by None = 1
length_by (Some n) = n

abbrev pub length_given : Constancy → ℕ
length_given (is.Constant x) = length_by (positive x.number)
length_given is.Unknown = 1
length_given is.NotConstant = 1

-- the product of lengths, from the first on
abbrev pub elements_given : ℕ → List ExpressionTree → ℕ
elements_given n [] = n
elements_given n (x ∷ more) = elements_given (times n (length_given (constancy x))) more

-- in a scope with these declarations in sight
pub record Events (L : Ledger) (s : Scope) (w : Where) : Type 0 where
  pub other : (r : Rule) (at : ℕ) → IsOther r → Good L (finds r at) []
  pub constant : (value : Constant) (at : ℕ) → Good L (e.constant value at) (Part.Constant value at ∷ [])
  -- a name with indices, and one without
  pub used : (name : Name) (indices : ℕ) → Good L (finds_any (e.misuse (look_up s name.bytes) (suc indices)) name.offset) (Part.Use w name ∷ [])
  pub read : (name : Name) → Good L (finds_any (e.misuse (look_up s name.bytes) 0) name.offset) (Part.Use w name ∷ Part.Read w name ∷ [])
  -- the same under a cast to a signed 64-bit type
  pub converted : (name : Name) → is_argument (look_up s name.bytes) ≡ false →
      Good L (finds_any (e.misuse (look_up s name.bytes) 0) name.offset) (Part.Use w name ∷ [])
  pub argument : (name : Name) → is_argument (look_up s name.bytes) ≡ true → (x : L.Entry) → L.At (Part.Use w name) x → ⊥
  pub target : (name : Name) (indices : ℕ) → Good L (finds_any (t.target_fault (look_up s name.bytes) indices) name.offset) (Part.Use w name ∷ [])
  pub object : (kind : ObjectKind) (name : Name) (at indices : ℕ) (number : Option Expression) →
      Good L (a.object_named kind (look_up s name.bytes) name.offset at indices number) (Part.Use w name ∷ [])
  pub routine : (name : Name) (h : Header) (at : ℕ) → a.header_of s (look_up s name.bytes) ≡ Some h →
      Good L (a.routine h name.offset at) (Part.Routine w name ∷ Part.Use w name ∷ Part.Read w name ∷ [])
  pub no_routine : (name : Name) → a.header_of s (look_up s name.bytes) ≡ None → (x : L.Entry) → L.At (Part.Routine w name) x → ⊥
  -- names that are called
  pub misplaced : (name : Name) (count : ℕ) → c.number_of (look_up s name.bytes) ≡ None →
      Good L (c.misplaced s (look_up s name.bytes) count name.offset) (Part.Call w name ∷ [])
  pub library : (name : Name) (function : LibraryFunction) (count : ℕ) → look_up s name.bytes ≡ known.Library function →
      Good L (c.library_name s function count name.offset) (Part.Call w name ∷ [])
  pub function : (name : Name) (number count : ℕ) (is_value : Bool) → look_up s name.bytes ≡ known.Declared (meaning.Function number) →
      Good L (c.function_name s number count is_value name.offset) (Part.Call w name ∷ [])
  pub no_function : (name : Name) → c.number_of (look_up s name.bytes) ≡ None → ((f : LibraryFunction) → look_up s name.bytes ≡ known.Library f → ⊥) →
      Good L (c.no_function (look_up s name.bytes) name.offset) (Part.Call w name ∷ [])
  pub print : (name : Name) (first : ArgumentTree) (values : List ArgumentTree) →
      Good L (finds_if (not (k.takes (k.format first) (length values))) rule.Format (e.argument_offset first)) (Part.Print name (first ∷ values) ∷ [])
  pub no_print : (name : Name) → Good L (finds rule.Format name.offset) (Part.Print name [] ∷ [])
  -- lengths, initial values and locals
  pub length : (x : ExpressionTree) → Good L (length_from (constancy x) (out-Expression x).offset) (Part.Length x ∷ [])
  pub local : (words : Specifiers) (at : ℕ) → plain (spelled_by words).is_static (spelled_by words).base ≡ None → Good L (refused_local (spelled_by words) at) (Part.Local
      words at ∷ [])
  pub no_local : (words : Specifiers) (at : ℕ) (ty : BasicType) → plain (spelled_by words).is_static (spelled_by words).base ≡ Some ty → (x : L.Entry) →
      L.At (Part.Local words at) x → ⊥
  pub initial : (ty : IntegerType) (x : ExpressionTree) → Good L (initial_from ty (constancy x) (out-Expression x).offset) (Part.Initial x ∷ [])
  pub listed : (lengths : List ExpressionTree) (n index at : ℕ) → n ≡ elements_given 1 lengths →
      Good L (finds_if (nat_le n index) rule.Constant at) (Part.Listed lengths index at ∷ [])

-- calls of pthread_create with their four arguments
abbrev pub Creates : Ledger → Scope → Where → Type 0
Creates L s w =
    (at : ℕ) (thread attributes routine value : ArgumentTree) →
    Good L (k.create s at thread attributes routine value) (create_parts w (thread ∷ attributes ∷ routine ∷ value ∷ []))
