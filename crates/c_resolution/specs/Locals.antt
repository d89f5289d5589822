-- Declarations in blocks (C99 6.7).
use Rattle.std.specs.Prelude.{ℕ, zero, suc, Bool, true, false, min, if◌then◌else◌, List, [], ◌∷◌, ◌++◌, length, fold, Option, Some, None, pos, negsuc, ℤ}
use Rattle.c_tree.specs.declared.expression.Name.{Name}
use Rattle.c_tree.specs.declared.expression.Expression.{Expression as ExpressionTree, out-Expression}
use Rattle.c_tree.specs.declared.declaration.Declaration.{Declaration}
use Rattle.c_tree.specs.declared.declaration.Declarator.{Declarator}
use Rattle.c_program.specs.declared.tree.Storage.TheVariants.{Automatic}
use Rattle.c_program.specs.declared.tree.LocalVariable.{LocalVariable}
use Rattle.c_program.specs.Tree.{Expression, Place, Statement}
use Rattle.c_rules.specs.declared.fault.Rule.TheVariants as rule
use Rattle.c_rules.specs.declared.specifiers.BasicType.{BasicType}
use Rattle.c_rules.specs.declared.specifiers.BaseType.{BaseType}
use Rattle.c_rules.specs.declared.specifiers.BaseType.TheVariants as base
use Rattle.c_rules.specs.declared.specifiers.Spelled.{Spelled}
use Rattle.c_rules.specs.declared.constants.Constancy.{Constancy}
use Rattle.c_rules.specs.declared.constants.Constancy.TheVariants as is
use Rattle.c_rules.specs.declared.names.Variable.{Variable}
use Rattle.c_rules.specs.declared.names.Meaning.{Meaning}
use Rattle.c_rules.specs.declared.names.Meaning.TheVariants as meaning
use Rattle.c_rules.specs.declared.names.Scope.{Scope}
use Rattle.c_rules.specs.declared.dimensions.Dimensions.{Dimensions}
use Rattle.c_rules.specs.declared.dimensions.Dimensions.TheVariants.{Scalar}
use Rattle.c_rules.specs.Constants.{constancy, operator_count, plus}
use Rattle.c_rules.specs.Dimensions.{elements, is_scalar, with_length}
use Rattle.c_rules.specs.Names.{is_taken, declaring}
use Rattle.c_rules.specs.Specifiers.{c_type, plain, spelled_by}
use Rattle.c_rules.specs.Walks.{Finds, pure, finds, finds_if, through, place_in_tree, ◌>>=◌, ◌>>◌}
use Rattle.c_calls.specs.Expressions.{value, looked}
use Rattle.c_calls.specs.Cuts.{Cut, free_from}
use Rattle.c_calls.specs.Sequences.{behind_cuts}
use Rattle.c_resolution.specs.States.{Goes, finding, scoping}

-- ---- lengths of arrays (6.7.5.2): constant expressions of at least 1, one for each dimension

-- a positive number, as far as a length goes
abbrev pub positive : ℤ → Option ℕ
positive (pos zero) = None
positive (pos (suc n)) = Some (min (suc n) 0xffff_ffff_ffff_ffff)
positive (negsuc n) = None

abbrev pub length_of_number : Option ℕ → ℕ → Finds ℕ
length_of_number (Some n) at = pure n
length_of_number None at = do
  finds rule.Constant at
  pure 1

unfoldable pub length_from : Constancy → ℕ → Finds ℕ
length_from (is.Constant x) at = length_of_number (positive x.number) at
length_from is.Unknown at = pure 1
length_from is.NotConstant at = length_of_number None at

unfoldable pub array_length : ExpressionTree → Scope → Finds ℕ
array_length e s = do
  looked s e
  length_from (constancy e) (out-Expression e).offset

-- one more length
abbrev pub next_length : Scope → Dimensions → ExpressionTree → Finds Dimensions
next_length s dimensions e = do
  n ← array_length e s
  pure (with_length dimensions n)

unfoldable pub dimensions : List ExpressionTree → Scope → Finds Dimensions
dimensions lengths s = through (next_length s) Scalar lengths

-- ---- what a name is declared as

-- one more local
abbrev pub with_local : LocalVariable → Scope → Scope
with_local l s = record s { locals = s.locals ++ l ∷ [] }

-- a local of the type that is numbered next
abbrev pub local_variable : Spelled → Dimensions → BasicType → ℕ → Variable
local_variable words dimensions ty number =
    record { storage = Automatic; number = number; ty = ty; dimensions = dimensions; is_const = words.is_const }

unfoldable pub new_local : Spelled → Dimensions → BasicType → Goes Meaning
new_local words dimensions ty s = (do
  scoping (with_local (record { ty = c_type ty; length = elements dimensions }))
  pure (meaning.Variable (local_variable words dimensions ty (place_in_tree (length s.scope.locals))))) s

abbrev pub is_object_type : BaseType → Bool
is_object_type base.Thread = true
is_object_type base.Mutex = true
is_object_type base.Barrier = true
is_object_type other = false

-- an object of POSIX threads is global
unfoldable pub refused_local : Spelled → ℕ → Finds Meaning
refused_local words at =
    if is_object_type words.base then finds_if words.is_static rule.Kind at >> (finds rule.Threads at >> pure meaning.Unusable)
    else finds rule.Kind at >> pure meaning.Unusable

abbrev pub local_of : Spelled → ℕ → Dimensions → Option BasicType → Goes Meaning
local_of words at dimensions (Some ty) = new_local words dimensions ty
local_of words at dimensions None = finding (λ s. refused_local words at)

-- an object of a block
unfoldable pub local : Spelled → ℕ → Dimensions → Goes Meaning
local words at dimensions = local_of words at dimensions (plain words.is_static words.base)

-- a name in the innermost scope, unless it is taken there
unfoldable pub declare : Name → Meaning → Goes (Unit {0})
declare name m s =
    if is_taken s.scope name.bytes then finding (λ scope. finds rule.Twice name.offset) s
    else scoping (declaring name.bytes m) s

-- ---- the step of a declarator

abbrev pub variable_in : Meaning → Option Variable
variable_in (meaning.Variable v) = Some v
variable_in other = None

-- the operators and casts of the lengths
abbrev pub operators_in : List ExpressionTree → ℕ
operators_in lengths = fold (λ n e. plus n (operator_count e)) 0 lengths

abbrev pub uninitialised_by : Option Variable → Declarator → Statement
uninitialised_by None d = Statement.Empty
uninitialised_by (Some v) d = Statement.Declare (place_in_tree d.name.offset) v.number (operators_in d.lengths)

-- without an initialiser
abbrev pub uninitialised : Declarator → Meaning → Statement
uninitialised d m = uninitialised_by (variable_in m) d

abbrev pub scalar_by : Bool → Variable → Option Variable
scalar_by true v = Some v
scalar_by false v = None

abbrev pub scalar_in : Meaning → Option Variable
scalar_in (meaning.Variable v) = scalar_by (is_scalar v.dimensions) v
scalar_in other = None

unfoldable pub initialised_by : Option Variable → ℕ → Cut Expression → Finds Statement
initialised_by (Some v) at right =
    pure (behind_cuts right.cuts.before (Statement.Assign (place_in_tree at) (Place.Scalar v.storage v.number (c_type v.ty)) right.rest))
initialised_by None at right = do
  finds rule.Kind at
  pure Statement.Empty

-- with one: only a scalar may have it
unfoldable pub initialised : Name → Meaning → ExpressionTree → Scope → Finds Statement
initialised name m e s = do
  right ← value s e (place_in_tree name.offset) (free_from s.kept_from)
  initialised_by (scalar_in m) name.offset right

abbrev pub declared_step : Declarator → Meaning → Option ExpressionTree → Scope → Finds Statement
declared_step d m None s = pure (uninitialised d m)
declared_step d m (Some e) s = initialised d.name m e s

-- the name is in scope in its initialiser (6.2.1)
unfoldable pub declarator : Spelled → Declarator → Goes Statement
declarator words d = do
  size ← finding (dimensions d.lengths)
  m ← local words d.name.offset size
  declare d.name m
  finding (declared_step d m d.initializer)

-- the steps of a declaration behind other steps
unfoldable pub declaration : List Statement → Declaration → Goes (List Statement)
declaration steps d =
    through (λ done x. declarator (spelled_by d.specifiers) x >>= (λ step. pure (done ++ step ∷ []))) steps d.declarators
