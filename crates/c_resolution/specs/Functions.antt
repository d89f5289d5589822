-- Functions: definitions and prototypes (C99 6.9.1, 6.7.5.3).
use Rattle.std.specs.Prelude.{ℕ, Bool, true, false, ◌&&◌, ◌||◌, not, nat_eq, is_some, is_none, max, if◌then◌else◌}
use Rattle.std.specs.Prelude.{List, [], ◌∷◌, ◌++◌, length, map, slice_get, Option, Some, None, codes}
use Rattle.std.specs.List.{list_all, zip}
use Rattle.std.specs.Str.{bytes_eq}
use denote.Enum.Bare.{sameb}
use Rattle.c_rules.specs.contracts.specifiers.BasicType as basic_type
use Rattle.c_tree.specs.declared.expression.Name.{Name}
use Rattle.c_tree.specs.declared.statement.Block.{Block, out-Block}
use Rattle.c_tree.specs.declared.declaration.Function.{Function as FunctionTree}
use Rattle.c_tree.specs.declared.declaration.Parameter.{Parameter}
use Rattle.c_program.specs.declared.tree.LocalVariable.{LocalVariable}
use Rattle.c_program.specs.declared.tree.ReturnType.{ReturnType}
use Rattle.c_program.specs.declared.tree.ReturnType.TheVariants as returns_as
use Rattle.c_program.specs.Tree.{Function, Statement}
use Rattle.c_rules.specs.declared.fault.Rule.TheVariants as rule
use Rattle.c_rules.specs.declared.specifiers.BasicType.{BasicType}
use Rattle.c_rules.specs.declared.specifiers.BasicType.TheVariants.{Long}
use Rattle.c_rules.specs.declared.specifiers.BaseType.{BaseType}
use Rattle.c_rules.specs.declared.specifiers.BaseType.TheVariants as base
use Rattle.c_rules.specs.declared.specifiers.Spelled.{Spelled}
use Rattle.c_rules.specs.declared.dimensions.Dimensions.TheVariants.{Scalar}
use Rattle.c_rules.specs.declared.names.DeclaredType.{DeclaredType}
use Rattle.c_rules.specs.declared.names.Header.{Header}
use Rattle.c_rules.specs.declared.names.Gives.{Gives}
use Rattle.c_rules.specs.declared.names.Gives.TheVariants as gives
use Rattle.c_rules.specs.declared.names.Meaning.{Meaning}
use Rattle.c_rules.specs.declared.names.Meaning.TheVariants as meaning
use Rattle.c_rules.specs.declared.names.Scope.{Scope}
use Rattle.c_rules.specs.Constants.{plus}
use Rattle.c_rules.specs.Levels.{named_in, inserted}
use Rattle.c_rules.specs.Library.{function_named}
use Rattle.c_rules.specs.Names.{is_int, is_start_routine, opened, closed}
use Rattle.c_rules.specs.Specifiers.{c_type, is_void, plain, spelled_by}
use Rattle.c_rules.specs.Walks.{Finds, pure, finds, finds_if, visited, place_in_tree, ◌>>=◌, ◌>>◌}
use Rattle.c_resolution.specs.States.{Goes, finding, scoping}
use Rattle.c_resolution.specs.Declarators.{block_declarators}
use Rattle.c_resolution.specs.Slots.{slots_end, with_slots}
use Rattle.c_resolution.specs.Locals.{new_local, refused_local, declare}
use Rattle.c_resolution.specs.Statements.{items}
use Rattle.c_resolution.specs.Globals.{text}
use Rattle.c_resolution.specs.Files.{Declares, going, tabling, with_function}

-- ---- what a declaration says of its function

-- void alone, which says that there is no parameter
abbrev pub is_unnamed_void : Parameter → Bool
is_unnamed_void p = not p.is_pointer && is_none p.name && is_void p.specifiers.words

abbrev pub is_no_parameter : List Parameter → Bool
is_no_parameter [] = false
is_no_parameter (only ∷ []) = is_unnamed_void only
is_no_parameter (first ∷ next ∷ more) = false

abbrev pub written : FunctionTree → List Parameter
written f = if is_no_parameter f.parameters then [] else f.parameters

abbrev pub parameter_base : Spelled → BaseType
parameter_base words = if words.is_static then base.Unlisted else words.base

abbrev pub parameter_type : Parameter → DeclaredType
parameter_type p = record { base = parameter_base (spelled_by p.specifiers); is_pointer = p.is_pointer }

abbrev pub return_of : FunctionTree → DeclaredType
return_of f = record { base = (spelled_by f.specifiers).base; is_pointer = f.is_pointer }

abbrev pub is_empty : List DeclaredType → Bool
is_empty [] = true
is_empty (first ∷ more) = false

-- main is int main(void) or int main()
abbrev pub header_by : Scope → List ℕ → DeclaredType → List DeclaredType → Header
header_by s name returns parameters = record {
  returns = returns;
  parameters = parameters;
  is_main = bytes_eq name (codes "main") && is_int returns && is_empty parameters;
  definition = named_in s.definitions name;
}

abbrev pub header : Scope → FunctionTree → Header
header s f = header_by s f.name.bytes (return_of f) (map parameter_type (written f))

abbrev pub gives_by : Bool → BaseType → Bool → Gives
gives_by routine base.Void false = gives.Nothing
gives_by routine (base.Integer ty) false = gives.Integer
gives_by true base.Void true = gives.Pointer
gives_by routine other pointer = gives.Unlisted

abbrev pub gives_of : Header → Gives
gives_of h = gives_by (is_start_routine h) h.returns.base h.returns.is_pointer

abbrev pub return_by : Bool → BaseType → Bool → ReturnType
return_by routine (base.Integer ty) false = returns_as.Integer (c_type ty)
return_by true other pointer = returns_as.Pointer
return_by false other pointer = returns_as.Void

abbrev pub return_type : Header → ReturnType
return_type h = return_by (is_start_routine h) h.returns.base h.returns.is_pointer

-- ---- declaring a function

abbrev pub same_base : BaseType → BaseType → Bool
same_base (base.Integer x) (base.Integer y) = sameb basic_type.the_type x y
same_base base.Void base.Void = true
same_base base.Thread base.Thread = true
same_base base.Mutex base.Mutex = true
same_base base.Barrier base.Barrier = true
same_base base.Unlisted base.Unlisted = true
same_base a b = false

abbrev pub same_type : DeclaredType → DeclaredType → Bool
same_type a b = same_base a.base b.base && ((a.is_pointer && b.is_pointer) || (not a.is_pointer && not b.is_pointer))

-- whether two headers declare a function of the same type
abbrev pub is_same_function : Header → Header → Bool
is_same_function a b =
    same_type a.returns b.returns
    && (nat_eq (length a.parameters) (length b.parameters) && list_all (λ p. same_type p.0 p.1) (zip a.parameters b.parameters))

abbrev pub is_unlisted : Gives → Bool
is_unlisted gives.Unlisted = true
is_unlisted other = false

abbrev pub with_header : Name → Header → Scope → Scope
with_header name h s =
    record s { headers = s.headers ++ h ∷ []; inner = inserted s.inner name.bytes (meaning.Function (length s.headers)) }

-- a declaration of a function that is declared already, with a second body or not
abbrev pub again : Header → Name → Bool → Option Header → Finds (Unit {0})
again h name second None = pure tt
again h name second (Some known) = do
  finds_if second rule.Twice name.offset
  finds_if (not (is_same_function known h)) rule.Kind name.offset

unfoldable pub declare_again : Scope → ℕ → Header → Name → Bool → Finds (Unit {0})
declare_again s number h name second = again h name second (slice_get s.headers number)

abbrev pub twice : Name → Goes (Unit {0})
twice name = finding (λ s. finds rule.Twice name.offset)

abbrev pub declare_over : Header → Name → Bool → Option Meaning → Goes (Unit {0})
declare_over h name second None = scoping (with_header name h)
declare_over h name second (Some (meaning.Function number)) = finding (λ s. declare_again s number h name second)
declare_over h name second (Some meaning.Argument) = twice name
declare_over h name second (Some meaning.Unusable) = twice name
declare_over h name second (Some (meaning.Variable v)) = twice name
declare_over h name second (Some (meaning.Object o)) = twice name

unfoldable pub declare_function : Header → Name → Bool → Goes (Unit {0})
declare_function h name second s =
    if is_some (function_named name.bytes) then twice name s
    else declare_over h name second (named_in s.scope.inner name.bytes) s

-- ---- parameters

abbrev pub pointer_parameter : Spelled → Bool → ℕ → Goes Meaning
pointer_parameter words routine at = do
  finding (λ s. finds_if (not routine) rule.Kind at)
  new_local words Scalar Long
  pure meaning.Argument

abbrev pub parameter_of : Spelled → ℕ → Option BasicType → Goes Meaning
parameter_of words at (Some ty) = new_local words Scalar ty
parameter_of words at None = finding (λ s. refused_local words at)

-- what a parameter stands for in the body
unfoldable pub parameter_meaning : Parameter → Bool → ℕ → Goes Meaning
parameter_meaning p routine at =
    if p.is_pointer then pointer_parameter (spelled_by p.specifiers) routine at
    else parameter_of (spelled_by p.specifiers) at (plain (spelled_by p.specifiers).is_static (spelled_by p.specifiers).base)

abbrev pub named_parameter : Parameter → Bool → Bool → Option Name → Goes (Unit {0})
named_parameter p routine has_body (Some name) = do
  m ← parameter_meaning p routine name.offset
  declare name m
named_parameter p routine has_body None = do
  parameter_meaning p routine p.specifiers.offset
  finding (λ s. finds_if has_body rule.Kind p.specifiers.offset)

unfoldable pub parameter : Bool → Bool → Parameter → Goes (Unit {0})
parameter routine has_body p = named_parameter p routine has_body p.name

unfoldable pub parameters : Bool → Bool → List Parameter → Goes (Unit {0})
parameters routine has_body list = visited (parameter routine has_body) list

-- ---- bodies

abbrev pub same_number : Option ℕ → ℕ → Bool
same_number None n = false
same_number (Some m) n = nat_eq m n

-- whether a function has a body, and had one before
abbrev pub is_second : FunctionTree → Header → ℕ → Bool
is_second f h count = is_some f.body && not (same_number h.definition (place_in_tree count))

-- the number of the first local behind the parameters, of which there are so many, and the declarators of the body
abbrev pub kept_from : ℕ → Block → ℕ
kept_from count body = plus (place_in_tree count) (block_declarators body)

-- the body is that of the function of that number, and locals from there on keep values
abbrev pub entered : ℕ → ℕ → Scope → Scope
entered number from s = record s { function = Some number; loops = 0; exits = 0; kept_from = from }

abbrev pub left : Scope → Scope
left s = record s { function = None }

abbrev pub with_gives : Gives → Scope → Scope
with_gives g s = record s { gives = g }

abbrev pub without_locals : Scope → Scope
without_locals s = record s { locals = []; local_names = [] }

-- the definition, whose parameters are the first of its locals, and whose last locals keep the values of its body
abbrev pub defined : FunctionTree → ReturnType → Block → ℕ → Statement → List LocalVariable → List (List ℕ) → Function
defined f returns body count b locals names = record {
  name = text f.name.bytes;
  returns = returns;
  parameters = place_in_tree count;
  declared_locals = kept_from count body;
  locals = with_slots (max (kept_from count body) (slots_end b)) locals;
  local_names = map text names;
  body = b;
  end = place_in_tree (out-Block body).close;
}

abbrev pub finished : FunctionTree → ReturnType → Block → ℕ → Statement → Declares (Unit {0})
finished f returns body count b x = tabling (with_function (defined f returns body count b x.scope.locals x.scope.local_names)) x

unfoldable pub definition : FunctionTree → ReturnType → Block → Declares (Unit {0})
definition f returns body x = (do
  going (scoping (entered (place_in_tree (length x.tables.functions)) (kept_from (length x.scope.locals) body)))
  b ← going (items body)
  going (scoping left)
  finished f returns body (length x.scope.locals) b) x

abbrev pub body_of : FunctionTree → ReturnType → Option Block → Declares (Unit {0})
body_of f returns None = pure tt
body_of f returns (Some body) = definition f returns body

-- the name of a function, and its parameters in a scope of their own
unfoldable pub head : FunctionTree → Header → ℕ → Goes (Unit {0})
head f h count = do
  scoping (with_gives (gives_of h))
  finding (λ s. finds_if (is_unlisted (gives_of h)) rule.Kind f.name.offset)
  declare_function h f.name (is_second f h count)
  scoping opened
  parameters (is_start_routine h) (is_some f.body) (written f)

unfoldable pub function_by : FunctionTree → Header → Declares (Unit {0})
function_by f h x = (do
  going (head f h (length x.tables.functions))
  body_of f (return_type h) f.body
  going (scoping without_locals)
  going (scoping closed)) x

-- a function: its definition, or its prototype
unfoldable pub function : FunctionTree → Declares (Unit {0})
function f x = function_by f (header x.scope f) x
