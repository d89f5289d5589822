-- The rules on a name that is called (C99 6.5.2.2).
use Rattle.std.specs.Prelude.{ℕ, Bool, true, false, ◌||◌, ◌&&◌, not, nat_eq, is_none, length, slice_get, Option, Some, None}
use Rattle.hls_ints.specs.Types.{IntegerType, int_type}
use Rattle.c_rules.specs.declared.fault.Rule.TheVariants as rule
use Rattle.c_rules.specs.declared.library.LibraryFunction.{LibraryFunction}
use Rattle.c_rules.specs.declared.library.LibraryFunction.TheVariants as library
use Rattle.c_rules.specs.declared.names.Meaning.TheVariants as meaning
use Rattle.c_rules.specs.declared.names.Known.{Known}
use Rattle.c_rules.specs.declared.names.Known.TheVariants as known
use Rattle.c_rules.specs.declared.names.Header.{Header}
use Rattle.c_rules.specs.declared.names.Scope.{Scope}
use Rattle.c_rules.specs.declared.specifiers.BaseType.{BaseType}
use Rattle.c_rules.specs.declared.specifiers.BaseType.TheVariants as base
use Rattle.c_rules.specs.Library.{takes}
use Rattle.c_rules.specs.Names.{is_void_type, is_start_routine, gives_pointer}
use Rattle.c_rules.specs.Specifiers.{c_type}
use Rattle.c_rules.specs.Walks.{Finds, pure, finds, finds_if, calls, ◌>>◌}

-- a function that is declared with the header, called with so many arguments, as a value or not
unfoldable pub header_rules : Header → ℕ → Bool → ℕ → Finds (Unit {0})
header_rules h count is_value at = do
  finds_if (is_none h.definition) rule.Unknown at
  finds_if (is_value && is_void_type h.returns) rule.Kind at
  finds_if (not (nat_eq count (length h.parameters))) rule.Arguments at
  finds_if (h.is_main || is_start_routine h) rule.Threads at

-- the call of a function, by the number of its definition
unfoldable pub called : Scope → ℕ → Option ℕ → Finds (Option ℕ)
called s at None = pure None
called s at (Some callee) = do
  calls s.function callee at
  pure (Some callee)

-- a name that a scope in order stands for always has a header
abbrev pub header_call : Scope → ℕ → Bool → ℕ → Option Header → Finds (Option ℕ)
header_call s count is_value at None = do
  finds rule.Unknown at
  pure None
header_call s count is_value at (Some h) = do
  header_rules h count is_value at
  called s at h.definition

-- a function of the text by the number of its header: the number of its definition
unfoldable pub function_name : Scope → ℕ → ℕ → Bool → ℕ → Finds (Option ℕ)
function_name s number count is_value at = header_call s count is_value at (slice_get s.headers number)

-- where a function of the library may be called
unfoldable pub library_place : Scope → LibraryFunction → ℕ → Finds (Unit {0})
library_place s library.Exit at = finds_if (is_none s.function || not (gives_pointer s.gives)) rule.Threads at
library_place s function at = pure tt

unfoldable pub library_name : Scope → LibraryFunction → ℕ → ℕ → Finds (Unit {0})
library_name s function count at = do
  finds_if (not (takes function count)) rule.Arguments at
  library_place s function at

-- a function of the library has no value
unfoldable pub library_value : Scope → LibraryFunction → ℕ → ℕ → Finds (Unit {0})
library_value s function count at = do
  finds rule.Place at
  library_name s function count at

-- whether a name stands for nothing, for something that can be used, or for what a rule broke already
abbrev pub is_unknown : Known → Bool
is_unknown known.Unknown = true
is_unknown other = false

abbrev pub is_usable : Known → Bool
is_usable known.Unknown = false
is_usable (known.Declared meaning.Unusable) = false
is_usable other = true

-- a name that is called and stands for no function
unfoldable pub no_function : Known → ℕ → Finds (Unit {0})
no_function known at = do
  finds_if (is_unknown known) rule.Unknown at
  finds_if (is_usable known) rule.Kind at

-- the number of the header of the function that a name stands for
abbrev pub number_of : Known → Option ℕ
number_of (known.Declared (meaning.Function number)) = Some number
number_of other = None

-- the type of the value of a function
abbrev pub integer_in : BaseType → IntegerType
integer_in (base.Integer ty) = c_type ty
integer_in other = int_type

abbrev pub value_type : Option Header → IntegerType
value_type None = int_type
value_type (Some h) = integer_in h.returns.base

-- a call of what is no function of the text
unfoldable pub misplaced : Scope → Known → ℕ → ℕ → Finds (Unit {0})
misplaced s (known.Library function) count at = library_value s function count at
misplaced s other count at = no_function other at
