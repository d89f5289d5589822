-- What is assigned to, and the rules on it (C99 6.5.16).
use Rattle.std.specs.Prelude.{ℕ, ◌&&◌, not, nat_eq, if◌then◌else◌, Option, Some, None, length}
use Rattle.hls_ints.specs.Types.{int_type}
use Rattle.c_tree.specs.declared.expression.Place.{Place as PlaceTree, out-Place}
use Rattle.c_program.specs.declared.tree.Storage.TheVariants.{Automatic}
use Rattle.c_program.specs.Tree.{Expression, Place}
use Rattle.c_rules.specs.declared.fault.Rule.{Rule}
use Rattle.c_rules.specs.declared.fault.Rule.TheVariants as rule
use Rattle.c_rules.specs.declared.names.Variable.{Variable}
use Rattle.c_rules.specs.declared.names.Meaning.TheVariants as meaning
use Rattle.c_rules.specs.declared.names.Known.{Known}
use Rattle.c_rules.specs.declared.names.Known.TheVariants as known
use Rattle.c_rules.specs.declared.names.Scope.{Scope}
use Rattle.c_rules.specs.Dimensions.{count, elements}
use Rattle.c_rules.specs.Names.{look_up}
use Rattle.c_rules.specs.Specifiers.{c_type}
use Rattle.c_rules.specs.Walks.{Finds, pure, finds_any, ◌>>=◌, ◌>>◌}
use Rattle.c_expressions.specs.Cuts.{Cuts, Cut, cut}
use Rattle.c_expressions.specs.Expressions.{place_number, dimensions_of, variable_named}

-- a variable may be assigned to unless it is const, with as many indices as it has dimensions
abbrev pub variable_fault : Variable → ℕ → Option Rule
variable_fault v indices = if not v.is_const && nat_eq (count v.dimensions) indices then None else Some rule.Kind

abbrev pub target_fault : Known → ℕ → Option Rule
target_fault (known.Declared (meaning.Variable v)) indices = variable_fault v indices
target_fault (known.Declared meaning.Unusable) indices = None
target_fault known.Unknown indices = Some rule.Unknown
target_fault other indices = Some rule.Kind

-- a scalar, or the element of that number
abbrev pub variable_place : Variable → Option Expression → Place
variable_place v None = Place.Scalar v.storage v.number (c_type v.ty)
variable_place v (Some number) = Place.Element v.storage v.number (elements v.dimensions) (c_type v.ty) number

abbrev pub named_place : Option Variable → Option Expression → Place
named_place None number = Place.Scalar Automatic 0 int_type
named_place (Some v) number = variable_place v number

-- a place of the step at the place of the text, with the cuts of its indices behind those before it
unfoldable pub target : Scope → PlaceTree → ℕ → Cuts → Finds (Cut Place)
target s p at cuts = do
  number ← place_number s (dimensions_of (variable_named s (out-Place p).name)) p at cuts
  finds_any (target_fault (look_up s (out-Place p).name.bytes) (length (out-Place p).indices)) (out-Place p).name.offset
  pure (cut number.cuts (named_place (variable_named s (out-Place p).name) number.rest))
