-- Arguments by the form that a call has at their place (C99 6.5.2.2, POSIX pthread.h).
use Rattle.std.specs.Prelude.{ℕ, Bool, true, false, not, ◌&&◌, nat_eq, is_none, if◌then◌else◌, List, length, slice_get, Option, Some, None, option_map, pos}
use Rattle.hls_ints.specs.Types.{long_int}
use Rattle.c_tree.specs.declared.expression.Form.{Form as FormTree, out-Form}
use Rattle.c_tree.specs.declared.expression.Expression.{Expression as ExpressionTree, out-Expression}
use Rattle.c_tree.specs.declared.expression.Term.{Term as TermTree}
use Rattle.c_tree.specs.declared.expression.Choice.{Choice as ChoiceTree}
use Rattle.c_tree.specs.declared.expression.Place.{Place as PlaceTree, out-Place}
use Rattle.c_tree.specs.declared.expression.Call.{Call as CallTree}
use Rattle.c_tree.specs.declared.expression.Pointer.{Pointer as PointerTree, out-Pointer}
use Rattle.c_tree.specs.declared.expression.Argument.{Argument as ArgumentTree, out-Argument}
use Rattle.c_tree.specs.declared.expression.Argument.TheOpen.{Argument-F, Form-F}
use Rattle.c_program.specs.Tree.{Expression, ObjectPlace}
use Rattle.c_rules.specs.declared.fault.Rule.TheVariants as rule
use Rattle.c_rules.specs.declared.dimensions.Dimensions.{Dimensions}
use Rattle.c_rules.specs.declared.dimensions.Dimensions.TheVariants.{Scalar, One}
use Rattle.c_rules.specs.declared.names.ObjectKind.{ObjectKind}
use Rattle.c_rules.specs.declared.names.ObjectKind.TheVariants.{Thread}
use Rattle.c_rules.specs.declared.names.Object.{Object}
use Rattle.c_rules.specs.declared.names.Meaning.TheVariants as meaning
use Rattle.c_rules.specs.declared.names.Known.{Known}
use Rattle.c_rules.specs.declared.names.Known.TheVariants as known
use Rattle.c_rules.specs.declared.names.Header.{Header}
use Rattle.c_rules.specs.declared.names.Scope.{Scope}
use Rattle.c_rules.specs.Dimensions.{count}
use Rattle.c_rules.specs.Names.{look_up, same_kind, is_start_routine}
use Rattle.c_rules.specs.Walks.{Finds, pure, finds, finds_if, ◌>>=◌, ◌>>◌}
use Rattle.c_expressions.specs.Callees.{is_unknown, is_usable}
use Rattle.c_expressions.specs.Cuts.{Cuts, Cut, cut}
use Rattle.c_expressions.specs.Expressions.{value, argument_offset, looked_argument, place_number}

-- one layer of the form of an expression
abbrev pub FormLayer : Type 0
FormLayer = Form-F ArgumentTree FormTree CallTree ChoiceTree ExpressionTree PlaceTree PointerTree TermTree

-- one layer of an argument
abbrev pub ArgumentLayer : Type 0
ArgumentLayer = Argument-F ArgumentTree FormTree CallTree ChoiceTree ExpressionTree PlaceTree PointerTree TermTree

-- NULL as an integer
abbrev pub null : Expression
null = Expression.Constant long_int (pos 0)

-- ---- objects of POSIX threads

-- the object of the kind that a name stands for
abbrev pub object_of : ObjectKind → Known → Option Object
object_of kind (known.Declared (meaning.Object o)) = if same_kind kind o.kind then Some o else None
object_of kind other = None

-- an array of objects has one dimension
abbrev pub length_dimensions : Option ℕ → Dimensions
length_dimensions None = Scalar
length_dimensions (Some n) = One n

abbrev pub object_dimensions : Option Object → Dimensions
object_dimensions None = Scalar
object_dimensions (Some o) = length_dimensions o.length

-- an object, or the element of that number
abbrev pub placed : Object → Option ℕ → Option Expression → ObjectPlace
placed o (Some n) (Some number) = ObjectPlace.Element o.number n number
placed o None number = ObjectPlace.Single o.number
placed o (Some n) None = ObjectPlace.Single o.number

-- an object stands alone, and an array of them with an index
unfoldable pub object_at : ℕ → Object → ℕ → Option Expression → Finds ObjectPlace
object_at name_at o indices number = do
  finds_if (not (nat_eq (count (length_dimensions o.length)) indices)) rule.Kind name_at
  pure (placed o o.length number)

-- what stands for an object that breaks a rule
abbrev pub no_object : ObjectPlace
no_object = ObjectPlace.Single 0xffff_ffff

unfoldable pub misused_object : Known → ℕ → ℕ → Finds ObjectPlace
misused_object known name_at at = do
  finds_if (is_unknown known) rule.Unknown name_at
  finds_if (is_usable known) rule.Kind at
  pure no_object

abbrev pub object_from : Option Object → Known → ℕ → ℕ → ℕ → Option Expression → Finds ObjectPlace
object_from (Some o) known name_at at indices number = object_at name_at o indices number
object_from None known name_at at indices number = misused_object known name_at at

-- a name of an object of the kind, with so many indices; the argument begins at the place
unfoldable pub object_named : ObjectKind → Known → ℕ → ℕ → ℕ → Option Expression → Finds ObjectPlace
object_named kind known name_at at indices number = object_from (object_of kind known) known name_at at indices number

-- ---- by the argument's form

-- a place and where its expression begins
abbrev pub place_in_form : ℕ → FormLayer → Option (PlaceTree × ℕ)
place_in_form at (Form-F.Place p) = Some (p, at)
place_in_form at other = None

abbrev pub place_in_expression : ExpressionTree → Option (PlaceTree × ℕ)
place_in_expression e = place_in_form (out-Expression e).offset (out-Form (out-Expression e).form)

abbrev pub place_in_layer : ArgumentLayer → Option (PlaceTree × ℕ)
place_in_layer (Argument-F.Value e) = place_in_expression e
place_in_layer other = None

abbrev pub place_in_argument : ArgumentTree → Option (PlaceTree × ℕ)
place_in_argument a = place_in_layer (out-Argument a)

abbrev pub is_null_in : ArgumentLayer → Bool
is_null_in (Argument-F.Pointer p) = is_none (out-Pointer p).operand
is_null_in other = false

abbrev pub is_null : ArgumentTree → Bool
is_null a = is_null_in (out-Argument a)

-- the number of its definition, and the place of its name
unfoldable pub routine : Header → ℕ → ℕ → Finds (Option (ℕ × ℕ))
routine h name_at at = do
  finds_if (not (is_start_routine h)) rule.Kind at
  finds_if (is_none h.definition) rule.Unknown name_at
  pure (option_map (λ number. (number, name_at)) h.definition)

-- whether a place is a name alone
abbrev pub is_alone : PlaceTree → Bool
is_alone p = nat_eq (length (out-Place p).indices) 0

module _ (s : Scope) where
  -- an argument of another form than the call has is looked through
  unfoldable pub refused : ArgumentTree → Finds (Unit {0})
  refused a = do
    finds rule.Kind (argument_offset a)
    looked_argument s a

  unfoldable pub refused_value : ArgumentTree → Cuts → Finds (Cut Expression)
  refused_value a cuts = do
    refused a
    pure (cut cuts null)

  unfoldable pub refused_object : ArgumentTree → Cuts → Finds (Cut ObjectPlace)
  refused_object a cuts = do
    refused a
    pure (cut cuts no_object)

  abbrev pub value_in : ArgumentTree → ArgumentLayer → ℕ → Cuts → Finds (Cut Expression)
  value_in a (Argument-F.Value e) at cuts = value s e at cuts
  value_in a (Argument-F.Text bytes offset) at cuts = refused_value a cuts
  value_in a (Argument-F.Address p offset) at cuts = refused_value a cuts
  value_in a (Argument-F.Pointer p) at cuts = refused_value a cuts

  -- an integer
  unfoldable pub value_argument : ArgumentTree → ℕ → Cuts → Finds (Cut Expression)
  value_argument a at cuts = value_in a (out-Argument a) at cuts

  -- NULL
  unfoldable pub null_argument : ArgumentTree → Finds (Unit {0})
  null_argument a = if is_null a then pure tt else refused a

  -- the value of a pointer, as an integer
  abbrev pub operand_value : Option ExpressionTree → ℕ → Cuts → Finds (Cut Expression)
  operand_value None at cuts = pure (cut cuts null)
  operand_value (Some e) at cuts = value s e at cuts

  unfoldable pub pointer_value : PointerTree → ℕ → Cuts → Finds (Cut Expression)
  pointer_value p at cuts = operand_value (out-Pointer p).operand at cuts

  abbrev pub pointer_in : ArgumentTree → ArgumentLayer → ℕ → Cuts → Finds (Cut Expression)
  pointer_in a (Argument-F.Pointer p) at cuts = pointer_value p at cuts
  pointer_in a (Argument-F.Text bytes offset) at cuts = refused_value a cuts
  pointer_in a (Argument-F.Address p offset) at cuts = refused_value a cuts
  pointer_in a (Argument-F.Value e) at cuts = refused_value a cuts

  -- NULL, or (void *) and a value
  unfoldable pub pointer_argument : ArgumentTree → ℕ → Cuts → Finds (Cut Expression)
  pointer_argument a at cuts = pointer_in a (out-Argument a) at cuts

  -- a place of an object of the kind; the argument begins at the first place of the text, and its step stands at the second
  unfoldable pub object_place : ObjectKind → PlaceTree → ℕ → ℕ → Cuts → Finds (Cut ObjectPlace)
  object_place kind p offset at cuts = do
    number ← place_number s (object_dimensions (object_of kind (look_up s (out-Place p).name.bytes))) p at cuts
    o ← object_named kind (look_up s (out-Place p).name.bytes) (out-Place p).name.offset offset (length (out-Place p).indices) number.rest
    pure (cut number.cuts o)

  abbrev pub address_in : ObjectKind → ArgumentTree → ArgumentLayer → ℕ → Cuts → Finds (Cut ObjectPlace)
  address_in kind a (Argument-F.Address p offset) at cuts = object_place kind p offset at cuts
  address_in kind a (Argument-F.Text bytes offset) at cuts = refused_object a cuts
  address_in kind a (Argument-F.Value e) at cuts = refused_object a cuts
  address_in kind a (Argument-F.Pointer p) at cuts = refused_object a cuts

  -- & and an object of the kind
  unfoldable pub address_argument : ObjectKind → ArgumentTree → ℕ → Cuts → Finds (Cut ObjectPlace)
  address_argument kind a at cuts = address_in kind a (out-Argument a) at cuts

  abbrev pub thread_from : ArgumentTree → Option (PlaceTree × ℕ) → ℕ → Cuts → Finds (Cut ObjectPlace)
  thread_from a (Some p) at cuts = object_place Thread p.0 p.1 at cuts
  thread_from a None at cuts = refused_object a cuts

  -- a thread by its name
  unfoldable pub thread_argument : ArgumentTree → ℕ → Cuts → Finds (Cut ObjectPlace)
  thread_argument a at cuts = thread_from a (place_in_argument a) at cuts

  -- ---- start routines

  abbrev pub header_of : Known → Option Header
  header_of (known.Declared (meaning.Function number)) = slice_get s.headers number
  header_of other = None

  -- the header of the function that a place without index names
  abbrev pub header_at : PlaceTree → Option Header
  header_at p = if is_alone p then header_of (look_up s (out-Place p).name.bytes) else None

  -- whether a place without index has a name that is not declared: it has the form of a start routine
  abbrev pub is_unnamed : PlaceTree → Bool
  is_unnamed p = is_alone p && is_unknown (look_up s (out-Place p).name.bytes)

  -- what is no start routine is looked through, and is of another form or not
  unfoldable pub refused_routine : Bool → ArgumentTree → Finds (Option (ℕ × ℕ))
  refused_routine is_other a = do
    finds_if is_other rule.Kind (argument_offset a)
    looked_argument s a
    pure None

  abbrev pub routine_from : ArgumentTree → Option Header → Bool → ℕ → ℕ → Finds (Option (ℕ × ℕ))
  routine_from a (Some h) is_other name_at at = routine h name_at at
  routine_from a None is_other name_at at = refused_routine is_other a

  abbrev pub routine_at : ArgumentTree → Option (PlaceTree × ℕ) → Finds (Option (ℕ × ℕ))
  routine_at a (Some p) = routine_from a (header_at p.0) (not (is_unnamed p.0)) (out-Place p.0).name.offset p.1
  routine_at a None = refused_routine true a

  -- the name of a start routine
  unfoldable pub routine_argument : ArgumentTree → Finds (Option (ℕ × ℕ))
  routine_argument a = routine_at a (place_in_argument a)
