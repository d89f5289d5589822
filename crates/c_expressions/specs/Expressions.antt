-- What expressions and conditions stand for, and the rules that they break (C99 6.5).
use Rattle.std.specs.Prelude.{ℕ, Bool, true, false, ◌&&◌, nat_eq, if◌then◌else◌, List, [], ◌∷◌, ◌++◌, map, length, slice_get, Option, Some, None, pos}
use Rattle.std.specs.List.{list_all}
use Rattle.hls_ints.specs.Types.{IntegerType, int_type, long_int, promoted, usual_type}
use Rattle.c_token.specs.declared.constant.Constant.{Constant}
use Rattle.c_tree.specs.declared.expression.UnaryOperator.{UnaryOperator}
use Rattle.c_tree.specs.declared.expression.UnaryOperator.TheVariants as u
use Rattle.c_tree.specs.declared.expression.BinaryOperator.{BinaryOperator}
use Rattle.c_tree.specs.declared.expression.BinaryOperator.TheVariants as b
use Rattle.c_tree.specs.declared.expression.Name.{Name}
use Rattle.c_tree.specs.declared.expression.Specifiers.{Specifiers}
use Rattle.c_tree.specs.declared.expression.Expression.{Expression as ExpressionTree, out-Expression}
use Rattle.c_tree.specs.declared.expression.Term.{Term as TermTree}
use Rattle.c_tree.specs.declared.expression.Choice.{Choice as ChoiceTree}
use Rattle.c_tree.specs.declared.expression.Place.{Place as PlaceTree}
use Rattle.c_tree.specs.declared.expression.Call.{Call as CallTree}
use Rattle.c_tree.specs.declared.expression.Form.{Form as FormTree}
use Rattle.c_tree.specs.declared.expression.Pointer.{Pointer as PointerTree, out-Pointer}
use Rattle.c_tree.specs.declared.expression.Argument.{Argument as ArgumentTree, out-Argument}
use Rattle.c_tree.specs.declared.expression.Argument.TheOpen.{Argument-F, Form-F, Call-F, Choice-F, Expression-F, Place-F, Pointer-F, Term-F}
use Rattle.c_tree.specs.declared.expression.Argument.TheFolds.{fold-Argument, fold-Call, fold-Choice, fold-Expression, fold-Form, fold-Place, fold-Term}
use Rattle.c_program.specs.declared.tree.Storage.TheVariants.{Automatic}
use Rattle.c_program.specs.declared.tree.UnaryOperator.{UnaryOperator as ResolvedUnary}
use Rattle.c_program.specs.declared.tree.UnaryOperator.TheVariants as ru
use Rattle.c_program.specs.declared.tree.BinaryOperator.{BinaryOperator as ResolvedBinary}
use Rattle.c_program.specs.declared.tree.BinaryOperator.TheVariants as rb
use Rattle.c_program.specs.Tree.{Expression, Statement}
use Rattle.c_program.specs.Types.{type_of, working_type}
use Rattle.c_rules.specs.declared.fault.Rule.{Rule}
use Rattle.c_rules.specs.declared.fault.Rule.TheVariants as rule
use Rattle.c_rules.specs.declared.specifiers.BasicType.{BasicType}
use Rattle.c_rules.specs.declared.specifiers.BasicType.TheVariants.{Long}
use Rattle.c_rules.specs.declared.constants.Typed.{Typed}
use Rattle.c_rules.specs.declared.dimensions.Dimensions.{Dimensions}
use Rattle.c_rules.specs.declared.dimensions.Dimensions.TheVariants.{Scalar, One, Two, Three}
use Rattle.c_rules.specs.declared.names.Variable.{Variable}
use Rattle.c_rules.specs.declared.names.Meaning.TheVariants as meaning
use Rattle.c_rules.specs.declared.names.Known.{Known}
use Rattle.c_rules.specs.declared.names.Known.TheVariants as known
use Rattle.c_rules.specs.declared.names.Scope.{Scope}
use Rattle.c_rules.specs.Constants.{constant_value}
use Rattle.c_rules.specs.Dimensions.{count, elements, times}
use Rattle.c_rules.specs.Names.{look_up, is_argument}
use Rattle.c_rules.specs.Specifiers.{c_type, plain_integer}
use Rattle.c_rules.specs.Walks.{Finds, pure, finds, finds_any, through, visited, place_in_tree, ◌>>=◌, ◌>>◌}
use Rattle.c_expressions.specs.Callees.{function_name, misplaced, number_of, value_type}
use Rattle.c_expressions.specs.Cuts.{Cuts, Cut, cut, free_from, keeping_all, kept}
use Rattle.c_expressions.specs.Lists.{one, two, three}
use Rattle.c_expressions.specs.Sequences.{behind_cuts}

-- what stands for an expression that breaks a rule
abbrev pub nothing : Expression
nothing = Expression.Constant int_type (pos 0)

abbrev pub refused : Rule → ℕ → Finds Expression
refused rule at = do
  finds rule at
  pure nothing

-- ---- constants and objects

abbrev pub constant_from : Option Typed → ℕ → Finds Expression
constant_from (Some x) at = pure (Expression.Constant x.ty x.number)
constant_from None at = refused rule.Constant at

unfoldable pub constant : Constant → ℕ → Finds Expression
constant c at = constant_from (constant_value c) at

-- the rule that a name with so many indices breaks as a value: a variable has as many as it has dimensions (6.5.2.1)
abbrev pub misuse : Known → ℕ → Option Rule
misuse known.Unknown indices = Some rule.Unknown
misuse (known.Declared (meaning.Variable v)) indices = if nat_eq (count v.dimensions) indices then None else Some rule.Kind
misuse (known.Declared meaning.Argument) indices = if nat_eq indices 0 then Some rule.Threads else Some rule.Kind
misuse (known.Declared meaning.Unusable) indices = None
misuse other indices = Some rule.Kind

-- the integer object that a name stands for, if it is one
abbrev pub variable_of : Known → Option Variable
variable_of (known.Declared (meaning.Variable v)) = Some v
variable_of other = None

abbrev pub dimensions_of : Option Variable → Dimensions
dimensions_of None = Scalar
dimensions_of (Some v) = v.dimensions

-- a scalar, or the element of that number
abbrev pub object_value : Variable → Option Expression → Expression
object_value v None = Expression.Variable v.storage v.number (c_type v.ty)
object_value v (Some number) = Expression.Element v.storage v.number (elements v.dimensions) (c_type v.ty) number

abbrev pub named_value : Option Variable → Option Expression → Expression
named_value None number = nothing
named_value (Some v) number = object_value v number

-- ---- operators

abbrev pub unary_operator : UnaryOperator → ResolvedUnary
unary_operator u.Plus = ru.Plus
unary_operator u.Minus = ru.Minus
unary_operator u.Complement = ru.Complement
unary_operator u.Not = ru.Not

-- an operator works at the promoted type of its operand (6.5.3.3)
abbrev pub unary : UnaryOperator → Expression → Expression
unary operator x = Expression.Unary (unary_operator operator) (promoted (type_of x)) x

-- the operators but the short circuits
abbrev pub binary_operator : BinaryOperator → Option ResolvedBinary
binary_operator b.LogicalOr = None
binary_operator b.LogicalAnd = None
binary_operator b.BitOr = Some rb.InclusiveOr
binary_operator b.BitXor = Some rb.ExclusiveOr
binary_operator b.BitAnd = Some rb.And
binary_operator b.Equal = Some rb.Equal
binary_operator b.NotEqual = Some rb.NotEqual
binary_operator b.Less = Some rb.Less
binary_operator b.Greater = Some rb.Greater
binary_operator b.LessEqual = Some rb.LessEqual
binary_operator b.GreaterEqual = Some rb.GreaterEqual
binary_operator b.ShiftLeft = Some rb.ShiftLeft
binary_operator b.ShiftRight = Some rb.ShiftRight
binary_operator b.Add = Some rb.Add
binary_operator b.Subtract = Some rb.Subtract
binary_operator b.Multiply = Some rb.Multiply
binary_operator b.Divide = Some rb.Divide
binary_operator b.Remainder = Some rb.Remainder

abbrev pub binary : ResolvedBinary → Expression → Expression → Expression
binary operator x y = Expression.Binary operator (working_type operator (type_of x) (type_of y)) x y

-- operators of one level are short circuits all or none of them
abbrev pub operated_by : Option ResolvedBinary → Expression → Expression → Expression
operated_by (Some operator) x y = binary operator x y
operated_by None x y = nothing

abbrev pub operated : BinaryOperator → Expression → Expression → Expression
operated operator x y = operated_by (binary_operator operator) x y

-- ---- casts

-- the words of a cast spell an integer type (6.5.4)
unfoldable pub converted : ℕ → Option BasicType → Expression → Finds Expression
converted at (Some ty) x = pure (Expression.Cast (c_type ty) x)
converted at None x = refused rule.Kind at

abbrev pub is_long : Option BasicType → Bool
is_long (Some Long) = true
is_long other = false

-- the parameter of a start routine, as the long that it was created with
abbrev pub argument_value : Expression
argument_value = Expression.Variable Automatic 0 long_int

-- ---- calls

-- the value of a call of the function, which is entered at the place with what its arguments give, in the local n
abbrev pub called_value : ℕ → ℕ → IntegerType → Option ℕ → Cut (List Expression) → Cut Expression
called_value at n ty None values = cut values.cuts nothing
called_value at n ty (Some function) values = kept n ty (Statement.Call at (Some n) function values.rest) values.cuts

-- ---- conditionals

-- an operand of a conditional: the place of its first byte, its cuts and what is left of it
pub record Chosen : Type 0 where
  pub offset : ℕ
  pub before : List Statement
  pub rest : Expression

abbrev pub chosen : ℕ → Cut Expression → Chosen
chosen offset c = record { offset = offset; before = c.cuts.before; rest = c.rest }

-- the operand that is chosen is converted to the type and kept (6.5.15)
abbrev pub keep : ℕ → IntegerType → Chosen → Statement
keep n ty x = behind_cuts x.before (Statement.Keep x.offset n ty x.rest)

abbrev pub common_type : Chosen → Chosen → IntegerType
common_type x y = usual_type (type_of x.rest) (type_of y.rest)

-- a conditional that begins at the place, whose value the local n keeps, as an operand of the next one
abbrev pub conditional : ℕ → ℕ → Statement → Chosen → Chosen → Chosen
conditional n offset c x y = record {
  offset = offset;
  before = Statement.If c (keep n (common_type x y) x) (keep n (common_type x y) y) ∷ [];
  rest = Expression.Kept n (common_type x y);
}

-- the value of the outermost conditional behind the cuts before it
abbrev pub with_choice : Cuts → Chosen → Cut Expression
with_choice cuts x = cut (keeping_all cuts.next x.before cuts) x.rest

-- an operand of a condition
abbrev pub test : Chosen → Statement
test x = behind_cuts x.before (Statement.Test x.offset x.rest)

-- ---- a whole expression

-- a value, by the place of its step and the cuts before it
abbrev pub Valued : Type 0
Valued = ℕ → Cuts → Finds (Cut Expression)

-- a part that is looked through
abbrev pub Looked : Type 0
Looked = Finds (Unit {0})

-- an expression: the place of its first byte, its value, what it is as a condition, where the locals from a number on are free, and
-- its name, if it is one alone
pub record Meant : Type 0 where
  pub offset : ℕ
  pub value : Valued
  pub condition : ℕ → Finds Statement
  pub name : Option (List ℕ)

-- its form: what it is as a condition depends on the place of its first byte
pub record Formed : Type 0 where
  pub value : Valued
  pub condition : ℕ → ℕ → Finds Statement
  pub name : Option (List ℕ)

-- a name and its indices
pub record Placed : Type 0 where
  pub name : Name
  pub indices : List Meant

-- an operator with its right operand
pub record Operand : Type 0 where
  pub operator : BinaryOperator
  pub operand : Meant

-- a condition of a conditional, and its third operand
pub record Choice : Type 0 where
  pub condition : Meant
  pub otherwise : Meant

-- a pointer: the place of its first byte, and its operand, looked through
pub record Pointed : Type 0 where
  pub offset : ℕ
  pub looked : Looked

-- an argument: its value, where it is an integer, and what is found in it
pub record Passed : Type 0 where
  pub value : Valued
  pub looked : Looked

-- a name and its arguments
pub record Called : Type 0 where
  pub name : Name
  pub arguments : List Passed

-- an operand of a conditional or of a condition, where the locals from n on are free
abbrev pub chosen_value : Valued → ℕ → ℕ → Finds Chosen
chosen_value value offset n = do
  x ← value (place_in_tree offset) (free_from n)
  pure (chosen (place_in_tree offset) x)

abbrev pub operand_value : ℕ → Meant → Finds Chosen
operand_value n x = chosen_value x.value x.offset n

-- an expression that is looked through for the faults in it alone
abbrev pub look : Meant → Looked
look x = operand_value 0 x >> pure tt

abbrev pub look_at_all : List Meant → Looked
look_at_all list = visited look list

-- the value of one more argument behind others
abbrev pub next_value : ℕ → Cut (List Expression) → Passed → Finds (Cut (List Expression))
next_value at values passed = do
  x ← passed.value at values.cuts
  pure (cut x.cuts (values.rest ++ x.rest ∷ []))

-- the values of arguments one after another
unfoldable pub all_values : List Passed → ℕ → Cuts → Finds (Cut (List Expression))
all_values list at cuts = through (next_value at) (cut cuts []) list

-- ---- the number of an element, by its indices in row order (6.5.2.1)

abbrev pub Numbered : Type 0
Numbered = Finds (Cut (Option Expression))

-- indices that are not as many as there are dimensions give none
unfoldable pub no_number : List Meant → Cuts → Numbered
no_number indices cuts = do
  look_at_all indices
  pure (cut cuts None)

abbrev pub number_in_one : List Meant → Option Meant → ℕ → Cuts → Numbered
number_in_one indices None at cuts = no_number indices cuts
number_in_one indices (Some i) at cuts = do
  x ← i.value at cuts
  pure (cut x.cuts (Some x.rest))

abbrev pub number_in_two : ℕ → ℕ → List Meant → Option (Meant × Meant) → ℕ → Cuts → Numbered
number_in_two a c indices None at cuts = no_number indices cuts
number_in_two a c indices (Some p) at cuts = do
  x ← p.0.value at cuts
  y ← p.1.value at x.cuts
  pure (cut y.cuts (Some (Expression.Row x.rest a y.rest c)))

abbrev pub number_in_three : ℕ → ℕ → ℕ → List Meant → Option (Meant × Meant × Meant) → ℕ → Cuts → Numbered
number_in_three a c d indices None at cuts = no_number indices cuts
number_in_three a c d indices (Some t) at cuts = do
  x ← t.0.value at cuts
  y ← t.1.value at x.cuts
  z ← t.2.value at y.cuts
  pure (cut z.cuts (Some (Expression.Row (Expression.Row x.rest a y.rest c) (times a c) z.rest d)))

unfoldable pub element_number : Dimensions → List Meant → ℕ → Cuts → Numbered
element_number Scalar indices at cuts = no_number indices cuts
element_number (One a) indices at cuts = number_in_one indices (one indices) at cuts
element_number (Two a c) indices at cuts = number_in_two a c indices (two indices) at cuts
element_number (Three a c d) indices at cuts = number_in_three a c d indices (three indices) at cuts

abbrev pub is_short_circuit : BinaryOperator → Bool
is_short_circuit b.LogicalOr = true
is_short_circuit b.LogicalAnd = true
is_short_circuit operator = false

abbrev pub is_not : UnaryOperator → Bool
is_not u.Not = true
is_not operator = false

abbrev pub joined : BinaryOperator → Statement → Statement → Statement
joined b.LogicalOr first second = Statement.Either first second
joined operator first second = Statement.Both first second

abbrev pub opposite_of : Statement → Statement
opposite_of c = Statement.Opposite c

-- one layer of an argument
abbrev pub ArgumentLayer : Type 0
ArgumentLayer = Argument-F ArgumentTree FormTree CallTree ChoiceTree ExpressionTree PlaceTree PointerTree TermTree

-- the place of an argument's first byte
abbrev pub offset_in : ArgumentLayer → ℕ
offset_in (Argument-F.Value e) = (out-Expression e).offset
offset_in (Argument-F.Text bytes at) = at
offset_in (Argument-F.Address p at) = at
offset_in (Argument-F.Pointer p) = (out-Pointer p).offset

abbrev pub argument_offset : ArgumentTree → ℕ
argument_offset a = offset_in (out-Argument a)

module _ (s : Scope) where
  abbrev pub variable_named : Name → Option Variable
  variable_named name = variable_of (look_up s name.bytes)

  unfoldable pub place_value : Placed → Valued
  place_value p at cuts = do
    number ← element_number (dimensions_of (variable_named p.name)) p.indices at cuts
    finds_any (misuse (look_up s p.name.bytes) (length p.indices)) p.name.offset
    pure (cut number.cuts (named_value (variable_named p.name) number.rest))

  abbrev pub is_argument_name : Option (List ℕ) → Bool
  is_argument_name None = false
  is_argument_name (Some name) = is_argument (look_up s name)

  abbrev pub cast_operand : Option BasicType → Meant → Valued
  cast_operand ty x at cuts = if is_long ty && is_argument_name x.name then pure (cut cuts argument_value) else x.value at cuts

  unfoldable pub cast : Specifiers → Meant → Valued
  cast words x at cuts = do
    operand ← cast_operand (plain_integer words) x at cuts
    value ← converted words.offset (plain_integer words) operand.rest
    pure (cut operand.cuts value)

  -- one more operator behind a value
  abbrev pub term_value : ℕ → Cut Expression → Operand → Finds (Cut Expression)
  term_value at x t = do
    y ← t.operand.value at x.cuts
    pure (cut y.cuts (operated t.operator x.rest y.rest))

  unfoldable pub terms_value : ℕ → Cut Expression → List Operand → Finds (Cut Expression)
  terms_value at first terms = through (term_value at) first terms

  -- ---- calls (6.5.2.2)

  -- a function of the text by the number of its header
  unfoldable pub function_value : Name → List Passed → ℕ → Valued
  function_value name arguments number at cuts = do
    definition ← function_name s number (length arguments) true name.offset
    values ← all_values arguments at cuts
    pure (called_value at cuts.next (value_type (slice_get s.headers number)) definition values)

  -- anything else has no value
  unfoldable pub no_value : Known → Name → List Passed → Cuts → Finds (Cut Expression)
  no_value known name arguments cuts = do
    misplaced s known (length arguments) name.offset
    visited (λ (x : Passed). x.looked) arguments
    pure (cut cuts nothing)

  abbrev pub call_by : Option ℕ → Known → Called → Valued
  call_by (Some number) known c at cuts = function_value c.name c.arguments number at cuts
  call_by None known c at cuts = no_value known c.name c.arguments cuts

  abbrev pub call_value : Called → Valued
  call_value c at cuts = call_by (number_of (look_up s c.name.bytes)) (look_up s c.name.bytes) c at cuts

  -- ---- conditionals (6.5.15): the condition and both operands keep values in the locals from n on

  abbrev pub next_choice : ℕ → Chosen → Choice → Finds Chosen
  next_choice n x choice = do
    c ← choice.condition.condition n
    y ← operand_value n choice.otherwise
    pure (conditional n (place_in_tree choice.condition.offset) c x y)

  unfoldable pub further_choices : ℕ → Chosen → List Choice → Finds Chosen
  further_choices n x choices = through (next_choice n) x choices

  abbrev pub choices_value : ℕ → Meant → List Choice → Finds Chosen
  choices_value n first choices = do
    x ← operand_value n first
    further_choices n x choices

  abbrev pub conditional_value : Meant → List Choice → Valued
  conditional_value first choices at cuts = do
    x ← choices_value cuts.next first choices
    pure (with_choice cuts x)

  -- ---- conditions (6.8.4, 6.8.5): operands joined by short circuits and ! from the top

  abbrev pub operand_condition : Valued → ℕ → ℕ → Finds Statement
  operand_condition value offset n = do
    x ← chosen_value value offset n
    pure (test x)

  abbrev pub term_condition : ℕ → Statement → Operand → Finds Statement
  term_condition n first t = do
    second ← t.operand.condition n
    pure (joined t.operator first second)

  unfoldable pub terms_condition : ℕ → Statement → List Operand → Finds Statement
  terms_condition n first terms = through (term_condition n) first terms

  abbrev pub joined_condition : Meant → List Operand → ℕ → Finds Statement
  joined_condition first terms n = do
    c ← first.condition n
    terms_condition n c terms

  abbrev pub opposite : Finds Statement → Finds Statement
  opposite inner = do
    c ← inner
    pure (opposite_of c)

  -- ---- each layer of the tree

  abbrev pub a_value : Valued → Formed
  a_value value = record { value = value; condition = operand_condition value; name = None }

  abbrev pub constant_form : Constant → ℕ → Formed
  constant_form c offset = a_value (λ at cuts. constant c offset >>= (λ x. pure (cut cuts x)))

  abbrev pub name_alone : Name → List Meant → Option (List ℕ)
  name_alone name [] = Some name.bytes
  name_alone name (index ∷ more) = None

  abbrev pub place_form : Placed → Formed
  place_form p = record { value = place_value p; condition = operand_condition (place_value p); name = name_alone p.name p.indices }

  abbrev pub unary_value : UnaryOperator → Meant → Valued
  unary_value operator x at cuts = do
    y ← x.value at cuts
    pure (cut y.cuts (unary operator y.rest))

  abbrev pub unary_condition : UnaryOperator → Meant → ℕ → ℕ → Finds Statement
  unary_condition operator x offset n =
      if is_not operator then opposite (x.condition n) else operand_condition (unary_value operator x) offset n

  abbrev pub unary_form : UnaryOperator → Meant → Formed
  unary_form operator x = record { value = unary_value operator x; condition = unary_condition operator x; name = None }

  abbrev pub are_short_circuits : List Operand → Bool
  are_short_circuits terms = list_all (λ (t : Operand). is_short_circuit t.operator) terms

  -- && and || as a value are 1 or 0, and are evaluated as a condition (6.5.13, 6.5.14)
  abbrev pub truth_value : Meant → List Operand → Cuts → Finds (Cut Expression)
  truth_value first terms cuts = do
    c ← joined_condition first terms cuts.next
    pure (kept cuts.next int_type (Statement.Truth cuts.next c) cuts)

  abbrev pub arithmetic_value : Meant → List Operand → Valued
  arithmetic_value first terms at cuts = do
    x ← first.value at cuts
    terms_value at x terms

  abbrev pub binary_value : Meant → List Operand → Valued
  binary_value first terms at cuts = if are_short_circuits terms then truth_value first terms cuts else arithmetic_value first terms at cuts

  abbrev pub binary_condition : Meant → List Operand → ℕ → ℕ → Finds Statement
  binary_condition first terms offset n =
      if are_short_circuits terms then joined_condition first terms n else operand_condition (arithmetic_value first terms) offset n

  abbrev pub binary_form : Meant → List Operand → Formed
  binary_form first terms = record { value = binary_value first terms; condition = binary_condition first terms; name = None }

  abbrev pub form_step : Form-F Passed Formed Called Choice Meant Placed Pointed Operand → Formed
  form_step (Form-F.Constant c offset) = constant_form c offset
  form_step (Form-F.Place p) = place_form p
  form_step (Form-F.Call c) = a_value (call_value c)
  form_step (Form-F.Unary operator x) = unary_form operator x
  form_step (Form-F.Cast words x) = a_value (cast words x)
  form_step (Form-F.Binary first terms) = binary_form first terms
  form_step (Form-F.Conditional first choices) = a_value (conditional_value first choices)

  abbrev pub expression_step : Expression-F Passed Formed Called Choice Meant Placed Pointed Operand → Meant
  expression_step e = record { offset = e.offset; value = e.form.value; condition = e.form.condition e.offset; name = e.form.name }

  -- an argument of another form, whose first byte is at the place, has no value
  unfoldable pub refused_value : ℕ → Looked → Cuts → Finds (Cut Expression)
  refused_value offset looked cuts = do
    finds rule.Kind offset
    looked
    pure (cut cuts nothing)

  abbrev pub refused_argument : ℕ → Looked → Passed
  refused_argument offset looked = record { value = (λ at cuts. refused_value offset looked cuts); looked = looked }

  abbrev pub argument_step : Argument-F Passed Formed Called Choice Meant Placed Pointed Operand → Passed
  argument_step (Argument-F.Value x) = record { value = x.value; looked = look x }
  argument_step (Argument-F.Text bytes offset) = refused_argument offset (pure tt)
  argument_step (Argument-F.Address p offset) = refused_argument offset (look_at_all p.indices)
  argument_step (Argument-F.Pointer p) = refused_argument p.offset p.looked

  abbrev pub call_step : Call-F Passed Formed Called Choice Meant Placed Pointed Operand → Called
  call_step c = record { name = c.name; arguments = c.arguments }

  abbrev pub choice_step : Choice-F Passed Formed Called Choice Meant Placed Pointed Operand → Choice
  choice_step c = record { condition = c.condition; otherwise = c.otherwise }

  abbrev pub place_step : Place-F Passed Formed Called Choice Meant Placed Pointed Operand → Placed
  place_step p = record { name = p.name; indices = p.indices }

  abbrev pub looked_operand : Option Meant → Looked
  looked_operand None = pure tt
  looked_operand (Some x) = look x

  abbrev pub pointer_step : Pointer-F Passed Formed Called Choice Meant Placed Pointed Operand → Pointed
  pointer_step p = record { offset = p.offset; looked = looked_operand p.operand }

  abbrev pub term_step : Term-F Passed Formed Called Choice Meant Placed Pointed Operand → Operand
  term_step t = record { operator = t.operator; operand = t.operand }

  abbrev pub meant : ExpressionTree → Meant
  meant =
      fold-Expression Passed Formed Called Choice Meant Placed Pointed Operand
      argument_step form_step call_step choice_step expression_step place_step pointer_step term_step

  abbrev pub formed : FormTree → Formed
  formed =
      fold-Form Passed Formed Called Choice Meant Placed Pointed Operand
      argument_step form_step call_step choice_step expression_step place_step pointer_step term_step

  abbrev pub placed : PlaceTree → Placed
  placed =
      fold-Place Passed Formed Called Choice Meant Placed Pointed Operand
      argument_step form_step call_step choice_step expression_step place_step pointer_step term_step

  abbrev pub term : TermTree → Operand
  term =
      fold-Term Passed Formed Called Choice Meant Placed Pointed Operand
      argument_step form_step call_step choice_step expression_step place_step pointer_step term_step

  abbrev pub choice : ChoiceTree → Choice
  choice =
      fold-Choice Passed Formed Called Choice Meant Placed Pointed Operand
      argument_step form_step call_step choice_step expression_step place_step pointer_step term_step

  abbrev pub called : CallTree → Called
  called =
      fold-Call Passed Formed Called Choice Meant Placed Pointed Operand
      argument_step form_step call_step choice_step expression_step place_step pointer_step term_step

  abbrev pub argument : ArgumentTree → Passed
  argument =
      fold-Argument Passed Formed Called Choice Meant Placed Pointed Operand
      argument_step form_step call_step choice_step expression_step place_step pointer_step term_step

  -- ---- as statements use them

  abbrev pub value : ExpressionTree → Valued
  value e = (meant e).value

  abbrev pub condition : ExpressionTree → ℕ → Finds Statement
  condition e = (meant e).condition

  -- an expression, the indices of a place and an argument, looked through
  abbrev pub looked : ExpressionTree → Looked
  looked e = look (meant e)

  abbrev pub looked_argument : ArgumentTree → Looked
  looked_argument a = (argument a).looked

  abbrev pub arguments : List ArgumentTree → Looked
  arguments list = visited looked_argument list

  -- the number of an element of an array of the dimensions
  abbrev pub place_number : Dimensions → PlaceTree → ℕ → Cuts → Numbered
  place_number dimensions p at cuts = element_number dimensions (placed p).indices at cuts

  -- the values of arguments that are integers
  abbrev pub all_passed : List ArgumentTree → ℕ → Cuts → Finds (Cut (List Expression))
  all_passed list at cuts = all_values (map argument list) at cuts
