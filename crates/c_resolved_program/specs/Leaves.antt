-- The leaves of a tree that its program keeps: constants, string literals, the names of functions and globals, and the binary
-- operators that stand side by side; and what the lexer and the grammar make of them (C99 6.4.2, 6.4.4, 6.4.5, 6.5).
use Rattle.std.specs.Prelude.{◌≡◌, ℕ, List, [], ◌∷◌, ◌++◌, Option, Some, None, pos, IsTrue, ⊤}
use Rattle.std.specs.List.{AllByRecursion}
use Rattle.hls_ints.specs.Types.{HasType}
use Rattle.c_token.specs.declared.constant.Constant.{Constant as ConstantToken}
use Rattle.c_token.specs.declared.constant.Constant.TheVariants as constant
use Rattle.c_tree.specs.declared.expression.BinaryOperator.{BinaryOperator}
use Rattle.c_tree.specs.declared.expression.Expression.{Expression}
use Rattle.c_tree.specs.declared.expression.Form.{Form}
use Rattle.c_tree.specs.declared.expression.Choice.{Choice}
use Rattle.c_tree.specs.declared.expression.Term.{Term}
use Rattle.c_tree.specs.declared.expression.Place.{Place}
use Rattle.c_tree.specs.declared.expression.Call.{Call}
use Rattle.c_tree.specs.declared.expression.Pointer.{Pointer}
use Rattle.c_tree.specs.declared.expression.Argument.{Argument}
use Rattle.c_tree.specs.declared.expression.Argument.TheOpen.{Argument-F, Form-F, Call-F, Choice-F, Expression-F, Place-F, Pointer-F, Term-F}
use Rattle.c_tree.specs.declared.expression.Argument.TheFolds.{fold-Argument, fold-Form, fold-Call, fold-Choice, fold-Expression, fold-Place, fold-Pointer, fold-Term}
use Rattle.c_tree.specs.declared.declaration.Declaration.{Declaration}
use Rattle.c_tree.specs.declared.declaration.Declarator.{Declarator}
use Rattle.c_tree.specs.declared.statement.SimpleForm.{SimpleForm}
use Rattle.c_tree.specs.declared.statement.SimpleForm.TheVariants as simple
use Rattle.c_tree.specs.declared.statement.SimpleStatement.{SimpleStatement}
use Rattle.c_tree.specs.declared.statement.Returned.{Returned}
use Rattle.c_tree.specs.declared.statement.Returned.TheVariants as returned
use Rattle.c_tree.specs.declared.statement.ForStart.{ForStart}
use Rattle.c_tree.specs.declared.statement.ForStart.TheVariants as start
use Rattle.c_tree.specs.declared.statement.Block.{Block}
use Rattle.c_tree.specs.declared.statement.CaseLabel.{CaseLabel}
use Rattle.c_tree.specs.declared.statement.BlockItem.TheOpen.{Block-F, BlockItem-F, Group-F, Statement-F}
use Rattle.c_tree.specs.declared.statement.BlockItem.TheFolds.{fold-Block}
use Rattle.c_tree.specs.declared.declaration.Function.{Function}
use Rattle.c_tree.specs.declared.declaration.Initial.{Initial}
use Rattle.c_tree.specs.declared.declaration.Initial.TheOpen.{Initial-F}
use Rattle.c_tree.specs.declared.declaration.Initial.TheFolds.{fold-Initial}
use Rattle.c_tree.specs.declared.declaration.Initializer.{Initializer}
use Rattle.c_tree.specs.declared.declaration.Initializer.TheVariants as initial
use Rattle.c_tree.specs.declared.declaration.GlobalDeclarator.{GlobalDeclarator}
use Rattle.c_tree.specs.declared.declaration.ExternalDeclaration.{ExternalDeclaration}
use Rattle.c_tree.specs.declared.declaration.ExternalDeclaration.TheVariants as external
use Rattle.c_tree.specs.declared.declaration.TranslationUnit.{TranslationUnit}
use Rattle.c_program.specs.Resolved.{IsName, is_text_byte}
use Rattle.c_rules.specs.Constants.{constant_type}
use Rattle.c_expressions.specs.Expressions.{is_short_circuit}

pub data Leaf : Type 0 where
  Constant : (value : ConstantToken) → Leaf
  -- the bytes between the quotes of a string literal
  Text : (bytes : List ℕ) → Leaf
  -- the name of a function or a global
  Name : (bytes : List ℕ) → Leaf
  -- the binary operators that stand side by side
  Operators : (operators : List BinaryOperator) → Leaf

-- the number is one of the constant's type
abbrev pub IsValidConstant : ConstantToken → Type 0
IsValidConstant (constant.Typed value ty) = HasType (constant_type ty) (pos value)
IsValidConstant constant.TooLarge = ⊤

-- one or more, which are short circuits all or none of them (6.5.5 to 6.5.14)
abbrev pub AreOfOneLevel : List BinaryOperator → Type 0
AreOfOneLevel [] = ⊥
AreOfOneLevel (first ∷ more) = AllByRecursion (λ operator. is_short_circuit operator ≡ is_short_circuit first) more

abbrev pub IsValidLeaf : Leaf → Type 0
IsValidLeaf (Leaf.Constant value) = IsValidConstant value
IsValidLeaf (Leaf.Text bytes) = AllByRecursion (λ byte. IsTrue (is_text_byte byte)) bytes
IsValidLeaf (Leaf.Name bytes) = IsName bytes
IsValidLeaf (Leaf.Operators operators) = AreOfOneLevel operators

abbrev pub Leaves : Type 0
Leaves = List Leaf

abbrev pub AreValid : Leaves → Type 0
AreValid leaves = AllByRecursion IsValidLeaf leaves

abbrev pub all_of : List Leaves → Leaves
all_of [] = []
all_of (leaves ∷ more) = leaves ++ all_of more

abbrev pub if_any : Option Leaves → Leaves
if_any None = []
if_any (Some leaves) = leaves

abbrev pub of_each : {A : Type 0} → (A → Leaves) → List A → Leaves
of_each leaves [] = []
of_each leaves (a ∷ more) = leaves a ++ of_each leaves more

abbrev pub of_any : {A : Type 0} → (A → Leaves) → Option A → Leaves
of_any leaves None = []
of_any leaves (Some a) = leaves a

-- ---- expressions

-- an operator, and the leaves of its right operand
pub record Operated : Type 0 where
  pub operator : BinaryOperator
  pub leaves : Leaves

abbrev pub operators_of : List Operated → List BinaryOperator
operators_of [] = []
operators_of (t ∷ more) = t.operator ∷ operators_of more

abbrev pub operands_of : List Operated → Leaves
operands_of [] = []
operands_of (t ∷ more) = t.leaves ++ operands_of more

abbrev pub argument_layer : Argument-F Leaves Leaves Leaves Leaves Leaves Leaves Leaves Operated → Leaves
argument_layer (Argument-F.Value e) = e
argument_layer (Argument-F.Text bytes at) = Leaf.Text bytes ∷ []
argument_layer (Argument-F.Address p at) = p
argument_layer (Argument-F.Pointer p) = p

abbrev pub form_layer : Form-F Leaves Leaves Leaves Leaves Leaves Leaves Leaves Operated → Leaves
form_layer (Form-F.Constant value at) = Leaf.Constant value ∷ []
form_layer (Form-F.Place p) = p
form_layer (Form-F.Call c) = c
form_layer (Form-F.Unary operator e) = e
form_layer (Form-F.Cast words e) = e
form_layer (Form-F.Binary first terms) = Leaf.Operators (operators_of terms) ∷ (first ++ operands_of terms)
form_layer (Form-F.Conditional first choices) = first ++ all_of choices

abbrev pub call_layer : Call-F Leaves Leaves Leaves Leaves Leaves Leaves Leaves Operated → Leaves
call_layer c = all_of c.arguments

abbrev pub choice_layer : Choice-F Leaves Leaves Leaves Leaves Leaves Leaves Leaves Operated → Leaves
choice_layer c = c.condition ++ c.otherwise

abbrev pub expression_layer : Expression-F Leaves Leaves Leaves Leaves Leaves Leaves Leaves Operated → Leaves
expression_layer e = e.form

abbrev pub place_layer : Place-F Leaves Leaves Leaves Leaves Leaves Leaves Leaves Operated → Leaves
place_layer p = all_of p.indices

abbrev pub pointer_layer : Pointer-F Leaves Leaves Leaves Leaves Leaves Leaves Leaves Operated → Leaves
pointer_layer p = if_any p.operand

abbrev pub term_layer : Term-F Leaves Leaves Leaves Leaves Leaves Leaves Leaves Operated → Operated
term_layer t = record { operator = t.operator; leaves = t.operand }

abbrev pub expression_leaves : Expression → Leaves
expression_leaves =
    fold-Expression Leaves Leaves Leaves Leaves Leaves Leaves Leaves Operated
    argument_layer form_layer call_layer choice_layer expression_layer place_layer pointer_layer term_layer

abbrev pub form_leaves : Form → Leaves
form_leaves =
    fold-Form Leaves Leaves Leaves Leaves Leaves Leaves Leaves Operated
    argument_layer form_layer call_layer choice_layer expression_layer place_layer pointer_layer term_layer

abbrev pub choice_leaves : Choice → Leaves
choice_leaves =
    fold-Choice Leaves Leaves Leaves Leaves Leaves Leaves Leaves Operated
    argument_layer form_layer call_layer choice_layer expression_layer place_layer pointer_layer term_layer

abbrev pub operated : Term → Operated
operated =
    fold-Term Leaves Leaves Leaves Leaves Leaves Leaves Leaves Operated
    argument_layer form_layer call_layer choice_layer expression_layer place_layer pointer_layer term_layer

abbrev pub term_leaves : Term → Leaves
term_leaves t = (operated t).leaves

abbrev pub argument_leaves : Argument → Leaves
argument_leaves =
    fold-Argument Leaves Leaves Leaves Leaves Leaves Leaves Leaves Operated
    argument_layer form_layer call_layer choice_layer expression_layer place_layer pointer_layer term_layer

abbrev pub place_leaves : Place → Leaves
place_leaves =
    fold-Place Leaves Leaves Leaves Leaves Leaves Leaves Leaves Operated
    argument_layer form_layer call_layer choice_layer expression_layer place_layer pointer_layer term_layer

abbrev pub call_leaves : Call → Leaves
call_leaves =
    fold-Call Leaves Leaves Leaves Leaves Leaves Leaves Leaves Operated
    argument_layer form_layer call_layer choice_layer expression_layer place_layer pointer_layer term_layer

abbrev pub pointer_leaves : Pointer → Leaves
pointer_leaves =
    fold-Pointer Leaves Leaves Leaves Leaves Leaves Leaves Leaves Operated
    argument_layer form_layer call_layer choice_layer expression_layer place_layer pointer_layer term_layer

-- ---- statements

abbrev pub declarator_leaves : Declarator → Leaves
declarator_leaves d = of_each expression_leaves d.lengths ++ of_any expression_leaves d.initializer

abbrev pub declaration_leaves : Declaration → Leaves
declaration_leaves d = of_each declarator_leaves d.declarators

abbrev pub simple_form_leaves : SimpleForm → Leaves
simple_form_leaves (simple.Assign place operator e) = place_leaves place ++ expression_leaves e
simple_form_leaves (simple.Step place way) = place_leaves place
simple_form_leaves (simple.Call c) = call_leaves c

abbrev pub simple_leaves : SimpleStatement → Leaves
simple_leaves x = simple_form_leaves x.form

abbrev pub returned_leaves : Returned → Leaves
returned_leaves returned.Nothing = []
returned_leaves (returned.Value e) = expression_leaves e
returned_leaves (returned.Pointer p) = pointer_leaves p

abbrev pub start_leaves : ForStart → Leaves
start_leaves start.Nothing = []
start_leaves (start.Declaration d) = declaration_leaves d
start_leaves (start.Simple x) = simple_leaves x

abbrev pub item_layer : BlockItem-F Leaves Leaves Leaves Leaves → Leaves
item_layer (BlockItem-F.Declaration d) = declaration_leaves d
item_layer (BlockItem-F.Statement x) = x

abbrev pub statement_layer : Statement-F Leaves Leaves Leaves Leaves → Leaves
statement_layer (Statement-F.Block body) = body
statement_layer Statement-F.Empty = []
statement_layer (Statement-F.Simple x) = simple_leaves x
statement_layer (Statement-F.Break at) = []
statement_layer (Statement-F.Continue at) = []
statement_layer (Statement-F.If test consequent alternative) = expression_leaves test ++ (consequent ++ if_any alternative)
statement_layer (Statement-F.While test body) = expression_leaves test ++ body
statement_layer (Statement-F.DoWhile body test) = body ++ expression_leaves test
statement_layer (Statement-F.For begin test step body) =
    start_leaves begin ++ (of_any expression_leaves test ++ (of_any simple_leaves step ++ body))
statement_layer (Statement-F.Return x at) = returned_leaves x
statement_layer (Statement-F.Switch e groups at) = expression_leaves e ++ all_of groups

abbrev pub block_layer : Block-F Leaves Leaves Leaves Leaves → Leaves
block_layer b = all_of b.items

abbrev pub label_leaves : CaseLabel → Leaves
label_leaves label = of_any expression_leaves label.value

abbrev pub group_layer : Group-F Leaves Leaves Leaves Leaves → Leaves
group_layer g = label_leaves g.label ++ all_of g.statements

abbrev pub block_leaves : Block → Leaves
block_leaves = fold-Block Leaves Leaves Leaves Leaves item_layer statement_layer block_layer group_layer

-- ---- declarations at file scope

-- a value, or what stands in braces
abbrev pub initial_layer : Initial-F Leaves → Leaves
initial_layer (Initial-F.Value e) = expression_leaves e
initial_layer (Initial-F.List list at) = all_of list

abbrev pub initial_leaves : Initial → Leaves
initial_leaves = fold-Initial Leaves initial_layer

abbrev pub initializer_leaves : Initializer → Leaves
initializer_leaves (initial.Value e) = expression_leaves e
initializer_leaves (initial.List list at) = of_each initial_leaves list
initializer_leaves initial.Mutex = []

abbrev pub global_leaves : GlobalDeclarator → Leaves
global_leaves d = Leaf.Name d.name.bytes ∷ (of_each expression_leaves d.lengths ++ of_any initializer_leaves d.initializer)

abbrev pub function_leaves : Function → Leaves
function_leaves f = Leaf.Name f.name.bytes ∷ of_any block_leaves f.body

abbrev pub external_leaves : ExternalDeclaration → Leaves
external_leaves (external.Function f) = function_leaves f
external_leaves (external.Objects o) = of_each global_leaves o.declarators

-- each leaf is as the lexer and the grammar make it
abbrev pub HasValidLeaves : TranslationUnit → Type 0
HasValidLeaves tree = AreValid (of_each external_leaves tree.declarations)
