-- The leaves of expressions as the grammar puts them together.
use Rattle.std.proofs.Common.{◌≡◌, sym, ap, subst, ◌∙◌, ℕ, Bool, List, [], ◌∷◌, map, Some, None}
use Rattle.std.specs.List.{AllByRecursion}
use Rattle.c_token.specs.declared.constant.Constant.{Constant}
use Rattle.c_tree.specs.declared.expression.Name.{Name}
use Rattle.c_tree.specs.declared.expression.Specifiers.{Specifiers}
use Rattle.c_tree.specs.declared.expression.UnaryOperator.{UnaryOperator}
use Rattle.c_tree.specs.declared.expression.BinaryOperator.{BinaryOperator}
use Rattle.c_tree.specs.declared.expression.Expression.{Expression, out-Expression}
use Rattle.c_tree.specs.declared.expression.Form.{Form}
use Rattle.c_tree.specs.declared.expression.Form.TheVariants as form
use Rattle.c_tree.specs.declared.expression.Term.{Term}
use Rattle.c_tree.specs.declared.expression.Choice.{Choice}
use Rattle.c_tree.specs.declared.expression.Place.{Place}
use Rattle.c_tree.specs.declared.expression.Call.{Call}
use Rattle.c_tree.specs.declared.expression.Argument.{Argument}
use Rattle.c_tree.specs.declared.expression.Argument.TheVariants as argument_of
use Rattle.c_tree.specs.declared.expression.Pointer.{Pointer}
use Rattle.c_tree.specs.declared.expression.Argument.TheOpen.{Argument-F, Form-F}
use Rattle.c_tree.specs.declared.expression.Argument.TheFolds.{fold_out-Expression, fold-roll-Argument, fold-roll-Form, fold-roll-Call}
use Rattle.c_tree.specs.declared.expression.Argument.TheFolds.{fold-roll-Choice, fold-roll-Expression, fold-roll-Place, fold-roll-Pointer, fold-roll-Term}
use Rattle.c_tree.specs.Trees as tree
use Rattle.c_expressions.specs.Expressions.{is_short_circuit}
use Rattle.c_resolved_program.specs.Leaves.{Leaves, Operated, IsValidConstant, AreValid, all_of, operated, operators_of, operands_of}
use Rattle.c_resolved_program.specs.Leaves.{argument_layer, form_layer, call_layer, choice_layer, expression_layer, place_layer, pointer_layer, term_layer}
use Rattle.c_resolved_program.specs.Leaves.{argument_leaves, form_leaves, call_leaves, choice_leaves, expression_leaves, place_leaves, pointer_leaves, term_leaves, IsValidLeaf}
use Rattle.c_resolved_program.proofs.Lists.{all_both}
use Rattle.c_resolved_program.proofs.Pieces.{AreText}

abbrev pub IsExpression : Expression → Type 0
IsExpression e = AreValid (expression_leaves e)

abbrev pub IsForm : Form → Type 0
IsForm e = AreValid (form_leaves e)

abbrev pub IsTerm : Term → Type 0
IsTerm e = AreValid (term_leaves e)

abbrev pub IsChoice : Choice → Type 0
IsChoice e = AreValid (choice_leaves e)

abbrev pub IsPlace : Place → Type 0
IsPlace e = AreValid (place_leaves e)

abbrev pub IsCall : Call → Type 0
IsCall e = AreValid (call_leaves e)

abbrev pub IsArgument : Argument → Type 0
IsArgument e = AreValid (argument_leaves e)

abbrev pub IsPointer : Pointer → Type 0
IsPointer e = AreValid (pointer_leaves e)

pub all_parts : {A : Type 0} (leaves : A → Leaves) (list : List A) → AllByRecursion (λ a. AreValid (leaves a)) list → AreValid (all_of (map leaves list))
all_parts leaves [] all = tt
all_parts leaves (a ∷ list) all = all_both IsValidLeaf (leaves a) (all_of (map leaves list)) all.0 (all_parts leaves list all.1)

-- ---- expressions

pub expression_is : (at : ℕ) (f : Form) → IsForm f → IsExpression (tree.expression at f)
expression_is at f is =
    subst AreValid
    (sym (fold-roll-Expression Leaves Leaves Leaves Leaves Leaves Leaves Leaves Operated
    argument_layer form_layer call_layer choice_layer expression_layer place_layer pointer_layer term_layer (record { offset = at; form = f }))) is

pub moved_is : (at : ℕ) (e : Expression) → IsExpression e → IsExpression (tree.moved at e)
moved_is at e is =
    expression_is at (out-Expression e).form
    (subst AreValid
    (fold_out-Expression Leaves Leaves Leaves Leaves Leaves Leaves Leaves Operated
    argument_layer form_layer call_layer choice_layer expression_layer place_layer pointer_layer term_layer e) is)

constant_form : (c : Constant) (at : ℕ) → IsValidConstant c → IsForm (form.Constant c at)
constant_form c at is =
    subst AreValid
    (sym (ap form_leaves (sym (form.rolls-Constant c at)) ∙ fold-roll-Form Leaves Leaves Leaves Leaves Leaves Leaves Leaves Operated
    argument_layer form_layer call_layer choice_layer expression_layer place_layer pointer_layer term_layer (Form-F.Constant c at))) (is, tt)

pub constant_is : (c : Constant × ℕ) → IsValidConstant c.0 → IsExpression (tree.constant c)
constant_is c is = expression_is c.1 (form.Constant c.0 c.1) (constant_form c.0 c.1 is)

pub place_form : (x : Place) → IsPlace x → IsForm (form.Place x)
place_form x is =
    subst AreValid
    (sym (ap form_leaves (sym (form.rolls-Place x)) ∙ fold-roll-Form Leaves Leaves Leaves Leaves Leaves Leaves Leaves Operated
    argument_layer form_layer call_layer choice_layer expression_layer place_layer pointer_layer term_layer (Form-F.Place x))) is

pub call_form : (x : Call) → IsCall x → IsForm (form.Call x)
call_form x is =
    subst AreValid
    (sym (ap form_leaves (sym (form.rolls-Call x)) ∙ fold-roll-Form Leaves Leaves Leaves Leaves Leaves Leaves Leaves Operated
    argument_layer form_layer call_layer choice_layer expression_layer place_layer pointer_layer term_layer (Form-F.Call x))) is

unary_form : (op : UnaryOperator) (e : Expression) → IsExpression e → IsForm (form.Unary op e)
unary_form op e is =
    subst AreValid
    (sym (ap form_leaves (sym (form.rolls-Unary op e)) ∙ fold-roll-Form Leaves Leaves Leaves Leaves Leaves Leaves Leaves Operated
    argument_layer form_layer call_layer choice_layer expression_layer place_layer pointer_layer term_layer (Form-F.Unary op e))) is

pub unary_is : (op : UnaryOperator × ℕ) (e : Expression) → IsExpression e → IsExpression (tree.unary op e)
unary_is op e is = expression_is op.1 (form.Unary op.0 e) (unary_form op.0 e is)

cast_form : (s : Specifiers) (e : Expression) → IsExpression e → IsForm (form.Cast s e)
cast_form s e is =
    subst AreValid
    (sym (ap form_leaves (sym (form.rolls-Cast s e)) ∙ fold-roll-Form Leaves Leaves Leaves Leaves Leaves Leaves Leaves Operated
    argument_layer form_layer call_layer choice_layer expression_layer place_layer pointer_layer term_layer (Form-F.Cast s e))) is

pub cast_is : (s : Specifiers) (at : ℕ) (e : Expression) → IsExpression e → IsExpression (tree.cast s at e)
cast_is s at e is = expression_is at (form.Cast s e) (cast_form s e is)

-- operators that are short circuits or not
abbrev pub OfLevel : Bool → Term → Type 0
OfLevel short t = is_short_circuit (operated t).operator ≡ short

abbrev pub IsTermOf : Bool → Term → Type 0
IsTermOf short t = IsTerm t × OfLevel short t

operands_are : (short : Bool) (list : List Term) → AllByRecursion (IsTermOf short) list → AreValid (operands_of (map operated list))
operands_are short [] all = tt
operands_are short (t ∷ list) all = all_both IsValidLeaf (term_leaves t) (operands_of (map operated list)) all.0.0 (operands_are short list all.1)

like_first : (short : Bool) (first : BinaryOperator) (list : List Term) → is_short_circuit first ≡ short → AllByRecursion (IsTermOf short) list →
    AllByRecursion (λ operator. is_short_circuit operator ≡ is_short_circuit first) (operators_of (map operated list))
like_first short first [] is all = tt
like_first short first (t ∷ list) is all = (all.0.1 ∙ sym is, like_first short first list is all.1)

binary_form : (short : Bool) (e : Expression) (t : Term) (list : List Term) → IsExpression e → AllByRecursion (IsTermOf short) (t ∷ list) → IsForm (form.Binary e (t ∷ list))
binary_form short e t list is all =
    subst AreValid
    (sym (ap form_leaves (sym (form.rolls-Binary e (t ∷ list))) ∙ fold-roll-Form Leaves Leaves Leaves Leaves Leaves Leaves Leaves Operated
    argument_layer form_layer call_layer choice_layer expression_layer place_layer pointer_layer term_layer (Form-F.Binary e (t ∷ list)))) (
      like_first short (operated t).operator list all.0.1 all.1,
      all_both IsValidLeaf (expression_leaves e) (operands_of (map operated (t ∷ list))) is (operands_are short (t ∷ list) all),
    )

pub joined_is : (short : Bool) (e : Expression) (list : List Term) → IsExpression e → AllByRecursion (IsTermOf short) list → IsExpression (tree.joined e list)
joined_is short e [] is all = is
joined_is short e (t ∷ list) is all = expression_is (tree.offset_of e) (form.Binary e (t ∷ list)) (binary_form short e t list is all)

conditional_form : (e : Expression) (list : List Choice) → IsExpression e → AllByRecursion IsChoice list → IsForm (form.Conditional e list)
conditional_form e list is all =
    subst AreValid
    (sym (ap form_leaves (sym (form.rolls-Conditional e list)) ∙ fold-roll-Form Leaves Leaves Leaves Leaves Leaves Leaves Leaves Operated
    argument_layer form_layer call_layer choice_layer expression_layer place_layer pointer_layer term_layer (Form-F.Conditional e list)))
    (all_both IsValidLeaf (expression_leaves e) (all_of (map choice_leaves list)) is (all_parts choice_leaves list all))

pub conditional_is : (at : ℕ) (e : Expression) (list : List Choice) → IsExpression e → AllByRecursion IsChoice list → IsExpression (tree.conditional at e list)
conditional_is at e list is all = expression_is at (form.Conditional e list) (conditional_form e list is all)

-- ---- parts of expressions

term_rolled : (op : BinaryOperator × ℕ) (e : Expression) → operated (tree.term op e) ≡ record { operator = op.0; leaves = expression_leaves e }
term_rolled op e =
    fold-roll-Term Leaves Leaves Leaves Leaves Leaves Leaves Leaves Operated argument_layer form_layer call_layer choice_layer expression_layer place_layer pointer_layer
    term_layer (record { operator = op.0; offset = op.1; operand = e })

pub term_is : (short : Bool) (op : BinaryOperator × ℕ) (e : Expression) → is_short_circuit op.0 ≡ short → IsExpression e → IsTermOf short (tree.term op e)
term_is short op e of is = (
  subst (λ (o : Operated). AreValid o.leaves) (sym (term_rolled op e)) is,
  subst (λ (o : Operated). is_short_circuit o.operator ≡ short) (sym (term_rolled op e)) of,
)

pub choice_is : (c : Expression × ℕ) (e : Expression) → IsExpression c.0 → IsExpression e → IsChoice (tree.choice c e)
choice_is c e first is =
    subst AreValid
    (sym (fold-roll-Choice Leaves Leaves Leaves Leaves Leaves Leaves Leaves Operated
    argument_layer form_layer call_layer choice_layer expression_layer place_layer pointer_layer term_layer (record { condition = c.0; offset = c.1; otherwise = e })))
    (all_both IsValidLeaf (expression_leaves c.0) (expression_leaves e) first is)

pub place_is : (x : Name) (indices : List Expression) → AllByRecursion IsExpression indices → IsPlace (tree.place x indices)
place_is x indices all =
    subst AreValid
    (sym (fold-roll-Place Leaves Leaves Leaves Leaves Leaves Leaves Leaves Operated
    argument_layer form_layer call_layer choice_layer expression_layer place_layer pointer_layer term_layer (record { name = x; indices = indices })))
    (all_parts expression_leaves indices all)

pub call_is : (f : Name) (list : List Argument) → AllByRecursion IsArgument list → IsCall (tree.call f list)
call_is f list all =
    subst AreValid
    (sym (fold-roll-Call Leaves Leaves Leaves Leaves Leaves Leaves Leaves Operated
    argument_layer form_layer call_layer choice_layer expression_layer place_layer pointer_layer term_layer (record { name = f; arguments = list })))
    (all_parts argument_leaves list all)

pub null_is : (at : ℕ) → IsPointer (tree.null at)
null_is at =
    subst AreValid
    (sym (fold-roll-Pointer Leaves Leaves Leaves Leaves Leaves Leaves Leaves Operated
    argument_layer form_layer call_layer choice_layer expression_layer place_layer pointer_layer term_layer (record { operand = None; offset = at }))) tt

pub pointer_is : (at : ℕ) (e : Expression) → IsExpression e → IsPointer (tree.pointer at e)
pointer_is at e is =
    subst AreValid
    (sym (fold-roll-Pointer Leaves Leaves Leaves Leaves Leaves Leaves Leaves Operated
    argument_layer form_layer call_layer choice_layer expression_layer place_layer pointer_layer term_layer (record { operand = Some e; offset = at }))) is

-- ---- arguments

pub value_argument_is : (e : Expression) → IsExpression e → IsArgument (argument_of.Value e)
value_argument_is e is =
    subst AreValid
    (sym (ap argument_leaves (sym (argument_of.rolls-Value e)) ∙ fold-roll-Argument Leaves Leaves Leaves Leaves Leaves Leaves Leaves Operated
    argument_layer form_layer call_layer choice_layer expression_layer place_layer pointer_layer term_layer (Argument-F.Value e))) is

pub text_argument_is : (bytes : List ℕ) (at : ℕ) → AreText bytes → IsArgument (argument_of.Text bytes at)
text_argument_is bytes at is =
    subst AreValid
    (sym (ap argument_leaves (sym (argument_of.rolls-Text bytes at)) ∙ fold-roll-Argument Leaves Leaves Leaves Leaves Leaves Leaves Leaves Operated
    argument_layer form_layer call_layer choice_layer expression_layer place_layer pointer_layer term_layer (Argument-F.Text bytes at))) (is, tt)

pub address_argument_is : (x : Place) (at : ℕ) → IsPlace x → IsArgument (argument_of.Address x at)
address_argument_is x at is =
    subst AreValid
    (sym (ap argument_leaves (sym (argument_of.rolls-Address x at)) ∙ fold-roll-Argument Leaves Leaves Leaves Leaves Leaves Leaves Leaves Operated
    argument_layer form_layer call_layer choice_layer expression_layer place_layer pointer_layer term_layer (Argument-F.Address x at))) is

pub pointer_argument_is : (x : Pointer) → IsPointer x → IsArgument (argument_of.Pointer x)
pointer_argument_is x is =
    subst AreValid
    (sym (ap argument_leaves (sym (argument_of.rolls-Pointer x)) ∙ fold-roll-Argument Leaves Leaves Leaves Leaves Leaves Leaves Leaves Operated
    argument_layer form_layer call_layer choice_layer expression_layer place_layer pointer_layer term_layer (Argument-F.Pointer x))) is
