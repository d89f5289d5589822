-- The leaves of a tree's parts are among its own.
use Rattle.std.proofs.Common.{subst, ℕ, List, [], ◌∷◌, map, Option, Some, None}
use Rattle.std.specs.List.{AllByRecursion}
use Rattle.lists.proofs.Places.{all_back, all_front}
use Rattle.c_tree.specs.declared.expression.Argument.{Argument as ArgumentTree, out-Argument}
use Rattle.c_tree.specs.declared.expression.Form.{Form as FormTree, out-Form}
use Rattle.c_tree.specs.declared.expression.Call.{Call as CallTree, out-Call}
use Rattle.c_tree.specs.declared.expression.Choice.{Choice as ChoiceTree}
use Rattle.c_tree.specs.declared.expression.Expression.{Expression as ExpressionTree, out-Expression}
use Rattle.c_tree.specs.declared.expression.Place.{Place as PlaceTree}
use Rattle.c_tree.specs.declared.expression.Pointer.{Pointer as PointerTree, out-Pointer}
use Rattle.c_tree.specs.declared.expression.Term.{Term as TermTree}
use Rattle.c_tree.specs.declared.expression.Argument.TheOpen.{Argument-F, Form-F, Pointer-F}
use Rattle.c_tree.specs.declared.expression.Argument.TheFolds.{map-Argument, map-Form, map-Pointer, fold_out-Argument, fold_out-Call}
use Rattle.c_tree.specs.declared.expression.Argument.TheFolds.{fold_out-Pointer, fold_out-Form, fold_out-Expression}
use Rattle.c_calls.specs.Arguments as a
use Rattle.c_resolved_program.specs.Leaves.{Leaves, Operated, AreValid, all_of, argument_layer, form_layer, call_layer, choice_layer, expression_layer, place_layer, pointer_layer, term_layer}
use Rattle.c_resolved_program.specs.Leaves.{argument_leaves, form_leaves, call_leaves, choice_leaves, expression_leaves, place_leaves, pointer_leaves, operated}
use Rattle.c_resolved_program.proofs.Walks.{IfAny}
use Rattle.c_resolved_program.proofs.Pieces.{AreText}

-- ---- arguments

abbrev pub ValidLayer : a.ArgumentLayer → Type 0
ValidLayer (Argument-F.Value e) = AreValid (expression_leaves e)
ValidLayer (Argument-F.Text bytes at) = AreText bytes
ValidLayer (Argument-F.Address p at) = AreValid (place_leaves p)
ValidLayer (Argument-F.Pointer p) = AreValid (pointer_leaves p)

valid_layer : (y : a.ArgumentLayer) →
    AreValid (argument_layer
    (map-Argument ArgumentTree FormTree CallTree ChoiceTree ExpressionTree PlaceTree PointerTree TermTree Leaves Leaves Leaves Leaves Leaves Leaves Leaves Operated argument_leaves
    form_leaves call_leaves choice_leaves expression_leaves place_leaves pointer_leaves operated y)) → ValidLayer y
valid_layer (Argument-F.Value e) valid = valid
valid_layer (Argument-F.Text bytes at) valid = valid.0
valid_layer (Argument-F.Address p at) valid = valid
valid_layer (Argument-F.Pointer p) valid = valid

pub argument_valid : (x : ArgumentTree) → AreValid (argument_leaves x) → ValidLayer (out-Argument x)
argument_valid x valid = valid_layer (out-Argument x)
    (subst AreValid
    (fold_out-Argument Leaves Leaves Leaves Leaves Leaves Leaves Leaves Operated argument_layer form_layer call_layer choice_layer expression_layer place_layer pointer_layer
    term_layer x) valid)

-- ---- lists and options of parts

each_valid : (list : List ArgumentTree) → AreValid (all_of (map argument_leaves list)) → AllByRecursion (λ x. AreValid (argument_leaves x)) list
each_valid [] valid = tt
each_valid (x ∷ list) valid =
    (all_front _ (argument_leaves x) (all_of (map argument_leaves list)) valid, each_valid list (all_back _ (argument_leaves x) (all_of (map argument_leaves list)) valid))

operand_valid : (offset : ℕ) (operand : Option ExpressionTree) → let y : Pointer-F ArgumentTree FormTree CallTree ChoiceTree ExpressionTree PlaceTree PointerTree TermTree = record
    { offset = offset; operand = operand } in
    AreValid (pointer_layer
    (map-Pointer ArgumentTree FormTree CallTree ChoiceTree ExpressionTree PlaceTree PointerTree TermTree Leaves Leaves Leaves Leaves Leaves Leaves Leaves Operated argument_leaves
    form_leaves call_leaves choice_leaves expression_leaves place_leaves pointer_leaves operated y)) → IfAny (λ e. AreValid (expression_leaves e)) operand
operand_valid offset None valid = tt
operand_valid offset (Some e) valid = valid

pub call_valid : (c : CallTree) → AreValid (call_leaves c) → AllByRecursion (λ x. AreValid (argument_leaves x)) (out-Call c).arguments
call_valid c valid = each_valid (out-Call c).arguments
    (subst AreValid
    (fold_out-Call Leaves Leaves Leaves Leaves Leaves Leaves Leaves Operated argument_layer form_layer call_layer choice_layer expression_layer place_layer pointer_layer term_layer
    c) valid)

pub pointer_valid : (p : PointerTree) → AreValid (pointer_leaves p) → IfAny (λ e. AreValid (expression_leaves e)) (out-Pointer p).operand
pointer_valid p valid = operand_valid (out-Pointer p).offset (out-Pointer p).operand (subst AreValid
    (fold_out-Pointer Leaves Leaves Leaves Leaves Leaves Leaves Leaves Operated argument_layer form_layer call_layer choice_layer expression_layer place_layer pointer_layer
    term_layer p) valid)

-- ---- places and calls alone

abbrev pub leaves_in_form : a.FormLayer → Leaves
leaves_in_form y = form_layer
    (map-Form ArgumentTree FormTree CallTree ChoiceTree ExpressionTree PlaceTree PointerTree TermTree Leaves Leaves Leaves Leaves Leaves Leaves Leaves Operated argument_leaves
    form_leaves call_leaves choice_leaves expression_leaves place_leaves pointer_leaves operated y)

pub form_valid : (e : ExpressionTree) → AreValid (expression_leaves e) → AreValid (leaves_in_form (out-Form (out-Expression e).form))
form_valid e valid =
    subst AreValid
    (fold_out-Form Leaves Leaves Leaves Leaves Leaves Leaves Leaves Operated argument_layer form_layer call_layer choice_layer expression_layer place_layer pointer_layer
    term_layer (out-Expression e).form)
    (subst AreValid
    (fold_out-Expression Leaves Leaves Leaves Leaves Leaves Leaves Leaves Operated argument_layer form_layer call_layer choice_layer expression_layer place_layer pointer_layer
    term_layer e) valid)

place_in_form_valid : (at : ℕ) (y : a.FormLayer) → AreValid (leaves_in_form y) → IfAny (λ (p : PlaceTree × ℕ). AreValid (place_leaves p.0)) (a.place_in_form at y)
place_in_form_valid at (Form-F.Place p) valid = valid
place_in_form_valid at (Form-F.Constant c place) valid = tt
place_in_form_valid at (Form-F.Call c) valid = tt
place_in_form_valid at (Form-F.Unary operator e) valid = tt
place_in_form_valid at (Form-F.Cast words e) valid = tt
place_in_form_valid at (Form-F.Binary first terms) valid = tt
place_in_form_valid at (Form-F.Conditional first choices) valid = tt

place_in_layer_valid : (y : a.ArgumentLayer) → ValidLayer y → IfAny (λ (p : PlaceTree × ℕ). AreValid (place_leaves p.0)) (a.place_in_layer y)
place_in_layer_valid (Argument-F.Value e) valid = place_in_form_valid (out-Expression e).offset (out-Form (out-Expression e).form) (form_valid e valid)
place_in_layer_valid (Argument-F.Text bytes at) valid = tt
place_in_layer_valid (Argument-F.Address p at) valid = tt
place_in_layer_valid (Argument-F.Pointer p) valid = tt

pub place_in_argument_valid : (x : ArgumentTree) → AreValid (argument_leaves x) → IfAny (λ (p : PlaceTree × ℕ). AreValid (place_leaves p.0)) (a.place_in_argument x)
place_in_argument_valid x valid = place_in_layer_valid (out-Argument x) (argument_valid x valid)
