-- The parts of a tree by those of its own parts.
use Rattle.std.proofs.Common.{◌≡◌, refl, ap, ◌∙◌, ℕ, List, [], ◌∷◌, map, Option, Some, None}
use Rattle.c_tree.specs.declared.expression.Argument.{Argument as ArgumentTree, out-Argument}
use Rattle.c_tree.specs.declared.expression.Form.{Form as FormTree, out-Form}
use Rattle.c_tree.specs.declared.expression.Call.{Call as CallTree, out-Call}
use Rattle.c_tree.specs.declared.expression.Choice.{Choice as ChoiceTree}
use Rattle.c_tree.specs.declared.expression.Expression.{Expression as ExpressionTree, out-Expression}
use Rattle.c_tree.specs.declared.expression.Place.{Place as PlaceTree, out-Place}
use Rattle.c_tree.specs.declared.expression.Pointer.{Pointer as PointerTree, out-Pointer}
use Rattle.c_tree.specs.declared.expression.Term.{Term as TermTree}
use Rattle.c_tree.specs.declared.expression.Argument.TheOpen.{Argument-F, Form-F, Pointer-F}
use Rattle.c_tree.specs.declared.expression.Argument.TheFolds.{map-Argument, map-Form, map-Pointer}
use Rattle.c_tree.specs.declared.expression.Argument.TheFolds.{fold-Form, fold-Call, fold-Choice, fold-Term}
use Rattle.c_tree.specs.declared.expression.Argument.TheFolds.{fold_out-Argument, fold_out-Form, fold_out-Call, fold_out-Expression, fold_out-Place, fold_out-Pointer}
use Rattle.c_broken_rules.specs.Sight.{Where}
use Rattle.c_broken_rules.specs.Parts as p
use Rattle.c_broken_rules.specs.Parts.{Part, Parts, Parted, Indexed, all_of, of_any, of_each}
use Rattle.c_broken_rules.proofs.Values.{each_part}

module _ (w : Where) where
  abbrev form_parts : FormTree → Parted
  form_parts = fold-Form Parts Parted Parts Parts Parted Indexed Parts Parts (p.argument_layer w) (p.form_layer w) (p.call_layer w) (p.choice_layer w) (p.expression_layer
      w) (p.place_layer w) (p.pointer_layer w) (p.term_layer w)

  abbrev inner_call_parts : CallTree → Parts
  inner_call_parts = fold-Call Parts Parted Parts Parts Parted Indexed Parts Parts (p.argument_layer w) (p.form_layer w) (p.call_layer w) (p.choice_layer w)
      (p.expression_layer w) (p.place_layer w) (p.pointer_layer w) (p.term_layer w)

  abbrev choice_parts : ChoiceTree → Parts
  choice_parts = fold-Choice Parts Parted Parts Parts Parted Indexed Parts Parts (p.argument_layer w) (p.form_layer w) (p.call_layer w) (p.choice_layer w)
      (p.expression_layer w) (p.place_layer w) (p.pointer_layer w) (p.term_layer w)

  abbrev term_parts : TermTree → Parts
  term_parts = fold-Term Parts Parted Parts Parts Parted Indexed Parts Parts (p.argument_layer w) (p.form_layer w) (p.call_layer w) (p.choice_layer w) (p.expression_layer
      w) (p.place_layer w) (p.pointer_layer w) (p.term_layer w)

  abbrev pub argument_of : Argument-F ArgumentTree FormTree CallTree ChoiceTree ExpressionTree PlaceTree PointerTree TermTree → Parts
  argument_of y = p.argument_layer w (map-Argument ArgumentTree FormTree CallTree ChoiceTree ExpressionTree PlaceTree PointerTree TermTree Parts Parted Parts Parts Parted
      Indexed Parts Parts (p.argument_parts w) (form_parts) (inner_call_parts) (choice_parts) (p.parted w) (p.indexed w) (p.pointer_parts w) (term_parts) y)

  pub argument_is : (a : ArgumentTree) → p.argument_parts w a ≡ argument_of (out-Argument a)
  argument_is a = fold_out-Argument Parts Parted Parts Parts Parted Indexed Parts Parts (p.argument_layer w) (p.form_layer w) (p.call_layer w) (p.choice_layer w)
      (p.expression_layer w) (p.place_layer w) (p.pointer_layer w) (p.term_layer w) a

  abbrev pub form_of : Form-F ArgumentTree FormTree CallTree ChoiceTree ExpressionTree PlaceTree PointerTree TermTree → Parted
  form_of y = p.form_layer w (map-Form ArgumentTree FormTree CallTree ChoiceTree ExpressionTree PlaceTree PointerTree TermTree Parts Parted Parts Parts Parted Indexed
      Parts Parts (p.argument_parts w) (form_parts) (inner_call_parts) (choice_parts) (p.parted w) (p.indexed w) (p.pointer_parts w) (term_parts) y)

  pub expression_is : (e : ExpressionTree) → p.parted w e ≡ form_of (out-Form (out-Expression e).form)
  expression_is e = fold_out-Expression Parts Parted Parts Parts Parted Indexed Parts Parts (p.argument_layer w) (p.form_layer w) (p.call_layer w) (p.choice_layer w)
      (p.expression_layer w) (p.place_layer w) (p.pointer_layer w) (p.term_layer w) e ∙ fold_out-Form Parts Parted Parts Parts Parted Indexed Parts Parts (p.argument_layer
      w) (p.form_layer w) (p.call_layer w) (p.choice_layer w) (p.expression_layer w) (p.place_layer w) (p.pointer_layer w) (p.term_layer w) (out-Expression e).form

  pub call_is : (c : CallTree) → inner_call_parts c ≡ Part.Call w (out-Call c).name ∷ p.arguments_parts w (out-Call c).arguments
  call_is c = fold_out-Call Parts Parted Parts Parts Parted Indexed Parts Parts (p.argument_layer w) (p.form_layer w) (p.call_layer w) (p.choice_layer w)
      (p.expression_layer w) (p.place_layer w) (p.pointer_layer w) (p.term_layer w) c ∙ ap (λ ps. Part.Call w (out-Call c).name ∷ ps) (each_part (p.argument_parts w)
      (out-Call c).arguments)

  indices_at : (list : List ExpressionTree) → map (λ (e : Parted). e.parts) (map (p.parted w) list) ≡ map (p.expression_parts w) list
  indices_at [] = refl
  indices_at (e ∷ list) = ap (λ l. p.expression_parts w e ∷ l) (indices_at list)

  operand_at : (offset : ℕ) (operand : Option ExpressionTree) → let y : Pointer-F ArgumentTree FormTree CallTree ChoiceTree ExpressionTree PlaceTree PointerTree TermTree =
      record { offset = offset; operand = operand } in
      p.pointer_layer w (map-Pointer ArgumentTree FormTree CallTree ChoiceTree ExpressionTree PlaceTree PointerTree TermTree Parts Parted Parts Parts Parted Indexed Parts
      Parts (p.argument_parts w) (form_parts) (inner_call_parts) (choice_parts) (p.parted w) (p.indexed w) (p.pointer_parts w) (term_parts) y) ≡ of_any
      (p.expression_parts w) operand
  operand_at offset None = refl
  operand_at offset (Some e) = refl

  pub place_name : (q : PlaceTree) → (p.indexed w q).name ≡ (out-Place q).name
  place_name q = ap (λ (i : Indexed). i.name) (fold_out-Place Parts Parted Parts Parts Parted Indexed Parts Parts (p.argument_layer w) (p.form_layer w) (p.call_layer w)
      (p.choice_layer w) (p.expression_layer w) (p.place_layer w) (p.pointer_layer w) (p.term_layer w) q)

  pub place_indices : (q : PlaceTree) → (p.indexed w q).indices ≡ map (p.expression_parts w) (out-Place q).indices
  place_indices q = ap (λ (i : Indexed). i.indices) (fold_out-Place Parts Parted Parts Parts Parted Indexed Parts Parts (p.argument_layer w) (p.form_layer w) (p.call_layer
      w) (p.choice_layer w) (p.expression_layer w) (p.place_layer w) (p.pointer_layer w) (p.term_layer w) q) ∙ indices_at (out-Place q).indices

  pub indices_parts : (q : PlaceTree) → all_of (p.indexed w q).indices ≡ of_each (p.expression_parts w) (out-Place q).indices
  indices_parts q = ap all_of (place_indices q) ∙ each_part (p.expression_parts w) (out-Place q).indices

  pub pointer_is : (q : PointerTree) → p.pointer_parts w q ≡ of_any (p.expression_parts w) (out-Pointer q).operand
  pointer_is q = fold_out-Pointer Parts Parted Parts Parts Parted Indexed Parts Parts (p.argument_layer w) (p.form_layer w) (p.call_layer w) (p.choice_layer w)
      (p.expression_layer w) (p.place_layer w) (p.pointer_layer w) (p.term_layer w) q ∙ operand_at (out-Pointer q).offset (out-Pointer q).operand
