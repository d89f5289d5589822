-- What each tree of an expression gives, in a scope that is in order, where its leaves are valid.
use Rattle.std.proofs.Common.{◌≡◌, ◌∙◌, refl, sym, ap, subst, ℕ, ◌<◌, List, [], ◌∷◌, map, Option, Some, None}
use Rattle.std.specs.List.{AllByRecursion}
use Rattle.lists.proofs.Places.{all_back, all_front}
use denote.Hole.Holds.{Such}
use Rattle.c_tree.specs.declared.expression.Argument.{Argument as ArgumentTree, roll-Argument}
use Rattle.c_tree.specs.declared.expression.Form.{Form as FormTree, roll-Form}
use Rattle.c_tree.specs.declared.expression.Call.{Call as CallTree, roll-Call}
use Rattle.c_tree.specs.declared.expression.Choice.{Choice as ChoiceTree, roll-Choice}
use Rattle.c_tree.specs.declared.expression.Expression.{Expression as ExpressionTree, roll-Expression}
use Rattle.c_tree.specs.declared.expression.Place.{Place as PlaceTree, roll-Place}
use Rattle.c_tree.specs.declared.expression.Pointer.{Pointer as PointerTree, roll-Pointer}
use Rattle.c_tree.specs.declared.expression.Term.{Term as TermTree, roll-Term, out-Term}
use Rattle.c_tree.specs.declared.expression.Argument.TheOpen.{Argument-F, Form-F, Call-F, Choice-F, Expression-F, Place-F, Pointer-F, Term-F}
use Rattle.c_tree.specs.declared.expression.Argument.TheBlock.{the_family, member-Argument, member-Form, member-Call, member-Choice}
use Rattle.c_tree.specs.declared.expression.Argument.TheBlock.{member-Expression, member-Place, member-Pointer, member-Term}
use Rattle.c_tree.specs.declared.expression.Argument.TheFolds.{claims, map-Argument, map-Form, map-Call, map-Choice, map-Expression, map-Place, map-Pointer, map-Term}
use Rattle.c_tree.specs.declared.expression.Argument.TheFolds.{fold-Form, fold-Call, fold-Pointer, fold_out-Term}
use Rattle.c_tree.specs.declared.expression.Argument.TheFolds.{fold-roll-Argument, fold-roll-Form, fold-roll-Call, fold-roll-Choice}
use Rattle.c_tree.specs.declared.expression.Argument.TheFolds.{fold-roll-Expression, fold-roll-Place, fold-roll-Pointer, fold-roll-Term}
use Rattle.c_tree.specs.declared.expression.Argument.TheFolds.{ind-Argument, ind-Expression, ind-Place}
use Rattle.c_program.specs.Tree.{Function, Program}
use Rattle.c_rules.specs.declared.findings.Findings.{Findings}
use Rattle.c_rules.specs.declared.names.Scope.{Scope}
use Rattle.c_expressions.specs.Expressions.{Passed, Formed, Called, Choice, Meant, Placed, Pointed, Operand, argument_step, form_step, call_step}
use Rattle.c_expressions.specs.Expressions.{choice_step, expression_step, place_step, pointer_step, term_step}
use Rattle.c_expressions.specs.Expressions.{meant, placed, term, choice, argument, value, condition, looked}
use Rattle.c_resolved_program.specs.Leaves.{Leaves, Operated, AreOfOneLevel, AreValid, all_of, operators_of, operands_of, operated}
use Rattle.c_resolved_program.specs.Leaves.{argument_layer, form_layer, call_layer, choice_layer, expression_layer, place_layer, pointer_layer, term_layer}
use Rattle.c_resolved_program.specs.Leaves.{argument_leaves, form_leaves, call_leaves, choice_leaves, expression_leaves, place_leaves, pointer_leaves, term_leaves}
use Rattle.c_resolved_program.proofs.Walks.{Shows}
use Rattle.c_resolved_program.proofs.Layers as l

-- ---- parts of valid leaves

module _ (whole : Findings) (P : Program) (number : ℕ) (f : Function) (small : f.declared_locals < 0xffff_ffff) (s : Scope) where
  abbrev formed : FormTree → Formed
  formed = fold-Form Passed Formed Called Choice Meant Placed Pointed Operand (argument_step s) (form_step s) (call_step s) (choice_step s) (expression_step s) (place_step s)
      (pointer_step s) (term_step s)

  abbrev called : CallTree → Called
  called = fold-Call Passed Formed Called Choice Meant Placed Pointed Operand (argument_step s) (form_step s) (call_step s) (choice_step s) (expression_step s) (place_step s)
      (pointer_step s) (term_step s)

  abbrev pointed : PointerTree → Pointed
  pointed = fold-Pointer Passed Formed Called Choice Meant Placed Pointed Operand (argument_step s) (form_step s) (call_step s) (choice_step s) (expression_step s) (place_step s)
      (pointer_step s) (term_step s)

  -- ---- what is claimed of each tree

  abbrev ClaimArgument : ArgumentTree → Type 0
  ClaimArgument x = AreValid (argument_leaves x) → l.IsPassed whole P number f small s (argument s x)

  abbrev ClaimForm : FormTree → Type 0
  ClaimForm x = AreValid (form_leaves x) → l.IsFormed whole P number f small s (formed x)

  abbrev ClaimCall : CallTree → Type 0
  ClaimCall x = AreValid (call_leaves x) → l.IsCalled whole P number f small s (called x)

  abbrev ClaimChoice : ChoiceTree → Type 0
  ClaimChoice x = AreValid (choice_leaves x) → l.IsChoice whole P number f small s (choice s x)

  abbrev ClaimExpression : ExpressionTree → Type 0
  ClaimExpression x = AreValid (expression_leaves x) → l.IsGood whole P number f small s (meant s x)

  abbrev ClaimPlace : PlaceTree → Type 0
  ClaimPlace x = AreValid (place_leaves x) → l.IsPlaced whole P number f small s (placed s x)

  abbrev ClaimPointer : PointerTree → Type 0
  ClaimPointer x = AreValid (pointer_leaves x) → l.IsPointed whole P number f small s (pointed x)

  abbrev ClaimTerm : TermTree → Type 0
  ClaimTerm x = AreValid (term_leaves x) → l.IsOperand whole P number f small s (term s x)

  abbrev SomeArgument : Type 0
  SomeArgument = Such the_family (claims ClaimArgument ClaimForm ClaimCall ClaimChoice ClaimExpression ClaimPlace ClaimPointer ClaimTerm) member-Argument

  abbrev SomeForm : Type 0
  SomeForm = Such the_family (claims ClaimArgument ClaimForm ClaimCall ClaimChoice ClaimExpression ClaimPlace ClaimPointer ClaimTerm) member-Form

  abbrev SomeCall : Type 0
  SomeCall = Such the_family (claims ClaimArgument ClaimForm ClaimCall ClaimChoice ClaimExpression ClaimPlace ClaimPointer ClaimTerm) member-Call

  abbrev SomeChoice : Type 0
  SomeChoice = Such the_family (claims ClaimArgument ClaimForm ClaimCall ClaimChoice ClaimExpression ClaimPlace ClaimPointer ClaimTerm) member-Choice

  abbrev SomeExpression : Type 0
  SomeExpression = Such the_family (claims ClaimArgument ClaimForm ClaimCall ClaimChoice ClaimExpression ClaimPlace ClaimPointer ClaimTerm) member-Expression

  abbrev SomePlace : Type 0
  SomePlace = Such the_family (claims ClaimArgument ClaimForm ClaimCall ClaimChoice ClaimExpression ClaimPlace ClaimPointer ClaimTerm) member-Place

  abbrev SomePointer : Type 0
  SomePointer = Such the_family (claims ClaimArgument ClaimForm ClaimCall ClaimChoice ClaimExpression ClaimPlace ClaimPointer ClaimTerm) member-Pointer

  abbrev SomeTerm : Type 0
  SomeTerm = Such the_family (claims ClaimArgument ClaimForm ClaimCall ClaimChoice ClaimExpression ClaimPlace ClaimPointer ClaimTerm) member-Term

  -- ---- lists of parts

  are_terms : (list : List SomeTerm) → AreValid (operands_of (map operated (map (λ e. e.0) list))) → AllByRecursion (l.IsOperand whole P number f small s)
      (map (term s) (map (λ e. e.0) list))
  are_terms [] valid = tt
  are_terms (x ∷ list) valid = (
    x.1 (all_front _ (term_leaves x.0) (operands_of (map operated (map (λ e. e.0) list))) valid),
    are_terms list (all_back _ (term_leaves x.0) (operands_of (map operated (map (λ e. e.0) list))) valid),
  )

  are_choices : (list : List SomeChoice) → AreValid (all_of (map choice_leaves (map (λ e. e.0) list))) → AllByRecursion (l.IsChoice whole P number f small s)
      (map (choice s) (map (λ e. e.0) list))
  are_choices [] valid = tt
  are_choices (x ∷ list) valid = (
    x.1 (all_front _ (choice_leaves x.0) (all_of (map choice_leaves (map (λ e. e.0) list))) valid),
    are_choices list (all_back _ (choice_leaves x.0) (all_of (map choice_leaves (map (λ e. e.0) list))) valid),
  )

  are_arguments : (list : List SomeArgument) → AreValid (all_of (map argument_leaves (map (λ e. e.0) list))) → AllByRecursion (l.IsPassed whole P number f small s)
      (map (argument s) (map (λ e. e.0) list))
  are_arguments [] valid = tt
  are_arguments (x ∷ list) valid = (
    x.1 (all_front _ (argument_leaves x.0) (all_of (map argument_leaves (map (λ e. e.0) list))) valid),
    are_arguments list (all_back _ (argument_leaves x.0) (all_of (map argument_leaves (map (λ e. e.0) list))) valid),
  )

  are_indices : (list : List SomeExpression) → AreValid (all_of (map expression_leaves (map (λ e. e.0) list))) → AllByRecursion (l.IsGood whole P number f small s)
      (map (meant s) (map (λ e. e.0) list))
  are_indices [] valid = tt
  are_indices (x ∷ list) valid = (
    x.1 (all_front _ (expression_leaves x.0) (all_of (map expression_leaves (map (λ e. e.0) list))) valid),
    are_indices list (all_back _ (expression_leaves x.0) (all_of (map expression_leaves (map (λ e. e.0) list))) valid),
  )

  -- both folds keep the operators
  leaf_operator : (t : TermTree) → (operated t).operator ≡ (out-Term t).operator
  leaf_operator t =
      ap (λ (o : Operated). o.operator)
      (fold_out-Term Leaves Leaves Leaves Leaves Leaves Leaves Leaves Operated argument_layer form_layer call_layer choice_layer expression_layer place_layer pointer_layer term_layer t)

  part_operator : (t : TermTree) → (term s t).operator ≡ (out-Term t).operator
  part_operator t =
      ap (λ (o : Operand). o.operator)
      (fold_out-Term Passed Formed Called Choice Meant Placed Pointed Operand (argument_step s) (form_step s) (call_step s) (choice_step s) (expression_step s) (place_step s)
      (pointer_step s) (term_step s) t)

  same_operators : (list : List TermTree) → operators_of (map operated list) ≡ map (λ (t : Operand). t.operator) (map (term s) list)
  same_operators [] = refl
  same_operators (t ∷ list) = (λ i. (leaf_operator t ∙ sym (part_operator t)) i ∷ same_operators list i)

  abbrev seen_argument : Argument-F SomeArgument SomeForm SomeCall SomeChoice SomeExpression SomePlace SomePointer SomeTerm →
      Argument-F ArgumentTree FormTree CallTree ChoiceTree ExpressionTree PlaceTree PointerTree TermTree
  seen_argument y = map-Argument SomeArgument SomeForm SomeCall SomeChoice SomeExpression SomePlace SomePointer SomeTerm ArgumentTree FormTree CallTree ChoiceTree ExpressionTree
      PlaceTree PointerTree TermTree (λ e. e.0) (λ e. e.0) (λ e. e.0) (λ e. e.0) (λ e. e.0) (λ e. e.0) (λ e. e.0) (λ e. e.0) y

  abbrev leaves_in_argument : Argument-F ArgumentTree FormTree CallTree ChoiceTree ExpressionTree PlaceTree PointerTree TermTree →
      Argument-F Leaves Leaves Leaves Leaves Leaves Leaves Leaves Operated
  leaves_in_argument x = map-Argument ArgumentTree FormTree CallTree ChoiceTree ExpressionTree PlaceTree PointerTree TermTree Leaves Leaves Leaves Leaves Leaves Leaves Leaves
      Operated argument_leaves form_leaves call_leaves choice_leaves expression_leaves place_leaves pointer_leaves operated x

  abbrev parts_in_argument : Argument-F ArgumentTree FormTree CallTree ChoiceTree ExpressionTree PlaceTree PointerTree TermTree →
      Argument-F Passed Formed Called Choice Meant Placed Pointed Operand
  parts_in_argument x = map-Argument ArgumentTree FormTree CallTree ChoiceTree ExpressionTree PlaceTree PointerTree TermTree Passed Formed Called Choice Meant Placed Pointed Operand
      (argument s) (formed) (called) (choice s) (meant s) (placed s) (pointed) (term s) x

  abbrev seen_form : Form-F SomeArgument SomeForm SomeCall SomeChoice SomeExpression SomePlace SomePointer SomeTerm →
      Form-F ArgumentTree FormTree CallTree ChoiceTree ExpressionTree PlaceTree PointerTree TermTree
  seen_form y = map-Form SomeArgument SomeForm SomeCall SomeChoice SomeExpression SomePlace SomePointer SomeTerm ArgumentTree FormTree CallTree ChoiceTree ExpressionTree PlaceTree
      PointerTree TermTree (λ e. e.0) (λ e. e.0) (λ e. e.0) (λ e. e.0) (λ e. e.0) (λ e. e.0) (λ e. e.0) (λ e. e.0) y

  abbrev leaves_in_form : Form-F ArgumentTree FormTree CallTree ChoiceTree ExpressionTree PlaceTree PointerTree TermTree →
      Form-F Leaves Leaves Leaves Leaves Leaves Leaves Leaves Operated
  leaves_in_form x = map-Form ArgumentTree FormTree CallTree ChoiceTree ExpressionTree PlaceTree PointerTree TermTree Leaves Leaves Leaves Leaves Leaves Leaves Leaves Operated
      argument_leaves form_leaves call_leaves choice_leaves expression_leaves place_leaves pointer_leaves operated x

  abbrev parts_in_form : Form-F ArgumentTree FormTree CallTree ChoiceTree ExpressionTree PlaceTree PointerTree TermTree →
      Form-F Passed Formed Called Choice Meant Placed Pointed Operand
  parts_in_form x = map-Form ArgumentTree FormTree CallTree ChoiceTree ExpressionTree PlaceTree PointerTree TermTree Passed Formed Called Choice Meant Placed Pointed Operand
      (argument s) (formed) (called) (choice s) (meant s) (placed s) (pointed) (term s) x

  abbrev seen_call : Call-F SomeArgument SomeForm SomeCall SomeChoice SomeExpression SomePlace SomePointer SomeTerm →
      Call-F ArgumentTree FormTree CallTree ChoiceTree ExpressionTree PlaceTree PointerTree TermTree
  seen_call y = map-Call SomeArgument SomeForm SomeCall SomeChoice SomeExpression SomePlace SomePointer SomeTerm ArgumentTree FormTree CallTree ChoiceTree ExpressionTree PlaceTree
      PointerTree TermTree (λ e. e.0) (λ e. e.0) (λ e. e.0) (λ e. e.0) (λ e. e.0) (λ e. e.0) (λ e. e.0) (λ e. e.0) y

  abbrev leaves_in_call : Call-F ArgumentTree FormTree CallTree ChoiceTree ExpressionTree PlaceTree PointerTree TermTree →
      Call-F Leaves Leaves Leaves Leaves Leaves Leaves Leaves Operated
  leaves_in_call x = map-Call ArgumentTree FormTree CallTree ChoiceTree ExpressionTree PlaceTree PointerTree TermTree Leaves Leaves Leaves Leaves Leaves Leaves Leaves Operated
      argument_leaves form_leaves call_leaves choice_leaves expression_leaves place_leaves pointer_leaves operated x

  abbrev parts_in_call : Call-F ArgumentTree FormTree CallTree ChoiceTree ExpressionTree PlaceTree PointerTree TermTree →
      Call-F Passed Formed Called Choice Meant Placed Pointed Operand
  parts_in_call x = map-Call ArgumentTree FormTree CallTree ChoiceTree ExpressionTree PlaceTree PointerTree TermTree Passed Formed Called Choice Meant Placed Pointed Operand
      (argument s) (formed) (called) (choice s) (meant s) (placed s) (pointed) (term s) x

  abbrev seen_choice : Choice-F SomeArgument SomeForm SomeCall SomeChoice SomeExpression SomePlace SomePointer SomeTerm →
      Choice-F ArgumentTree FormTree CallTree ChoiceTree ExpressionTree PlaceTree PointerTree TermTree
  seen_choice y = map-Choice SomeArgument SomeForm SomeCall SomeChoice SomeExpression SomePlace SomePointer SomeTerm ArgumentTree FormTree CallTree ChoiceTree ExpressionTree
      PlaceTree PointerTree TermTree (λ e. e.0) (λ e. e.0) (λ e. e.0) (λ e. e.0) (λ e. e.0) (λ e. e.0) (λ e. e.0) (λ e. e.0) y

  abbrev leaves_in_choice : Choice-F ArgumentTree FormTree CallTree ChoiceTree ExpressionTree PlaceTree PointerTree TermTree →
      Choice-F Leaves Leaves Leaves Leaves Leaves Leaves Leaves Operated
  leaves_in_choice x = map-Choice ArgumentTree FormTree CallTree ChoiceTree ExpressionTree PlaceTree PointerTree TermTree Leaves Leaves Leaves Leaves Leaves Leaves Leaves Operated
      argument_leaves form_leaves call_leaves choice_leaves expression_leaves place_leaves pointer_leaves operated x

  abbrev parts_in_choice : Choice-F ArgumentTree FormTree CallTree ChoiceTree ExpressionTree PlaceTree PointerTree TermTree →
      Choice-F Passed Formed Called Choice Meant Placed Pointed Operand
  parts_in_choice x = map-Choice ArgumentTree FormTree CallTree ChoiceTree ExpressionTree PlaceTree PointerTree TermTree Passed Formed Called Choice Meant Placed Pointed Operand
      (argument s) (formed) (called) (choice s) (meant s) (placed s) (pointed) (term s) x

  abbrev seen_expression : Expression-F SomeArgument SomeForm SomeCall SomeChoice SomeExpression SomePlace SomePointer SomeTerm →
      Expression-F ArgumentTree FormTree CallTree ChoiceTree ExpressionTree PlaceTree PointerTree TermTree
  seen_expression y = map-Expression SomeArgument SomeForm SomeCall SomeChoice SomeExpression SomePlace SomePointer SomeTerm ArgumentTree FormTree CallTree ChoiceTree
      ExpressionTree PlaceTree PointerTree TermTree (λ e. e.0) (λ e. e.0) (λ e. e.0) (λ e. e.0) (λ e. e.0) (λ e. e.0) (λ e. e.0) (λ e. e.0) y

  abbrev leaves_in_expression : Expression-F ArgumentTree FormTree CallTree ChoiceTree ExpressionTree PlaceTree PointerTree TermTree →
      Expression-F Leaves Leaves Leaves Leaves Leaves Leaves Leaves Operated
  leaves_in_expression x = map-Expression ArgumentTree FormTree CallTree ChoiceTree ExpressionTree PlaceTree PointerTree TermTree Leaves Leaves Leaves Leaves Leaves Leaves Leaves
      Operated argument_leaves form_leaves call_leaves choice_leaves expression_leaves place_leaves pointer_leaves operated x

  abbrev parts_in_expression : Expression-F ArgumentTree FormTree CallTree ChoiceTree ExpressionTree PlaceTree PointerTree TermTree →
      Expression-F Passed Formed Called Choice Meant Placed Pointed Operand
  parts_in_expression x = map-Expression ArgumentTree FormTree CallTree ChoiceTree ExpressionTree PlaceTree PointerTree TermTree Passed Formed Called Choice Meant Placed Pointed
      Operand (argument s) (formed) (called) (choice s) (meant s) (placed s) (pointed) (term s) x

  abbrev seen_place : Place-F SomeArgument SomeForm SomeCall SomeChoice SomeExpression SomePlace SomePointer SomeTerm →
      Place-F ArgumentTree FormTree CallTree ChoiceTree ExpressionTree PlaceTree PointerTree TermTree
  seen_place y = map-Place SomeArgument SomeForm SomeCall SomeChoice SomeExpression SomePlace SomePointer SomeTerm ArgumentTree FormTree CallTree ChoiceTree ExpressionTree
      PlaceTree PointerTree TermTree (λ e. e.0) (λ e. e.0) (λ e. e.0) (λ e. e.0) (λ e. e.0) (λ e. e.0) (λ e. e.0) (λ e. e.0) y

  abbrev leaves_in_place : Place-F ArgumentTree FormTree CallTree ChoiceTree ExpressionTree PlaceTree PointerTree TermTree →
      Place-F Leaves Leaves Leaves Leaves Leaves Leaves Leaves Operated
  leaves_in_place x = map-Place ArgumentTree FormTree CallTree ChoiceTree ExpressionTree PlaceTree PointerTree TermTree Leaves Leaves Leaves Leaves Leaves Leaves Leaves Operated
      argument_leaves form_leaves call_leaves choice_leaves expression_leaves place_leaves pointer_leaves operated x

  abbrev parts_in_place : Place-F ArgumentTree FormTree CallTree ChoiceTree ExpressionTree PlaceTree PointerTree TermTree →
      Place-F Passed Formed Called Choice Meant Placed Pointed Operand
  parts_in_place x = map-Place ArgumentTree FormTree CallTree ChoiceTree ExpressionTree PlaceTree PointerTree TermTree Passed Formed Called Choice Meant Placed Pointed Operand
      (argument s) (formed) (called) (choice s) (meant s) (placed s) (pointed) (term s) x

  abbrev seen_pointer : Pointer-F SomeArgument SomeForm SomeCall SomeChoice SomeExpression SomePlace SomePointer SomeTerm →
      Pointer-F ArgumentTree FormTree CallTree ChoiceTree ExpressionTree PlaceTree PointerTree TermTree
  seen_pointer y = map-Pointer SomeArgument SomeForm SomeCall SomeChoice SomeExpression SomePlace SomePointer SomeTerm ArgumentTree FormTree CallTree ChoiceTree ExpressionTree
      PlaceTree PointerTree TermTree (λ e. e.0) (λ e. e.0) (λ e. e.0) (λ e. e.0) (λ e. e.0) (λ e. e.0) (λ e. e.0) (λ e. e.0) y

  abbrev leaves_in_pointer : Pointer-F ArgumentTree FormTree CallTree ChoiceTree ExpressionTree PlaceTree PointerTree TermTree →
      Pointer-F Leaves Leaves Leaves Leaves Leaves Leaves Leaves Operated
  leaves_in_pointer x = map-Pointer ArgumentTree FormTree CallTree ChoiceTree ExpressionTree PlaceTree PointerTree TermTree Leaves Leaves Leaves Leaves Leaves Leaves Leaves Operated
      argument_leaves form_leaves call_leaves choice_leaves expression_leaves place_leaves pointer_leaves operated x

  abbrev parts_in_pointer : Pointer-F ArgumentTree FormTree CallTree ChoiceTree ExpressionTree PlaceTree PointerTree TermTree →
      Pointer-F Passed Formed Called Choice Meant Placed Pointed Operand
  parts_in_pointer x = map-Pointer ArgumentTree FormTree CallTree ChoiceTree ExpressionTree PlaceTree PointerTree TermTree Passed Formed Called Choice Meant Placed Pointed Operand
      (argument s) (formed) (called) (choice s) (meant s) (placed s) (pointed) (term s) x

  abbrev seen_term : Term-F SomeArgument SomeForm SomeCall SomeChoice SomeExpression SomePlace SomePointer SomeTerm →
      Term-F ArgumentTree FormTree CallTree ChoiceTree ExpressionTree PlaceTree PointerTree TermTree
  seen_term y = map-Term SomeArgument SomeForm SomeCall SomeChoice SomeExpression SomePlace SomePointer SomeTerm ArgumentTree FormTree CallTree ChoiceTree ExpressionTree PlaceTree
      PointerTree TermTree (λ e. e.0) (λ e. e.0) (λ e. e.0) (λ e. e.0) (λ e. e.0) (λ e. e.0) (λ e. e.0) (λ e. e.0) y

  abbrev leaves_in_term : Term-F ArgumentTree FormTree CallTree ChoiceTree ExpressionTree PlaceTree PointerTree TermTree →
      Term-F Leaves Leaves Leaves Leaves Leaves Leaves Leaves Operated
  leaves_in_term x = map-Term ArgumentTree FormTree CallTree ChoiceTree ExpressionTree PlaceTree PointerTree TermTree Leaves Leaves Leaves Leaves Leaves Leaves Leaves Operated
      argument_leaves form_leaves call_leaves choice_leaves expression_leaves place_leaves pointer_leaves operated x

  abbrev parts_in_term : Term-F ArgumentTree FormTree CallTree ChoiceTree ExpressionTree PlaceTree PointerTree TermTree →
      Term-F Passed Formed Called Choice Meant Placed Pointed Operand
  parts_in_term x = map-Term ArgumentTree FormTree CallTree ChoiceTree ExpressionTree PlaceTree PointerTree TermTree Passed Formed Called Choice Meant Placed Pointed Operand
      (argument s) (formed) (called) (choice s) (meant s) (placed s) (pointed) (term s) x

  -- ---- each layer

  form_parts : (y : Form-F SomeArgument SomeForm SomeCall SomeChoice SomeExpression SomePlace SomePointer SomeTerm) → AreValid (form_layer (leaves_in_form (seen_form y))) →
      l.AreForm whole P number f small s (parts_in_form (seen_form y))
  form_parts (Form-F.Constant c at) valid = valid.0
  form_parts (Form-F.Place p) valid = p.1 valid
  form_parts (Form-F.Call c) valid = c.1 valid
  form_parts (Form-F.Unary operator x) valid = x.1 valid
  form_parts (Form-F.Cast words x) valid = x.1 valid
  form_parts (Form-F.Binary first terms) valid =
      let more = operands_of (map operated (map (λ e. e.0) terms)) in (
        first.1 (all_front _ (expression_leaves first.0) more valid.1),
        are_terms terms (all_back _ (expression_leaves first.0) more valid.1),
        subst AreOfOneLevel (same_operators (map (λ e. e.0) terms)) valid.0,
      )
  form_parts (Form-F.Conditional first choices) valid =
      let more = all_of (map choice_leaves (map (λ e. e.0) choices)) in
      (first.1 (all_front _ (expression_leaves first.0) more valid), are_choices choices (all_back _ (expression_leaves first.0) more valid))

  argument_parts : (y : Argument-F SomeArgument SomeForm SomeCall SomeChoice SomeExpression SomePlace SomePointer SomeTerm) →
      AreValid (argument_layer (leaves_in_argument (seen_argument y))) → l.AreArgument whole P number f small s (parts_in_argument (seen_argument y))
  argument_parts (Argument-F.Value x) valid = x.1 valid
  argument_parts (Argument-F.Text bytes at) valid = tt
  argument_parts (Argument-F.Address p at) valid = p.1 valid
  argument_parts (Argument-F.Pointer p) valid = p.1 valid

  pointer_parts : (offset : ℕ) (operand : Option SomeExpression) → let y : Pointer-F SomeArgument SomeForm SomeCall SomeChoice SomeExpression SomePlace SomePointer SomeTerm =
      record { offset = offset; operand = operand } in
      AreValid (pointer_layer (leaves_in_pointer (seen_pointer y))) → l.IsPointed whole P number f small s (pointer_step s (parts_in_pointer (seen_pointer y)))
  pointer_parts offset None valid = l.looked_operand_shows whole P number f small s None tt
  pointer_parts offset (Some x) valid = l.looked_operand_shows whole P number f small s (Some (meant s x.0)) (x.1 valid)

  argument_case : (y : Argument-F SomeArgument SomeForm SomeCall SomeChoice SomeExpression SomePlace SomePointer SomeTerm) →
      AreValid (argument_layer (leaves_in_argument (seen_argument y))) → l.IsPassed whole P number f small s (argument_step s (parts_in_argument (seen_argument y)))
  argument_case y valid = l.argument_layer_is whole P number f small s (parts_in_argument (seen_argument y)) (argument_parts y valid)

  argument_induct : (x : Argument-F ArgumentTree FormTree CallTree ChoiceTree ExpressionTree PlaceTree PointerTree TermTree)
      (y : Argument-F SomeArgument SomeForm SomeCall SomeChoice SomeExpression SomePlace SomePointer SomeTerm) → seen_argument y ≡ x → ClaimArgument (roll-Argument x)
  argument_induct x y e = subst (λ k. ClaimArgument (roll-Argument k)) e (λ valid.
      subst (l.IsPassed whole P number f small s)
      (sym (fold-roll-Argument Passed Formed Called Choice Meant Placed Pointed Operand (argument_step s) (form_step s) (call_step s) (choice_step s) (expression_step s)
      (place_step s) (pointer_step s) (term_step s) (seen_argument y)))
      (argument_case y
      (subst AreValid
      (fold-roll-Argument Leaves Leaves Leaves Leaves Leaves Leaves Leaves Operated argument_layer form_layer call_layer choice_layer expression_layer place_layer pointer_layer
      term_layer (seen_argument y)) valid)))

  form_case : (y : Form-F SomeArgument SomeForm SomeCall SomeChoice SomeExpression SomePlace SomePointer SomeTerm) → AreValid (form_layer (leaves_in_form (seen_form y))) →
      l.IsFormed whole P number f small s (form_step s (parts_in_form (seen_form y)))
  form_case y valid = l.form_is whole P number f small s (parts_in_form (seen_form y)) (form_parts y valid)

  form_induct : (x : Form-F ArgumentTree FormTree CallTree ChoiceTree ExpressionTree PlaceTree PointerTree TermTree)
      (y : Form-F SomeArgument SomeForm SomeCall SomeChoice SomeExpression SomePlace SomePointer SomeTerm) → seen_form y ≡ x → ClaimForm (roll-Form x)
  form_induct x y e = subst (λ k. ClaimForm (roll-Form k)) e (λ valid.
      subst (l.IsFormed whole P number f small s)
      (sym (fold-roll-Form Passed Formed Called Choice Meant Placed Pointed Operand (argument_step s) (form_step s) (call_step s) (choice_step s) (expression_step s)
      (place_step s) (pointer_step s) (term_step s) (seen_form y)))
      (form_case y
      (subst AreValid
      (fold-roll-Form Leaves Leaves Leaves Leaves Leaves Leaves Leaves Operated argument_layer form_layer call_layer choice_layer expression_layer place_layer pointer_layer
      term_layer (seen_form y)) valid)))

  call_case : (y : Call-F SomeArgument SomeForm SomeCall SomeChoice SomeExpression SomePlace SomePointer SomeTerm) → AreValid (call_layer (leaves_in_call (seen_call y))) →
      l.IsCalled whole P number f small s (call_step s (parts_in_call (seen_call y)))
  call_case y valid = are_arguments y.arguments valid

  call_induct : (x : Call-F ArgumentTree FormTree CallTree ChoiceTree ExpressionTree PlaceTree PointerTree TermTree)
      (y : Call-F SomeArgument SomeForm SomeCall SomeChoice SomeExpression SomePlace SomePointer SomeTerm) → seen_call y ≡ x → ClaimCall (roll-Call x)
  call_induct x y e = subst (λ k. ClaimCall (roll-Call k)) e (λ valid.
      subst (l.IsCalled whole P number f small s)
      (sym (fold-roll-Call Passed Formed Called Choice Meant Placed Pointed Operand (argument_step s) (form_step s) (call_step s) (choice_step s) (expression_step s)
      (place_step s) (pointer_step s) (term_step s) (seen_call y)))
      (call_case y
      (subst AreValid
      (fold-roll-Call Leaves Leaves Leaves Leaves Leaves Leaves Leaves Operated argument_layer form_layer call_layer choice_layer expression_layer place_layer pointer_layer
      term_layer (seen_call y)) valid)))

  choice_case : (y : Choice-F SomeArgument SomeForm SomeCall SomeChoice SomeExpression SomePlace SomePointer SomeTerm) →
      AreValid (choice_layer (leaves_in_choice (seen_choice y))) → l.IsChoice whole P number f small s (choice_step s (parts_in_choice (seen_choice y)))
  choice_case y valid = l.choice_is whole P number f small s (parts_in_choice (seen_choice y)) (y.condition.1
      (all_front _ (expression_leaves y.condition.0) (expression_leaves y.otherwise.0) valid))
      (y.otherwise.1 (all_back _ (expression_leaves y.condition.0) (expression_leaves y.otherwise.0) valid))

  choice_induct : (x : Choice-F ArgumentTree FormTree CallTree ChoiceTree ExpressionTree PlaceTree PointerTree TermTree)
      (y : Choice-F SomeArgument SomeForm SomeCall SomeChoice SomeExpression SomePlace SomePointer SomeTerm) → seen_choice y ≡ x → ClaimChoice (roll-Choice x)
  choice_induct x y e = subst (λ k. ClaimChoice (roll-Choice k)) e (λ valid.
      subst (l.IsChoice whole P number f small s)
      (sym (fold-roll-Choice Passed Formed Called Choice Meant Placed Pointed Operand (argument_step s) (form_step s) (call_step s) (choice_step s) (expression_step s)
      (place_step s) (pointer_step s) (term_step s) (seen_choice y)))
      (choice_case y
      (subst AreValid
      (fold-roll-Choice Leaves Leaves Leaves Leaves Leaves Leaves Leaves Operated argument_layer form_layer call_layer choice_layer expression_layer place_layer pointer_layer
      term_layer (seen_choice y)) valid)))

  expression_case : (y : Expression-F SomeArgument SomeForm SomeCall SomeChoice SomeExpression SomePlace SomePointer SomeTerm) →
      AreValid (expression_layer (leaves_in_expression (seen_expression y))) → l.IsGood whole P number f small s (expression_step s (parts_in_expression (seen_expression y)))
  expression_case y valid = l.expression_is whole P number f small s (parts_in_expression (seen_expression y)) (y.form.1 valid)

  expression_induct : (x : Expression-F ArgumentTree FormTree CallTree ChoiceTree ExpressionTree PlaceTree PointerTree TermTree)
      (y : Expression-F SomeArgument SomeForm SomeCall SomeChoice SomeExpression SomePlace SomePointer SomeTerm) → seen_expression y ≡ x → ClaimExpression (roll-Expression x)
  expression_induct x y e = subst (λ k. ClaimExpression (roll-Expression k)) e (λ valid.
      subst (l.IsGood whole P number f small s)
      (sym (fold-roll-Expression Passed Formed Called Choice Meant Placed Pointed Operand (argument_step s) (form_step s) (call_step s) (choice_step s) (expression_step s)
      (place_step s) (pointer_step s) (term_step s) (seen_expression y)))
      (expression_case y
      (subst AreValid
      (fold-roll-Expression Leaves Leaves Leaves Leaves Leaves Leaves Leaves Operated argument_layer form_layer call_layer choice_layer expression_layer place_layer pointer_layer
      term_layer (seen_expression y)) valid)))

  place_case : (y : Place-F SomeArgument SomeForm SomeCall SomeChoice SomeExpression SomePlace SomePointer SomeTerm) → AreValid (place_layer (leaves_in_place (seen_place y))) →
      l.IsPlaced whole P number f small s (place_step s (parts_in_place (seen_place y)))
  place_case y valid = are_indices y.indices valid

  place_induct : (x : Place-F ArgumentTree FormTree CallTree ChoiceTree ExpressionTree PlaceTree PointerTree TermTree)
      (y : Place-F SomeArgument SomeForm SomeCall SomeChoice SomeExpression SomePlace SomePointer SomeTerm) → seen_place y ≡ x → ClaimPlace (roll-Place x)
  place_induct x y e = subst (λ k. ClaimPlace (roll-Place k)) e (λ valid.
      subst (l.IsPlaced whole P number f small s)
      (sym (fold-roll-Place Passed Formed Called Choice Meant Placed Pointed Operand (argument_step s) (form_step s) (call_step s) (choice_step s) (expression_step s)
      (place_step s) (pointer_step s) (term_step s) (seen_place y)))
      (place_case y
      (subst AreValid
      (fold-roll-Place Leaves Leaves Leaves Leaves Leaves Leaves Leaves Operated argument_layer form_layer call_layer choice_layer expression_layer place_layer pointer_layer
      term_layer (seen_place y)) valid)))

  pointer_case : (y : Pointer-F SomeArgument SomeForm SomeCall SomeChoice SomeExpression SomePlace SomePointer SomeTerm) →
      AreValid (pointer_layer (leaves_in_pointer (seen_pointer y))) → l.IsPointed whole P number f small s (pointer_step s (parts_in_pointer (seen_pointer y)))
  pointer_case y valid = pointer_parts y.offset y.operand valid

  pointer_induct : (x : Pointer-F ArgumentTree FormTree CallTree ChoiceTree ExpressionTree PlaceTree PointerTree TermTree)
      (y : Pointer-F SomeArgument SomeForm SomeCall SomeChoice SomeExpression SomePlace SomePointer SomeTerm) → seen_pointer y ≡ x → ClaimPointer (roll-Pointer x)
  pointer_induct x y e = subst (λ k. ClaimPointer (roll-Pointer k)) e (λ valid.
      subst (l.IsPointed whole P number f small s)
      (sym (fold-roll-Pointer Passed Formed Called Choice Meant Placed Pointed Operand (argument_step s) (form_step s) (call_step s) (choice_step s) (expression_step s)
      (place_step s) (pointer_step s) (term_step s) (seen_pointer y)))
      (pointer_case y
      (subst AreValid
      (fold-roll-Pointer Leaves Leaves Leaves Leaves Leaves Leaves Leaves Operated argument_layer form_layer call_layer choice_layer expression_layer place_layer pointer_layer
      term_layer (seen_pointer y)) valid)))

  term_case : (y : Term-F SomeArgument SomeForm SomeCall SomeChoice SomeExpression SomePlace SomePointer SomeTerm) → AreValid (term_layer (leaves_in_term (seen_term y))).leaves →
      l.IsOperand whole P number f small s (term_step s (parts_in_term (seen_term y)))
  term_case y valid = y.operand.1 valid

  term_induct : (x : Term-F ArgumentTree FormTree CallTree ChoiceTree ExpressionTree PlaceTree PointerTree TermTree)
      (y : Term-F SomeArgument SomeForm SomeCall SomeChoice SomeExpression SomePlace SomePointer SomeTerm) → seen_term y ≡ x → ClaimTerm (roll-Term x)
  term_induct x y e = subst (λ k. ClaimTerm (roll-Term k)) e (λ valid.
      subst (l.IsOperand whole P number f small s)
      (sym (fold-roll-Term Passed Formed Called Choice Meant Placed Pointed Operand (argument_step s) (form_step s) (call_step s) (choice_step s) (expression_step s)
      (place_step s) (pointer_step s) (term_step s) (seen_term y)))
      (term_case y
      (subst (λ (o : Operated). AreValid o.leaves)
      (fold-roll-Term Leaves Leaves Leaves Leaves Leaves Leaves Leaves Operated argument_layer form_layer call_layer choice_layer expression_layer place_layer pointer_layer
      term_layer (seen_term y)) valid)))

  argument_claim : (x : ArgumentTree) → ClaimArgument x
  argument_claim = ind-Argument ClaimArgument ClaimForm ClaimCall ClaimChoice ClaimExpression ClaimPlace ClaimPointer ClaimTerm argument_induct form_induct call_induct
      choice_induct expression_induct place_induct pointer_induct term_induct

  expression_claim : (x : ExpressionTree) → ClaimExpression x
  expression_claim = ind-Expression ClaimArgument ClaimForm ClaimCall ClaimChoice ClaimExpression ClaimPlace ClaimPointer ClaimTerm argument_induct form_induct call_induct
      choice_induct expression_induct place_induct pointer_induct term_induct

  place_claim : (x : PlaceTree) → ClaimPlace x
  place_claim = ind-Place ClaimArgument ClaimForm ClaimCall ClaimChoice ClaimExpression ClaimPlace ClaimPointer ClaimTerm argument_induct form_induct call_induct choice_induct
      expression_induct place_induct pointer_induct term_induct

  -- ---- values, conditions, indices and arguments

  pub value_shows : (e : ExpressionTree) → AreValid (expression_leaves e) → l.IsValue whole P number f small s (value s e)
  value_shows e valid = (expression_claim e valid).value

  pub condition_shows : (e : ExpressionTree) → AreValid (expression_leaves e) → (n : ℕ) →
      Shows whole (l.From whole P number f small s n) (l.AsCondition whole P number f small s n) (condition s e n)
  condition_shows e valid n = (expression_claim e valid).condition n

  pub looked_shows : (e : ExpressionTree) → AreValid (expression_leaves e) → l.IsLooked whole P number f small s (looked s e)
  looked_shows e valid = l.look_shows whole P number f small s (meant s e) (expression_claim e valid)

  pub indices_show : (p : PlaceTree) → AreValid (place_leaves p) → l.IsPlaced whole P number f small s (placed s p)
  indices_show p valid = place_claim p valid

  pub argument_shows : (x : ArgumentTree) → AreValid (argument_leaves x) → l.IsPassed whole P number f small s (argument s x)
  argument_shows x valid = argument_claim x valid
