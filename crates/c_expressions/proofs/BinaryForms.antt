-- What operators of one level are, by the tree: short circuits, or operators on values.
use Rattle.std.proofs.Common.{◌≡◌, refl, sym, ap, ◌∙◌, ℕ, List, [], ◌∷◌, map, cond, Bool, true, false}
use Rattle.std.specs.Prelude.{◌&&◌}
use Rattle.std.specs.List.{list_all}
use Rattle.c_tree.specs.declared.expression.Term.{Term, out-Term}
use Rattle.c_tree.specs.declared.expression.Expression.{Expression, out-Expression}
use Rattle.c_tree.specs.declared.expression.Form.{Form}
use Rattle.c_tree.specs.declared.expression.Form.TheVariants as form
use Rattle.c_tree.specs.declared.expression.Argument.TheOpen.{Form-F}
use Rattle.c_tree.specs.declared.expression.Argument.TheFolds.{fold-roll-Form, fold_out-Expression, fold_out-Term}
use Rattle.c_rules.specs.declared.names.Scope.{Scope}
use Rattle.c_rules.specs.Walks.{◌>>=◌}
use Rattle.c_expressions.specs.Cuts.{Cuts}
use Rattle.c_expressions.specs.Expressions.{Operand, Choice, Formed, Called, Meant, Passed, Placed, Pointed, is_short_circuit, meant, condition, formed, term}
use Rattle.c_expressions.specs.Expressions.{argument_step, form_step, call_step, choice_step, expression_step, place_step, pointer_step, term_step}
use Rattle.c_expressions.specs.Expressions.{binary_form, arithmetic_value, truth_value, joined_condition, operand_condition, terms_value}

module _ (s : Scope) where
  term-operator : (t : Term) → (term s t).operator ≡ (out-Term t).operator
  term-operator t =
      ap (λ (o : Operand). o.operator)
      (fold_out-Term Passed Formed Called Choice Meant Placed Pointed Operand (argument_step s) (form_step s) (call_step s)
      (choice_step s) (expression_step s) (place_step s) (pointer_step s) (term_step s) t)

  abbrev are_short : List Term → Bool
  are_short terms = list_all (λ t. is_short_circuit (out-Term t).operator) terms

  all_terms : (terms : List Term) → list_all (λ (o : Operand). is_short_circuit o.operator) (map (term s) terms) ≡ are_short terms
  all_terms [] = refl
  all_terms (t ∷ ts) = (λ i. is_short_circuit (term-operator t i) && all_terms ts i)

  formed-binary : (f : Form) (first : Expression) (more : List Term) → f ≡ form.Binary first more → formed s f ≡ binary_form s (meant s first) (map (term s) more)
  formed-binary f first more is =
      ap (formed s) (is ∙ sym (form.rolls-Binary first more))
      ∙ fold-roll-Form Passed Formed Called Choice Meant Placed Pointed Operand (argument_step s) (form_step s) (call_step s)
      (choice_step s) (expression_step s) (place_step s) (pointer_step s) (term_step s) (Form-F.Binary first more)

  -- ---- as a value

  value-by : (f : Form) (first : Expression) (more : List Term) (b : Bool) → f ≡ form.Binary first more → are_short more ≡ b → (at : ℕ) (cuts : Cuts) →
      (formed s f).value at cuts
      ≡ cond b (truth_value s (meant s first) (map (term s) more) cuts) (arithmetic_value s (meant s first) (map (term s) more) at cuts)
  value-by f first more b is all at cuts =
      ap (λ (x : Formed). x.value at cuts) (formed-binary f first more is)
      ∙ ap (λ c. cond c (truth_value s (meant s first) (map (term s) more) cuts) (arithmetic_value s (meant s first) (map (term s) more) at cuts))
      (all_terms more ∙ all)

  pub value-joined : (f : Form) (first : Expression) (more : List Term) → f ≡ form.Binary first more → are_short more ≡ true → (at : ℕ) (cuts : Cuts) →
      (formed s f).value at cuts ≡ truth_value s (meant s first) (map (term s) more) cuts
  value-joined f first more is all at cuts = value-by f first more true is all at cuts

  pub value-other : (f : Form) (first : Expression) (more : List Term) → f ≡ form.Binary first more → are_short more ≡ false → (at : ℕ) (cuts : Cuts) →
      (formed s f).value at cuts ≡ arithmetic_value s (meant s first) (map (term s) more) at cuts
  value-other f first more is all at cuts = value-by f first more false is all at cuts

  value-form : (e : Expression) → (meant s e).value ≡ (formed s (out-Expression e).form).value
  value-form e =
      ap (λ (m : Meant). m.value)
      (fold_out-Expression Passed Formed Called Choice Meant Placed Pointed Operand (argument_step s) (form_step s) (call_step s)
      (choice_step s) (expression_step s) (place_step s) (pointer_step s) (term_step s) e)

  -- the same by the form of the first operand
  pub value-terms : (f : Form) (first : Expression) (more : List Term) → f ≡ form.Binary first more → are_short more ≡ false → (at : ℕ) (cuts : Cuts) →
      (formed s f).value at cuts ≡ ((formed s (out-Expression first).form).value at cuts >>= (λ x. terms_value s at x (map (term s) more)))
  value-terms f first more is all at cuts =
      value-other f first more is all at cuts ∙ (λ i. value-form first i at cuts >>= (λ x. terms_value s at x (map (term s) more)))

  -- ---- as a condition

  condition-form : (e : Expression) → condition s e ≡ (formed s (out-Expression e).form).condition (out-Expression e).offset
  condition-form e =
      ap (λ (m : Meant). m.condition)
      (fold_out-Expression Passed Formed Called Choice Meant Placed Pointed Operand (argument_step s) (form_step s) (call_step s)
      (choice_step s) (expression_step s) (place_step s) (pointer_step s) (term_step s) e)

  condition-by : (e first : Expression) (more : List Term) (b : Bool) → (out-Expression e).form ≡ form.Binary first more → are_short more ≡ b → (n : ℕ) →
      condition s e n
      ≡ cond b (joined_condition s (meant s first) (map (term s) more) n)
      (operand_condition s (arithmetic_value s (meant s first) (map (term s) more)) (out-Expression e).offset n)
  condition-by e first more b is all n =
      (λ i. condition-form e i n)
      ∙ ap (λ (x : Formed). x.condition (out-Expression e).offset n) (formed-binary (out-Expression e).form first more is)
      ∙ ap (λ c. cond c (joined_condition s (meant s first) (map (term s) more) n)
      (operand_condition s (arithmetic_value s (meant s first) (map (term s) more)) (out-Expression e).offset n)) (all_terms more ∙ all)

  pub condition-joined : (e first : Expression) (more : List Term) → (out-Expression e).form ≡ form.Binary first more → are_short more ≡ true → (n : ℕ) →
      condition s e n ≡ joined_condition s (meant s first) (map (term s) more) n
  condition-joined e first more is all n = condition-by e first more true is all n

  pub condition-other : (e first : Expression) (more : List Term) → (out-Expression e).form ≡ form.Binary first more → are_short more ≡ false → (n : ℕ) →
      condition s e n ≡ operand_condition s (formed s (out-Expression e).form).value (out-Expression e).offset n
  condition-other e first more is all n =
      condition-by e first more false is all n
      ∙ (λ i. operand_condition s (λ at cuts. sym (value-other (out-Expression e).form first more is all at cuts) i) (out-Expression e).offset n)
