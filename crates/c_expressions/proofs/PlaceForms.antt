-- The value of a place, by the tree.
use Rattle.std.proofs.Common.{◌≡◌, refl, sym, ap, ◌∙◌, ℕ, length, map}
use Rattle.std.proofs.lemmas.List.{length-map}
use Rattle.c_tree.specs.declared.expression.Place.{Place, out-Place}
use Rattle.c_tree.specs.declared.expression.Form.{Form}
use Rattle.c_tree.specs.declared.expression.Form.TheVariants as form
use Rattle.c_tree.specs.declared.expression.Argument.TheOpen.{Form-F}
use Rattle.c_tree.specs.declared.expression.Argument.TheFolds.{fold-roll-Form, fold_out-Place}
use Rattle.c_program.specs.Tree.{Expression as Value}
use Rattle.c_rules.specs.declared.names.Scope.{Scope}
use Rattle.c_rules.specs.Names.{look_up}
use Rattle.c_rules.specs.Walks.{Finds, pure, finds_any, ◌>>=◌, ◌>>◌}
use Rattle.c_expressions.specs.Cuts.{Cuts, Cut, cut}
use Rattle.c_expressions.specs.Expressions.{Operand, Choice, Formed, Called, Meant, Passed, Placed, Pointed, meant, formed, placed}
use Rattle.c_expressions.specs.Expressions.{argument_step, form_step, call_step, choice_step, expression_step, place_step, pointer_step, term_step}
use Rattle.c_expressions.specs.Expressions.{place_value, element_number, dimensions_of, variable_named, misuse, named_value}

module _ (s : Scope) where
  -- the value of a place whose parts are known, with so many indices
  abbrev pub valued : Placed → ℕ → ℕ → Cuts → Finds (Cut Value)
  valued p count at cuts =
      element_number (dimensions_of (variable_named s p.name)) p.indices at cuts
      >>= (λ number. finds_any (misuse (look_up s p.name.bytes) count) p.name.offset
      >> pure (cut number.cuts (named_value (variable_named s p.name) number.rest)))

  by_parts : (p : Placed) (at : ℕ) (cuts : Cuts) → place_value s p at cuts ≡ valued p (length p.indices) at cuts
  unfolding place_value
  by_parts p at cuts = refl

  formed-place : (f : Form) (place : Place) → f ≡ form.Place place → (at : ℕ) (cuts : Cuts) → (formed s f).value at cuts ≡ place_value s (placed s place) at cuts
  formed-place f place is at cuts =
      ap (λ (x : Formed). x.value at cuts)
      (ap (formed s) (is ∙ sym (form.rolls-Place place))
      ∙ fold-roll-Form Passed Formed Called Choice Meant Placed Pointed Operand (argument_step s) (form_step s) (call_step s)
      (choice_step s) (expression_step s) (place_step s) (pointer_step s) (term_step s) (Form-F.Place place))

  abbrev pub parts : Place → Placed
  parts place = record { name = (out-Place place).name; indices = map (meant s) (out-Place place).indices }

  placed-parts : (place : Place) → placed s place ≡ parts place
  placed-parts place =
      fold_out-Place Passed Formed Called Choice Meant Placed Pointed Operand (argument_step s) (form_step s) (call_step s)
      (choice_step s) (expression_step s) (place_step s) (pointer_step s) (term_step s) place

  pub value-place : (f : Form) (place : Place) → f ≡ form.Place place → (at : ℕ) (cuts : Cuts) →
      (formed s f).value at cuts ≡ valued (parts place) (length (out-Place place).indices) at cuts
  value-place f place is at cuts =
      formed-place f place is at cuts
      ∙ (λ i. place_value s (placed-parts place i) at cuts)
      ∙ by_parts (parts place) at cuts
      ∙ (λ i. valued (parts place) (length-map (out-Place place).indices (meant s) i) at cuts)
