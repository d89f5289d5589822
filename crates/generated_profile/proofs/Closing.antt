-- What the worker of a generated text ends with.
use Rattle.std.proofs.Common.{◌≡◌, ℕ, List, [], ◌∷◌, ◌++◌, map, Some, None, refl, ap, ◌∙◌}
use Rattle.std.specs.Prelude.{codes, not, pos}
use Rattle.hls_ints.specs.Types.{unsigned_int, long_int}
use Rattle.c_tree.specs.declared.expression.BinaryOperator.TheVariants as b
use Rattle.c_tree.specs.declared.expression.Argument.{Argument as ArgumentTree}
use Rattle.c_tree.specs.declared.expression.Argument.TheVariants as argument
use Rattle.c_tree.specs.declared.expression.Call.{Call as CallTree}
use Rattle.c_tree.specs.declared.expression.Choice.{Choice as ChoiceTree}
use Rattle.c_tree.specs.declared.expression.Pointer.{Pointer as PointerTree, out-roll-Pointer}
use Rattle.c_tree.specs.declared.expression.Place.{Place as PlaceTree}
use Rattle.c_tree.specs.declared.expression.Expression.{Expression as ExpressionTree}
use Rattle.c_tree.specs.declared.expression.Form.{Form}
use Rattle.c_tree.specs.declared.expression.Form.TheVariants as form
use Rattle.c_tree.specs.declared.expression.Term.{Term}
use Rattle.c_tree.specs.declared.expression.Argument.TheOpen.{Pointer-F}
use Rattle.c_tree.specs.declared.statement.AssignmentOperator.TheVariants.{Set, Compound}
use Rattle.c_tree.specs.declared.statement.Returned.TheVariants as returned_as
use Rattle.c_tree.specs.declared.statement.Statement.TheVariants as st
use Rattle.c_tree.specs.Trees as tree
use Rattle.c_program.specs.declared.tree.Storage.TheVariants.{Static}
use Rattle.c_program.specs.declared.tree.BinaryOperator.TheVariants as operator
use Rattle.c_program.specs.Tree.{Expression, Place, ObjectPlace, ThreadCall, Statement}
use Rattle.c_rules.specs.declared.fault.Rule.TheVariants as rule
use Rattle.c_rules.specs.declared.findings.Findings.{Findings}
use Rattle.c_rules.specs.declared.names.Gives.{Gives}
use Rattle.c_rules.specs.declared.names.Gives.TheVariants as gives
use Rattle.c_rules.specs.declared.names.Scope.{Scope}
use Rattle.c_rules.specs.declared.specifiers.BasicType.TheVariants.{UnsignedInt}
use Rattle.c_rules.specs.Walks.{Outcome, and_then, pure, finds_if, place_in_tree, ◌>>=◌}
use Rattle.c_expressions.specs.Cuts.{Cuts, Cut, cut, free_from}
use Rattle.c_expressions.specs.Expressions.{term}
use Rattle.c_calls.specs.Arguments.{pointer_value, operand_value}
use Rattle.c_resolution.specs.Simple.{returned, may_return, given_back}
use Rattle.c_resolution.specs.States.{state, in_scope}
use Rattle.c_resolution.specs.Statements.{Adds, item, with_step}
use Rattle.generated_text.specs.declared.draws.Letter.TheVariants.{A, B, C, D}
use Rattle.generated_profile.proofs.Trees as tr
use Rattle.generated_profile.proofs.Layers as node
use Rattle.generated_profile.proofs.Lettered as word

abbrev PointerLayer : Type 0
PointerLayer = Pointer-F ArgumentTree Form CallTree ChoiceTree ExpressionTree PlaceTree PointerTree Term

abbrev pub mixed : Expression
mixed =
    word.unsigned_of operator.ExclusiveOr
    (word.unsigned_of operator.ExclusiveOr (word.unsigned_of operator.ExclusiveOr (word.read_of A) (word.read_of B)) (word.read_of C)) (word.read_of D)

module _ (s : Scope) (size : ℕ) (found : Findings) (means : word.Means s size) (back : s.gives ≡ gives.Pointer) where
  abbrev letters : (ℕ → ℕ) → List Term
  letters at =
      tree.term (b.BitXor, (at 6)) (tr.variable (tr.lettered B (at 7))) ∷ tree.term (b.BitXor, (at 8)) (tr.variable (tr.lettered C (at 9)))
      ∷ tree.term (b.BitXor, (at 10)) (tr.variable (tr.lettered D (at 11))) ∷ []

  mixed_value : (at : ℕ → ℕ) → node.IsValue s (tree.expression (at 5) (form.Binary (tr.variable (tr.lettered A (at 5))) (letters at))) found mixed
  mixed_value at step cuts =
      let one : Expression = word.unsigned_of operator.ExclusiveOr (word.read_of A) (word.read_of B) in
      let two : Expression = word.unsigned_of operator.ExclusiveOr one (word.read_of C) in
      let last_terms : List Term = tree.term (b.BitXor, (at 10)) (tr.variable (tr.lettered D (at 11))) ∷ [] in
      let more : List Term = tree.term (b.BitXor, (at 8)) (tr.variable (tr.lettered C (at 9))) ∷ last_terms in
      node.terms_from s (at 5) (tr.variable (tr.lettered A (at 5))) b.BitXor (at 6) (tr.variable (tr.lettered B (at 7))) more (word.read_of A) found refl
      (word.letter_value s size found means A (at 5)) step cuts
      ∙ node.terms_next s b.BitXor (at 6) (tr.variable (tr.lettered B (at 7))) (map (term s) more) (word.read_of A) (word.read_of B) one found
      (word.letter_value s size found means B (at 7)) refl step cuts
      ∙ node.terms_next s b.BitXor (at 8) (tr.variable (tr.lettered C (at 9))) (map (term s) last_terms) one (word.read_of C) two found
      (word.letter_value s size found means C (at 9)) refl step cuts
      ∙ node.terms_next s b.BitXor (at 10) (tr.variable (tr.lettered D (at 11))) [] two (word.read_of D) mixed found
      (word.letter_value s size found means D (at 11)) refl step cuts
      ∙ node.terms_none s mixed found step cuts

  pub mix_step : (at : ℕ → ℕ) (steps : List Statement) → item (tr.mix_item at) steps (state s found)
      ≡ Outcome.Gives (steps ++ (Statement.Assign (place_in_tree (at 0)) (Place.Element Static 1 size unsigned_int word.id_value) mixed ∷ [])) (state s found)
  mix_step at steps =
      let place : PlaceTree = tree.place (tr.named (codes "g") (at 0)) (tr.variable (tr.named (codes "id") (at 2)) ∷ []) in
      let f : Form = form.Binary (tr.variable (tr.lettered A (at 5))) (letters at) in
      word.simple_item s size found means (tr.changed (at 0) place Set (tree.expression (at 5) f)) _ steps
      (node.assigns s found (at 0) place (tree.expression (at 5) f) (Place.Element Static 1 size unsigned_int word.id_value) mixed
      (node.target_element s (tr.named (codes "g") (at 0)) (tr.variable (tr.named (codes "id") (at 2))) word.id_value Static 1 size UnsignedInt found
      means.elements (word.id_gives s size found means (at 2)))
      (mixed_value at))

  pub last_lock_step : (at : ℕ → ℕ) (steps : List Statement) → item (tr.last_lock_item at) steps (state s found)
      ≡ Outcome.Gives (steps ++ (Statement.Thread (place_in_tree (at 13)) (ThreadCall.MutexLock (ObjectPlace.Single 0)) ∷ [])) (state s found)
  last_lock_step at steps =
      word.simple_item s size found means
      (tr.called (tr.named (codes "pthread_mutex_lock") (at 13)) (at 13) (argument.Address (tr.alone (tr.named (codes "m") (at 16))) (at 15) ∷ [])) _ steps
      (word.lock_by s size found means (at 13) (at 16) (at 15))

  pub last_unlock_step : (at : ℕ → ℕ) (steps : List Statement) → item (tr.last_unlock_item at) steps (state s found)
      ≡ Outcome.Gives (steps ++ (Statement.Thread (place_in_tree (at 26)) (ThreadCall.MutexUnlock (ObjectPlace.Single 0)) ∷ [])) (state s found)
  last_unlock_step at steps =
      word.simple_item s size found means
      (tr.called (tr.named (codes "pthread_mutex_unlock") (at 26)) (at 26) (argument.Address (tr.alone (tr.named (codes "m") (at 29))) (at 28) ∷ [])) _ steps
      (word.unlock_by s size found means (at 26) (at 29) (at 28))

  -- s += g[id];
  element_gives : (o p : ℕ) →
      node.IsValue s (tree.expression o (form.Place (tree.place (tr.named (codes "g") o) (tr.variable (tr.named (codes "id") p) ∷ [])))) found
      (Expression.Element Static 1 size unsigned_int word.id_value)
  element_gives o p =
      node.element_value s o (tr.named (codes "g") o) (tr.variable (tr.named (codes "id") p)) word.id_value Static 1 size UnsignedInt found means.elements
      (word.id_gives s size found means p)

  pub last_add_step : (at : ℕ → ℕ) (steps : List Statement) → item (tr.last_add_item at) steps (state s found)
      ≡ Outcome.Gives (steps ++ (Statement.Update (place_in_tree (at 19)) (Place.Scalar Static 0 unsigned_int) operator.Add unsigned_int
      (Expression.Element Static 1 size unsigned_int word.id_value) ∷ [])) (state s found)
  last_add_step at steps =
      let e : ExpressionTree = tree.expression (at 21) (form.Place (tree.place (tr.named (codes "g") (at 21)) (tr.variable (tr.named (codes "id") (at 23)) ∷ []))) in
      word.simple_item s size found means (tr.changed (at 19) (tr.alone (tr.named (codes "s") (at 19))) (Compound b.Add) e) _ steps
      (word.added_by s size found means (at 19) e (Expression.Element Static 1 size unsigned_int word.id_value) (element_gives (at 21) (at 23)) refl)

  -- return NULL;
  null_value : (o at : ℕ) (cuts : Cuts) → pointer_value s (tree.null o) at cuts found ≡ Outcome.Gives (cut cuts (Expression.Constant long_int (pos 0))) found
  unfolding pointer_value
  null_value o at cuts = ap (λ (p : PointerLayer). operand_value s p.operand at cuts found) (out-roll-Pointer (record { operand = None; offset = o }))

  null_return : (o p : ℕ) → returned s (returned_as.Pointer (tree.null p)) o found
      ≡ Outcome.Gives (Statement.Return (place_in_tree o) (Some (Expression.Constant long_int (pos 0)))) found
  unfolding returned
  null_return o p =
      ap (λ (g : Gives). and_then (finds_if (not (may_return g (returned_as.Pointer (tree.null p)))) rule.Kind o found)
      (λ u. (pointer_value s (tree.null p) (place_in_tree o) (free_from s.kept_from) >>= (λ right. pure (given_back s (place_in_tree o) right))))) back
      ∙ ap (λ (r : Outcome Findings (Cut Expression)). and_then r (λ right. pure (given_back s (place_in_tree o) right)))
      (null_value p (place_in_tree o) (free_from s.kept_from))

  pub null_step : (at : ℕ → ℕ) (steps : List Statement) → item (tr.null_item at) steps (state s found)
      ≡ Outcome.Gives (steps ++ (Statement.Return (place_in_tree (at 32)) (Some (Expression.Constant long_int (pos 0))) ∷ [])) (state s found)
  null_step at steps =
      ap (λ (a : Adds). a steps (state s found))
      (node.statement_item (st.Return (returned_as.Pointer (tree.null (at 33))) (at 32))
      ∙ ap with_step (node.return_statement (returned_as.Pointer (tree.null (at 33))) (at 32)))
      ∙ ap (λ (r : Outcome Findings Statement). and_then (in_scope s r) (λ step. pure (steps ++ (step ∷ [])))) (null_return (at 32) (at 33))
