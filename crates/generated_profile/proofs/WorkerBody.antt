-- What the body of the worker of a generated text stands for.
use Rattle.std.proofs.Common.{◌≡◌, ℕ, List, [], ◌∷◌, ◌++◌, map, append_assoc, Some, refl, ap, ◌∙◌}
use Rattle.std.specs.Prelude.{fold, pos}
use Rattle.hls_ints.specs.Types.{unsigned_int, long_int}
use Rattle.c_tree.specs.declared.statement.BlockItem.{BlockItem}
use Rattle.c_tree.specs.Trees as tree
use Rattle.c_program.specs.declared.tree.Storage.TheVariants.{Automatic, Static}
use Rattle.c_program.specs.declared.tree.BinaryOperator.TheVariants as operator
use Rattle.c_program.specs.Tree.{Expression, Place, ObjectPlace, ThreadCall, Statement}
use Rattle.c_rules.specs.declared.findings.Findings.{Findings}
use Rattle.c_rules.specs.declared.names.Scope.{Scope}
use Rattle.c_rules.specs.Walks.{Outcome, and_then, pure, place_in_tree}
use Rattle.c_resolution.specs.States.{State, state}
use Rattle.c_resolution.specs.Sequences.{sequence}
use Rattle.c_resolution.specs.Statements.{item, items}
use Rattle.generated_text.specs.declared.draws.Letter.TheVariants.{A, B, C, D}
use Rattle.generated_text.specs.declared.draws.Line.{Line}
use Rattle.generated_profile.proofs.LineReading.{items_of}
use Rattle.generated_profile.proofs.Trees as tr
use Rattle.generated_profile.proofs.Layers as node
use Rattle.generated_profile.proofs.Lettered as word
use Rattle.generated_profile.proofs.Branches.{statements_of, lines_steps}
use Rattle.generated_profile.proofs.Closing as last
use Rattle.generated_profile.proofs.Scopes as scope

five_behind : {X : Type 0} (xs : List X) (a b c d e : X) → xs ++ (a ∷ []) ++ (b ∷ []) ++ (c ∷ []) ++ (d ∷ []) ++ (e ∷ []) ≡ xs ++ (a ∷ b ∷ c ∷ d ∷ e ∷ [])
five_behind xs a b c d e =
    append_assoc (xs ++ (a ∷ []) ++ (b ∷ []) ++ (c ∷ [])) (d ∷ []) (e ∷ [])
    ∙ append_assoc (xs ++ (a ∷ []) ++ (b ∷ [])) (c ∷ []) (d ∷ e ∷ [])
    ∙ append_assoc (xs ++ (a ∷ [])) (b ∷ []) (c ∷ d ∷ e ∷ [])
    ∙ append_assoc xs (a ∷ []) (b ∷ c ∷ d ∷ e ∷ [])

abbrev pub opening_statements : (ℕ → ℕ) → List Statement
opening_statements at =
    Statement.Assign (place_in_tree (at 28)) (Place.Scalar Automatic 1 long_int) (Expression.Cast long_int (Expression.Variable Automatic 0 long_int))
    ∷ word.set_to (at 36) A (word.unsigned_of operator.Add (Expression.Cast unsigned_int word.id_value) (word.int_number 1))
    ∷ word.set_to (at 45) B (word.int_number 2) ∷ word.set_to (at 49) C (word.int_number 3) ∷ word.set_to (at 53) D (word.int_number 4) ∷ []

abbrev pub closing_statements : ℕ → (ℕ → ℕ) → List Statement
closing_statements size at =
    Statement.Assign (place_in_tree (at 0)) (Place.Element Static 1 size unsigned_int word.id_value) last.mixed
    ∷ Statement.Thread (place_in_tree (at 13)) (ThreadCall.MutexLock (ObjectPlace.Single 0))
    ∷ Statement.Update (place_in_tree (at 19)) (Place.Scalar Static 0 unsigned_int) operator.Add unsigned_int (Expression.Element Static 1 size unsigned_int word.id_value)
    ∷ Statement.Thread (place_in_tree (at 26)) (ThreadCall.MutexUnlock (ObjectPlace.Single 0))
    ∷ Statement.Return (place_in_tree (at 32)) (Some (Expression.Constant long_int (pos 0))) ∷ []

module _ (size : ℕ) (found : Findings) where
  abbrev s : Scope
  s = scope.worker_scope size

  abbrev here : State
  here = state s found

  abbrev before : State
  before = state (scope.with_argument size) found

  opening_steps : (at : ℕ → ℕ) → fold node.joins (Outcome.Gives [] before) (map item (tr.opening_items at)) ≡ Outcome.Gives (opening_statements at) here
  opening_steps at =
      ap (λ o. node.joins o (item (tr.letters_item at))) (scope.id_step size at found)
      ∙ scope.letters_step size at found
      (Statement.Assign (place_in_tree (at 28)) (Place.Scalar Automatic 1 long_int) (Expression.Cast long_int (Expression.Variable Automatic 0 long_int)) ∷ [])

  closing_steps : (at : ℕ → ℕ) (steps : List Statement) →
      fold node.joins (Outcome.Gives steps here) (map item (tr.closing_items at)) ≡ Outcome.Gives (steps ++ closing_statements size at) here
  closing_steps at steps =
      let means = scope.worker_means size in
      let a : Statement = Statement.Assign (place_in_tree (at 0)) (Place.Element Static 1 size unsigned_int word.id_value) last.mixed in
      let l : Statement = Statement.Thread (place_in_tree (at 13)) (ThreadCall.MutexLock (ObjectPlace.Single 0)) in
      let d : Statement =
      Statement.Update (place_in_tree (at 19)) (Place.Scalar Static 0 unsigned_int) operator.Add unsigned_int (Expression.Element Static 1 size unsigned_int word.id_value) in
      let u : Statement = Statement.Thread (place_in_tree (at 26)) (ThreadCall.MutexUnlock (ObjectPlace.Single 0)) in
      let r : Statement = Statement.Return (place_in_tree (at 32)) (Some (Expression.Constant long_int (pos 0))) in
      ap (λ o. fold node.joins o (map item (tr.last_lock_item at ∷ tr.last_add_item at ∷ tr.last_unlock_item at ∷ tr.null_item at ∷ []))) (last.mix_step s size found means refl at steps)
      ∙ ap (λ o. fold node.joins o (map item (tr.last_add_item at ∷ tr.last_unlock_item at ∷ tr.null_item at ∷ []))) (last.last_lock_step s size found means refl at (steps ++ (a ∷ [])))
      ∙ ap (λ o. fold node.joins o (map item (tr.last_unlock_item at ∷ tr.null_item at ∷ []))) (last.last_add_step s size found means refl at (steps ++ (a ∷ []) ++ (l ∷ [])))
      ∙ ap (λ o. fold node.joins o (map item (tr.null_item at ∷ []))) (last.last_unlock_step s size found means refl at (steps ++ (a ∷ []) ++ (l ∷ []) ++ (d ∷ [])))
      ∙ last.null_step s size found means refl at (steps ++ (a ∷ []) ++ (l ∷ []) ++ (d ∷ []) ++ (u ∷ []))
      ∙ ap (λ list. Outcome.Gives list here) (five_behind steps a l d u r)

  abbrev pub body_statements : (ℕ → ℕ) → (ℕ → ℕ) → ℕ → List Line → List Statement
  body_statements at behind o lines = opening_statements at ++ statements_of size o lines ++ closing_statements size behind

  pub body_is : (at behind : ℕ → ℕ) (o close : ℕ) (lines : List Line) →
      items (tree.block (tr.opening_items at ++ items_of o lines ++ tr.closing_items behind) close) before
      ≡ Outcome.Gives (sequence (body_statements at behind o lines)) here
  body_is at behind o close lines =
      let first : List BlockItem = tr.opening_items at in
      let middle : List BlockItem = items_of o lines in
      let end : List BlockItem = tr.closing_items behind in
      let begin : Outcome State (List Statement) = Outcome.Gives [] before in
      let end_walk : Outcome State (List Statement) → Outcome State Statement = λ r. and_then (fold node.joins r (map item end)) (λ steps. pure (sequence steps)) in
      ap (λ g. g before) (node.block_is (first ++ middle ++ end) close)
      ∙ ap (λ (r : Outcome State (List Statement)). and_then r (λ steps. pure (sequence steps))) (node.items_append (first ++ middle) end begin)
      ∙ ap end_walk (node.items_append first middle begin)
      ∙ ap (λ r. end_walk (fold node.joins r (map item middle))) (opening_steps at)
      ∙ ap end_walk (lines_steps s size found (scope.worker_means size) (scope.inner_means size) (scope.worker_closes size) o lines (opening_statements at))
      ∙ ap (λ (r : Outcome State (List Statement)). and_then r (λ steps. pure (sequence steps))) (closing_steps behind (opening_statements at ++ statements_of size o lines))
