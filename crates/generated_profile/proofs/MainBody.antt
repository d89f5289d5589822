-- What the body of the main function of a generated text stands for.
use Rattle.std.proofs.Common.{◌≡◌, ℕ, List, [], ◌∷◌, ◌++◌, map, Some, None, refl, ap, ◌∙◌}
use Rattle.std.specs.Prelude.{codes, fold, not, ◌+◌, take, drop, slice_get}
use Rattle.hls_ints.specs.Types.{int_type, unsigned_int, long_int}
use Rattle.c_tree.specs.declared.expression.BinaryOperator.TheVariants as b
use Rattle.c_tree.specs.declared.expression.Argument.{Argument as ArgumentTree}
use Rattle.c_tree.specs.declared.expression.Argument.TheVariants as argument
use Rattle.c_tree.specs.declared.expression.Expression.{Expression as ExpressionTree}
use Rattle.c_tree.specs.declared.expression.Form.TheVariants as form
use Rattle.c_tree.specs.declared.expression.TypeWord.TheVariants as w
use Rattle.c_tree.specs.declared.statement.AssignmentOperator.TheVariants.{Set}
use Rattle.c_tree.specs.declared.statement.SimpleStatement.{SimpleStatement}
use Rattle.c_tree.specs.declared.statement.ForStart.TheVariants as start
use Rattle.c_tree.specs.declared.statement.Returned.TheVariants as returned_as
use Rattle.c_tree.specs.declared.statement.Statement.TheVariants as st
use Rattle.c_tree.specs.declared.statement.BlockItem.{BlockItem}
use Rattle.c_tree.specs.declared.statement.BlockItem.TheVariants as block_item
use Rattle.c_tree.specs.Trees as tree
use Rattle.c_program.specs.declared.tree.Storage.TheVariants.{Static}
use Rattle.c_program.specs.declared.tree.BinaryOperator.TheVariants as operator
use Rattle.c_program.specs.Tree.{Expression, ObjectPlace, ThreadCall, Piece, Statement}
use Rattle.c_rules.specs.declared.fault.Rule.TheVariants as rule
use Rattle.c_rules.specs.declared.findings.Findings.{Findings}
use Rattle.c_rules.specs.declared.library.LibraryFunction.TheVariants as library
use Rattle.c_rules.specs.declared.names.Known.TheVariants as known
use Rattle.c_rules.specs.declared.names.Gives.{Gives}
use Rattle.c_rules.specs.declared.names.Gives.TheVariants as gives
use Rattle.c_rules.specs.declared.names.Scope.{Scope}
use Rattle.c_rules.specs.Findings as findings
use Rattle.c_rules.specs.Formats.{pieces_from}
use Rattle.c_rules.specs.Library.{function_named}
use Rattle.c_rules.specs.Names.{look_up, is_taken, declaring, opened, closed}
use Rattle.c_rules.specs.Specifiers.{base_of}
use Rattle.c_rules.specs.Walks.{Outcome, and_then, pure, finds_if, place_in_tree, ◌>>=◌, ◌>>◌}
use Rattle.c_rules.specs.declared.specifiers.BasicType.TheVariants.{UnsignedInt}
use Rattle.c_expressions.specs.Cuts.{Cuts, Cut, free_from}
use Rattle.c_expressions.specs.Expressions.{value, condition, argument_offset, looked_argument, all_passed}
use Rattle.c_expressions.specs.Callees.{library_name, library_place}
use Rattle.c_calls.specs.Arguments.{ArgumentLayer}
use Rattle.c_calls.specs.Calls.{call_of, library_call, library_statement, print_call, print_arguments, format_in, takes, printed}
use Rattle.c_resolution.specs.Simple.{simple, returned, may_return, given_back}
use Rattle.c_resolution.specs.States.{State, state, in_scope}
use Rattle.c_resolution.specs.Locals.{declaration, declarator, dimensions, local, new_local, declare}
use Rattle.c_resolution.specs.Sequences.{sequence}
use Rattle.c_resolution.specs.Statements.{Adds, item, items, with_step, deeper}
use Rattle.generated_profile.proofs.Trees as tr
use Rattle.generated_profile.proofs.Layers as node
use Rattle.generated_profile.proofs.Lettered as word
use Rattle.generated_profile.proofs.Loops.{loop_step}
use Rattle.generated_profile.proofs.Main.{MainMeans, counter, counter_place, counter_gives, simple_item, starts, steps_up, below, init_step, destroy_step}
use Rattle.generated_profile.proofs.MainCalls.{create_tree, join_tree, create_is, join_is}
use Rattle.generated_profile.proofs.Scopes.{worker_header}
use Rattle.generated_profile.proofs.Declaring.{main_begins, main_scope}

-- "%u\n"
abbrev pub number_pieces : List Piece
number_pieces = Piece.Conversion unsigned_int ∷ Piece.Text (10 ∷ []) ∷ []

abbrev format_text : List ℕ
format_text = codes "%u\\n"

module _ (s : Scope) (size : ℕ) (found : Findings) (means : MainMeans s size) where
  -- printf("%u\n", e);
  print_is : (o p : ℕ) (e : ExpressionTree) (v : Expression) → node.IsValue s e found v →
      simple s (tr.called (tr.named (codes "printf") o) o (argument.Text format_text p ∷ argument.Value e ∷ [])) found
      ≡ Outcome.Gives (Statement.Print (place_in_tree o) number_pieces (v ∷ [])) found
  unfolding simple call_of library_call library_name library_place library_statement print_call print_arguments pieces_from
  print_is o p e v h =
      let t : ArgumentTree = argument.Text format_text p in
      let q : ℕ = place_in_tree o in
      let no_cuts : Cuts = free_from s.kept_from in
      node.call_is s q (tr.named (codes "printf") o) (t ∷ argument.Value e ∷ []) (known.Library library.Print) found means.print
      ∙ ap (λ (l : ArgumentLayer). and_then (finds_if (not (takes (format_in l) 1)) rule.Format (argument_offset t) found)
      (λ u. (looked_argument s t >> (all_passed s (argument.Value e ∷ []) q no_cuts >>= (λ x. pure (printed q (format_in l) x)))))) (argument.outs-Text format_text p)
      ∙ ap (λ (r : Outcome Findings (Unit {0})). and_then r
      (λ u. (all_passed s (argument.Value e ∷ []) q no_cuts >>= (λ x. pure (printed q (Some number_pieces) x))))) (node.text_looked s format_text p found)
      ∙ ap (λ (r : Outcome Findings (Cut (List Expression))). and_then r (λ x. pure (printed q (Some number_pieces) x))) (node.one_passed s e v found h q no_cuts)

  element_gives : (o p : ℕ) → node.IsValue s (tree.expression o (form.Place (tree.place (tr.named (codes "g") o) (tr.variable (tr.named (codes "i") p) ∷ [])))) found
      (Expression.Element Static 1 size unsigned_int counter)
  element_gives o p =
      node.element_value s o (tr.named (codes "g") o) (tr.variable (tr.named (codes "i") p)) counter Static 1 size UnsignedInt found means.elements
      (counter_gives s size found means p)

  total_gives : (o : ℕ) → node.IsValue s (tr.variable (tr.named (codes "s") o)) found (Expression.Variable Static 0 unsigned_int)
  total_gives o = node.variable_value s (tr.named (codes "s") o) Static 0 UnsignedInt found means.total

  sum_step : (at : ℕ → ℕ) (steps : List Statement) → item (tr.sum_item at) steps (state s found)
      ≡ Outcome.Gives (steps ++ (Statement.Print (place_in_tree (at 104)) number_pieces (Expression.Variable Static 0 unsigned_int ∷ []) ∷ [])) (state s found)
  sum_step at steps =
      let e : ExpressionTree = tr.variable (tr.named (codes "s") (at 108)) in
      simple_item s size found means (tr.called (tr.named (codes "printf") (at 104)) (at 104) (argument.Text format_text (at 106) ∷ argument.Value e ∷ [])) _ steps
      (print_is (at 104) (at 106) e (Expression.Variable Static 0 unsigned_int) (total_gives (at 108)))

  zero_step : s.gives ≡ gives.Integer → (at : ℕ → ℕ) (steps : List Statement) → item (tr.zero_item at) steps (state s found)
      ≡ Outcome.Gives (steps ++ (Statement.Return (place_in_tree (at 117)) (Some (word.int_number 0)) ∷ [])) (state s found)
  unfolding returned
  zero_step back at steps =
      let e : ExpressionTree = tr.constant 0 (at 118) in
      let o : ℕ = place_in_tree (at 117) in
      ap (λ (a : Adds). a steps (state s found))
      (node.statement_item (st.Return (returned_as.Value e) (at 117)) ∙ ap with_step (node.return_statement (returned_as.Value e) (at 117)))
      ∙ ap (λ (g : Gives). and_then (in_scope s (and_then (finds_if (not (may_return g (returned_as.Value e))) rule.Kind (at 117) found)
      (λ u. (value s e o (free_from s.kept_from) >>= (λ right. pure (given_back s o right)))))) (λ step. pure (steps ++ (step ∷ [])))) back
      ∙ ap (λ (r : Outcome Findings (Cut Expression)). and_then (in_scope s (and_then r (λ right. pure (given_back s o right)))) (λ step. pure (steps ++ (step ∷ []))))
      (node.constant_value s 0 (at 118) found o (free_from s.kept_from))

  below_condition : (k : ℕ) (at : ℕ → ℕ) (n : ℕ) → condition s (tree.expression (at 0) (form.Binary (tr.variable (tr.named (codes "i") (at 0)))
      (tree.term (b.Less, at 1) (tr.constant k (at 2)) ∷ []))) n found
      ≡ Outcome.Gives (Statement.Test (place_in_tree (at 0)) (Expression.Binary operator.Less int_type counter (word.int_number k))) found
  below_condition k at n =
      node.between_condition s (at 0) (at 1) b.Less (tr.variable (tr.named (codes "i") (at 0))) (tr.constant k (at 2))
      (Expression.Binary operator.Less int_type counter (word.int_number k)) found n refl (below s size found means k at)

-- ---- scopes

abbrev looping : ℕ → Scope
looping size = opened (deeper (opened (main_scope size)))

main_means : (size : ℕ) → MainMeans (main_scope size) size
unfolding look_up function_named
main_means size = record { i = refl; threads_are = refl; elements = refl; total = refl; mutex = refl; init = refl; destroy = refl; create = refl; join = refl; print = refl; worker = refl }

head_means : (size : ℕ) → MainMeans (opened (main_scope size)) size
unfolding look_up function_named opened
head_means size = record { i = refl; threads_are = refl; elements = refl; total = refl; mutex = refl; init = refl; destroy = refl; create = refl; join = refl; print = refl; worker = refl }

loop_means : (size : ℕ) → MainMeans (looping size) size
unfolding look_up function_named opened
loop_means size = record { i = refl; threads_are = refl; elements = refl; total = refl; mutex = refl; init = refl; destroy = refl; create = refl; join = refl; print = refl; worker = refl }

simple_to : (s : Scope) (x : SimpleStatement) (v : Statement) (steps : List Statement) (found after : Findings) → simple s x found ≡ Outcome.Gives v after →
    item (block_item.Statement (st.Simple x)) steps (state s found) ≡ Outcome.Gives (steps ++ (v ∷ [])) (state s after)
simple_to s x v steps found after h =
    ap (λ (a : Adds). a steps (state s found)) (node.statement_item (st.Simple x) ∙ ap with_step (node.simple_statement x))
    ∙ ap (λ (r : Outcome Findings Statement). and_then (in_scope s r) (λ step. pure (steps ++ (step ∷ [])))) h

loop_headers : (size : ℕ) → slice_get (looping size).headers 0 ≡ Some worker_header
unfolding opened
loop_headers size = refl

-- ---- the loops

-- for (i = 0; i < k; i++) { body }
abbrev pub counted : ℕ → ℕ → ℕ → ℕ → Statement → Statement
counted k first test step body =
    Statement.For (Statement.Assign (place_in_tree first) counter_place (word.int_number 0))
    (Statement.Test (place_in_tree test) (Expression.Binary operator.Less int_type counter (word.int_number k)))
    (Statement.Update (place_in_tree step) counter_place operator.Add int_type (word.int_number 1))
    (Statement.Block body)

module _ (size k : ℕ) where
  abbrev m : Scope
  m = main_scope size

  counted_step : (a z c : ℕ) (at : ℕ → ℕ) (x : SimpleStatement) (v : Statement) (found after : Findings) (close : ℕ) (steps : List Statement) →
      simple (looping size) x found ≡ Outcome.Gives v after →
      item (block_item.Statement (st.For (start.Simple (tr.changed a (tr.alone (tr.named (codes "i") a)) Set (tr.constant 0 z)))
      (Some (tree.expression (at 0) (form.Binary (tr.variable (tr.named (codes "i") (at 0))) (tree.term (b.Less, at 1) (tr.constant k (at 2)) ∷ []))))
      (Some (tr.stepped c (tr.alone (tr.named (codes "i") c)))) (st.Block (tree.block (block_item.Statement (st.Simple x) ∷ []) close)))) steps (state m found)
      ≡ Outcome.Gives (steps ++ (counted k a (at 0) c v ∷ [])) (state m after)
  unfolding opened closed
  counted_step a z c at x v found after close steps h =
      loop_step m (tr.changed a (tr.alone (tr.named (codes "i") a)) Set (tr.constant 0 z)) (tr.stepped c (tr.alone (tr.named (codes "i") c)))
      (tree.expression (at 0) (form.Binary (tr.variable (tr.named (codes "i") (at 0))) (tree.term (b.Less, at 1) (tr.constant k (at 2)) ∷ [])))
      (block_item.Statement (st.Simple x)) close
      (Statement.Assign (place_in_tree a) counter_place (word.int_number 0))
      (Statement.Update (place_in_tree c) counter_place operator.Add int_type (word.int_number 1)) v
      (Statement.Test (place_in_tree (at 0)) (Expression.Binary operator.Less int_type counter (word.int_number k))) found after steps
      (starts (opened m) size found (head_means size) a z) (below_condition (opened m) size found (head_means size) k at (opened m).kept_from)
      (steps_up (opened m) size found (head_means size) c) (simple_to (looping size) x v [] found after h) refl refl refl

  -- ---- the items

  counter_step : (at : ℕ → ℕ) (found : Findings) → item (tr.counter_item at) [] (state (main_begins size) found)
      ≡ Outcome.Gives (Statement.Declare (place_in_tree (at 7)) 0 0 ∷ []) (state m found)
  unfolding declaration declarator dimensions local new_local declare is_taken declaring function_named base_of
  counter_step at found =
      ap (λ add. add [] (state (main_begins size) found)) (node.declaration_item (record {
        specifiers = tr.words (w.Int ∷ []) (at 6);
        declarators = tr.declarator (tr.named (codes "i") (at 7)) None ∷ [];
      }))

  create_step : (at : ℕ → ℕ) (found : Findings) (steps : List Statement) → item (tr.create_item k at) steps (state m found)
      ≡ Outcome.Gives (steps ++ (counted k (at 19) (at 23) (at 27)
      (Statement.Thread (place_in_tree (at 31)) (ThreadCall.Create (ObjectPlace.Element 0 size counter) 0 (Expression.Cast long_int counter))) ∷ [])) (state m (findings.created 0 0 (at 41) found))
  create_step at found steps =
      counted_step (at 19) (at 21) (at 27) (λ n. at (23 + n)) (create_tree at)
      (Statement.Thread (place_in_tree (at 31)) (ThreadCall.Create (ObjectPlace.Element 0 size counter) 0 (Expression.Cast long_int counter))) found
      (findings.created 0 0 (at 41) found) (at 53) steps (create_is (looping size) size found (loop_means size) (loop_headers size) at)

  join_step : (at : ℕ → ℕ) (found : Findings) (steps : List Statement) → item (tr.join_item k at) steps (state m found)
      ≡ Outcome.Gives (steps ++ (counted k (at 56) (at 60) (at 64)
      (Statement.Thread (place_in_tree (at 68)) (ThreadCall.Join (ObjectPlace.Element 0 size counter))) ∷ [])) (state m found)
  join_step at found steps =
      counted_step (at 56) (at 58) (at 64) (λ n. at (60 + n)) (join_tree at)
      (Statement.Thread (place_in_tree (at 68)) (ThreadCall.Join (ObjectPlace.Element 0 size counter))) found found (at 78) steps
      (join_is (looping size) size found (loop_means size) at)

  print_step : (at : ℕ → ℕ) (found : Findings) (steps : List Statement) → item (tr.print_item k at) steps (state m found)
      ≡ Outcome.Gives (steps ++ (counted k (at 81) (at 85) (at 89)
      (Statement.Print (place_in_tree (at 93)) number_pieces (Expression.Element Static 1 size unsigned_int counter ∷ [])) ∷ [])) (state m found)
  print_step at found steps =
      let e : ExpressionTree = tree.expression (at 97) (form.Place (tree.place (tr.named (codes "g") (at 97)) (tr.variable (tr.named (codes "i") (at 99)) ∷ []))) in
      counted_step (at 81) (at 83) (at 89) (λ n. at (85 + n))
      (tr.called (tr.named (codes "printf") (at 93)) (at 93) (argument.Text format_text (at 95) ∷ argument.Value e ∷ []))
      (Statement.Print (place_in_tree (at 93)) number_pieces (Expression.Element Static 1 size unsigned_int counter ∷ [])) found found (at 103) steps
      (print_is (looping size) size found (loop_means size) (at 93) (at 95) e (Expression.Element Static 1 size unsigned_int counter)
      (element_gives (looping size) size found (loop_means size) (at 97) (at 99)))

  abbrev pub main_statements : (ℕ → ℕ) → List Statement
  main_statements at =
      Statement.Declare (place_in_tree (at 7)) 0 0
      ∷ Statement.Thread (place_in_tree (at 9)) (ThreadCall.MutexInit (ObjectPlace.Single 0))
      ∷ counted k (at 19) (at 23) (at 27)
      (Statement.Thread (place_in_tree (at 31)) (ThreadCall.Create (ObjectPlace.Element 0 size counter) 0 (Expression.Cast long_int counter)))
      ∷ counted k (at 56) (at 60) (at 64) (Statement.Thread (place_in_tree (at 68)) (ThreadCall.Join (ObjectPlace.Element 0 size counter)))
      ∷ counted k (at 81) (at 85) (at 89) (Statement.Print (place_in_tree (at 93)) number_pieces (Expression.Element Static 1 size unsigned_int counter ∷ []))
      ∷ Statement.Print (place_in_tree (at 104)) number_pieces (Expression.Variable Static 0 unsigned_int ∷ [])
      ∷ Statement.Thread (place_in_tree (at 111)) (ThreadCall.MutexDestroy (ObjectPlace.Single 0))
      ∷ Statement.Return (place_in_tree (at 117)) (Some (word.int_number 0))
      ∷ []

  abbrev front : ℕ → (ℕ → ℕ) → List Statement
  front n at = take n (main_statements at)

  pub main_is : (at : ℕ → ℕ) (close : ℕ) (found : Findings) → items (tree.block (tr.main_items k at) close) (state (main_begins size) found)
      ≡ Outcome.Gives (sequence (main_statements at)) (state m (findings.created 0 0 (at 41) found))
  main_is at close found =
      let after : Findings = findings.created 0 0 (at 41) found in
      let left : List BlockItem → Outcome State (List Statement) → Outcome State Statement =
      λ list r. and_then (fold node.joins r (map item list)) (λ steps. pure (sequence steps)) in
      ap (λ g. g (state (main_begins size) found)) (node.block_is (tr.main_items k at) close)
      ∙ ap (left (drop 1 (tr.main_items k at))) (counter_step at found)
      ∙ ap (left (drop 2 (tr.main_items k at))) (init_step m size found (main_means size) at (front 1 at))
      ∙ ap (left (drop 3 (tr.main_items k at))) (create_step at found (front 2 at))
      ∙ ap (left (drop 4 (tr.main_items k at))) (join_step at after (front 3 at))
      ∙ ap (left (drop 5 (tr.main_items k at))) (print_step at after (front 4 at))
      ∙ ap (left (drop 6 (tr.main_items k at))) (sum_step m size after (main_means size) at (front 5 at))
      ∙ ap (left (drop 7 (tr.main_items k at))) (destroy_step m size after (main_means size) at (front 6 at))
      ∙ ap (left []) (zero_step m size after (main_means size) refl at (front 7 at))
