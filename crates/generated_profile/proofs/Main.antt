-- What the statements of the main function of a generated text stand for.
use Rattle.std.proofs.Common.{◌≡◌, ℕ, List, [], ◌∷◌, ◌++◌, Some, None, refl, ap, ◌∙◌}
use Rattle.std.specs.Prelude.{codes, cond, is_none}
use Rattle.hls_ints.specs.Types.{int_type}
use Rattle.c_tree.specs.declared.expression.BinaryOperator.TheVariants as b
use Rattle.c_tree.specs.declared.expression.Argument.{Argument as ArgumentTree}
use Rattle.c_tree.specs.declared.expression.Argument.TheVariants as argument
use Rattle.c_tree.specs.declared.expression.Call.{Call as CallTree}
use Rattle.c_tree.specs.declared.expression.Choice.{Choice as ChoiceTree}
use Rattle.c_tree.specs.declared.expression.Pointer.{Pointer as PointerTree, out-roll-Pointer}
use Rattle.c_tree.specs.declared.expression.Place.{Place as PlaceTree}
use Rattle.c_tree.specs.declared.expression.Expression.{Expression as ExpressionTree}
use Rattle.c_tree.specs.declared.expression.Form.{Form}
use Rattle.c_tree.specs.declared.expression.Form.TheVariants as form
use Rattle.c_tree.specs.declared.expression.Term.{Term}
use Rattle.c_tree.specs.declared.expression.Argument.TheOpen.{Pointer-F}
use Rattle.c_tree.specs.declared.statement.AssignmentOperator.TheVariants.{Set}
use Rattle.c_tree.specs.declared.statement.SimpleStatement.{SimpleStatement}
use Rattle.c_tree.specs.declared.statement.BlockItem.TheVariants as block_item
use Rattle.c_tree.specs.declared.statement.Statement.TheVariants as st
use Rattle.c_tree.specs.Trees as tree
use Rattle.c_program.specs.declared.tree.Storage.TheVariants.{Automatic}
use Rattle.c_program.specs.declared.tree.BinaryOperator.TheVariants as operator
use Rattle.c_program.specs.Tree.{Expression, Place, ObjectPlace, ThreadCall, Statement}
use Rattle.c_rules.specs.declared.specifiers.BasicType.TheVariants.{Int}
use Rattle.c_rules.specs.declared.findings.Findings.{Findings}
use Rattle.c_rules.specs.declared.library.LibraryFunction.TheVariants as library
use Rattle.c_rules.specs.declared.names.ObjectKind.TheVariants.{Thread, Mutex}
use Rattle.c_rules.specs.declared.dimensions.Dimensions.TheVariants.{Scalar, One}
use Rattle.c_rules.specs.declared.names.Meaning.{Meaning}
use Rattle.c_rules.specs.declared.names.Meaning.TheVariants as meaning
use Rattle.c_rules.specs.declared.names.Known.TheVariants as known
use Rattle.c_rules.specs.declared.names.Scope.{Scope}
use Rattle.c_rules.specs.Names.{look_up}
use Rattle.c_rules.specs.Walks.{Outcome, and_then, pure, place_in_tree, ◌>>◌}
use Rattle.c_expressions.specs.Cuts.{Cut, free_from}
use Rattle.c_expressions.specs.Callees.{library_name, library_place}
use Rattle.c_calls.specs.Arguments.{ArgumentLayer, null_argument, is_null_in, refused}
use Rattle.c_calls.specs.Calls.{thread_call, call_of, library_call, library_statement, object_call, object_statement, mutex_init, mutex_init_call}
use Rattle.c_resolution.specs.Simple.{simple, step, updated}
use Rattle.c_resolution.specs.States.{state, in_scope}
use Rattle.c_resolution.specs.Statements.{Adds, item, with_step}
use Rattle.generated_profile.proofs.Trees as tr
use Rattle.generated_profile.proofs.Layers as node
use Rattle.generated_profile.proofs.Lettered as word

abbrev PointerLayer : Type 0
PointerLayer = Pointer-F ArgumentTree Form CallTree ChoiceTree ExpressionTree PlaceTree PointerTree Term

abbrev pub counter : Expression
counter = Expression.Variable Automatic 0 int_type

abbrev pub counter_place : Place
counter_place = Place.Scalar Automatic 0 int_type

abbrev pub threads : ℕ → Meaning
threads size = node.object Thread 0 (Some size)

-- the names mean what they mean in main
pub record MainMeans (s : Scope) (size : ℕ) : Type 0 where
  pub i : look_up s (codes "i") ≡ known.Declared (word.automatic 0 Int)
  pub threads_are : look_up s (codes "t") ≡ known.Declared (threads size)
  pub elements : look_up s (codes "g") ≡ known.Declared (word.static 1 (One size))
  pub total : look_up s (codes "s") ≡ known.Declared (word.static 0 Scalar)
  pub mutex : look_up s (codes "m") ≡ known.Declared word.lock_place
  pub init : look_up s (codes "pthread_mutex_init") ≡ known.Library library.MutexInit
  pub destroy : look_up s (codes "pthread_mutex_destroy") ≡ known.Library library.MutexDestroy
  pub create : look_up s (codes "pthread_create") ≡ known.Library library.Create
  pub join : look_up s (codes "pthread_join") ≡ known.Library library.Join
  pub print : look_up s (codes "printf") ≡ known.Library library.Print
  pub worker : look_up s (codes "worker") ≡ known.Declared (meaning.Function 0)

module _ (s : Scope) (size : ℕ) (found : Findings) (means : MainMeans s size) where
  pub simple_item : (x : SimpleStatement) (v : Statement) (steps : List Statement) → simple s x found ≡ Outcome.Gives v found →
      item (block_item.Statement (st.Simple x)) steps (state s found) ≡ Outcome.Gives (steps ++ (v ∷ [])) (state s found)
  simple_item x v steps h =
      ap (λ (a : Adds). a steps (state s found)) (node.statement_item (st.Simple x) ∙ ap with_step (node.simple_statement x))
      ∙ ap (λ (r : Outcome Findings Statement). and_then (in_scope s r) (λ step. pure (steps ++ (step ∷ [])))) h

  pub counter_gives : (o : ℕ) → node.IsValue s (tr.variable (tr.named (codes "i") o)) found counter
  counter_gives o = node.variable_value s (tr.named (codes "i") o) Automatic 0 Int found means.i

  counter_target : (o : ℕ) → node.IsTarget s (tr.alone (tr.named (codes "i") o)) found counter_place
  counter_target o = node.target_alone s (tr.named (codes "i") o) Automatic 0 Int found means.i

  -- i = 0
  pub starts : (o p : ℕ) → simple s (tr.changed o (tr.alone (tr.named (codes "i") o)) Set (tr.constant 0 p)) found
      ≡ Outcome.Gives (Statement.Assign (place_in_tree o) counter_place (word.int_number 0)) found
  starts o p =
      node.assigns s found o (tr.alone (tr.named (codes "i") o)) (tr.constant 0 p) counter_place (word.int_number 0) (counter_target o) (node.constant_value s 0 p found)

  -- i++
  pub steps_up : (o : ℕ) → simple s (tr.stepped o (tr.alone (tr.named (codes "i") o))) found
      ≡ Outcome.Gives (Statement.Update (place_in_tree o) counter_place operator.Add int_type (word.int_number 1)) found
  unfolding simple step
  steps_up o =
      ap (λ (r : Outcome Findings (Cut Place)). and_then r (λ p. pure (updated o p operator.Add (word.int_number 1)))) (counter_target o (place_in_tree o) (free_from s.kept_from))

  -- i < t
  pub below : (k : ℕ) (at : ℕ → ℕ) → node.IsValue s (tree.expression (at 0) (form.Binary (tr.variable (tr.named (codes "i") (at 0)))
      (tree.term (b.Less, at 1) (tr.constant k (at 2)) ∷ []))) found (Expression.Binary operator.Less int_type counter (word.int_number k))
  below k at =
      node.between_value s (at 0) (at 1) b.Less (tr.variable (tr.named (codes "i") (at 0))) (tr.constant k (at 2)) counter (word.int_number k)
      (Expression.Binary operator.Less int_type counter (word.int_number k)) found refl (counter_gives (at 0)) (node.constant_value s k (at 2) found) refl

  -- ---- the mutex

  mutex_address : (o at : ℕ) → node.IsAddress s Mutex (argument.Address (tr.alone (tr.named (codes "m") o)) at) found (ObjectPlace.Single 0)
  mutex_address o at = node.mutex_address s (tr.named (codes "m") o) 0 at found means.mutex

  pub null_is : (o : ℕ) → null_argument s (argument.Pointer (tree.null o)) found ≡ Outcome.Gives tt found
  unfolding null_argument
  null_is o =
      ap (λ (l : ArgumentLayer). cond (is_null_in l) (pure tt) (refused s (argument.Pointer (tree.null o))) found) (argument.outs-Pointer (tree.null o))
      ∙ ap (λ (p : PointerLayer). cond (is_none p.operand) (pure tt) (refused s (argument.Pointer (tree.null o))) found) (out-roll-Pointer (record { operand = None; offset = o }))

  pub destroy_step : (at : ℕ → ℕ) (steps : List Statement) → item (tr.destroy_item at) steps (state s found)
      ≡ Outcome.Gives (steps ++ (Statement.Thread (place_in_tree (at 111)) (ThreadCall.MutexDestroy (ObjectPlace.Single 0)) ∷ [])) (state s found)
  unfolding simple call_of library_call library_name library_place library_statement object_call object_statement
  destroy_step at steps =
      let a : ArgumentTree = argument.Address (tr.alone (tr.named (codes "m") (at 114))) (at 113) in
      simple_item (tr.called (tr.named (codes "pthread_mutex_destroy") (at 111)) (at 111) (a ∷ [])) _ steps
      (node.call_is s (place_in_tree (at 111)) (tr.named (codes "pthread_mutex_destroy") (at 111)) (a ∷ []) (known.Library library.MutexDestroy) found means.destroy
      ∙ ap (λ (r : Outcome Findings (Cut ObjectPlace)). and_then r (λ q. pure (thread_call (place_in_tree (at 111)) q.cuts (ThreadCall.MutexDestroy q.rest))))
      (mutex_address (at 114) (at 113) (place_in_tree (at 111)) (free_from s.kept_from)))

  pub init_step : (at : ℕ → ℕ) (steps : List Statement) → item (tr.init_item at) steps (state s found)
      ≡ Outcome.Gives (steps ++ (Statement.Thread (place_in_tree (at 9)) (ThreadCall.MutexInit (ObjectPlace.Single 0)) ∷ [])) (state s found)
  unfolding simple call_of library_call library_name library_place library_statement mutex_init_call mutex_init
  init_step at steps =
      let a : ArgumentTree = argument.Address (tr.alone (tr.named (codes "m") (at 12))) (at 11) in
      let n : ArgumentTree = argument.Pointer (tree.null (at 14)) in
      simple_item (tr.called (tr.named (codes "pthread_mutex_init") (at 9)) (at 9) (a ∷ n ∷ [])) _ steps
      (node.call_is s (place_in_tree (at 9)) (tr.named (codes "pthread_mutex_init") (at 9)) (a ∷ n ∷ []) (known.Library library.MutexInit) found means.init
      ∙ ap (λ (r : Outcome Findings (Cut ObjectPlace)). and_then r (λ q. (null_argument s n >> pure (thread_call (place_in_tree (at 9)) q.cuts (ThreadCall.MutexInit q.rest)))))
      (mutex_address (at 12) (at 11) (place_in_tree (at 9)) (free_from s.kept_from))
      ∙ ap (λ (r : Outcome Findings (Unit {0})). and_then r (λ u. pure (Statement.Thread (place_in_tree (at 9)) (ThreadCall.MutexInit (ObjectPlace.Single 0))))) (null_is (at 14)))
