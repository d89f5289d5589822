-- What the lines of a generated text stand for, in a scope in which the names mean what they mean.
use Rattle.std.proofs.Common.{◌≡◌, ℕ, List, [], ◌∷◌, ◌++◌, None, refl, ap, ◌∙◌}
use Rattle.std.specs.Prelude.{codes, pos, false}
use Rattle.hls_ints.specs.Types.{int_type, unsigned_int, long_int}
use Rattle.c_tree.specs.declared.expression.BinaryOperator.{BinaryOperator as TreeOperator}
use Rattle.c_tree.specs.declared.expression.BinaryOperator.TheVariants as b
use Rattle.c_tree.specs.declared.expression.Expression.{Expression as ExpressionTree}
use Rattle.c_tree.specs.declared.expression.Argument.{Argument as ArgumentTree}
use Rattle.c_tree.specs.declared.expression.Argument.TheVariants as argument
use Rattle.c_tree.specs.declared.expression.Form.TheVariants as form
use Rattle.c_tree.specs.declared.expression.Place.{Place as PlaceTree}
use Rattle.c_tree.specs.declared.statement.AssignmentOperator.TheVariants.{Set, Compound}
use Rattle.c_tree.specs.declared.statement.SimpleStatement.{SimpleStatement}
use Rattle.c_tree.specs.declared.statement.BlockItem.TheVariants as block_item
use Rattle.c_tree.specs.declared.statement.Statement.TheVariants as st
use Rattle.c_tree.specs.Trees as tree
use Rattle.c_program.specs.declared.tree.Storage.TheVariants.{Automatic, Static}
use Rattle.c_program.specs.declared.tree.BinaryOperator.{BinaryOperator}
use Rattle.c_program.specs.declared.tree.BinaryOperator.TheVariants as operator
use Rattle.c_program.specs.Tree.{Expression, Place, ObjectPlace, ThreadCall, Statement}
use Rattle.c_program.specs.Types.{type_of, working_type}
use Rattle.c_rules.specs.declared.dimensions.Dimensions.{Dimensions}
use Rattle.c_rules.specs.declared.dimensions.Dimensions.TheVariants.{Scalar, One}
use Rattle.c_rules.specs.declared.specifiers.BasicType.{BasicType}
use Rattle.c_rules.specs.declared.specifiers.BasicType.TheVariants.{UnsignedInt, Long}
use Rattle.c_rules.specs.declared.findings.Findings.{Findings}
use Rattle.c_rules.specs.declared.library.LibraryFunction.TheVariants as library
use Rattle.c_rules.specs.declared.names.ObjectKind.TheVariants.{Mutex}
use Rattle.c_rules.specs.declared.names.Meaning.{Meaning}
use Rattle.c_rules.specs.declared.names.Known.{Known}
use Rattle.c_rules.specs.declared.names.Known.TheVariants as known
use Rattle.c_rules.specs.declared.names.Scope.{Scope}
use Rattle.c_rules.specs.Names.{look_up}
use Rattle.c_rules.specs.Walks.{Outcome, and_then, pure, place_in_tree, ◌>>=◌}
use Rattle.c_expressions.specs.Cuts.{Cut, free_from}
use Rattle.c_expressions.specs.Expressions.{operated, is_short_circuit}
use Rattle.c_expressions.specs.Targets.{target}
use Rattle.c_resolution.specs.Simple.{simple, compound, compound_by, compound_operator}
use Rattle.c_resolution.specs.States.{state, in_scope}
use Rattle.c_resolution.specs.Statements.{Adds, item, with_step}
use Rattle.generated_text.specs.declared.draws.Letter.{Letter}
use Rattle.generated_text.specs.Text.{byte_of}
use Rattle.generated_program.specs.Worker.{local_of}
use Rattle.generated_profile.proofs.Trees as tr
use Rattle.generated_profile.proofs.Layers.{IsValue, IsAddress, integer, object}
use Rattle.generated_profile.proofs.Layers.{variable_value, constant_value, between_value, target_alone, target_element, mutex_address}
use Rattle.generated_profile.proofs.Layers.{assigns, call_is, lock_is, unlock_is}
use Rattle.generated_profile.proofs.Layers.{statement_item, simple_statement}

abbrev pub automatic : ℕ → BasicType → Meaning
automatic n ty = integer Automatic n ty Scalar

abbrev pub read_of : Letter → Expression
read_of x = Expression.Variable Automatic (local_of x) unsigned_int

abbrev pub target_of : Letter → Place
target_of x = Place.Scalar Automatic (local_of x) unsigned_int

abbrev pub known_letter : Letter → Known
known_letter x = known.Declared (automatic (local_of x) UnsignedInt)

abbrev pub unsigned_of : BinaryOperator → Expression → Expression → Expression
unsigned_of op e f = Expression.Binary op unsigned_int e f

abbrev pub static : ℕ → Dimensions → Meaning
static n dimensions = integer Static n UnsignedInt dimensions

abbrev pub lock_place : Meaning
lock_place = object Mutex 0 None

abbrev pub id_value : Expression
id_value = Expression.Variable Automatic 1 long_int

-- the names mean what they mean in the worker
pub record Means (s : Scope) (size : ℕ) : Type 0 where
  pub letters : (x : Letter) → look_up s (byte_of x ∷ []) ≡ known_letter x
  pub id : look_up s (codes "id") ≡ known.Declared (automatic 1 Long)
  pub elements : look_up s (codes "g") ≡ known.Declared (static 1 (One size))
  pub total : look_up s (codes "s") ≡ known.Declared (static 0 Scalar)
  pub mutex : look_up s (codes "m") ≡ known.Declared lock_place
  pub lock : look_up s (codes "pthread_mutex_lock") ≡ known.Library library.MutexLock
  pub unlock : look_up s (codes "pthread_mutex_unlock") ≡ known.Library library.MutexUnlock

abbrev pub int_number : ℕ → Expression
int_number n = Expression.Constant int_type (pos n)

abbrev pub odd_of : Letter → Expression
odd_of z = unsigned_of operator.InclusiveOr (read_of z) (int_number 1)

abbrev pub set_to : ℕ → Letter → Expression → Statement
set_to o x v = Statement.Assign (place_in_tree o) (target_of x) v

module _ (s : Scope) (size : ℕ) (found : Findings) (means : Means s size) where
  pub letter_value : (x : Letter) (o : ℕ) → IsValue s (tr.variable (tr.lettered x o)) found (read_of x)
  letter_value x o = variable_value s (tr.lettered x o) Automatic (local_of x) UnsignedInt found (means.letters x)

  pub id_gives : (o : ℕ) → IsValue s (tr.variable (tr.named (codes "id") o)) found id_value
  id_gives o = variable_value s (tr.named (codes "id") o) Automatic 1 Long found means.id

  pub simple_item : (x : SimpleStatement) (v : Statement) (steps : List Statement) → simple s x found ≡ Outcome.Gives v found →
      item (block_item.Statement (st.Simple x)) steps (state s found) ≡ Outcome.Gives (steps ++ (v ∷ [])) (state s found)
  simple_item x v steps h =
      ap (λ (a : Adds). a steps (state s found)) (statement_item (st.Simple x) ∙ ap with_step (simple_statement x))
      ∙ ap (λ (r : Outcome Findings Statement). and_then (in_scope s r) (λ step. pure (steps ++ (step ∷ [])))) h

  pub set_letter : (x : Letter) (o : ℕ) (e : ExpressionTree) (v : Expression) → IsValue s e found v →
      simple s (tr.changed o (tr.alone (tr.lettered x o)) Set e) found ≡ Outcome.Gives (Statement.Assign (place_in_tree o) (target_of x) v) found
  set_letter x o e v h =
      assigns s found o (tr.alone (tr.lettered x o)) e (target_of x) v (target_alone s (tr.lettered x o) Automatic (local_of x) UnsignedInt found (means.letters x)) h

  -- x = y op z;
  operation_step : (op : TreeOperator) (r : BinaryOperator) (at : ℕ → ℕ) (x y z : Letter) (steps : List Statement) →
      is_short_circuit op ≡ false → operated op (read_of y) (read_of z) ≡ unsigned_of r (read_of y) (read_of z) →
      item (tr.operation_item op at x y z) steps (state s found)
      ≡ Outcome.Gives (steps ++ (set_to (at 0) x (unsigned_of r (read_of y) (read_of z)) ∷ [])) (state s found)
  operation_step op r at x y z steps plain h =
      let e : ExpressionTree = tr.variable (tr.lettered y (at 2)) in
      let f : ExpressionTree = tr.variable (tr.lettered z (at 4)) in
      let v : Expression = unsigned_of r (read_of y) (read_of z) in
      let both : IsValue s (tree.expression (at 2) (form.Binary e (tree.term (op, at 3) f ∷ []))) found v =
      between_value s (at 2) (at 3) op e f (read_of y) (read_of z) v found plain (letter_value y (at 2)) (letter_value z (at 4)) h in
      simple_item (tr.changed (at 0) (tr.alone (tr.lettered x (at 0))) Set (tree.expression (at 2) (form.Binary e (tree.term (op, at 3) f ∷ []))))
      (set_to (at 0) x v) steps
      (set_letter x (at 0) (tree.expression (at 2) (form.Binary e (tree.term (op, at 3) f ∷ []))) v both)

  pub sum_step : (at : ℕ → ℕ) (x y z : Letter) (steps : List Statement) → item (tr.operation_item b.Add at x y z) steps (state s found)
      ≡ Outcome.Gives (steps ++ (set_to (at 0) x (unsigned_of operator.Add (read_of y) (read_of z)) ∷ [])) (state s found)
  sum_step at x y z steps = operation_step b.Add operator.Add at x y z steps refl refl

  pub difference_step : (at : ℕ → ℕ) (x y z : Letter) (steps : List Statement) → item (tr.operation_item b.Subtract at x y z) steps (state s found)
      ≡ Outcome.Gives (steps ++ (set_to (at 0) x (unsigned_of operator.Subtract (read_of y) (read_of z)) ∷ [])) (state s found)
  difference_step at x y z steps = operation_step b.Subtract operator.Subtract at x y z steps refl refl

  pub product_step : (at : ℕ → ℕ) (x y z : Letter) (steps : List Statement) → item (tr.operation_item b.Multiply at x y z) steps (state s found)
      ≡ Outcome.Gives (steps ++ (set_to (at 0) x (unsigned_of operator.Multiply (read_of y) (read_of z)) ∷ [])) (state s found)
  product_step at x y z steps = operation_step b.Multiply operator.Multiply at x y z steps refl refl

  pub exclusive_or_step : (at : ℕ → ℕ) (x y z : Letter) (steps : List Statement) → item (tr.operation_item b.BitXor at x y z) steps (state s found)
      ≡ Outcome.Gives (steps ++ (set_to (at 0) x (unsigned_of operator.ExclusiveOr (read_of y) (read_of z)) ∷ [])) (state s found)
  exclusive_or_step at x y z steps = operation_step b.BitXor operator.ExclusiveOr at x y z steps refl refl

  -- x = y / (z | 1);
  pub quotient_step : (at : ℕ → ℕ) (x y z : Letter) (steps : List Statement) → item (tr.quotient_item at x y z) steps (state s found)
      ≡ Outcome.Gives (steps ++ (set_to (at 0) x (unsigned_of operator.Divide (read_of y) (odd_of z)) ∷ [])) (state s found)
  quotient_step at x y z steps =
      let one : ExpressionTree = tr.constant 1 (at 7) in
      let z_tree : ExpressionTree = tr.variable (tr.lettered z (at 5)) in
      let y_tree : ExpressionTree = tr.variable (tr.lettered y (at 2)) in
      let f : ExpressionTree = tree.expression (at 4) (form.Binary z_tree (tree.term (b.BitOr, at 6) one ∷ [])) in
      let v : Expression = unsigned_of operator.Divide (read_of y) (odd_of z) in
      let odd : IsValue s f found (odd_of z) =
      between_value s (at 4) (at 6) b.BitOr z_tree one (read_of z) (int_number 1) (odd_of z) found refl (letter_value z (at 5)) (constant_value s 1 (at 7) found) refl in
      let both : IsValue s (tree.expression (at 2) (form.Binary y_tree (tree.term (b.Divide, at 3) f ∷ []))) found v =
      between_value s (at 2) (at 3) b.Divide y_tree f (read_of y) (odd_of z) v found refl (letter_value y (at 2)) odd refl in
      simple_item (tr.changed (at 0) (tr.alone (tr.lettered x (at 0))) Set (tree.expression (at 2) (form.Binary y_tree (tree.term (b.Divide, at 3) f ∷ []))))
      (set_to (at 0) x v) steps
      (set_letter x (at 0) (tree.expression (at 2) (form.Binary y_tree (tree.term (b.Divide, at 3) f ∷ []))) v both)

  -- g[id] = x;
  pub publish_step : (at : ℕ → ℕ) (x : Letter) (steps : List Statement) → item (tr.publish_item at x) steps (state s found)
      ≡ Outcome.Gives (steps ++ (Statement.Assign (place_in_tree (at 0)) (Place.Element Static 1 size unsigned_int id_value) (read_of x) ∷ [])) (state s found)
  publish_step at x steps =
      let place : PlaceTree = tree.place (tr.named (codes "g") (at 0)) (tr.variable (tr.named (codes "id") (at 2)) ∷ []) in
      simple_item (tr.changed (at 0) place Set (tr.variable (tr.lettered x (at 5)))) _ steps
      (assigns s found (at 0) place (tr.variable (tr.lettered x (at 5))) (Place.Element Static 1 size unsigned_int id_value) (read_of x)
      (target_element s (tr.named (codes "g") (at 0)) (tr.variable (tr.named (codes "id") (at 2))) id_value Static 1 size UnsignedInt found means.elements (id_gives (at 2)))
      (letter_value x (at 5)))

  -- s += e;
  pub added_by : (o : ℕ) (e : ExpressionTree) (v : Expression) → IsValue s e found v → working_type operator.Add unsigned_int (type_of v) ≡ unsigned_int →
      simple s (tr.changed o (tr.alone (tr.named (codes "s") o)) (Compound b.Add) e) found
      ≡ Outcome.Gives (Statement.Update (place_in_tree o) (Place.Scalar Static 0 unsigned_int) operator.Add unsigned_int v) found
  unfolding simple compound compound_by
  added_by o e v h same =
      ap (λ (r : Outcome Findings (Cut Expression)). and_then r (λ right. (target s (tr.alone (tr.named (codes "s") o)) (place_in_tree o) right.cuts
      >>= (λ p. compound_by (compound_operator b.Add) o p right.rest)))) (h (place_in_tree o) (free_from s.kept_from))
      ∙ ap (λ (r : Outcome Findings (Cut Place)). and_then r (λ p. compound_by (compound_operator b.Add) o p v))
      (target_alone s (tr.named (codes "s") o) Static 0 UnsignedInt found means.total (place_in_tree o) (free_from s.kept_from))
      ∙ ap (λ ty. Outcome.Gives (Statement.Update (place_in_tree o) (Place.Scalar Static 0 unsigned_int) operator.Add ty v) found) same

  pub add_step : (at : ℕ → ℕ) (x : Letter) (steps : List Statement) → item (tr.add_item at x) steps (state s found)
      ≡ Outcome.Gives (steps ++ (Statement.Update (place_in_tree (at 6)) (Place.Scalar Static 0 unsigned_int) operator.Add unsigned_int (read_of x) ∷ [])) (state s found)
  add_step at x steps =
      simple_item (tr.changed (at 6) (tr.alone (tr.named (codes "s") (at 6))) (Compound b.Add) (tr.variable (tr.lettered x (at 8)))) _ steps
      (added_by (at 6) (tr.variable (tr.lettered x (at 8))) (read_of x) (letter_value x (at 8)) refl)

  -- ---- locks

  lock_address : (o at : ℕ) → IsAddress s Mutex (argument.Address (tr.alone (tr.named (codes "m") o)) at) found (ObjectPlace.Single 0)
  lock_address o at = mutex_address s (tr.named (codes "m") o) 0 at found means.mutex

  pub lock_by : (o p q : ℕ) → simple s (tr.called (tr.named (codes "pthread_mutex_lock") o) o (argument.Address (tr.alone (tr.named (codes "m") p)) q ∷ [])) found
      ≡ Outcome.Gives (Statement.Thread (place_in_tree o) (ThreadCall.MutexLock (ObjectPlace.Single 0))) found
  unfolding simple
  lock_by o p q =
      let a : ArgumentTree = argument.Address (tr.alone (tr.named (codes "m") p)) q in
      call_is s (place_in_tree o) (tr.named (codes "pthread_mutex_lock") o) (a ∷ []) (known.Library library.MutexLock) found means.lock
      ∙ lock_is s (place_in_tree o) o a (ObjectPlace.Single 0) found (lock_address p q)

  pub unlock_by : (o p q : ℕ) → simple s (tr.called (tr.named (codes "pthread_mutex_unlock") o) o (argument.Address (tr.alone (tr.named (codes "m") p)) q ∷ [])) found
      ≡ Outcome.Gives (Statement.Thread (place_in_tree o) (ThreadCall.MutexUnlock (ObjectPlace.Single 0))) found
  unfolding simple
  unlock_by o p q =
      let a : ArgumentTree = argument.Address (tr.alone (tr.named (codes "m") p)) q in
      call_is s (place_in_tree o) (tr.named (codes "pthread_mutex_unlock") o) (a ∷ []) (known.Library library.MutexUnlock) found means.unlock
      ∙ unlock_is s (place_in_tree o) o a (ObjectPlace.Single 0) found (lock_address p q)

  pub lock_step : (at : ℕ → ℕ) (steps : List Statement) → item (tr.lock_item at) steps (state s found)
      ≡ Outcome.Gives (steps ++ (Statement.Thread (place_in_tree (at 0)) (ThreadCall.MutexLock (ObjectPlace.Single 0)) ∷ [])) (state s found)
  lock_step at steps =
      simple_item (tr.called (tr.named (codes "pthread_mutex_lock") (at 0)) (at 0) (argument.Address (tr.alone (tr.named (codes "m") (at 3))) (at 2) ∷ [])) _ steps
      (lock_by (at 0) (at 3) (at 2))

  pub unlock_step : (at : ℕ → ℕ) (steps : List Statement) → item (tr.unlock_item at) steps (state s found)
      ≡ Outcome.Gives (steps ++ (Statement.Thread (place_in_tree (at 10)) (ThreadCall.MutexUnlock (ObjectPlace.Single 0)) ∷ [])) (state s found)
  unlock_step at steps =
      simple_item (tr.called (tr.named (codes "pthread_mutex_unlock") (at 10)) (at 10) (argument.Address (tr.alone (tr.named (codes "m") (at 13))) (at 12) ∷ [])) _ steps
      (unlock_by (at 10) (at 13) (at 12))
