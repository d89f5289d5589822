-- What the calls in main's loops stand for, and its last statements.
use Rattle.std.proofs.Common.{◌≡◌, ℕ, [], ◌∷◌, Option, Some, None, true, refl, ap, ◌∙◌}
use Rattle.std.specs.Prelude.{codes, cond, nat_eq, not, ◌&&◌, length, slice_get}
use Rattle.hls_ints.specs.Types.{long_int}
use Rattle.c_tree.specs.declared.expression.Name.{Name}
use Rattle.c_tree.specs.declared.expression.Argument.{Argument as ArgumentTree}
use Rattle.c_tree.specs.declared.expression.Argument.TheVariants as argument
use Rattle.c_tree.specs.declared.expression.Call.{Call as CallTree}
use Rattle.c_tree.specs.declared.expression.Choice.{Choice as ChoiceTree}
use Rattle.c_tree.specs.declared.expression.Pointer.{Pointer as PointerTree, out-roll-Pointer}
use Rattle.c_tree.specs.declared.expression.Place.{Place as PlaceTree}
use Rattle.c_tree.specs.declared.expression.Expression.{Expression as ExpressionTree}
use Rattle.c_tree.specs.declared.expression.Form.{Form}
use Rattle.c_tree.specs.declared.expression.Form.TheVariants as form
use Rattle.c_tree.specs.declared.expression.Term.{Term}
use Rattle.c_tree.specs.declared.expression.TypeWord.TheVariants as w
use Rattle.c_tree.specs.declared.expression.Argument.TheOpen.{Pointer-F, Place-F}
use Rattle.c_tree.specs.declared.statement.SimpleStatement.{SimpleStatement}
use Rattle.c_tree.specs.Trees as tree
use Rattle.c_program.specs.Tree.{Expression, ObjectPlace, ThreadCall, Statement}
use Rattle.c_rules.specs.declared.findings.Findings.{Findings}
use Rattle.c_rules.specs.declared.library.LibraryFunction.TheVariants as library
use Rattle.c_rules.specs.declared.names.ObjectKind.TheVariants.{Thread}
use Rattle.c_rules.specs.declared.names.Header.{Header}
use Rattle.c_rules.specs.declared.names.Known.{Known}
use Rattle.c_rules.specs.declared.names.Known.TheVariants as known
use Rattle.c_rules.specs.declared.names.Scope.{Scope}
use Rattle.c_rules.specs.Findings as findings
use Rattle.c_rules.specs.Names.{look_up}
use Rattle.c_rules.specs.Specifiers.{base_of}
use Rattle.c_rules.specs.Walks.{Outcome, and_then, pure, place_in_tree, ◌>>=◌, ◌>>◌}
use Rattle.c_expressions.specs.Cuts.{Cuts, Cut, cut, free_from}
use Rattle.c_expressions.specs.Expressions.{Meant, cast, converted, place_value, element_number, no_number}
use Rattle.c_expressions.specs.Callees.{is_unknown, library_name, library_place}
use Rattle.c_calls.specs.Arguments.{ArgumentLayer, FormLayer, null_argument, routine}
use Rattle.c_calls.specs.Arguments.{routine_argument, routine_at, routine_from}
use Rattle.c_calls.specs.Arguments.{header_of, place_in_layer, place_in_form, pointer_argument, pointer_in, pointer_value, operand_value}
use Rattle.c_calls.specs.Arguments.{thread_argument, thread_from}
use Rattle.c_calls.specs.Calls.{thread_call, call_of, library_call, library_statement, create, create_call, created, join, join_call}
use Rattle.c_resolution.specs.Simple.{simple}
use Rattle.generated_profile.proofs.Trees as tr
use Rattle.generated_profile.proofs.Layers as node
use Rattle.generated_profile.proofs.Scopes.{worker_header}
use Rattle.generated_profile.proofs.Main.{MainMeans, counter, counter_gives, null_is}

abbrev PointerLayer : Type 0
PointerLayer = Pointer-F ArgumentTree Form CallTree ChoiceTree ExpressionTree PlaceTree PointerTree Term

abbrev PlaceLayer : Type 0
PlaceLayer = Place-F ArgumentTree Form CallTree ChoiceTree ExpressionTree PlaceTree PointerTree Term

-- t[i]
abbrev element_tree : ℕ → ℕ → ExpressionTree
element_tree o p = tree.expression o (form.Place (tree.place (tr.named (codes "t") o) (tr.variable (tr.named (codes "i") p) ∷ [])))

abbrev pub create_tree : (ℕ → ℕ) → SimpleStatement
create_tree at =
    tr.called (tr.named (codes "pthread_create") (at 31)) (at 31)
    (argument.Address (tree.place (tr.named (codes "t") (at 34)) (tr.variable (tr.named (codes "i") (at 36)) ∷ [])) (at 33)
    ∷ argument.Pointer (tree.null (at 39)) ∷ argument.Value (tr.variable (tr.named (codes "worker") (at 41)))
    ∷ argument.Pointer (tree.pointer (at 43) (tree.expression (at 47) (form.Cast (tr.words (w.Long ∷ []) (at 48)) (tr.variable (tr.named (codes "i") (at 50)))))) ∷ [])

abbrev pub join_tree : (ℕ → ℕ) → SimpleStatement
join_tree at =
    tr.called (tr.named (codes "pthread_join") (at 68)) (at 68) (argument.Value (element_tree (at 70) (at 72)) ∷ argument.Pointer (tree.null (at 75)) ∷ [])

module _ (s : Scope) (size : ℕ) (found : Findings) (means : MainMeans s size) where
  -- ---- t[i]

  abbrev thread_place : ObjectPlace
  thread_place = ObjectPlace.Element 0 size counter

  thread_address : (o p at : ℕ) →
      node.IsAddress s Thread (argument.Address (tree.place (tr.named (codes "t") o) (tr.variable (tr.named (codes "i") p) ∷ [])) at) found thread_place
  thread_address o p at =
      node.thread_address s (tr.named (codes "t") o) (tr.variable (tr.named (codes "i") p)) counter 0 size at found means.threads_are (counter_gives s size found means p)

  -- ---- worker

  routine_is : (header : slice_get s.headers 0 ≡ Some worker_header) (o : ℕ) →
      routine_argument s (argument.Value (tr.variable (tr.named (codes "worker") o))) found ≡ Outcome.Gives (Some (0, o)) found
  unfolding routine_argument routine
  routine_is header o =
      let x : Name = tr.named (codes "worker") o in
      let a : ArgumentTree = argument.Value (tr.variable x) in
      ap (λ (l : ArgumentLayer). routine_at s a (place_in_layer l) found) (argument.outs-Value (tr.variable x))
      ∙ ap (λ (l : FormLayer). routine_at s a (place_in_form o l) found) (form.outs-Place (tree.place x []))
      ∙ ap (λ (q : PlaceLayer). routine_from s a (cond (nat_eq (length q.indices) 0) (header_of s (look_up s q.name.bytes)) None)
      (not (nat_eq (length q.indices) 0 && is_unknown (look_up s q.name.bytes))) q.name.offset o found) (node.layer_of_place s x [])
      ∙ ap (λ (k : Known). routine_from s a (header_of s k) (not (is_unknown k)) o o found) means.worker
      ∙ ap (λ (h : Option Header). routine_from s a h true o o found) header

  -- ---- (void *)(long)i

  cast_is : (o p q : ℕ) → node.IsValue s (tree.expression o (form.Cast (tr.words (w.Long ∷ []) p) (tr.variable (tr.named (codes "i") q)))) found
      (Expression.Cast long_int counter)
  unfolding cast converted base_of place_value element_number no_number
  cast_is o p q at cuts =
      node.cast_value s o (tr.words (w.Long ∷ []) p) (tr.variable (tr.named (codes "i") q)) found at cuts
      ∙ ap (λ (m : Meant). cast s (tr.words (w.Long ∷ []) p) m at cuts found) (node.variable_meant s (tr.named (codes "i") q))
      ∙ rw means.i refl

  pointer_is : (p : ℕ) (e : ExpressionTree) (v : Expression) → node.IsValue s e found v → (at : ℕ) (cuts : Cuts) →
      pointer_argument s (argument.Pointer (tree.pointer p e)) at cuts found ≡ Outcome.Gives (cut cuts v) found
  unfolding pointer_argument pointer_value
  pointer_is p e v h at cuts =
      ap (λ (l : ArgumentLayer). pointer_in s (argument.Pointer (tree.pointer p e)) l at cuts found) (argument.outs-Pointer (tree.pointer p e))
      ∙ ap (λ (q : PointerLayer). operand_value s q.operand at cuts found) (out-roll-Pointer (record { operand = Some e; offset = p }))
      ∙ h at cuts

  -- pthread_create(&t[i], NULL, worker, (void *)(long)i);
  pub create_is : (header : slice_get s.headers 0 ≡ Some worker_header) (at : ℕ → ℕ) →
      simple s (create_tree at) found ≡ Outcome.Gives (Statement.Thread (place_in_tree (at 31)) (ThreadCall.Create thread_place 0 (Expression.Cast long_int counter)))
      (findings.created 0 0 (at 41) found)
  unfolding simple call_of library_call library_name library_place library_statement create_call create created
  create_is header at =
      let a : ArgumentTree = argument.Address (tree.place (tr.named (codes "t") (at 34)) (tr.variable (tr.named (codes "i") (at 36)) ∷ [])) (at 33) in
      let n : ArgumentTree = argument.Pointer (tree.null (at 39)) in
      let r : ArgumentTree = argument.Value (tr.variable (tr.named (codes "worker") (at 41))) in
      let e : ExpressionTree = tree.expression (at 47) (form.Cast (tr.words (w.Long ∷ []) (at 48)) (tr.variable (tr.named (codes "i") (at 50)))) in
      let x : ArgumentTree = argument.Pointer (tree.pointer (at 43) e) in
      let o : ℕ = place_in_tree (at 31) in
      let no_cuts : Cuts = free_from s.kept_from in
      node.call_is s o (tr.named (codes "pthread_create") (at 31)) (a ∷ n ∷ r ∷ x ∷ []) (known.Library library.Create) found means.create
      ∙ ap (λ (z : Outcome Findings (Cut ObjectPlace)). and_then z
      (λ t. (null_argument s n >> (routine_argument s r >>= (λ f. (pointer_argument s x o t.cuts >>= (λ v. created o t.rest v f)))))))
      (thread_address (at 34) (at 36) (at 33) o no_cuts)
      ∙ ap (λ (z : Outcome Findings (Unit {0})). and_then z
      (λ u. (routine_argument s r >>= (λ f. (pointer_argument s x o no_cuts >>= (λ v. created o thread_place v f)))))) (null_is s size found means (at 39))
      ∙ ap (λ (z : Outcome Findings (Option (ℕ × ℕ))). and_then z (λ f. (pointer_argument s x o no_cuts >>= (λ v. created o thread_place v f)))) (routine_is header (at 41))
      ∙ ap (λ (z : Outcome Findings (Cut Expression)). and_then z (λ v. created o thread_place v (Some (0, at 41))))
      (pointer_is (at 43) e (Expression.Cast long_int counter) (cast_is (at 47) (at 48) (at 50)) o no_cuts)

  -- ---- pthread_join(t[i], NULL);

  thread_is : (o p at : ℕ) (cuts : Cuts) → thread_argument s (argument.Value (element_tree o p)) at cuts found ≡ Outcome.Gives (cut cuts thread_place) found
  unfolding thread_argument
  thread_is o p at cuts =
      let x : Name = tr.named (codes "t") o in
      let i : ExpressionTree = tr.variable (tr.named (codes "i") p) in
      let a : ArgumentTree = argument.Value (element_tree o p) in
      ap (λ (l : ArgumentLayer). thread_from s a (place_in_layer l) at cuts found) (argument.outs-Value (element_tree o p))
      ∙ ap (λ (l : FormLayer). thread_from s a (place_in_form o l) at cuts found) (form.outs-Place (tree.place x (i ∷ [])))
      ∙ node.thread_element s x i counter 0 size o found means.threads_are (counter_gives s size found means p) at cuts

  pub join_is : (at : ℕ → ℕ) → simple s (join_tree at) found ≡ Outcome.Gives (Statement.Thread (place_in_tree (at 68)) (ThreadCall.Join thread_place)) found
  unfolding simple call_of library_call library_name library_place library_statement join_call join
  join_is at =
      let a : ArgumentTree = argument.Value (element_tree (at 70) (at 72)) in
      let n : ArgumentTree = argument.Pointer (tree.null (at 75)) in
      let o : ℕ = place_in_tree (at 68) in
      let no_cuts : Cuts = free_from s.kept_from in
      node.call_is s o (tr.named (codes "pthread_join") (at 68)) (a ∷ n ∷ []) (known.Library library.Join) found means.join
      ∙ ap (λ (z : Outcome Findings (Cut ObjectPlace)). and_then z (λ t. (null_argument s n >> pure (thread_call o t.cuts (ThreadCall.Join t.rest)))))
      (thread_is (at 70) (at 72) o no_cuts)
      ∙ ap (λ (z : Outcome Findings (Unit {0})). and_then z (λ u. pure (Statement.Thread o (ThreadCall.Join thread_place)))) (null_is s size found means (at 75))
