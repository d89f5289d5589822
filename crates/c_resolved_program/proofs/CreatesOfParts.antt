-- The creates that a part finds are those of the statements that it stands for.
use Rattle.std.proofs.Common.{sym, ap, subst, inl, inr, ℕ, Bool, true, false, List, [], ◌∷◌, ◌++◌, map, length, Option, Some, None, arith}
use Rattle.std.specs.Prelude.{◌⊎◌, not, nat_eq, is_none, option_map, Contains}
use Rattle.std.specs.List.{AllByRecursion}
use Rattle.std.proofs.lemmas.List.Elements.{Contains-append_left, Contains-append_right, Contains-append_cases}
use Rattle.lists.proofs.Places.{in_one}
use Rattle.c_tree.specs.declared.expression.Argument.{Argument, out-Argument}
use Rattle.c_tree.specs.declared.expression.Argument.TheOpen.{Argument-F}
use Rattle.c_tree.specs.declared.expression.Expression.{Expression as ExpressionTree}
use Rattle.c_tree.specs.declared.expression.Place.{Place as PlaceTree, out-Place}
use Rattle.c_tree.specs.declared.expression.Pointer.{Pointer as PointerTree, out-Pointer}
use Rattle.c_tree.specs.declared.expression.Call.{Call as CallTree, out-Call}
use Rattle.c_program.specs.Tree.{Expression, ObjectPlace, ThreadCall, Statement}
use Rattle.c_program.specs.Resolved.{creates_of, object_of}
use Rattle.c_rules.specs.declared.fault.Rule.TheVariants as rule
use Rattle.c_rules.specs.declared.findings.Findings.{Findings}
use Rattle.c_rules.specs.declared.findings.Creation.{Creation}
use Rattle.c_rules.specs.declared.library.LibraryFunction.{LibraryFunction}
use Rattle.c_rules.specs.declared.library.LibraryFunction.TheVariants as library
use Rattle.c_rules.specs.declared.names.ObjectKind.{ObjectKind}
use Rattle.c_rules.specs.declared.names.ObjectKind.TheVariants.{Thread, Mutex, Barrier}
use Rattle.c_rules.specs.declared.names.Object.{Object}
use Rattle.c_rules.specs.declared.names.Header.{Header}
use Rattle.c_rules.specs.declared.names.Meaning.TheVariants as meaning
use Rattle.c_rules.specs.declared.names.Known.{Known}
use Rattle.c_rules.specs.declared.names.Known.TheVariants as known
use Rattle.c_rules.specs.declared.names.Scope.{Scope}
use Rattle.c_rules.specs.Names.{look_up, is_start_routine}
use Rattle.c_rules.specs.Walks.{Outcome, Finds, pure, finds, finds_if, finds_any, ◌>>=◌, ◌>>◌}
use Rattle.c_expressions.specs.Callees.{function_name, library_name, no_function, is_unknown, is_usable}
use Rattle.c_expressions.specs.Cuts.{Cuts, Cut, cut, free_from}
use Rattle.c_expressions.specs.Lists.{one, two, three, four}
use Rattle.c_expressions.specs.Sequences.{behind_cuts}
use Rattle.c_rules.specs.Dimensions.{count}
use Rattle.c_expressions.specs.Expressions.{argument_offset, looked_argument, argument, arguments, all_passed, place_number, dimensions_of, variable_of}
use Rattle.c_calls.specs.Arguments as a
use Rattle.c_expressions.specs.Targets as t
use Rattle.c_calls.specs.Calls as c
use Rattle.c_resolved_program.specs.Orders.{left, given}
use Rattle.c_resolved_program.proofs.Walks.{turn}
use Rattle.c_resolved_program.proofs.Neighbours as n
use Rattle.c_resolved_program.proofs.Quiet as q
use Rattle.c_resolved_program.proofs.Quiet.{IsQuiet, quiet_then, quiet_pure, quiet_finds, quiet_if, quiet_any}

-- ---- arguments and targets find no create

module _ (s : Scope) where
  quiet_refused : (x : Argument) → IsQuiet (a.refused s x)
  unfolding a.refused
  quiet_refused x =
      quiet_then (finds rule.Kind (argument_offset x)) (λ _. looked_argument s x) (quiet_finds rule.Kind (argument_offset x)) (λ _. (q.quiet_argument s x).looked)

  refused_then : {A : Type 0} (x : Argument) (w : A) → IsQuiet (a.refused s x >> pure w)
  refused_then x w = quiet_then (a.refused s x) (λ _. pure w) (quiet_refused x) (λ _. quiet_pure w)

  value_in : (x : Argument) (l : a.ArgumentLayer) (at : ℕ) (cuts : Cuts) → IsQuiet (a.value_in s x l at cuts)
  unfolding a.refused_value
  value_in x (Argument-F.Value e) at cuts = q.quiet_value s e at cuts
  value_in x (Argument-F.Text bytes offset) at cuts = refused_then x (cut cuts a.null)
  value_in x (Argument-F.Address p offset) at cuts = refused_then x (cut cuts a.null)
  value_in x (Argument-F.Pointer p) at cuts = refused_then x (cut cuts a.null)

  quiet_value_argument : (x : Argument) (at : ℕ) (cuts : Cuts) → IsQuiet (a.value_argument s x at cuts)
  unfolding a.value_argument
  quiet_value_argument x at cuts = value_in x (out-Argument x) at cuts

  each_passed : (list : List Argument) → AllByRecursion q.QuietPassed (map (argument s) list)
  each_passed [] = tt
  each_passed (x ∷ list) = (q.quiet_argument s x, each_passed list)

  quiet_all_passed : (list : List Argument) (at : ℕ) (cuts : Cuts) → IsQuiet (all_passed s list at cuts)
  quiet_all_passed list at cuts = q.quiet_all_values (map (argument s) list) at cuts (each_passed list)

  quiet_null_argument : (x : Argument) → IsQuiet (a.null_argument s x)
  unfolding a.null_argument
  quiet_null_argument x = q.quiet_either (a.is_null x) (pure tt) (a.refused s x) (quiet_pure tt) (quiet_refused x)

  operand_value : (o : Option ExpressionTree) (at : ℕ) (cuts : Cuts) → IsQuiet (a.operand_value s o at cuts)
  operand_value None at cuts = quiet_pure (cut cuts a.null)
  operand_value (Some e) at cuts = q.quiet_value s e at cuts

  pub quiet_pointer_value : (p : PointerTree) (at : ℕ) (cuts : Cuts) → IsQuiet (a.pointer_value s p at cuts)
  unfolding a.pointer_value
  quiet_pointer_value p at cuts = operand_value (out-Pointer p).operand at cuts

  pointer_in : (x : Argument) (l : a.ArgumentLayer) (at : ℕ) (cuts : Cuts) → IsQuiet (a.pointer_in s x l at cuts)
  unfolding a.refused_value
  pointer_in x (Argument-F.Pointer p) at cuts = quiet_pointer_value p at cuts
  pointer_in x (Argument-F.Text bytes offset) at cuts = refused_then x (cut cuts a.null)
  pointer_in x (Argument-F.Address p offset) at cuts = refused_then x (cut cuts a.null)
  pointer_in x (Argument-F.Value e) at cuts = refused_then x (cut cuts a.null)

  quiet_pointer_argument : (x : Argument) (at : ℕ) (cuts : Cuts) → IsQuiet (a.pointer_argument s x at cuts)
  unfolding a.pointer_argument
  quiet_pointer_argument x at cuts = pointer_in x (out-Argument x) at cuts

  object_at : (at : ℕ) (o : Object) (indices : ℕ) (i : Option Expression) → IsQuiet (a.object_at at o indices i)
  unfolding a.object_at
  object_at at o indices i =
      let differs = not (nat_eq (count (a.length_dimensions o.length)) indices) in
      quiet_then (finds_if differs rule.Kind at) (λ _. pure (a.placed o o.length i)) (quiet_if differs rule.Kind at) (λ _. quiet_pure (a.placed o o.length i))

  misused_object : (k : Known) (name_at at : ℕ) → IsQuiet (a.misused_object k name_at at)
  unfolding a.misused_object
  misused_object k name_at at =
      quiet_then (finds_if (is_unknown k) rule.Unknown name_at) (λ _. finds_if (is_usable k) rule.Kind at >> pure a.no_object) (quiet_if (is_unknown k) rule.Unknown name_at)
      (λ _. quiet_then (finds_if (is_usable k) rule.Kind at) (λ _. pure a.no_object) (quiet_if (is_usable k) rule.Kind at) (λ _. quiet_pure a.no_object))

  object_from : (o : Option Object) (k : Known) (name_at at indices : ℕ) (i : Option Expression) → IsQuiet (a.object_from o k name_at at indices i)
  object_from (Some o) k name_at at indices i = object_at name_at o indices i
  object_from None k name_at at indices i = misused_object k name_at at

  object_place : (kind : ObjectKind) (p : PlaceTree) (offset at : ℕ) (cuts : Cuts) → IsQuiet (a.object_place s kind p offset at cuts)
  unfolding a.object_place a.object_named
  object_place kind p offset at cuts =
      let name = (out-Place p).name in
      let k = look_up s name.bytes in
      let o = a.object_of kind k in
      let named = λ (x : Cut (Option Expression)). a.object_from o k name.offset offset (length (out-Place p).indices) x.rest in
      quiet_then (place_number s (a.object_dimensions o) p at cuts) (λ x. named x >>= (λ place. pure (cut x.cuts place))) (q.quiet_number s (a.object_dimensions o) p at cuts)
      (λ x. quiet_then (named x) (λ place. pure (cut x.cuts place)) (object_from o k name.offset offset (length (out-Place p).indices) x.rest) (λ place. quiet_pure (cut x.cuts place)))

  address_in : (kind : ObjectKind) (x : Argument) (l : a.ArgumentLayer) (at : ℕ) (cuts : Cuts) → IsQuiet (a.address_in s kind x l at cuts)
  unfolding a.refused_object
  address_in kind x (Argument-F.Address p offset) at cuts = object_place kind p offset at cuts
  address_in kind x (Argument-F.Text bytes offset) at cuts = refused_then x (cut cuts a.no_object)
  address_in kind x (Argument-F.Value e) at cuts = refused_then x (cut cuts a.no_object)
  address_in kind x (Argument-F.Pointer p) at cuts = refused_then x (cut cuts a.no_object)

  quiet_address : (kind : ObjectKind) (x : Argument) (at : ℕ) (cuts : Cuts) → IsQuiet (a.address_argument s kind x at cuts)
  unfolding a.address_argument
  quiet_address kind x at cuts = address_in kind x (out-Argument x) at cuts

  thread_from : (x : Argument) (p : Option (PlaceTree × ℕ)) (at : ℕ) (cuts : Cuts) → IsQuiet (a.thread_from s x p at cuts)
  unfolding a.refused_object
  thread_from x (Some p) at cuts = object_place Thread p.0 p.1 at cuts
  thread_from x None at cuts = refused_then x (cut cuts a.no_object)

  quiet_thread : (x : Argument) (at : ℕ) (cuts : Cuts) → IsQuiet (a.thread_argument s x at cuts)
  unfolding a.thread_argument
  quiet_thread x at cuts = thread_from x (a.place_in_argument x) at cuts

  routine : (h : Header) (name_at at : ℕ) → IsQuiet (a.routine h name_at at)
  unfolding a.routine
  routine h name_at at =
      let r = option_map (λ number. (number, name_at)) h.definition in
      quiet_then (finds_if (not (is_start_routine h)) rule.Kind at) (λ _. finds_if (is_none h.definition) rule.Unknown name_at >> pure r)
      (quiet_if (not (is_start_routine h)) rule.Kind at)
      (λ _. quiet_then (finds_if (is_none h.definition) rule.Unknown name_at) (λ _. pure r) (quiet_if (is_none h.definition) rule.Unknown name_at) (λ _. quiet_pure r))

  refused_routine : (is_other : Bool) (x : Argument) → IsQuiet (a.refused_routine s is_other x)
  unfolding a.refused_routine
  refused_routine is_other x =
      quiet_then (finds_if is_other rule.Kind (argument_offset x)) (λ _. looked_argument s x >> pure None) (quiet_if is_other rule.Kind (argument_offset x))
      (λ _. quiet_then (looked_argument s x) (λ _. pure None) (q.quiet_argument s x).looked (λ _. quiet_pure None))

  routine_from : (x : Argument) (h : Option Header) (is_other : Bool) (name_at at : ℕ) → IsQuiet (a.routine_from s x h is_other name_at at)
  routine_from x (Some h) is_other name_at at = routine h name_at at
  routine_from x None is_other name_at at = refused_routine is_other x

  routine_at : (x : Argument) (p : Option (PlaceTree × ℕ)) → IsQuiet (a.routine_at s x p)
  routine_at x (Some p) = routine_from x (a.header_at s p.0) (not (a.is_unnamed s p.0)) (out-Place p.0).name.offset p.1
  routine_at x None = refused_routine true x

  quiet_routine : (x : Argument) → IsQuiet (a.routine_argument s x)
  unfolding a.routine_argument
  quiet_routine x = routine_at x (a.place_in_argument x)

  pub quiet_target : (p : PlaceTree) (at : ℕ) (cuts : Cuts) → IsQuiet (t.target s p at cuts)
  unfolding t.target
  quiet_target p at cuts =
      let k = look_up s (out-Place p).name.bytes in
      let v = variable_of k in
      let fault = t.target_fault k (length (out-Place p).indices) in
      let offset = (out-Place p).name.offset in
      let made = λ (x : Cut (Option Expression)). cut x.cuts (t.named_place v x.rest) in
      quiet_then (place_number s (dimensions_of v) p at cuts) (λ x. finds_any fault offset >> pure (made x)) (q.quiet_number s (dimensions_of v) p at cuts)
      (λ x. quiet_then (finds_any fault offset) (λ _. pure (made x)) (quiet_any fault offset) (λ _. quiet_pure (made x)))

-- ---- parts that find creates

-- a create is one of a statement
abbrev pub IsOf : Statement → Creation → Type 0
IsOf x k = Contains (creates_of x) (k.thread, k.routine)

-- each create that is found behind is found before or made; what is said of an earlier one is kept
pub record Makes {A : Type 0} (Earlier : Creation → Type 0) (Made : A → Creation → Type 0) (w : Finds A) : Type 0 where
  pub new : (found : Findings) (k : Creation) → Contains (left (w found)).creations k → Contains found.creations k ⊎ Made (given (w found)) k
  pub kept : (found : Findings) (k : Creation) → Earlier k → Made (given (w found)) k

-- a statement's creates are all that are found
abbrev pub MakesIt : Finds Statement → Type 0
MakesIt w = Makes (λ _. ⊥) IsOf w

pub makes_quiet : {A B : Type 0} {Earlier : Creation → Type 0} {Made : B → Creation → Type 0} (p : Finds A) (r : A → Finds B) → IsQuiet p → ((a : A) → Makes Earlier Made (r a)) →
    Makes Earlier Made (p >>= r)
makes_quiet {A} {B} {Earlier} {Made} p r hp hr = record {
  new = λ found k inside.
      let later = (hr (given (p found))).new (left (p found)) k (subst (λ (o : Outcome Findings B). Contains (left o).creations k) (turn (p found) r) inside) in
      subst (λ (o : Outcome Findings B). Contains found.creations k ⊎ Made (given o) k) (sym (turn (p found) r))
      (subst (λ l. Contains l k ⊎ Made (given (r (given (p found)) (left (p found)))) k) (hp.same found) later);
  kept = λ found k earlier.
      subst (λ (o : Outcome Findings B). Made (given o) k) (sym (turn (p found) r)) ((hr (given (p found))).kept (left (p found)) k earlier);
}

pub makes_pure : (x : Statement) → MakesIt (pure x)
makes_pure x = record { new = λ found k inside. inl inside; kept = λ found k no_k. absurd no_k }

makes_nothing : {A : Type 0} (p : Finds A) (make : A → Statement) → IsQuiet p → MakesIt (p >>= (λ x. pure (make x)))
makes_nothing p make h = makes_quiet p (λ x. pure (make x)) h (λ x. makes_pure (make x))

-- a create of a statement is one of the statement behind cuts
sequence_of : (x z : Statement) (k : Creation) → IsOf x k ⊎ IsOf z k → IsOf (Statement.Sequence x z) k
sequence_of x z k (inl of) = Contains-append_left (creates_of x) (creates_of z) (k.thread, k.routine) of
sequence_of x z k (inr of) = Contains-append_right (creates_of x) (creates_of z) (k.thread, k.routine) of

last_of : (list : List Statement) (x : Statement) (k : Creation) → IsOf x k → n.IsOfAny (λ y. IsOf y k) (list ++ x ∷ [])
last_of [] x k of = inl of
last_of (z ∷ list) x k of = inr (last_of list x k of)

pub behind_of : (before : List Statement) (last : Statement) (k : Creation) → IsOf last k → IsOf (behind_cuts before last) k
behind_of [] last k of = of
behind_of (x ∷ more) last k of = n.sequence_keeps (λ y. IsOf y k) (λ y z either. sequence_of y z k either) (x ∷ more ++ last ∷ []) (last_of (x ∷ more) last k of)

-- ---- calls

created_makes : (at : ℕ) (thread : ObjectPlace) (v : Cut Expression) (routine : Option (ℕ × ℕ)) → MakesIt (c.created at thread v routine)
unfolding c.created
created_makes at thread v None = makes_pure Statement.Empty
created_makes at thread v (Some r) =
    let site : Creation = record { thread = object_of thread; routine = r.0; offset = r.1 } in
    record {
      new = λ found k inside.
          elim (Contains-append_cases found.creations (site ∷ []) k inside) [
            | inl before ↦ inl before
            | inr made ↦
                let is = in_one site k made in
                inr (behind_of v.cuts.before (Statement.Thread at (ThreadCall.Create thread r.0 v.rest)) k (0, omega arith, ap (λ (y : Creation). (y.thread, y.routine)) is))
          ];
      kept = λ found k no_k. absurd no_k;
    }

module _ (s : Scope) where
  each_looked : (list : List Argument) → AllByRecursion (λ x. IsQuiet (looked_argument s x)) list
  each_looked [] = tt
  each_looked (x ∷ list) = ((q.quiet_argument s x).looked, each_looked list)

  quiet_arguments : (list : List Argument) → IsQuiet (arguments s list)
  quiet_arguments list = q.quiet_visited (looked_argument s) list (each_looked list)

  looked_call : (list : List Argument) → MakesIt (c.looked_call s list)
  unfolding c.looked_call
  looked_call list = makes_nothing (arguments s list) (λ _. Statement.Empty) (quiet_arguments list)

  create : (at : ℕ) (thread attributes routine x : Argument) → MakesIt (c.create s at thread attributes routine x)
  unfolding c.create
  create at thread attributes routine x =
      let pointed = λ (o : Cut ObjectPlace) (r : Option (ℕ × ℕ)). a.pointer_argument s x at o.cuts >>= (λ v. c.created at o.rest v r) in
      let routed = λ (o : Cut ObjectPlace). a.routine_argument s routine >>= pointed o in
      makes_quiet (a.address_argument s Thread thread at (free_from s.kept_from)) (λ o. a.null_argument s attributes >> routed o) (quiet_address s Thread thread at (free_from s.kept_from))
      (λ o. makes_quiet (a.null_argument s attributes) (λ _. routed o) (quiet_null_argument s attributes)
      (λ _. makes_quiet (a.routine_argument s routine) (pointed o) (quiet_routine s routine)
      (λ r. makes_quiet (a.pointer_argument s x at o.cuts) (λ v. c.created at o.rest v r) (quiet_pointer_argument s x at o.cuts) (λ v. created_makes at o.rest v r))))

  create_of : (at : ℕ) (list whole : List Argument) → MakesIt (c.create_of s at whole (four list))
  create_of at [] whole = looked_call whole
  create_of at (x ∷ []) whole = looked_call whole
  create_of at (x ∷ y ∷ []) whole = looked_call whole
  create_of at (x ∷ y ∷ z ∷ []) whole = looked_call whole
  create_of at (x ∷ y ∷ z ∷ w ∷ []) whole = create at x y z w
  create_of at (x ∷ y ∷ z ∷ w ∷ v ∷ more) whole = looked_call whole

  join_of : (at : ℕ) (list whole : List Argument) → MakesIt (c.join_of s at whole (two list))
  unfolding c.join
  join_of at [] whole = looked_call whole
  join_of at (x ∷ []) whole = looked_call whole
  join_of at (x ∷ y ∷ []) whole =
      let made = λ (o : Cut ObjectPlace). c.thread_call at o.cuts (ThreadCall.Join o.rest) in
      makes_quiet (a.thread_argument s x at (free_from s.kept_from)) (λ o. a.null_argument s y >> pure (made o)) (quiet_thread s x at (free_from s.kept_from))
      (λ o. makes_nothing (a.null_argument s y) (λ _. made o) (quiet_null_argument s y))
  join_of at (x ∷ y ∷ z ∷ more) whole = looked_call whole

  exit_of : (at : ℕ) (list whole : List Argument) → MakesIt (c.exit_of s at whole (one list))
  unfolding c.exit
  exit_of at [] whole = looked_call whole
  exit_of at (x ∷ []) whole =
      makes_nothing (a.pointer_argument s x at (free_from s.kept_from)) (λ v. behind_cuts v.cuts.before (Statement.Return at (Some v.rest))) (quiet_pointer_argument s x at (free_from s.kept_from))
  exit_of at (x ∷ y ∷ more) whole = looked_call whole

  mutex_init_of : (at : ℕ) (list whole : List Argument) → MakesIt (c.mutex_init_of s at whole (two list))
  unfolding c.mutex_init
  mutex_init_of at [] whole = looked_call whole
  mutex_init_of at (x ∷ []) whole = looked_call whole
  mutex_init_of at (x ∷ y ∷ []) whole =
      let made = λ (o : Cut ObjectPlace). c.thread_call at o.cuts (ThreadCall.MutexInit o.rest) in
      makes_quiet (a.address_argument s Mutex x at (free_from s.kept_from)) (λ o. a.null_argument s y >> pure (made o)) (quiet_address s Mutex x at (free_from s.kept_from))
      (λ o. makes_nothing (a.null_argument s y) (λ _. made o) (quiet_null_argument s y))
  mutex_init_of at (x ∷ y ∷ z ∷ more) whole = looked_call whole

  barrier_init_of : (at : ℕ) (list whole : List Argument) → MakesIt (c.barrier_init_of s at whole (three list))
  unfolding c.barrier_init
  barrier_init_of at [] whole = looked_call whole
  barrier_init_of at (x ∷ []) whole = looked_call whole
  barrier_init_of at (x ∷ y ∷ []) whole = looked_call whole
  barrier_init_of at (x ∷ y ∷ z ∷ []) whole =
      let made = λ (o : Cut ObjectPlace) (n : Cut Expression). c.thread_call at n.cuts (ThreadCall.BarrierInit o.rest n.rest) in
      makes_quiet (a.address_argument s Barrier x at (free_from s.kept_from)) (λ o. a.null_argument s y >> (a.value_argument s z at o.cuts >>= (λ n. pure (made o n))))
      (quiet_address s Barrier x at (free_from s.kept_from))
      (λ o. makes_quiet (a.null_argument s y) (λ _. a.value_argument s z at o.cuts >>= (λ n. pure (made o n))) (quiet_null_argument s y)
      (λ _. makes_nothing (a.value_argument s z at o.cuts) (λ n. made o n) (quiet_value_argument s z at o.cuts)))
  barrier_init_of at (x ∷ y ∷ z ∷ w ∷ more) whole = looked_call whole

  object_of_list : (function : LibraryFunction) (at : ℕ) (list whole : List Argument) → MakesIt (c.object_call_of s function at whole (one list))
  unfolding c.object_statement
  object_of_list function at [] whole = looked_call whole
  object_of_list function at (x ∷ []) whole =
      makes_nothing (a.address_argument s (c.object_kind function) x at (free_from s.kept_from)) (λ o. c.thread_call at o.cuts (c.on_object function o.rest))
      (quiet_address s (c.object_kind function) x at (free_from s.kept_from))
  object_of_list function at (x ∷ y ∷ more) whole = looked_call whole

  object_call : (function : LibraryFunction) (at : ℕ) (list : List Argument) → MakesIt (c.object_call s function at list)
  unfolding c.object_call
  object_call function at list = object_of_list function at list list

  print_call : (at name_at : ℕ) (list : List Argument) → MakesIt (c.print_call s at name_at list)
  unfolding c.print_call c.print_arguments
  print_call at name_at [] = makes_nothing (finds rule.Format name_at) (λ _. Statement.Empty) (quiet_finds rule.Format name_at)
  print_call at name_at (first ∷ values) =
      let valued = all_passed s values at (free_from s.kept_from) >>= (λ v. pure (c.printed at (c.format first) v)) in
      makes_quiet (finds_if (not (c.takes (c.format first) (length values))) rule.Format (argument_offset first)) (λ _. looked_argument s first >> valued)
      (quiet_if (not (c.takes (c.format first) (length values))) rule.Format (argument_offset first))
      (λ _. makes_quiet (looked_argument s first) (λ _. valued) (q.quiet_argument s first).looked
      (λ _. makes_nothing (all_passed s values at (free_from s.kept_from)) (λ v. c.printed at (c.format first) v) (quiet_all_passed s values at (free_from s.kept_from))))

  library_statement : (function : LibraryFunction) (at name_at : ℕ) (list : List Argument) → MakesIt (c.library_statement s function at name_at list)
  unfolding c.library_statement c.create_call c.join_call c.exit_call c.mutex_init_call c.barrier_init_call
  library_statement library.Print at name_at list = print_call at name_at list
  library_statement library.Create at name_at list = create_of at list list
  library_statement library.Join at name_at list = join_of at list list
  library_statement library.Exit at name_at list = exit_of at list list
  library_statement library.MutexInit at name_at list = mutex_init_of at list list
  library_statement library.BarrierInit at name_at list = barrier_init_of at list list
  library_statement library.MutexDestroy at name_at list = object_call library.MutexDestroy at list
  library_statement library.MutexLock at name_at list = object_call library.MutexLock at list
  library_statement library.MutexUnlock at name_at list = object_call library.MutexUnlock at list
  library_statement library.BarrierDestroy at name_at list = object_call library.BarrierDestroy at list
  library_statement library.BarrierWait at name_at list = object_call library.BarrierWait at list

  library_call : (function : LibraryFunction) (at name_at : ℕ) (list : List Argument) → MakesIt (c.library_call s function at name_at list)
  unfolding c.library_call
  library_call function at name_at list =
      makes_quiet (library_name s function (length list) name_at) (λ _. c.library_statement s function at name_at list) (q.quiet_library_name s function (length list) name_at)
      (λ _. library_statement function at name_at list)

  function_statement : (header at name_at : ℕ) (list : List Argument) → MakesIt (c.function_statement s header at name_at list)
  unfolding c.function_statement
  function_statement header at name_at list =
      makes_quiet (function_name s header (length list) false name_at) (λ d. all_passed s list at (free_from s.kept_from) >>= (λ values. pure (c.called at d values)))
      (q.quiet_function_name s header (length list) false name_at)
      (λ d. makes_nothing (all_passed s list at (free_from s.kept_from)) (λ values. c.called at d values) (quiet_all_passed s list at (free_from s.kept_from)))

  other_call : (k : Known) (name_at : ℕ) (list : List Argument) → MakesIt (c.other_call s k name_at list)
  unfolding c.other_call
  other_call k name_at list = makes_quiet (no_function k name_at) (λ _. c.looked_call s list) (q.quiet_no_function k name_at) (λ _. looked_call list)

  call_of : (k : Known) (at name_at : ℕ) (list : List Argument) → MakesIt (c.call_of s k at name_at list)
  unfolding c.call_of
  call_of (known.Library function) at name_at list = library_call function at name_at list
  call_of (known.Declared (meaning.Function header)) at name_at list = function_statement header at name_at list
  call_of (known.Declared (meaning.Variable v)) at name_at list = other_call (known.Declared (meaning.Variable v)) name_at list
  call_of (known.Declared meaning.Argument) at name_at list = other_call (known.Declared meaning.Argument) name_at list
  call_of (known.Declared (meaning.Object o)) at name_at list = other_call (known.Declared (meaning.Object o)) name_at list
  call_of (known.Declared meaning.Unusable) at name_at list = other_call (known.Declared meaning.Unusable) name_at list
  call_of known.Unknown at name_at list = other_call known.Unknown name_at list

  pub call_makes : (at : ℕ) (x : CallTree) → MakesIt (c.call s at x)
  unfolding c.call
  call_makes at x = call_of (look_up s (out-Call x).name.bytes) at (out-Call x).name.offset (out-Call x).arguments
