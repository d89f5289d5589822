-- What the walk over a call that is a statement finds, by its parts.
use Rattle.std.proofs.Common.{◌≡◌, refl, sym, subst, ap, ◌∙◌, inl, inr, ℕ, suc, Bool, false, List, [], ◌∷◌, ◌++◌, length, Option, Some, None, arith}
use Rattle.std.specs.Prelude.{not, nat_eq, if◌then◌else◌}
use Rattle.std.proofs.lemmas.Bool.Decides.{nat_tests}
use Rattle.std.proofs.lemmas.List.{append-nil}
use Rattle.c_tree.specs.declared.expression.Name.{Name}
use Rattle.c_tree.specs.declared.expression.Call.{Call as CallTree, out-Call}
use Rattle.c_tree.specs.declared.expression.Argument.{Argument as ArgumentTree, out-Argument}
use Rattle.c_program.specs.Tree.{Expression, ObjectPlace, ThreadCall, Statement}
use Rattle.c_program.specs.Resolved.{object_of}
use Rattle.c_rules.specs.declared.fault.Rule.TheVariants as rule
use Rattle.c_rules.specs.declared.library.LibraryFunction.{LibraryFunction}
use Rattle.c_rules.specs.declared.library.LibraryFunction.TheVariants as library
use Rattle.c_rules.specs.declared.names.ObjectKind.TheVariants.{Thread, Mutex, Barrier}
use Rattle.c_rules.specs.declared.names.Meaning.{Meaning}
use Rattle.c_rules.specs.declared.names.Meaning.TheVariants as meaning
use Rattle.c_rules.specs.declared.names.Known.{Known}
use Rattle.c_rules.specs.declared.names.Known.TheVariants as known
use Rattle.c_rules.specs.declared.names.Scope.{Scope}
use Rattle.c_rules.specs.Library.{function_named, takes}
use Rattle.c_rules.specs.Names.{look_up, declared, known_by, from_declaration}
use Rattle.c_rules.specs.Walks.{Finds, pure, finds, finds_if, creates, ◌>>=◌, ◌>>◌}
use Rattle.c_expressions.specs.Callees as c
use Rattle.c_expressions.specs.Cuts.{Cuts, Cut}
use Rattle.c_expressions.specs.Expressions as e
use Rattle.c_expressions.specs.Sequences.{behind_cuts}
use Rattle.c_calls.specs.Arguments as a
use Rattle.c_calls.specs.Calls as k
use Rattle.c_broken_rules.specs.Sight.{Where}
use Rattle.c_broken_rules.specs.Parts as p
use Rattle.c_broken_rules.specs.Parts.{Part, Parts, all_of, of_each}
use Rattle.c_broken_rules.proofs.Ledgers.{Ledger, Entered, Good, good_pure, good_then, good_before, good_none}
use Rattle.c_broken_rules.proofs.Events.{Events, Creates}
use Rattle.c_broken_rules.proofs.Values.{good_argument, good_arguments, good_passed}
use Rattle.c_broken_rules.proofs.Arguments.{value_argument, null_argument, pointer_argument, address_argument, thread_argument, routine_argument}

not_four : (n : ℕ) → nat_eq 4 (suc (suc (suc (suc (suc n))))) ≡ false
not_four n = grind (arith, nat_tests)

not_three : (n : ℕ) → nat_eq 3 (suc (suc (suc (suc n)))) ≡ false
not_three n = grind (arith, nat_tests)

not_two : (n : ℕ) → nat_eq 2 (suc (suc (suc n))) ≡ false
not_two n = grind (arith, nat_tests)

not_one : (n : ℕ) → nat_eq 1 (suc (suc n)) ≡ false
not_one n = grind (arith, nat_tests)

module _ (L : Ledger) (s : Scope) (w : Where) (events : Events L s w) where
  looked_call : (list : List ArgumentTree) → Good L (k.looked_call s list) (p.arguments_parts w list)
  unfolding k.looked_call
  looked_call list = good_before L (e.arguments s list) (λ _. pure Statement.Empty) (p.arguments_parts w list) (good_arguments L s w events list) (λ _. good_pure L Statement.Empty)

  -- with the wrong number of arguments
  others : (b : Bool) (X : Parts) (list : List ArgumentTree) → b ≡ false → Good L (k.looked_call s list) (if b then X else p.arguments_parts w list)
  others b X list is = subst (λ t. Good L (k.looked_call s list) (if t then X else p.arguments_parts w list)) (sym is) (looked_call list)

  last : (ps : Parts) → {A : Type 0} {v : Finds A} → Good L v ps → Good L v (ps ++ [])
  last ps {A} {v} h = subst (λ qs. Good L v qs) (sym (append-nil ps)) h

  -- ---- pthread_create, where creates are no entry

  no_creation : ((thread name : Name) (x : L.Entry) → L.At (Part.Creation w thread name) x → ⊥) → (t r : Option Name) → (x : L.Entry) → Entered L (p.creation_by w t r) x → ⊥
  no_creation none (Some t) (Some r) x (inl h) = none t r x h
  no_creation none (Some t) (Some r) x (inr h) = h
  no_creation none (Some t) None x h = h
  no_creation none None r x h = h

  abbrev thread_call : ℕ → Cuts → ThreadCall → Statement
  thread_call at cuts call = k.thread_call at cuts call

  created : ((thread routine at : ℕ) → Good L (creates thread routine at) []) → (at : ℕ) (t : ObjectPlace) (v : Cut Expression) (r : Option (ℕ × ℕ)) → Good L (k.created at t v r) []
  unfolding k.created
  created quiet at t v None = good_pure L Statement.Empty
  created quiet at t v (Some r) =
      good_before L (creates (object_of t) r.0 r.1) (λ _. pure (thread_call at v.cuts (ThreadCall.Create t r.0 v.rest))) [] (quiet (object_of t) r.0 r.1)
      (λ _. good_pure L (thread_call at v.cuts (ThreadCall.Create t r.0 v.rest)))

  pub no_creates : ((thread routine at : ℕ) → Good L (creates thread routine at) []) → ((thread name : Name) (x : L.Entry) → L.At (Part.Creation w thread name) x → ⊥) →
      Creates L s w
  unfolding k.create
  no_creates quiet none at thread attributes routine value =
      let t = a.address_argument s Thread thread at (k.no_cuts s) in
      let n = a.null_argument s attributes in
      let r = a.routine_argument s routine in
      let v = λ (o : Cut ObjectPlace). a.pointer_argument s value at o.cuts in
      let ns = p.argument_parts w attributes in
      let rs = p.routine_by w (p.name_alone w routine) ++ p.argument_parts w routine in
      let vs = p.argument_parts w value in
      let cs = p.creation_by w (p.named_object w (out-Argument thread)) (p.name_alone w routine) in
      good_then L t (λ o. n >> (r >>= (λ f. v o >>= (λ x. k.created at o.rest x f)))) (p.object_parts w thread) (ns ++ (rs ++ (vs ++ cs)))
      (address_argument L s w events Thread thread at (k.no_cuts s))
      (λ o. good_then L n (λ _. r >>= (λ f. v o >>= (λ x. k.created at o.rest x f))) ns (rs ++ (vs ++ cs)) (null_argument L s w events attributes)
      (λ _. good_then L r (λ f. v o >>= (λ x. k.created at o.rest x f)) rs (vs ++ cs) (routine_argument L s w events routine)
      (λ f. good_then L (v o) (λ x. k.created at o.rest x f) vs cs (pointer_argument L s w events value at o.cuts)
      (λ x. good_none L cs (no_creation none (p.named_object w (out-Argument thread)) (p.name_alone w routine)) (created quiet at o.rest x f)))))

  -- ---- the other calls

  join : (at : ℕ) (thread outcome : ArgumentTree) → Good L (k.join s at thread outcome) (p.join_parts w (thread ∷ outcome ∷ []))
  unfolding k.join
  join at thread outcome =
      let made = λ (t : Cut ObjectPlace). thread_call at t.cuts (ThreadCall.Join t.rest) in
      good_then L (a.thread_argument s thread at (k.no_cuts s)) (λ t. a.null_argument s outcome >> pure (made t)) (p.thread_parts w thread)
      (p.argument_parts w outcome ++ []) (thread_argument L s w events thread at (k.no_cuts s))
      (λ t. good_then L (a.null_argument s outcome) (λ _. pure (made t)) (p.argument_parts w outcome) [] (null_argument L s w events outcome) (λ _. good_pure L (made t)))

  join_call : (at : ℕ) (list : List ArgumentTree) → Good L (k.join_call s at list) (if takes library.Join (length list) then p.join_parts w list else p.arguments_parts w list)
  unfolding k.join_call
  join_call at [] = looked_call []
  join_call at (x ∷ []) = looked_call (x ∷ [])
  join_call at (x ∷ y ∷ []) = join at x y
  join_call at (x ∷ y ∷ z ∷ more) = others (nat_eq 2 (length (x ∷ y ∷ z ∷ more))) (p.join_parts w (x ∷ y ∷ z ∷ more)) (x ∷ y ∷ z ∷ more) (not_two (length more))

  exit : (at : ℕ) (x : ArgumentTree) → Good L (k.exit s at x) (p.arguments_parts w (x ∷ []))
  unfolding k.exit
  exit at x =
      let made = λ (v : Cut Expression). behind_cuts v.cuts.before (Statement.Return at (Some v.rest)) in
      good_then L (a.pointer_argument s x at (k.no_cuts s)) (λ v. pure (made v)) (p.argument_parts w x) [] (pointer_argument L s w events x at (k.no_cuts s))
      (λ v. good_pure L (made v))

  exit_call : (at : ℕ) (list : List ArgumentTree) → Good L (k.exit_call s at list) (if takes library.Exit (length list) then p.arguments_parts w list else p.arguments_parts w list)
  unfolding k.exit_call
  exit_call at [] = looked_call []
  exit_call at (x ∷ []) = exit at x
  exit_call at (x ∷ y ∷ more) = others (nat_eq 1 (length (x ∷ y ∷ more))) (p.arguments_parts w (x ∷ y ∷ more)) (x ∷ y ∷ more) (not_one (length more))

  mutex_init : (at : ℕ) (x y : ArgumentTree) → Good L (k.mutex_init s at x y) (p.first_object_parts w (x ∷ y ∷ []))
  unfolding k.mutex_init
  mutex_init at x y =
      let made = λ (m : Cut ObjectPlace). thread_call at m.cuts (ThreadCall.MutexInit m.rest) in
      good_then L (a.address_argument s Mutex x at (k.no_cuts s)) (λ m. a.null_argument s y >> pure (made m)) (p.object_parts w x)
      (p.argument_parts w y ++ []) (address_argument L s w events Mutex x at (k.no_cuts s))
      (λ m. good_then L (a.null_argument s y) (λ _. pure (made m)) (p.argument_parts w y) [] (null_argument L s w events y) (λ _. good_pure L (made m)))

  mutex_init_call : (at : ℕ) (list : List ArgumentTree) →
      Good L (k.mutex_init_call s at list) (if takes library.MutexInit (length list) then p.first_object_parts w list else p.arguments_parts w list)
  unfolding k.mutex_init_call
  mutex_init_call at [] = looked_call []
  mutex_init_call at (x ∷ []) = looked_call (x ∷ [])
  mutex_init_call at (x ∷ y ∷ []) = mutex_init at x y
  mutex_init_call at (x ∷ y ∷ z ∷ more) =
      others (nat_eq 2 (length (x ∷ y ∷ z ∷ more))) (p.first_object_parts w (x ∷ y ∷ z ∷ more)) (x ∷ y ∷ z ∷ more) (not_two (length more))

  barrier_init : (at : ℕ) (x y z : ArgumentTree) → Good L (k.barrier_init s at x y z) (p.first_object_parts w (x ∷ y ∷ z ∷ []))
  unfolding k.barrier_init
  barrier_init at x y z =
      let made = λ (b : Cut ObjectPlace) (n : Cut Expression). thread_call at n.cuts (ThreadCall.BarrierInit b.rest n.rest) in
      let last = λ (b : Cut ObjectPlace). a.value_argument s z at b.cuts >>= (λ n. pure (made b n)) in
      good_then L (a.address_argument s Barrier x at (k.no_cuts s)) (λ b. a.null_argument s y >> last b) (p.object_parts w x)
      (p.argument_parts w y ++ (p.argument_parts w z ++ [])) (address_argument L s w events Barrier x at (k.no_cuts s))
      (λ b. good_then L (a.null_argument s y) (λ _. last b) (p.argument_parts w y) (p.argument_parts w z ++ []) (null_argument L s w events y)
      (λ _. good_then L (a.value_argument s z at b.cuts) (λ n. pure (made b n)) (p.argument_parts w z) [] (value_argument L s w events z at b.cuts)
      (λ n. good_pure L (made b n))))

  barrier_init_call : (at : ℕ) (list : List ArgumentTree) →
      Good L (k.barrier_init_call s at list) (if takes library.BarrierInit (length list) then p.first_object_parts w list else p.arguments_parts w list)
  unfolding k.barrier_init_call
  barrier_init_call at [] = looked_call []
  barrier_init_call at (x ∷ []) = looked_call (x ∷ [])
  barrier_init_call at (x ∷ y ∷ []) = looked_call (x ∷ y ∷ [])
  barrier_init_call at (x ∷ y ∷ z ∷ []) = barrier_init at x y z
  barrier_init_call at (x ∷ y ∷ z ∷ v ∷ more) =
      others (nat_eq 3 (length (x ∷ y ∷ z ∷ v ∷ more))) (p.first_object_parts w (x ∷ y ∷ z ∷ v ∷ more)) (x ∷ y ∷ z ∷ v ∷ more) (not_three (length more))

  object_statement : (f : LibraryFunction) (at : ℕ) (x : ArgumentTree) → Good L (k.object_statement s f at x) (p.first_object_parts w (x ∷ []))
  unfolding k.object_statement
  object_statement f at x =
      let made = λ (o : Cut ObjectPlace). thread_call at o.cuts (k.on_object f o.rest) in
      good_then L (a.address_argument s (k.object_kind f) x at (k.no_cuts s)) (λ o. pure (made o)) (p.object_parts w x) []
      (address_argument L s w events (k.object_kind f) x at (k.no_cuts s)) (λ o. good_pure L (made o))

  object_call : (f : LibraryFunction) (at : ℕ) (list : List ArgumentTree) →
      Good L (k.object_call s f at list) (if nat_eq 1 (length list) then p.first_object_parts w list else p.arguments_parts w list)
  unfolding k.object_call
  object_call f at [] = looked_call []
  object_call f at (x ∷ []) = object_statement f at x
  object_call f at (x ∷ y ∷ more) = others (nat_eq 1 (length (x ∷ y ∷ more))) (p.first_object_parts w (x ∷ y ∷ more)) (x ∷ y ∷ more) (not_one (length more))

  -- ---- printf

  print_arguments : (at : ℕ) (name : Name) (first : ArgumentTree) (values : List ArgumentTree) →
      Good L (k.print_arguments s at first values) (Part.Print name (first ∷ values) ∷ p.arguments_parts w (first ∷ values))
  unfolding k.print_arguments
  print_arguments at name first values =
      let look = e.looked_argument s first in
      let all = e.all_passed s values at (k.no_cuts s) in
      let rest = λ (_ : Unit {0}). all >>= (λ v. pure (k.printed at (k.format first) v)) in
      let vs = p.arguments_parts w values in
      good_then L (finds_if (not (k.takes (k.format first) (length values))) rule.Format (e.argument_offset first)) (λ _. look >>= rest) (Part.Print name (first ∷ values) ∷ [])
      (p.argument_parts w first ++ vs) (events.print name first values)
      (λ _. good_then L look rest (p.argument_parts w first) vs (good_argument L s w events first).looked
      (λ _. good_before L all (λ v. pure (k.printed at (k.format first) v)) vs (good_passed L s w events values at (k.no_cuts s))
      (λ v. good_pure L (k.printed at (k.format first) v))))

  print_call : (at : ℕ) (name : Name) (list : List ArgumentTree) → Good L (k.print_call s at name.offset list) (Part.Print name list ∷ p.arguments_parts w list)
  unfolding k.print_call
  print_call at name [] =
      good_before L (finds rule.Format name.offset) (λ _. pure Statement.Empty) (Part.Print name [] ∷ []) (events.no_print name) (λ _. good_pure L Statement.Empty)
  print_call at name (first ∷ values) = print_arguments at name first values

  -- ---- functions of the text

  function_statement : (number at : ℕ) (name : Name) (list : List ArgumentTree) → look_up s name.bytes ≡ known.Declared (meaning.Function number) →
      Good L (k.function_statement s number at name.offset list) (Part.Call w name ∷ p.arguments_parts w list)
  unfolding k.function_statement
  function_statement number at name list is =
      let vs = p.arguments_parts w list in
      let all = e.all_passed s list at (k.no_cuts s) in
      good_then L (c.function_name s number (length list) false name.offset) (λ d. all >>= (λ v. pure (k.called at d v))) (Part.Call w name ∷ []) vs
      (events.function name number (length list) false is)
      (λ d. good_before L all (λ v. pure (k.called at d v)) vs (good_passed L s w events list at (k.no_cuts s)) (λ v. good_pure L (k.called at d v)))

  no_function : (name : Name) (list : List ArgumentTree) → c.number_of (look_up s name.bytes) ≡ None →
      ((f : LibraryFunction) → look_up s name.bytes ≡ known.Library f → ⊥) →
      Good L (k.other_call s (look_up s name.bytes) name.offset list) (Part.Call w name ∷ p.arguments_parts w list)
  unfolding k.other_call
  no_function name list none own =
      good_then L (c.no_function (look_up s name.bytes) name.offset) (λ _. k.looked_call s list) (Part.Call w name ∷ []) (p.arguments_parts w list)
      (events.no_function name none own) (λ _. looked_call list)

  -- ---- any call

  pub look_library : (name : List ℕ) (f : LibraryFunction) → function_named name ≡ Some f → look_up s name ≡ known.Library f
  unfolding look_up
  look_library name f is = ap (λ o. known_by o (declared s name)) is

  pub look_own : (name : List ℕ) → function_named name ≡ None → look_up s name ≡ from_declaration (declared s name)
  unfolding look_up
  look_own name is = ap (λ o. known_by o (declared s name)) is

  no_library : (m : Meaning) (f : LibraryFunction) → known.Declared m ≡ known.Library f → ⊥
  no_library m f h = cc

  unknown_library : (f : LibraryFunction) → known.Unknown ≡ known.Library f → ⊥
  unknown_library f h = cc

  abbrev CallOf : ℕ → Name → List ArgumentTree → Known → Type 0
  CallOf at name list x = Good L (k.call_of s x at name.offset list) (Part.Call w name ∷ p.arguments_parts w list)

  other_name : (at : ℕ) (name : Name) (list : List ArgumentTree) (x : Known) → look_up s name.bytes ≡ x → c.number_of x ≡ None → ((f : LibraryFunction) → x ≡ known.Library f → ⊥) →
      Good L (k.other_call s x name.offset list) (Part.Call w name ∷ p.arguments_parts w list)
  other_name at name list x is none own =
      subst (λ y. Good L (k.other_call s y name.offset list) (Part.Call w name ∷ p.arguments_parts w list)) is
      (no_function name list (ap c.number_of is ∙ none) (λ f e. own f (sym is ∙ e)))

  own_name : (at : ℕ) (name : Name) (list : List ArgumentTree) (m : Option Meaning) → look_up s name.bytes ≡ from_declaration m → CallOf at name list (from_declaration m)
  unfolding k.call_of
  own_name at name list None is = other_name at name list known.Unknown is refl unknown_library
  own_name at name list (Some (meaning.Function n)) is = function_statement n at name list is
  own_name at name list (Some (meaning.Variable v)) is = other_name at name list (known.Declared (meaning.Variable v)) is refl (no_library (meaning.Variable v))
  own_name at name list (Some meaning.Argument) is = other_name at name list (known.Declared meaning.Argument) is refl (no_library meaning.Argument)
  own_name at name list (Some (meaning.Object o)) is = other_name at name list (known.Declared (meaning.Object o)) is refl (no_library (meaning.Object o))
  own_name at name list (Some meaning.Unusable) is = other_name at name list (known.Declared meaning.Unusable) is refl (no_library meaning.Unusable)

-- ---- calls of the library, and any call

module _ (L : Ledger) (s : Scope) (w : Where) (events : Events L s w) (creates_are : Creates L s w) where
  create_call : (at : ℕ) (list : List ArgumentTree) →
      Good L (k.create_call s at list) (if takes library.Create (length list) then p.create_parts w list else p.arguments_parts w list)
  unfolding k.create_call
  create_call at [] = looked_call L s w events []
  create_call at (x ∷ []) = looked_call L s w events (x ∷ [])
  create_call at (x ∷ y ∷ []) = looked_call L s w events (x ∷ y ∷ [])
  create_call at (x ∷ y ∷ z ∷ []) = looked_call L s w events (x ∷ y ∷ z ∷ [])
  create_call at (x ∷ y ∷ z ∷ v ∷ []) = creates_are at x y z v
  create_call at (x ∷ y ∷ z ∷ v ∷ u ∷ more) =
      others L s w events (nat_eq 4 (length (x ∷ y ∷ z ∷ v ∷ u ∷ more))) (p.create_parts w (x ∷ y ∷ z ∷ v ∷ u ∷ more)) (x ∷ y ∷ z ∷ v ∷ u ∷ more) (not_four (length more))

  library_statement : (f : LibraryFunction) (at : ℕ) (name : Name) (list : List ArgumentTree) →
      Good L (k.library_statement s f at name.offset list)
      (p.print_by w f name list ++ (if takes f (length list) then p.library_parts w f list else p.arguments_parts w list))
  unfolding k.library_statement
  library_statement library.Print at name list = print_call L s w events at name list
  library_statement library.Create at name list = create_call at list
  library_statement library.Join at name list = join_call L s w events at list
  library_statement library.Exit at name list = exit_call L s w events at list
  library_statement library.MutexInit at name list = mutex_init_call L s w events at list
  library_statement library.BarrierInit at name list = barrier_init_call L s w events at list
  library_statement library.MutexDestroy at name list = object_call L s w events library.MutexDestroy at list
  library_statement library.MutexLock at name list = object_call L s w events library.MutexLock at list
  library_statement library.MutexUnlock at name list = object_call L s w events library.MutexUnlock at list
  library_statement library.BarrierDestroy at name list = object_call L s w events library.BarrierDestroy at list
  library_statement library.BarrierWait at name list = object_call L s w events library.BarrierWait at list

  library_call : (f : LibraryFunction) (at : ℕ) (name : Name) (list : List ArgumentTree) → look_up s name.bytes ≡ known.Library f →
      Good L (k.library_call s f at name.offset list) (Part.Call w name ∷ p.called_by w (Some f) name list)
  unfolding k.library_call
  library_call f at name list is =
      good_then L (c.library_name s f (length list) name.offset) (λ _. k.library_statement s f at name.offset list) (Part.Call w name ∷ []) (p.called_by w (Some f) name list)
      (events.library name f (length list) is) (λ _. library_statement f at name list)

  library_name : (at : ℕ) (name : Name) (list : List ArgumentTree) (f : LibraryFunction) → look_up s name.bytes ≡ known.Library f →
      Good L (k.call_of s (known.Library f) at name.offset list) (Part.Call w name ∷ p.called_by w (Some f) name list)
  unfolding k.call_of
  library_name at name list f is = library_call f at name list is

  by_name : (at : ℕ) (name : Name) (list : List ArgumentTree) (o : Option LibraryFunction) → function_named name.bytes ≡ o →
      Good L (k.call_of s (look_up s name.bytes) at name.offset list) (Part.Call w name ∷ p.called_by w o name list)
  by_name at name list (Some f) is =
      let e = look_library L s w events name.bytes f is in
      subst (λ x. Good L (k.call_of s x at name.offset list) (Part.Call w name ∷ p.called_by w (Some f) name list)) (sym e) (library_name at name list f e)
  by_name at name list None is =
      let e = look_own L s w events name.bytes is in
      subst (λ x. Good L (k.call_of s x at name.offset list) (Part.Call w name ∷ p.arguments_parts w list)) (sym e) (own_name L s w events at name list (declared s name.bytes) e)

  pub call : (at : ℕ) (x : CallTree) → Good L (k.call s at x) (p.call_parts w x)
  unfolding k.call
  call at x = by_name at (out-Call x).name (out-Call x).arguments (function_named (out-Call x).name.bytes) refl
