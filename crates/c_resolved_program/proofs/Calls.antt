-- What calls give, as statements and as values.
use Rattle.std.proofs.Common.{◌≡◌, refl, sym, subst, ◌∙◌, ℕ, ◌<◌, ◌≤◌, false, List, [], ◌∷◌, length, Option, Some, None, eqb-true, leb-true, arith}
use Rattle.std.specs.Prelude.{◌+◌, ◌||◌, not, is_none, nat_eq, nat_le, slice_get, count_by, ⊤}
use Rattle.std.specs.List.{AllByRecursion}
use Rattle.std.proofs.lemmas.Bool.{and_parts, not-false, or_parts}
use Rattle.std.proofs.lemmas.Option.{none-some}
use Rattle.lists.proofs.Places.{in_one, in_none}
use Rattle.c_tree.specs.declared.expression.Argument.{Argument, out-Argument}
use Rattle.c_tree.specs.declared.expression.Argument.TheOpen.{Argument-F}
use Rattle.c_tree.specs.declared.expression.Call.{Call as CallTree, out-Call}
use Rattle.c_program.specs.declared.tree.ThreadObject.{ThreadObject}
use Rattle.c_program.specs.declared.tree.ReturnType.TheVariants as returns_as
use Rattle.c_program.specs.Tree.{Expression, ObjectPlace, ThreadCall, Piece, Statement, Function, Program}
use Rattle.c_program.specs.Weight.{arguments_weight, object_place_weight, thread_call_weight}
use Rattle.c_program.specs.Resolved as r
use Rattle.c_rules.specs.declared.fault.Rule.TheVariants as rule
use Rattle.c_rules.specs.declared.findings.Findings.{Findings}
use Rattle.c_rules.specs.declared.library.LibraryFunction.{LibraryFunction}
use Rattle.c_rules.specs.declared.library.LibraryFunction.TheVariants as library
use Rattle.c_rules.specs.declared.names.ObjectKind.TheVariants.{Thread, Mutex, Barrier}
use Rattle.c_rules.specs.declared.names.Meaning.TheVariants as meaning
use Rattle.c_rules.specs.declared.names.Known.{Known}
use Rattle.c_rules.specs.declared.names.Known.TheVariants as known
use Rattle.c_rules.specs.declared.names.Gives.{Gives}
use Rattle.c_rules.specs.declared.names.Gives.TheVariants as gives
use Rattle.c_rules.specs.declared.names.Header.{Header}
use Rattle.c_rules.specs.declared.names.Scope.{Scope}
use Rattle.c_rules.specs.Names.{look_up, gives_pointer}
use Rattle.c_rules.specs.Walks.{pure, finds, finds_if, creates, ◌>>=◌, ◌>>◌}
use Rattle.c_expressions.specs.Callees.{function_name, library_name, no_function}
use Rattle.c_expressions.specs.Expressions.{argument_offset, arguments, looked_argument, all_passed}
use Rattle.c_calls.specs.Arguments as a
use Rattle.c_expressions.specs.Cuts.{Cuts, Cut, free_from}
use Rattle.c_expressions.specs.Lists.{one, two, three, four}
use Rattle.c_expressions.specs.Sequences.{behind_cuts}
use Rattle.c_calls.specs.Calls as c
use Rattle.c_resolved_program.specs.Leaves.{AreValid, argument_leaves, call_leaves}
use Rattle.c_resolved_program.specs.Orders.{IsHeader, IsOrderly, IsGiven, IsPointerAt, IsFoundCall, IsFoundCreation, IsInOrder, GivesRoutines}
use Rattle.c_resolved_program.proofs.Walks.{Shows, shows_pure, shows_then, shows_as, shows_broken, shows_if, shows_creation, shows_visited, IfAny}
use Rattle.c_resolved_program.proofs.Known.{IsKnown, look_up_is, known_apart}
use Rattle.c_resolved_program.proofs.Callees.{IsCallOf, IsPlaced, function_name_shows, library_name_shows, no_function_shows}
use Rattle.c_resolved_program.proofs.Called.{is_dropped_call}
use Rattle.c_resolved_program.proofs.Elements.{element_is}
use Rattle.c_resolved_program.proofs.Cuts as u
use Rattle.c_resolved_program.proofs.Behind as b
use Rattle.c_resolved_program.proofs.Layers as l
use Rattle.c_resolved_program.proofs.Pieces.{pieces_are}
use Rattle.c_resolved_program.proofs.Objects.{IsObjectAt}
use Rattle.c_resolved_program.proofs.Arguments as p
use Rattle.c_resolved_program.proofs.Parts.{ValidLayer, argument_valid, call_valid}
use Rattle.c_resolved_program.proofs.Trees.{argument_shows}

-- ---- lists of at most one

has_routine : (o : Option ThreadObject) (n routine : ℕ) → r.thread_length o ≡ Some n → ((object : ThreadObject) → o ≡ Some object → object.routine ≡ Some routine) →
    r.HasRoutine o routine
has_routine None n routine is given = none-some n (is)
has_routine (Some object) n routine is given = given object refl

object_there : (P : Program) (f : Function) (t : ObjectPlace) → IsObjectAt P f Thread t → (n : ℕ) × (r.thread_length (slice_get P.threads (r.object_of t)) ≡ Some n)
object_there P f (ObjectPlace.Single object) is = (1, is)
object_there P f (ObjectPlace.Element object size index) is = (size, is.0)

module _ (whole : Findings) (P : Program) (number : ℕ) (f : Function) (small : f.declared_locals < 0xffff_ffff) (s : Scope) (given_routines : GivesRoutines whole P) (around : r.Around) where
  abbrev Now : Type 0
  Now = IsOrderly P number f s

  abbrev InOrder : Statement → Type 0
  InOrder x = IsInOrder whole P number f around x

  pub empty : InOrder Statement.Empty
  empty = b.empty_in whole P number f around

  -- no value is kept yet
  abbrev from : ℕ
  from = s.kept_from

  abbrev none : Cuts
  none = free_from s.kept_from

  starts : Now → Now × u.AreCuts whole P number f from 0 none
  starts now = (now, b.starts whole P number f s now)

  -- a pthread call behind cuts
  thread_is : (at p : ℕ) (cuts : Cuts) (call : ThreadCall) → Now → u.AreCuts whole P number f from p cuts → p ≤ thread_call_weight call + 4 →
      (u.Fits whole P number f cuts → r.IsThreadCall P f call) → r.creates_of (Statement.Thread at call) ≡ [] → InOrder (c.thread_call at cuts call)
  thread_is at p cuts call now h le is none =
      b.plain_behind whole P number f around s p cuts (Statement.Thread at call) now h (omega (arith, le)) refl is refl none

  abbrev AllValid : List Argument → Type 0
  AllValid list = AllByRecursion (λ x. AreValid (argument_leaves x)) list

  each_looked : (list : List Argument) → AllValid list → AllByRecursion (λ x. Shows whole Now (λ _. ⊤) (looked_argument s x)) list
  each_looked [] valid = tt
  each_looked (x ∷ list) valid = ((argument_shows whole P number f small s x valid.0).looked, each_looked list valid.1)

  looked_call_shows : (list : List Argument) → AllValid list → Shows whole Now InOrder (c.looked_call s list)
  unfolding c.looked_call
  looked_call_shows list valid =
      shows_then (arguments s list) (λ _. pure Statement.Empty) (shows_visited (looked_argument s) list (each_looked list valid))
      (λ _. shows_pure Statement.Empty (λ _. empty))

  -- ---- pthread_create

  created_is : (at : ℕ) (t : Cut ObjectPlace) (v : Cut Expression) (routine : ℕ) → Now → p.Placed whole P number f small s Thread from 0 none t →
      p.Valued whole P number f small s from (0 + object_place_weight t.rest) t.cuts v → IsPointerAt P routine → IsFoundCreation whole (r.object_of t.rest) routine →
      InOrder (c.thread_call at v.cuts (ThreadCall.Create t.rest routine v.rest))
  created_is at t v routine now object is pointer found =
      b.behind_is whole P number f around s (0 + object_place_weight t.rest + u.value_room v.rest) v.cuts (Statement.Thread at (ThreadCall.Create t.rest routine v.rest)) now is.cuts
      (omega arith) refl
      (λ fit.
      let first = object.rest (let more = is.more in omega (arith, fit, more)) in
      let there = object_there P f t.rest first in
      (first, has_routine (slice_get P.threads (r.object_of t.rest)) there.0 routine there.1 (λ o at. given_routines (r.object_of t.rest) routine o found at), is.rest fit))
      (λ callee inside. absurd (in_none callee inside))
      (λ thread given inside. subst (λ (x : ℕ × ℕ). IsPointerAt P x.1 × IsFoundCreation whole x.0 x.1) (in_one (r.object_of t.rest, routine) (thread, given) inside) (pointer, found))

  created_shows : (at : ℕ) (t : Cut ObjectPlace) (v : Cut Expression) (routine : Option (ℕ × ℕ)) →
      Shows whole (Now × p.Placed whole P number f small s Thread from 0 none t × IfAny (λ (r : ℕ × ℕ). IsPointerAt P r.0) routine
      × p.Valued whole P number f small s from (0 + object_place_weight t.rest) t.cuts v) InOrder (c.created at t.rest v routine)
  unfolding c.created
  created_shows at t v None = shows_pure Statement.Empty (λ _. empty)
  created_shows at t v (Some routine) =
      let made = c.thread_call at v.cuts (ThreadCall.Create t.rest routine.0 v.rest) in
      shows_then (creates (r.object_of t.rest) routine.0 routine.1) (λ _. pure made) (shows_creation (r.object_of t.rest) routine.0 routine.1)
      (λ _. shows_pure made (λ x. created_is at t v routine.0 x.0.0 x.0.1 x.0.3 x.0.2 x.1))

  create_shows : (at : ℕ) (thread attributes routine x : Argument) → AreValid (argument_leaves thread) → AreValid (argument_leaves attributes) →
      AreValid (argument_leaves routine) → AreValid (argument_leaves x) → Shows whole Now InOrder (c.create s at thread attributes routine x)
  unfolding c.create
  create_shows at thread attributes routine x h0 h1 h2 h3 =
      let pointed = λ (t : Cut ObjectPlace) (q : Option (ℕ × ℕ)). a.pointer_argument s x at t.cuts >>= (λ v. c.created at t.rest v q) in
      let routed = λ (t : Cut ObjectPlace). a.routine_argument s routine >>= pointed t in
      shows_then (a.address_argument s Thread thread at none) (λ t. a.null_argument s attributes >> routed t)
      (shows_as (a.address_argument s Thread thread at none) starts (λ _ _ is. is) (p.address_argument_shows whole P number f small s Thread thread h0 from 0 at none))
      (λ t. shows_then (a.null_argument s attributes) (λ _. routed t)
      (shows_as (a.null_argument s attributes) (λ x. x.0) (λ _ _ is. is) (p.null_argument_shows whole P number f small s attributes h1))
      (λ _. shows_then (a.routine_argument s routine) (pointed t)
      (shows_as (a.routine_argument s routine) (λ x. x.0.0) (λ _ _ is. is) (p.routine_argument_shows whole P number f small s routine h2))
      (λ q. shows_then (a.pointer_argument s x at t.cuts) (λ v. c.created at t.rest v q)
      (shows_as (a.pointer_argument s x at t.cuts) (λ x. (x.0.0.0, x.0.0.1.cuts)) (λ _ _ is. is)
      (p.pointer_argument_shows whole P number f small s x h3 from (0 + object_place_weight t.rest) at t.cuts))
      (λ v. shows_as (c.created at t.rest v q) (λ x. (x.0.0.0.0, x.0.0.0.1, x.0.1, x.1)) (λ _ _ is. is) (created_shows at t v q)))))

  create_of_shows : (at : ℕ) (list : List Argument) → AllValid list → Shows whole Now InOrder (c.create_of s at list (four list))
  create_of_shows at [] valid = looked_call_shows [] valid
  create_of_shows at (x ∷ []) valid = looked_call_shows (x ∷ []) valid
  create_of_shows at (x ∷ y ∷ []) valid = looked_call_shows (x ∷ y ∷ []) valid
  create_of_shows at (x ∷ y ∷ z ∷ []) valid = looked_call_shows (x ∷ y ∷ z ∷ []) valid
  create_of_shows at (x ∷ y ∷ z ∷ w ∷ []) valid = create_shows at x y z w valid.0 valid.1.0 valid.1.1.0 valid.1.1.1.0
  create_of_shows at (x ∷ y ∷ z ∷ w ∷ v ∷ more) valid =
      looked_call_shows (x ∷ y ∷ z ∷ w ∷ v ∷ more) valid

  -- ---- pthread_join

  join_shows : (at : ℕ) (thread outcome : Argument) → AreValid (argument_leaves thread) → AreValid (argument_leaves outcome) →
      Shows whole Now InOrder (c.join s at thread outcome)
  unfolding c.join
  join_shows at thread outcome h0 h1 =
      let made = λ (t : Cut ObjectPlace). c.thread_call at t.cuts (ThreadCall.Join t.rest) in
      shows_then (a.thread_argument s thread at none) (λ t. a.null_argument s outcome >> pure (made t))
      (shows_as (a.thread_argument s thread at none) starts (λ _ _ is. is) (p.thread_argument_shows whole P number f small s thread h0 from 0 at none))
      (λ t. shows_then (a.null_argument s outcome) (λ _. pure (made t))
      (shows_as (a.null_argument s outcome) (λ x. x.0) (λ _ _ is. is) (p.null_argument_shows whole P number f small s outcome h1))
      (λ _. shows_pure (made t) (λ x. thread_is at (0 + object_place_weight t.rest) t.cuts (ThreadCall.Join t.rest) x.0.0 x.0.1.cuts (omega arith) x.0.1.rest refl)))

  join_of_shows : (at : ℕ) (list : List Argument) → AllValid list → Shows whole Now InOrder (c.join_of s at list (two list))
  join_of_shows at [] valid = looked_call_shows [] valid
  join_of_shows at (x ∷ []) valid = looked_call_shows (x ∷ []) valid
  join_of_shows at (x ∷ y ∷ []) valid = join_shows at x y valid.0 valid.1.0
  join_of_shows at (x ∷ y ∷ z ∷ more) valid = looked_call_shows (x ∷ y ∷ z ∷ more) valid

  -- ---- pthread_exit

  abbrev Exiting : Type 0
  Exiting = Now × ((is_none s.function || not (gives_pointer s.gives)) ≡ false)

  pointer_given : (g : Gives) → not (gives_pointer g) ≡ false → IsGiven g f.returns → f.returns ≡ returns_as.Pointer
  pointer_given gives.Pointer pointer is = is
  pointer_given gives.Nothing pointer is = cc
  pointer_given gives.Integer pointer is = cc
  pointer_given gives.Unlisted pointer is = cc

  exit_shows : (at : ℕ) (x : Argument) → AreValid (argument_leaves x) → Shows whole Exiting InOrder (c.exit s at x)
  unfolding c.exit
  exit_shows at x h =
      let left = λ (v : Cut Expression). Statement.Return at (Some v.rest) in
      let made = λ (v : Cut Expression). behind_cuts v.cuts.before (left v) in
      shows_then (a.pointer_argument s x at none) (λ v. pure (made v))
      (shows_as (a.pointer_argument s x at none) (λ x. starts x.0) (λ _ _ is. is) (p.pointer_argument_shows whole P number f small s x h from 0 at none))
      (λ v. shows_pure (made v) (λ x.
      let pointer = (or_parts (is_none s.function) (not (gives_pointer s.gives)) x.0.1).1 in
      b.plain_behind whole P number f around s (0 + u.value_room v.rest) v.cuts (left v) x.0.0 x.1.cuts (omega arith) refl
      (λ fit. subst (λ returns. r.IsReturn P f returns (Some v.rest)) (sym (pointer_given s.gives pointer x.0.0.gives)) (x.1.rest fit)) refl refl))

  exit_of_shows : (at : ℕ) (list : List Argument) → AllValid list → Shows whole Exiting InOrder (c.exit_of s at list (one list))
  exit_of_shows at [] valid = shows_as (c.looked_call s []) (λ b. b.0) (λ _ _ is. is) (looked_call_shows [] valid)
  exit_of_shows at (x ∷ []) valid = exit_shows at x valid.0
  exit_of_shows at (x ∷ y ∷ more) valid = shows_as (c.looked_call s (x ∷ y ∷ more)) (λ b. b.0) (λ _ _ is. is) (looked_call_shows (x ∷ y ∷ more) valid)

  -- ---- mutexes and barriers

  mutex_init_shows : (at : ℕ) (mutex attributes : Argument) → AreValid (argument_leaves mutex) → AreValid (argument_leaves attributes) →
      Shows whole Now InOrder (c.mutex_init s at mutex attributes)
  unfolding c.mutex_init
  mutex_init_shows at mutex attributes h0 h1 =
      let made = λ (m : Cut ObjectPlace). c.thread_call at m.cuts (ThreadCall.MutexInit m.rest) in
      shows_then (a.address_argument s Mutex mutex at none) (λ m. a.null_argument s attributes >> pure (made m))
      (shows_as (a.address_argument s Mutex mutex at none) starts (λ _ _ is. is) (p.address_argument_shows whole P number f small s Mutex mutex h0 from 0 at none))
      (λ m. shows_then (a.null_argument s attributes) (λ _. pure (made m))
      (shows_as (a.null_argument s attributes) (λ x. x.0) (λ _ _ is. is) (p.null_argument_shows whole P number f small s attributes h1))
      (λ _. shows_pure (made m) (λ x. thread_is at (0 + object_place_weight m.rest) m.cuts (ThreadCall.MutexInit m.rest) x.0.0 x.0.1.cuts (omega arith) x.0.1.rest refl)))

  mutex_init_of_shows : (at : ℕ) (list : List Argument) → AllValid list → Shows whole Now InOrder (c.mutex_init_of s at list (two list))
  mutex_init_of_shows at [] valid = looked_call_shows [] valid
  mutex_init_of_shows at (x ∷ []) valid = looked_call_shows (x ∷ []) valid
  mutex_init_of_shows at (x ∷ y ∷ []) valid = mutex_init_shows at x y valid.0 valid.1.0
  mutex_init_of_shows at (x ∷ y ∷ z ∷ more) valid = looked_call_shows (x ∷ y ∷ z ∷ more) valid

  barrier_init_shows : (at : ℕ) (barrier attributes count : Argument) → AreValid (argument_leaves barrier) → AreValid (argument_leaves attributes) →
      AreValid (argument_leaves count) → Shows whole Now InOrder (c.barrier_init s at barrier attributes count)
  unfolding c.barrier_init
  barrier_init_shows at barrier attributes count h0 h1 h2 =
      let made = λ (o : Cut ObjectPlace) (k : Cut Expression). c.thread_call at k.cuts (ThreadCall.BarrierInit o.rest k.rest) in
      let counted = λ (o : Cut ObjectPlace). a.value_argument s count at o.cuts >>= (λ k. pure (made o k)) in
      shows_then (a.address_argument s Barrier barrier at none) (λ o. a.null_argument s attributes >> counted o)
      (shows_as (a.address_argument s Barrier barrier at none) starts (λ _ _ is. is) (p.address_argument_shows whole P number f small s Barrier barrier h0 from 0 at none))
      (λ o. shows_then (a.null_argument s attributes) (λ _. counted o)
      (shows_as (a.null_argument s attributes) (λ x. x.0) (λ _ _ is. is) (p.null_argument_shows whole P number f small s attributes h1))
      (λ _. shows_then (a.value_argument s count at o.cuts) (λ k. pure (made o k))
      (shows_as (a.value_argument s count at o.cuts) (λ x. (x.0.0, x.0.1.cuts)) (λ _ _ is. is)
      (p.value_argument_shows whole P number f small s count h2 from (0 + object_place_weight o.rest) at o.cuts))
      (λ k. shows_pure (made o k)
      (λ x. thread_is at (0 + object_place_weight o.rest + u.value_room k.rest) k.cuts (ThreadCall.BarrierInit o.rest k.rest) x.0.0.0 x.1.cuts (omega arith)
      (λ fit. (x.0.0.1.rest (let more = x.1.more in omega (arith, fit, more)), x.1.rest fit)) refl))))

  barrier_init_of_shows : (at : ℕ) (list : List Argument) → AllValid list → Shows whole Now InOrder (c.barrier_init_of s at list (three list))
  barrier_init_of_shows at [] valid = looked_call_shows [] valid
  barrier_init_of_shows at (x ∷ []) valid = looked_call_shows (x ∷ []) valid
  barrier_init_of_shows at (x ∷ y ∷ []) valid = looked_call_shows (x ∷ y ∷ []) valid
  barrier_init_of_shows at (x ∷ y ∷ z ∷ []) valid = barrier_init_shows at x y z valid.0 valid.1.0 valid.1.1.0
  barrier_init_of_shows at (x ∷ y ∷ z ∷ w ∷ more) valid = looked_call_shows (x ∷ y ∷ z ∷ w ∷ more) valid

  -- the calls of one object
  abbrev IsOfObject : LibraryFunction → Type 0
  IsOfObject library.MutexDestroy = ⊤
  IsOfObject library.MutexLock = ⊤
  IsOfObject library.MutexUnlock = ⊤
  IsOfObject library.BarrierDestroy = ⊤
  IsOfObject library.BarrierWait = ⊤
  IsOfObject function = ⊥

  on_object_weighs : (function : LibraryFunction) (o : ObjectPlace) → object_place_weight o ≤ thread_call_weight (c.on_object function o)
  on_object_weighs library.MutexDestroy o = omega arith
  on_object_weighs library.MutexLock o = omega arith
  on_object_weighs library.MutexUnlock o = omega arith
  on_object_weighs library.BarrierDestroy o = omega arith
  on_object_weighs library.BarrierWait o = omega arith
  on_object_weighs library.Print o = omega arith
  on_object_weighs library.Create o = omega arith
  on_object_weighs library.Join o = omega arith
  on_object_weighs library.Exit o = omega arith
  on_object_weighs library.MutexInit o = omega arith
  on_object_weighs library.BarrierInit o = omega arith

  on_object_is : (function : LibraryFunction) (o : ObjectPlace) → IsOfObject function → IsObjectAt P f (c.object_kind function) o → r.IsThreadCall P f (c.on_object function o)
  on_object_is library.MutexDestroy o of is = is
  on_object_is library.MutexLock o of is = is
  on_object_is library.MutexUnlock o of is = is
  on_object_is library.BarrierDestroy o of is = is
  on_object_is library.BarrierWait o of is = is
  on_object_is library.Print o of is = absurd of
  on_object_is library.Create o of is = absurd of
  on_object_is library.Join o of is = absurd of
  on_object_is library.Exit o of is = absurd of
  on_object_is library.MutexInit o of is = absurd of
  on_object_is library.BarrierInit o of is = absurd of

  on_object_creates : (function : LibraryFunction) (at : ℕ) (o : ObjectPlace) → r.creates_of (Statement.Thread at (c.on_object function o)) ≡ []
  on_object_creates library.MutexDestroy at o = refl
  on_object_creates library.MutexLock at o = refl
  on_object_creates library.MutexUnlock at o = refl
  on_object_creates library.BarrierDestroy at o = refl
  on_object_creates library.BarrierWait at o = refl
  on_object_creates library.Print at o = refl
  on_object_creates library.Create at o = refl
  on_object_creates library.Join at o = refl
  on_object_creates library.Exit at o = refl
  on_object_creates library.MutexInit at o = refl
  on_object_creates library.BarrierInit at o = refl

  object_statement_shows : (function : LibraryFunction) (at : ℕ) (x : Argument) → IsOfObject function → AreValid (argument_leaves x) →
      Shows whole Now InOrder (c.object_statement s function at x)
  unfolding c.object_statement
  object_statement_shows function at x of h =
      let kind = c.object_kind function in
      let made = λ (o : Cut ObjectPlace). c.thread_call at o.cuts (c.on_object function o.rest) in
      shows_then (a.address_argument s kind x at none) (λ o. pure (made o))
      (shows_as (a.address_argument s kind x at none) starts (λ _ _ is. is) (p.address_argument_shows whole P number f small s kind x h from 0 at none))
      (λ o. shows_pure (made o)
      (λ x. thread_is at (0 + object_place_weight o.rest) o.cuts (c.on_object function o.rest) x.0 x.1.cuts (let le = on_object_weighs function o.rest in omega (arith, le))
      (λ fit. on_object_is function o.rest of (x.1.rest fit)) (on_object_creates function at o.rest)))

  object_call_shows : (function : LibraryFunction) (at : ℕ) (list : List Argument) → IsOfObject function → AllValid list →
      Shows whole Now InOrder (c.object_call s function at list)
  unfolding c.object_call
  object_call_shows function at [] of valid = looked_call_shows [] valid
  object_call_shows function at (x ∷ []) of valid = object_statement_shows function at x of valid.0
  object_call_shows function at (x ∷ y ∷ more) of valid = looked_call_shows (x ∷ y ∷ more) valid

  -- ---- printf

  format_in_is : (y : a.ArgumentLayer) → ValidLayer y → IfAny (AllByRecursion r.IsPiece) (c.format_in y)
  format_in_is (Argument-F.Text [] at) valid = tt
  format_in_is (Argument-F.Text (byte ∷ more) at) valid = pieces_are (byte ∷ more) valid
  format_in_is (Argument-F.Value e) valid = tt
  format_in_is (Argument-F.Address p at) valid = tt
  format_in_is (Argument-F.Pointer p) valid = tt

  printed_is : (at : ℕ) (format : Option (List Piece)) (values : Cut (List Expression)) (count : ℕ) → Now → IfAny (AllByRecursion r.IsPiece) format →
      not (c.takes format count) ≡ false → l.Passing whole P number f small s count from 0 none values → InOrder (c.printed at format values)
  printed_is at None values count now pieces takes is = cc
  printed_is at (Some pieces) values count now are takes is =
      let parts = and_parts (nat_eq (count_by r.is_conversion pieces) count) (nat_le count 4) (not-false (c.takes (Some pieces) count) takes) in
      let most : length values.rest ≤ 4 = subst (λ n. n ≤ 4) (sym is.1) (leb-true count 4 parts.1) in
      b.plain_behind whole P number f around s (0 + arguments_weight values.rest) values.cuts (Statement.Print at pieces values.rest) now is.0.cuts (omega (arith, most)) refl
      (λ fit. record { pieces = are; count = eqb-true (count_by r.is_conversion pieces) count parts.0 ∙ sym is.1; most = most; passed = is.0.rest fit }) refl refl

  print_arguments_show : (at : ℕ) (first : Argument) (values : List Argument) → AreValid (argument_leaves first) → AllValid values →
      Shows whole Now InOrder (c.print_arguments s at first values)
  unfolding c.print_arguments
  print_arguments_show at first values h all =
      let format = c.format first in
      let misfits = finds_if (not (c.takes format (length values))) rule.Format (argument_offset first) in
      let valued = all_passed s values at none >>= (λ v. pure (c.printed at format v)) in
      shows_then misfits (λ _. looked_argument s first >> valued) (shows_if (not (c.takes format (length values))) rule.Format (argument_offset first))
      (λ _. shows_then (looked_argument s first) (λ _. valued)
      (shows_as (looked_argument s first) (λ x. x.0) (λ _ _ is. is) (argument_shows whole P number f small s first h).looked)
      (λ _. shows_then (all_passed s values at none) (λ v. pure (c.printed at format v))
      (shows_as (all_passed s values at none) (λ x. starts x.0.0) (λ _ _ is. is) (p.value_arguments_show whole P number f small s values all from 0 at none))
      (λ v. shows_pure (c.printed at format v)
      (λ x. printed_is at format v (length values) x.0.0.0 (format_in_is (out-Argument first) (argument_valid first h)) x.0.0.1 x.1))))

  print_call_shows : (at name_at : ℕ) (list : List Argument) → AllValid list → Shows whole Now InOrder (c.print_call s at name_at list)
  unfolding c.print_call
  print_call_shows at name_at [] valid =
      shows_then (finds rule.Format name_at) (λ _. pure Statement.Empty) (shows_broken {Is = λ _. ⊤} rule.Format name_at) (λ _. shows_pure Statement.Empty (λ _. empty))
  print_call_shows at name_at (first ∷ values) valid = print_arguments_show at first values valid.0 valid.1

  -- ---- calls of the library

  library_statement_shows : (function : LibraryFunction) (at name_at : ℕ) (list : List Argument) → AllValid list →
      Shows whole (Now × IsPlaced whole number s function) InOrder (c.library_statement s function at name_at list)
  unfolding c.library_statement c.create_call c.join_call c.exit_call c.mutex_init_call c.barrier_init_call
  library_statement_shows library.Print at name_at list valid = shows_as (c.print_call s at name_at list) (λ b. b.0) (λ _ _ is. is) (print_call_shows at name_at list valid)
  library_statement_shows library.Create at name_at list valid =
      shows_as (c.create_of s at list (four list)) (λ b. b.0) (λ _ _ is. is) (create_of_shows at list valid)
  library_statement_shows library.Join at name_at list valid =
      shows_as (c.join_of s at list (two list)) (λ b. b.0) (λ _ _ is. is) (join_of_shows at list valid)
  library_statement_shows library.Exit at name_at list valid = exit_of_shows at list valid
  library_statement_shows library.MutexInit at name_at list valid =
      shows_as (c.mutex_init_of s at list (two list)) (λ b. b.0) (λ _ _ is. is) (mutex_init_of_shows at list valid)
  library_statement_shows library.BarrierInit at name_at list valid =
      shows_as (c.barrier_init_of s at list (three list)) (λ b. b.0) (λ _ _ is. is) (barrier_init_of_shows at list valid)
  library_statement_shows library.MutexDestroy at name_at list valid =
      shows_as (c.object_call s library.MutexDestroy at list) (λ b. b.0) (λ _ _ is. is) (object_call_shows library.MutexDestroy at list tt valid)
  library_statement_shows library.MutexLock at name_at list valid =
      shows_as (c.object_call s library.MutexLock at list) (λ b. b.0) (λ _ _ is. is) (object_call_shows library.MutexLock at list tt valid)
  library_statement_shows library.MutexUnlock at name_at list valid =
      shows_as (c.object_call s library.MutexUnlock at list) (λ b. b.0) (λ _ _ is. is) (object_call_shows library.MutexUnlock at list tt valid)
  library_statement_shows library.BarrierDestroy at name_at list valid =
      shows_as (c.object_call s library.BarrierDestroy at list) (λ b. b.0) (λ _ _ is. is) (object_call_shows library.BarrierDestroy at list tt valid)
  library_statement_shows library.BarrierWait at name_at list valid =
      shows_as (c.object_call s library.BarrierWait at list) (λ b. b.0) (λ _ _ is. is) (object_call_shows library.BarrierWait at list tt valid)

  library_call_shows : (function : LibraryFunction) (at name_at : ℕ) (list : List Argument) → AllValid list → Shows whole Now InOrder (c.library_call s function at name_at list)
  unfolding c.library_call
  library_call_shows function at name_at list valid =
      shows_then (library_name s function (length list) name_at) (λ _. c.library_statement s function at name_at list)
      (shows_as (library_name s function (length list) name_at) (λ (now : Now). now.function) (λ _ _ is. is) (library_name_shows number s function (length list) name_at))
      (λ _. shows_as (c.library_statement s function at name_at list) (λ b. (b.0, b.1.1)) (λ _ _ is. is) (library_statement_shows function at name_at list valid))

  -- ---- calls of functions of the program

  called_is : (at : ℕ) (h : Option Header) (count : ℕ) (d : Option ℕ) (values : Cut (List Expression)) → Now → IfAny (IsHeader P) h → IsCallOf whole number h count false d →
      l.Passing whole P number f small s count from 0 none values → InOrder (c.called at d values)
  called_is at None count d values now header called is = absurd called
  called_is at (Some h) count None values now header called is = empty
  called_is at (Some h) count (Some callee) values now header called is =
      b.behind_is whole P number f around s (0 + arguments_weight values.rest) values.cuts (Statement.Call at None callee values.rest) now is.0.cuts (omega arith) refl
      (λ fit. is_dropped_call P f h count header callee values.rest (sym called.0) called.1 (is.0.rest fit) is.1)
      (λ g inside. subst (λ n. IsFoundCall whole number n) (in_one callee g inside) called.2)
      (λ thread routine inside. absurd (in_none (thread, routine) inside))

  function_statement_shows : (header at name_at : ℕ) (list : List Argument) → AllValid list → Shows whole Now InOrder (c.function_statement s header at name_at list)
  unfolding c.function_statement
  function_statement_shows header at name_at list valid =
      let h = slice_get s.headers header in
      shows_then (function_name s header (length list) false name_at) (λ d. all_passed s list at none >>= (λ values. pure (c.called at d values)))
      (shows_as (function_name s header (length list) false name_at) (λ (now : Now). now.function) (λ _ _ is. is) (function_name_shows number s header (length list) false name_at))
      (λ d. shows_then (all_passed s list at none) (λ values. pure (c.called at d values))
      (shows_as (all_passed s list at none) (λ x. starts x.0) (λ _ _ is. is) (p.value_arguments_show whole P number f small s list valid from 0 at none))
      (λ values. shows_pure (c.called at d values)
      (λ x. called_is at h (length list) d values x.0.0 (element_is (IsHeader P) s.headers header x.0.0.headers) x.0.1 x.1)))

  -- ---- calls of other names

  other_call_shows : (k : Known) (name_at : ℕ) (list : List Argument) → AllValid list → (Now → IsKnown P f k) → Shows whole Now InOrder (c.other_call s k name_at list)
  unfolding c.other_call
  other_call_shows k name_at list valid is =
      shows_then (no_function k name_at) (λ _. c.looked_call s list)
      (shows_as (no_function k name_at) (λ now. known_apart P f k (is now)) (λ _ _ no. no) (no_function_shows k name_at))
      (λ _. shows_as (c.looked_call s list) (λ x. x.0) (λ _ _ is. is) (looked_call_shows list valid))

  call_of_shows : (k : Known) (at name_at : ℕ) (list : List Argument) → AllValid list → (Now → IsKnown P f k) → Shows whole Now InOrder (c.call_of s k at name_at list)
  unfolding c.call_of
  call_of_shows (known.Library function) at name_at list valid is = library_call_shows function at name_at list valid
  call_of_shows (known.Declared (meaning.Function header)) at name_at list valid is = function_statement_shows header at name_at list valid
  call_of_shows (known.Declared (meaning.Variable v)) at name_at list valid is = other_call_shows (known.Declared (meaning.Variable v)) name_at list valid is
  call_of_shows (known.Declared meaning.Argument) at name_at list valid is = other_call_shows (known.Declared meaning.Argument) name_at list valid is
  call_of_shows (known.Declared (meaning.Object o)) at name_at list valid is = other_call_shows (known.Declared (meaning.Object o)) name_at list valid is
  call_of_shows (known.Declared meaning.Unusable) at name_at list valid is = other_call_shows (known.Declared meaning.Unusable) name_at list valid is
  call_of_shows known.Unknown at name_at list valid is = other_call_shows known.Unknown name_at list valid is

  pub call_shows : (at : ℕ) (x : CallTree) → AreValid (call_leaves x) → Shows whole Now InOrder (c.call s at x)
  unfolding c.call
  call_shows at x valid =
      let name = (out-Call x).name in
      call_of_shows (look_up s name.bytes) at name.offset (out-Call x).arguments (call_valid x valid) (look_up_is P number f s name.bytes)
