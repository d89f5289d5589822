-- What the sets at a thread's point say of a state, and how it is kept while threads go on.
use Rattle.std.proofs.Common.{◌≡◌, ◌≢◌, ℕ, ◌+◌, ◌<◌, List, length, refl, sym, ◌∙◌, ap, subst, ⊎_elim, arith}
use Rattle.std.specs.Prelude.{true, false, nat_eq, Option, Some, None, slice_get, slice_set}
use Rattle.std.proofs.lemmas.Bool.{cases_eq, false≢true}
use Rattle.lists.proofs.Places.{set_there, set_elsewhere}
use Rattle.c_program.specs.declared.tree.ThreadObject.{ThreadObject}
use Rattle.c_program.specs.declared.tree.MutexObject.{MutexObject}
use Rattle.c_program.specs.Tree.{Expression, ObjectPlace, ThreadCall, Program}
use Rattle.c_program.specs.Resolved.{object_of, thread_length, mutex_length}
use Rattle.thread_semantics.specs.declared.object.MutexState.{MutexState}
use Rattle.thread_semantics.specs.declared.object.MutexState.TheVariants.{Free, Owned}
use Rattle.thread_semantics.specs.State.{Frame, Slot, Unused, Running, State}
use Rattle.thread_semantics.specs.Move.{first_thread, first_mutex}
use Rattle.lock_discipline.specs.Sets.{Sets, has, taken_out, past}
use Rattle.lock_discipline.specs.Walk.{Walker}
use Rattle.lock_discipline.proofs.Order.{IsBelow, set_back, unset_has, unset_back}
use Rattle.lock_discipline.proofs.Numbers.{one_object}
use Rattle.lock_discipline.proofs.Operands.{IsNumber, threads_at, mutexes_at}
use Rattle.lock_discipline.proofs.Runners.{runner}

module _ (P : Program) where
  -- whose walk a thread's is
  abbrev pub walker : ℕ → Walker
  walker i = record { main = nat_eq i 0; function = runner P i; threads = length P.threads }

  -- thread i holds the mutex, which is an object with an element
  pub record IsHeld (s : State) (i m : ℕ) : Type 0 where
    pub object : MutexObject
    pub found : slice_get P.mutexes m ≡ Some object
    pub some : 0 < object.length
    pub owned : slice_get s.mutexes (first_mutex P m) ≡ Some (Owned i)

  -- j is a thread id of the object t
  pub record IsIdOf (t j : ℕ) : Type 0 where
    pub object : ThreadObject
    pub found : slice_get P.threads t ≡ Some object
    pub place : ℕ
    pub inside : place < object.length
    pub is : j ≡ first_thread P t + place

  -- the sets are right of the state, for thread i
  pub record IsSure (s : State) (i : ℕ) (a : Sets) : Type 0 where
    pub held : (m : ℕ) → has a.held m ≡ true → IsHeld s i m
    pub unused : i ≡ 0 → (t j : ℕ) → has a.unused t ≡ true → IsIdOf t j → slice_get s.slots j ≡ Some Unused

  pub sure_below : (s : State) (i : ℕ) (a b : Sets) → IsBelow a b → IsSure s i b → IsSure s i a
  sure_below s i a b p q = record { held = λ m h. q.held m (p.held m h); unused = λ z t j h. q.unused z t j (p.unused t h) }

  -- ---- changes of slots

  -- a thread that runs gets other calls, or ends
  pub sure_moved : (s t : State) (i k : ℕ) (a : Sets) (old : List Frame) (slot : Slot) → slice_get s.slots i ≡ Some (Running old) → t.slots ≡ slice_set s.slots i slot → t.mutexes ≡ s.mutexes →
      IsSure s k a → IsSure t k a
  sure_moved s t i k a old slot at slots mutexes q = record {
    held = λ m h. (let w = q.held m h in
        record { object = w.object; found = w.found; some = w.some; owned = ap (λ (ms : List MutexState). slice_get ms (first_mutex P m)) mutexes ∙ w.owned });
    unused = λ z x j h id. (let was : slice_get s.slots j ≡ Some Unused = q.unused z x j h id in
        let other : i ≢ j = λ same. apart j was (ap (λ n. slice_get s.slots n) (sym same) ∙ at) in
        ap (λ (ss : List Slot). slice_get ss j) slots ∙ set_elsewhere s.slots i j slot other ∙ was);
  }
    where
      apart : (j : ℕ) → slice_get s.slots j ≡ Some Unused → slice_get s.slots j ≡ Some (Running old) → ⊥
      apart j u r = let no = sym u ∙ r in cc

  -- another change of slots, of which main doesn't hear
  pub sure_other : (s t : State) (k : ℕ) (a : Sets) → k ≢ 0 → t.mutexes ≡ s.mutexes → IsSure s k a → IsSure t k a
  sure_other s t k a other mutexes q = record {
    held = λ m h. (let w = q.held m h in
        record { object = w.object; found = w.found; some = w.some; owned = ap (λ (ms : List MutexState). slice_get ms (first_mutex P m)) mutexes ∙ w.owned });
    unused = λ z. absurd (other z);
  }

  -- nothing of it changes
  pub sure_same : (s t : State) (k : ℕ) (a : Sets) → t.slots ≡ s.slots → t.mutexes ≡ s.mutexes → IsSure s k a → IsSure t k a
  sure_same s t k a slots mutexes q = record {
    held = λ m h. (let w = q.held m h in
        record { object = w.object; found = w.found; some = w.some; owned = ap (λ (ms : List MutexState). slice_get ms (first_mutex P m)) mutexes ∙ w.owned });
    unused = λ z x j h id. ap (λ (ss : List Slot). slice_get ss j) slots ∙ q.unused z x j h id;
  }

  -- ---- changes of a mutex

  -- a mutex that thread k doesn't own
  pub sure_mutex : (s t : State) (k n : ℕ) (a : Sets) (old new : MutexState) → slice_get s.mutexes n ≡ Some old → (old ≡ Owned k → ⊥) →
      t.slots ≡ s.slots → t.mutexes ≡ slice_set s.mutexes n new → IsSure s k a → IsSure t k a
  sure_mutex s t k n a old new at foreign slots mutexes q = record {
    held = λ m h. (let w = q.held m h in
        let other : n ≢ first_mutex P m = λ same. foreign (same_state old (Owned k) (sym at ∙ ap (λ x. slice_get s.mutexes x) same ∙ w.owned)) in
        record {
          object = w.object;
          found = w.found;
          some = w.some;
          owned = ap (λ (ms : List MutexState). slice_get ms (first_mutex P m)) mutexes ∙ set_elsewhere s.mutexes n (first_mutex P m) new other ∙ w.owned;
        });
    unused = λ z x j h id. ap (λ (ss : List Slot). slice_get ss j) slots ∙ q.unused z x j h id;
  }
    where
      same_state : (x y : MutexState) → Some x ≡ Some y → x ≡ y
      same_state x y e = cc

  -- the object of a number is that of its place
  mutex_there : (m l : ℕ) → mutexes_at P m ≡ Some l → (o : MutexObject) × (slice_get P.mutexes m ≡ Some o) × (o.length ≡ l)
  mutex_there m l e = go (slice_get P.mutexes m) refl e
    where
      go : (o : Option MutexObject) → slice_get P.mutexes m ≡ o → mutex_length o ≡ Some l → (o : MutexObject) × (slice_get P.mutexes m ≡ Some o) × (o.length ≡ l)
      go None q x = absurd cc
      go (Some o) q x = let same : o.length ≡ l = cc in (o, q, same)

  pub thread_there : (x l : ℕ) → threads_at P x ≡ Some l → (o : ThreadObject) × (slice_get P.threads x ≡ Some o) × (o.length ≡ l)
  thread_there x l e = go (slice_get P.threads x) refl e
    where
      go : (o : Option ThreadObject) → slice_get P.threads x ≡ o → thread_length o ≡ Some l → (o : ThreadObject) × (slice_get P.threads x ≡ Some o) × (o.length ≡ l)
      go None q x = absurd cc
      go (Some o) q x = let same : o.length ≡ l = cc in (o, q, same)

  -- an unlock of an element of the object x
  pub sure_unlocked : (s t : State) (i n : ℕ) (a : Sets) (mutex : ObjectPlace) → IsNumber (first_mutex P) (mutexes_at P) mutex n →
      t.slots ≡ s.slots → t.mutexes ≡ slice_set s.mutexes n Free → IsSure s i a → IsSure t i (taken_out a (ThreadCall.MutexUnlock mutex))
  sure_unlocked s t i n a mutex number slots mutexes q = record {
    held = λ m h. (let w = q.held m (unset_back a.held (object_of mutex) m h) in
        let there = mutex_there (object_of mutex) number.length number.has in
        let inside = number.inside in
        let long = there.2 in
        let is = number.is in
        let object : object_of mutex ≢ m = λ same. false≢true (sym (unset_has a.held (object_of mutex)) ∙ ap (λ x. has (slice_set a.held (object_of mutex) false) x) same ∙ h) in
        let other : n ≢ first_mutex P m =
        λ same. object (one_object (λ (o : MutexObject). o.length) P.mutexes (object_of mutex) m number.index 0 there.0 w.object there.1 w.found
        (omega (arith, inside, long)) w.some (omega (arith, is, same))) in
        record {
          object = w.object;
          found = w.found;
          some = w.some;
          owned = ap (λ (ms : List MutexState). slice_get ms (first_mutex P m)) mutexes ∙ set_elsewhere s.mutexes n (first_mutex P m) Free other ∙ w.owned;
        });
    unused = λ z x j h id. ap (λ (ss : List Slot). slice_get ss j) slots ∙ q.unused z x j h id;
  }

  -- a lock of a mutex that is no array
  pub sure_locked : (s t : State) (i n m0 : ℕ) (a : Sets) → mutexes_at P m0 ≡ Some 1 → n ≡ first_mutex P m0 → slice_get s.mutexes n ≡ Some Free →
      t.slots ≡ s.slots → t.mutexes ≡ slice_set s.mutexes n (Owned i) → IsSure s i a → IsSure t i (past a (ThreadCall.MutexLock (ObjectPlace.Single m0)))
  sure_locked s t i n m0 a one is at slots mutexes q =
      let kept = sure_mutex s t i n a Free (Owned i) at (λ e. absurd cc) slots mutexes q in
      record {
        held = λ m h. ⊎_elim (λ same. subst (λ x. IsHeld t i x) same here) (λ was. kept.held m was) (set_back a.held m0 m h);
        unused = kept.unused;
      }
    where
      here : IsHeld t i m0
      here =
          let there = mutex_there m0 1 one in
          let long = there.2 in
          record {
            object = there.0;
            found = there.1;
            some = omega (arith, long);
            owned = ap (λ (ms : List MutexState). slice_get ms (first_mutex P m0)) mutexes ∙ ap (λ x. slice_get (slice_set s.mutexes n (Owned i)) x) (sym is)
                ∙ set_there s.mutexes n Free (Owned i) at;
          }

  -- ---- main's creates and joins

  -- a thread id that a create takes
  pub sure_created : (s t : State) (n : ℕ) (a : Sets) (thread : ObjectPlace) (slot : Slot) → IsNumber (first_thread P) (threads_at P) thread n →
      t.slots ≡ slice_set s.slots n slot → t.mutexes ≡ s.mutexes → IsSure s 0 a → (routine : ℕ) (argument : Expression) → IsSure t 0 (taken_out a (ThreadCall.Create thread routine argument))
  sure_created s t n a thread slot number slots mutexes q routine argument = record {
    held = λ m h. (let w = q.held m h in
        record { object = w.object; found = w.found; some = w.some; owned = ap (λ (ms : List MutexState). slice_get ms (first_mutex P m)) mutexes ∙ w.owned });
    unused = λ z x j h id. (let was : slice_get s.slots j ≡ Some Unused = q.unused z x j (unset_back a.unused (object_of thread) x h) id in
        let there = thread_there (object_of thread) number.length number.has in
        let inside = number.inside in
        let long = there.2 in
        let is = number.is in
        let at = id.is in
        let object : object_of thread ≢ x = λ same. false≢true (sym (unset_has a.unused (object_of thread)) ∙ ap (λ y. has (slice_set a.unused (object_of thread) false) y) same ∙ h) in
        let other : n ≢ j =
        λ same. object (one_object (λ (o : ThreadObject). o.length) P.threads (object_of thread) x number.index id.place there.0 id.object there.1 id.found (omega (arith, inside, long)) id.inside
        (omega (arith, is, same, at))) in
        ap (λ (ss : List Slot). slice_get ss j) slots ∙ set_elsewhere s.slots n j slot other ∙ was);
  }

  -- a thread id that a join makes unused
  pub sure_joined : (s t : State) (n : ℕ) (a : Sets) (old : Slot) → slice_get s.slots n ≡ Some old →
      t.slots ≡ slice_set s.slots n Unused → t.mutexes ≡ s.mutexes → IsSure s 0 a → IsSure t 0 a
  sure_joined s t n a old was slots mutexes q = record {
    held = λ m h. (let w = q.held m h in
        record { object = w.object; found = w.found; some = w.some; owned = ap (λ (ms : List MutexState). slice_get ms (first_mutex P m)) mutexes ∙ w.owned });
    unused = λ z x j h id. ap (λ (ss : List Slot). slice_get ss j) slots ∙ still j (q.unused z x j h id);
  }
    where
      still : (j : ℕ) → slice_get s.slots j ≡ Some Unused → slice_get (slice_set s.slots n Unused) j ≡ Some Unused
      still j e =
          ⊎_elim (λ (same : n ≡ j). subst (λ x. slice_get (slice_set s.slots n Unused) x ≡ Some Unused) same (set_there s.slots n old Unused was))
          (λ (other : n ≢ j). set_elsewhere s.slots n j Unused other ∙ e) (cases_eq n j)

  -- and then the object has none that is used
  pub sure_all_joined : (s : State) (a : Sets) (thread : ℕ) → ((j : ℕ) → IsIdOf thread j → slice_get s.slots j ≡ Some Unused) → IsSure s 0 a →
      IsSure s 0 (past a (ThreadCall.Join (ObjectPlace.Single thread)))
  sure_all_joined s a thread all q = record {
    held = q.held;
    unused = λ z x j h id.
        ⊎_elim (λ (same : thread ≡ x). all j (subst (λ y. IsIdOf y j) (sym same) id)) (λ was. q.unused z x j was id) (set_back a.unused thread x h);
  }
