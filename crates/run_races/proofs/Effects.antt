-- What an act looks at and changes: one object, or the output.
use Rattle.std.proofs.Common.{◌≡◌, ℕ, ◌+◌, List, [], ◌∷◌, ◌++◌, length, refl, sym, ap, ◌∙◌, subst, ⊎_elim}
use Rattle.std.specs.Prelude.{Bool, true, false, if◌then◌else◌, nat_eq, Option, Some, None, slice_get, slice_set, ℤ, unsigned_abs}
use Rattle.std.proofs.lemmas.Bool.{eqb-true, eq-eqb}
use Rattle.c_program.specs.Tree.{Program}
use Rattle.thread_semantics.specs.declared.object.MutexState.{MutexState}
use Rattle.thread_semantics.specs.declared.object.MutexState.TheVariants.{Uninitialised, Free, Owned}
use Rattle.thread_semantics.specs.declared.cause.UndefinedCause.TheVariants.{Mutex, Barrier as BarrierCause}
use Rattle.thread_semantics.specs.Work.{Act}
use Rattle.thread_semantics.specs.State.{Slot, Unused, Running, Finished, Barrier, NoBarrier, Awaits, State, started}
use Rattle.thread_semantics.specs.Step.{Stepped, Steps, with_slot, created, joined, with_mutex, mutex_initialised, mutex_destroyed, mutex_locked, mutex_unlocked}
use Rattle.thread_semantics.specs.Step.{printed, with_barrier, is_count, barrier_initialised, barrier_destroyed, barrier_met, object_operand, value_operand, acted}
use Rattle.race_model.proofs.Acts.{one_of}

pub record AtSlot (s t : State) (n : ℕ) (old new : Slot) : Type 0 where
  pub was : slice_get s.slots n ≡ Some old
  pub is : t ≡ record s { slots = slice_set s.slots n new }

pub record AtMutex (s t : State) (n : ℕ) (old new : MutexState) : Type 0 where
  pub was : slice_get s.mutexes n ≡ Some old
  pub is : t ≡ record s { mutexes = slice_set s.mutexes n new }

pub record AtBarrier (s t : State) (n : ℕ) (old new : Barrier) : Type 0 where
  pub was : slice_get s.barriers n ≡ Some old
  pub is : t ≡ record s { barriers = slice_set s.barriers n new }

-- a barrier to which thread i comes
abbrev pub come_to : ℕ → ℤ → List ℕ → Barrier
come_to i count waiters = if nat_eq (length waiters + 1) (unsigned_abs count) then Awaits count [] else Awaits count (i ∷ waiters)

-- t is what this act of thread i on the object n leaves of s
abbrev pub Effect : Program → State → State → ℕ → ℕ → ℤ → List ℤ → Act → Type 0
Effect P s t i n v operands (Act.Print format) = t ≡ record s { output = s.output ++ printed format operands }
Effect P s t i n v operands (Act.Create routine) = AtSlot s t n Unused (Running (started (slice_get P.functions routine) routine (v ∷ [])))
Effect P s t i n v operands Act.Join = AtSlot s t n Finished Unused
Effect P s t i n v operands Act.MutexInit = AtMutex s t n Uninitialised Free
Effect P s t i n v operands Act.MutexDestroy = AtMutex s t n Free Uninitialised
Effect P s t i n v operands Act.MutexLock = AtMutex s t n Free (Owned i)
Effect P s t i n v operands Act.MutexUnlock = AtMutex s t n (Owned i) Free
Effect P s t i n v operands Act.BarrierInit = (is_count v ≡ true) × AtBarrier s t n NoBarrier (Awaits v [])
Effect P s t i n v operands Act.BarrierDestroy = (count : ℤ) × AtBarrier s t n (Awaits count []) NoBarrier
Effect P s t i n v operands Act.BarrierWait = (count : ℤ) × (waiters : List ℕ) × AtBarrier s t n (Awaits count waiters) (come_to i count waiters)

module _ (P : Program) (s t : State) (i offset n : ℕ) (v : ℤ) (operands : List ℤ) where
  to_slot : (old new : Slot) → slice_get s.slots n ≡ Some old → Steps (with_slot s n new) ≡ Steps t → AtSlot s t n old new
  to_slot old new was e = let same : with_slot s n new ≡ t = cc in record { was = was; is = sym same }

  to_mutex : (old new : MutexState) → slice_get s.mutexes n ≡ Some old → with_mutex s n new ≡ Steps t → AtMutex s t n old new
  to_mutex old new was e =
      let same : record s { mutexes = slice_set s.mutexes n new } ≡ t = cc in
      record { was = was; is = sym same }

  to_barrier : (old new : Barrier) → slice_get s.barriers n ≡ Some old → with_barrier s n new ≡ Steps t → AtBarrier s t n old new
  to_barrier old new was e =
      let same : record s { barriers = slice_set s.barriers n new } ≡ t = cc in
      record { was = was; is = sym same }

  created_effect : (routine : ℕ) (o : Option Slot) → slice_get s.slots n ≡ o → created P s offset routine v n o ≡ Steps t → Effect P s t i n v operands (Act.Create routine)
  created_effect routine (Some Unused) at e = to_slot Unused (Running (started (slice_get P.functions routine) routine (v ∷ []))) at e
  created_effect routine (Some (Running frames)) at e = absurd cc
  created_effect routine (Some Finished) at e = absurd cc
  created_effect routine None at e = absurd cc

  joined_effect : (o : Option Slot) → slice_get s.slots n ≡ o → joined s i offset n o ≡ Steps t → Effect P s t i n v operands Act.Join
  joined_effect (Some Finished) at e = to_slot Finished Unused at e
  joined_effect (Some Unused) at e = absurd cc
  joined_effect (Some (Running frames)) at e = ⊎_elim (λ x. absurd (let no = x.1 in cc)) (λ x. absurd (let no = x.1 in cc)) (one_of (nat_eq i n) _ _ t e)
  joined_effect None at e = absurd cc

  initialised_effect : (o : Option MutexState) → slice_get s.mutexes n ≡ o → mutex_initialised s offset n o ≡ Steps t → Effect P s t i n v operands Act.MutexInit
  initialised_effect (Some Uninitialised) at e = to_mutex Uninitialised Free at e
  initialised_effect (Some Free) at e = absurd cc
  initialised_effect (Some (Owned j)) at e = absurd cc
  initialised_effect None at e = absurd cc

  destroyed_effect : (o : Option MutexState) → slice_get s.mutexes n ≡ o → mutex_destroyed s offset n o ≡ Steps t → Effect P s t i n v operands Act.MutexDestroy
  destroyed_effect (Some Free) at e = to_mutex Free Uninitialised at e
  destroyed_effect (Some Uninitialised) at e = absurd cc
  destroyed_effect (Some (Owned j)) at e = absurd cc
  destroyed_effect None at e = absurd cc

  locked_effect : (o : Option MutexState) → slice_get s.mutexes n ≡ o → mutex_locked s i offset n o ≡ Steps t → Effect P s t i n v operands Act.MutexLock
  locked_effect (Some Free) at e = to_mutex Free (Owned i) at e
  locked_effect (Some Uninitialised) at e = absurd cc
  locked_effect (Some (Owned j)) at e = ⊎_elim (λ x. absurd (cc x.1)) (λ x. absurd (cc x.1)) (one_of (nat_eq i j) _ _ t e)
  locked_effect None at e = absurd cc

  unlocked_effect : (o : Option MutexState) → slice_get s.mutexes n ≡ o → mutex_unlocked s i offset n o ≡ Steps t → Effect P s t i n v operands Act.MutexUnlock
  unlocked_effect (Some (Owned j)) at e =
      ⊎_elim
      (λ x. (let same : i ≡ j = eqb-true i j x.0 in
      to_mutex (Owned i) Free (subst (λ k. slice_get s.mutexes n ≡ Some (Owned k)) (sym same) at) x.1))
      (λ x. absurd (cc x.1)) (one_of (nat_eq i j) _ _ t e)
  unlocked_effect (Some Uninitialised) at e = absurd cc
  unlocked_effect (Some Free) at e = absurd cc
  unlocked_effect None at e = absurd cc

  begun_effect : (o : Option Barrier) → slice_get s.barriers n ≡ o → barrier_initialised s offset v n o ≡ Steps t → Effect P s t i n v operands Act.BarrierInit
  begun_effect (Some NoBarrier) at e =
      ⊎_elim (λ x. (x.0, to_barrier NoBarrier (Awaits v []) at x.1)) (λ x. absurd (cc x.1)) (one_of (is_count v) _ _ t e)
  begun_effect (Some (Awaits c waiters)) at e = absurd cc
  begun_effect None at e = absurd cc

  gone_effect : (o : Option Barrier) → slice_get s.barriers n ≡ o → barrier_destroyed s offset n o ≡ Steps t → Effect P s t i n v operands Act.BarrierDestroy
  gone_effect (Some (Awaits c [])) at e = (c, to_barrier (Awaits c []) NoBarrier at e)
  gone_effect (Some (Awaits c (first ∷ waiters))) at e = absurd cc
  gone_effect (Some NoBarrier) at e = absurd cc
  gone_effect None at e = absurd cc

  comes : (c : ℤ) (waiters : List ℕ) (b : Bool) →
      (if b then with_barrier s n (Awaits c []) else with_barrier s n (Awaits c (i ∷ waiters)))
      ≡ with_barrier s n (if b then Awaits c [] else Awaits c (i ∷ waiters))
  comes c waiters true = refl
  comes c waiters false = refl

  met_effect : (o : Option Barrier) → slice_get s.barriers n ≡ o → barrier_met s i offset n o ≡ Steps t → Effect P s t i n v operands Act.BarrierWait
  met_effect (Some (Awaits c waiters)) at e =
      (c, waiters, to_barrier (Awaits c waiters) (come_to i c waiters) at (sym (comes c waiters (nat_eq (length waiters + 1) (unsigned_abs c))) ∙ e))
  met_effect (Some NoBarrier) at e = absurd cc
  met_effect None at e = absurd cc

-- what an act leaves
pub act_effect : (P : Program) (s t : State) (i offset : ℕ) (act : Act) (operands : List ℤ) → acted P s i offset act operands ≡ Steps t →
    Effect P s t i (object_operand operands) (value_operand operands) operands act
act_effect P s t i offset (Act.Print format) operands e =
    let same : record s { output = s.output ++ printed format operands } ≡ t = cc in
    sym same
act_effect P s t i offset (Act.Create routine) operands e =
    created_effect P s t i offset (object_operand operands) (value_operand operands) operands routine (slice_get s.slots (object_operand operands)) refl e
act_effect P s t i offset Act.Join operands e =
    joined_effect P s t i offset (object_operand operands) (value_operand operands) operands (slice_get s.slots (object_operand operands)) refl e
act_effect P s t i offset Act.MutexInit operands e =
    initialised_effect P s t i offset (object_operand operands) (value_operand operands) operands (slice_get s.mutexes (object_operand operands)) refl e
act_effect P s t i offset Act.MutexDestroy operands e =
    destroyed_effect P s t i offset (object_operand operands) (value_operand operands) operands (slice_get s.mutexes (object_operand operands)) refl e
act_effect P s t i offset Act.MutexLock operands e =
    locked_effect P s t i offset (object_operand operands) (value_operand operands) operands (slice_get s.mutexes (object_operand operands)) refl e
act_effect P s t i offset Act.MutexUnlock operands e =
    unlocked_effect P s t i offset (object_operand operands) (value_operand operands) operands (slice_get s.mutexes (object_operand operands)) refl e
act_effect P s t i offset Act.BarrierInit operands e =
    begun_effect P s t i offset (object_operand operands) (value_operand operands) operands (slice_get s.barriers (object_operand operands)) refl e
act_effect P s t i offset Act.BarrierDestroy operands e =
    gone_effect P s t i offset (object_operand operands) (value_operand operands) operands (slice_get s.barriers (object_operand operands)) refl e
act_effect P s t i offset Act.BarrierWait operands e =
    met_effect P s t i offset (object_operand operands) (value_operand operands) operands (slice_get s.barriers (object_operand operands)) refl e

-- and where the object stands so, the act is done
pub effect_acts : (P : Program) (s t : State) (i offset : ℕ) (act : Act) (operands : List ℤ) →
    Effect P s t i (object_operand operands) (value_operand operands) operands act → acted P s i offset act operands ≡ Steps t
effect_acts P s t i offset (Act.Print format) operands x = ap Steps (sym x)
effect_acts P s t i offset (Act.Create routine) operands x =
    ap (created P s offset routine (value_operand operands) (object_operand operands)) x.was ∙ ap Steps (sym x.is)
effect_acts P s t i offset Act.Join operands x = ap (joined s i offset (object_operand operands)) x.was ∙ ap Steps (sym x.is)
effect_acts P s t i offset Act.MutexInit operands x = ap (mutex_initialised s offset (object_operand operands)) x.was ∙ ap Steps (sym x.is)
effect_acts P s t i offset Act.MutexDestroy operands x = ap (mutex_destroyed s offset (object_operand operands)) x.was ∙ ap Steps (sym x.is)
effect_acts P s t i offset Act.MutexLock operands x = ap (mutex_locked s i offset (object_operand operands)) x.was ∙ ap Steps (sym x.is)
effect_acts P s t i offset Act.MutexUnlock operands x =
    ap (mutex_unlocked s i offset (object_operand operands)) x.was
    ∙ ap (λ (b : Bool). if b then with_mutex s (object_operand operands) Free else Stepped.Undefines offset Mutex) (eq-eqb i i refl)
    ∙ ap Steps (sym x.is)
effect_acts P s t i offset Act.BarrierInit operands x =
    ap (barrier_initialised s offset (value_operand operands) (object_operand operands)) x.1.was
    ∙ ap (λ (b : Bool). if b then with_barrier s (object_operand operands) (Awaits (value_operand operands) []) else Stepped.Undefines offset BarrierCause) x.0
    ∙ ap Steps (sym x.1.is)
effect_acts P s t i offset Act.BarrierDestroy operands x = ap (barrier_destroyed s offset (object_operand operands)) x.1.was ∙ ap Steps (sym x.1.is)
effect_acts P s t i offset Act.BarrierWait operands x =
    ap (barrier_met s i offset (object_operand operands)) x.2.was
    ∙ comes P s t i offset (object_operand operands) (value_operand operands) operands x.0 x.1 (nat_eq (length x.1 + 1) (unsigned_abs x.0))
    ∙ ap Steps (sym x.2.is)
