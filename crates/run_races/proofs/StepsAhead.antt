-- A thread whose step behind that of another one is defined has a defined step before it, where it doesn't depend on it or
-- both come to one barrier.
use Rattle.std.proofs.Common.{◌≡◌, ◌≢◌, ℕ, zero, suc, ◌+◌, List, [], ◌∷◌, length, refl, ap, sym, ◌∙◌, subst, ⊎_elim, inl, inr}
use Rattle.std.specs.Prelude.{◌⊎◌, Bool, true, false, if◌then◌else◌, nat_eq, Option, Some, None, slice_get, slice_set, ℤ, unsigned_abs, Contains}
use Rattle.std.proofs.lemmas.Bool.{cases_eq, ne_eqb}
use Rattle.lists.proofs.Places.{set_there, set_elsewhere, in_none}
use Rattle.c_program.specs.Tree.{Program}
use Rattle.thread_semantics.specs.declared.cause.UndefinedCause.TheVariants.{ThreadId, Mutex, Barrier as BarrierCause}
use Rattle.thread_semantics.specs.declared.cause.BlockedCause.TheVariants as waits
use Rattle.thread_semantics.specs.declared.object.MutexState.{MutexState}
use Rattle.thread_semantics.specs.declared.object.MutexState.TheVariants.{Uninitialised, Free, Owned}
use Rattle.thread_semantics.specs.Work.{Act}
use Rattle.thread_semantics.specs.State.{Frame, Slot, Unused, Running, Finished, Barrier, NoBarrier, Awaits, State}
use Rattle.thread_semantics.specs.Move.{Move, move}
use Rattle.thread_semantics.specs.Step.{Stepped, Steps, Blocks, Undefines, with_slot, created, joined, with_mutex, mutex_initialised, mutex_destroyed}
use Rattle.thread_semantics.specs.Step.{mutex_locked, mutex_unlocked, with_barrier, is_count, barrier_initialised, barrier_destroyed, barrier_met}
use Rattle.thread_semantics.specs.Step.{finished, written_to, is_running, moved, object_operand, value_operand, object_act, acted, step}
use Rattle.thread_semantics.specs.Races.{touched, id_of_move}
use Rattle.race_model.proofs.Sound.{goes, step_moved}
use Rattle.race_model.proofs.Acts.{act_acts}
use Rattle.race_model.proofs.Depends.{IsDefined}
use Rattle.run_races.specs.Order.{move_in, next_move, barrier_of_move, awaited, awaited_by, Conflict, Depends, OnData, OnMutex, OnBarrier, OnId, OnAll}
use Rattle.run_races.proofs.Effects.{Effect, act_effect}
use Rattle.run_races.proofs.StandingThreads.{Stands, step_stands}
use Rattle.run_races.proofs.SameObjects.{mutex_stays, barrier_stays, slot_stays, ended_of}
use Rattle.run_races.proofs.StepsBehind.{SameObject}
use Rattle.run_races.proofs.SameMoves.{move_before}

abbrev pub undefined : Stepped → Bool
undefined (Steps s) = false
undefined (Blocks cause) = false
undefined (Undefines offset cause) = true

-- Where its object stands the same, an act is undefined here and there.
module _ (P : Program) (s t : State) (i offset n : ℕ) (v : ℤ) (operands : List ℤ) where
  same_created : (routine : ℕ) (o : Option Slot) → undefined (created P t offset routine v n o) ≡ undefined (created P s offset routine v n o)
  same_created routine None = refl
  same_created routine (Some Unused) = refl
  same_created routine (Some (Running frames)) = refl
  same_created routine (Some Finished) = refl

  same_joined : (o : Option Slot) → undefined (joined t i offset n o) ≡ undefined (joined s i offset n o)
  same_joined None = refl
  same_joined (Some Unused) = refl
  same_joined (Some (Running frames)) = refl
  same_joined (Some Finished) = refl

  same_initialised : (o : Option MutexState) → undefined (mutex_initialised t offset n o) ≡ undefined (mutex_initialised s offset n o)
  same_initialised None = refl
  same_initialised (Some Uninitialised) = refl
  same_initialised (Some Free) = refl
  same_initialised (Some (Owned j)) = refl

  same_destroyed : (o : Option MutexState) → undefined (mutex_destroyed t offset n o) ≡ undefined (mutex_destroyed s offset n o)
  same_destroyed None = refl
  same_destroyed (Some Uninitialised) = refl
  same_destroyed (Some Free) = refl
  same_destroyed (Some (Owned j)) = refl

  same_locked : (o : Option MutexState) → undefined (mutex_locked t i offset n o) ≡ undefined (mutex_locked s i offset n o)
  same_locked None = refl
  same_locked (Some Uninitialised) = refl
  same_locked (Some Free) = refl
  same_locked (Some (Owned j)) = refl

  same_unlocked : (o : Option MutexState) → undefined (mutex_unlocked t i offset n o) ≡ undefined (mutex_unlocked s i offset n o)
  same_unlocked None = refl
  same_unlocked (Some Uninitialised) = refl
  same_unlocked (Some Free) = refl
  same_unlocked (Some (Owned j)) = go (nat_eq i j)
    where
      go : (b : Bool) → undefined (if b then with_mutex t n Free else Undefines offset Mutex) ≡ undefined (if b then with_mutex s n Free else Undefines offset Mutex)
      go true = refl
      go false = refl

  same_begun : (o : Option Barrier) → undefined (barrier_initialised t offset v n o) ≡ undefined (barrier_initialised s offset v n o)
  same_begun None = refl
  same_begun (Some (Awaits count waiters)) = refl
  same_begun (Some NoBarrier) = go (is_count v)
    where
      go : (b : Bool) → undefined (if b then with_barrier t n (Awaits v []) else Undefines offset BarrierCause)
          ≡ undefined (if b then with_barrier s n (Awaits v []) else Undefines offset BarrierCause)
      go true = refl
      go false = refl

  same_gone : (o : Option Barrier) → undefined (barrier_destroyed t offset n o) ≡ undefined (barrier_destroyed s offset n o)
  same_gone None = refl
  same_gone (Some NoBarrier) = refl
  same_gone (Some (Awaits count [])) = refl
  same_gone (Some (Awaits count (first ∷ waiters))) = refl

-- who comes to a barrier that is there does what is defined
met_defined : (s : State) (i offset n : ℕ) (count : ℤ) (waiters : List ℕ) → undefined (barrier_met s i offset n (Some (Awaits count waiters))) ≡ false
met_defined s i offset n count waiters = go (nat_eq (length waiters + 1) (unsigned_abs count))
  where
    go : (b : Bool) → undefined (if b then with_barrier s n (Awaits count []) else with_barrier s n (Awaits count (i ∷ waiters))) ≡ false
    go true = refl
    go false = refl

met_there : (s : State) (i offset n : ℕ) (count : ℤ) (waiters : List ℕ) → slice_get s.barriers n ≡ Some (Awaits count waiters) →
    undefined (barrier_met s i offset n (slice_get s.barriers n)) ≡ false
met_there s i offset n count waiters at = ap (λ o. undefined (barrier_met s i offset n o)) at ∙ met_defined s i offset n count waiters

same_met : (s t : State) (i offset n : ℕ) (o : Option Barrier) → undefined (barrier_met t i offset n o) ≡ undefined (barrier_met s i offset n o)
same_met s t i offset n None = refl
same_met s t i offset n (Some NoBarrier) = refl
same_met s t i offset n (Some (Awaits count waiters)) = met_defined t i offset n count waiters ∙ sym (met_defined s i offset n count waiters)

same_undefined : (P : Program) (s t : State) (i offset n : ℕ) (v : ℤ) (operands : List ℤ) (act : Act) → SameObject s t n act →
    undefined (object_act P t i offset n v act operands) ≡ undefined (object_act P s i offset n v act operands)
same_undefined P s t i offset n v operands (Act.Print format) e = refl
same_undefined P s t i offset n v operands (Act.Create routine) e =
    ap (λ o. undefined (created P t offset routine v n o)) e ∙ same_created P s t i offset n v operands routine (slice_get s.slots n)
same_undefined P s t i offset n v operands Act.Join e =
    ap (λ o. undefined (joined t i offset n o)) e ∙ same_joined P s t i offset n v operands (slice_get s.slots n)
same_undefined P s t i offset n v operands Act.MutexInit e =
    ap (λ o. undefined (mutex_initialised t offset n o)) e ∙ same_initialised P s t i offset n v operands (slice_get s.mutexes n)
same_undefined P s t i offset n v operands Act.MutexDestroy e =
    ap (λ o. undefined (mutex_destroyed t offset n o)) e ∙ same_destroyed P s t i offset n v operands (slice_get s.mutexes n)
same_undefined P s t i offset n v operands Act.MutexLock e =
    ap (λ o. undefined (mutex_locked t i offset n o)) e ∙ same_locked P s t i offset n v operands (slice_get s.mutexes n)
same_undefined P s t i offset n v operands Act.MutexUnlock e =
    ap (λ o. undefined (mutex_unlocked t i offset n o)) e ∙ same_unlocked P s t i offset n v operands (slice_get s.mutexes n)
same_undefined P s t i offset n v operands Act.BarrierInit e =
    ap (λ o. undefined (barrier_initialised t offset v n o)) e ∙ same_begun P s t i offset n v operands (slice_get s.barriers n)
same_undefined P s t i offset n v operands Act.BarrierDestroy e =
    ap (λ o. undefined (barrier_destroyed t offset n o)) e ∙ same_gone P s t i offset n v operands (slice_get s.barriers n)
same_undefined P s t i offset n v operands Act.BarrierWait e =
    ap (λ o. undefined (barrier_met t i offset n o)) e ∙ same_met s t i offset n (slice_get s.barriers n)

-- both come to one barrier
pub record BothWait (m n : Move) : Type 0 where
  pub barrier : ℕ
  pub first : awaited m ≡ Some barrier
  pub second : awaited n ≡ Some barrier

-- a thread that waits touches nothing
waits_touch : (m : Move) (x : ℕ) → awaited m ≡ Some x → touched m ≡ []
waits_touch (Move.Acts offset act operands frames) x e = refl
waits_touch (Move.Moves frames reads write) x e = absurd cc
waits_touch (Move.Ends offset reads) x e = absurd cc
waits_touch (Move.Faults offset cause) x e = absurd cc
waits_touch Move.Impossible x e = absurd cc

pub no_conflict : (m n : Move) → BothWait m n → Conflict (touched m) (touched n) → ⊥
no_conflict m n b c = in_none c.first (subst (λ ts. Contains ts c.first) (waits_touch m b.barrier b.first) c.first_in)

module _ (P : Program) (s t : State) (i j : ℕ) (apart : i ≢ j) (steps : step P s j ≡ Steps t) (frames : List Frame) (x : Stands s i frames) where
  -- its move is the same
  pub move_ahead : (m : Move) → IsDefined m → move P t.globals frames ≡ m → (Depends (next_move P s j) i m → BothWait (next_move P s j) m) → move P s.globals frames ≡ m
  move_ahead m defined is free =
      move_before P s t j steps frames (subst IsDefined (sym is) defined)
      (λ c. (let d : Conflict (touched (next_move P s j)) (touched m) = subst (λ k. Conflict (touched (next_move P s j)) (touched k)) is c in
      no_conflict (next_move P s j) m (free (OnData d)) d))
      ∙ is

  module _ (offset : ℕ) (operands : List ℤ) (later : List Frame) where
    abbrev here : State
    here = with_slot s i (Running later)

    abbrev there : State
    there = with_slot t i (Running later)

    abbrev number : ℕ
    number = object_operand operands

    own_same : i ≡ number → slice_get there.slots number ≡ slice_get here.slots number
    own_same e =
        let y = step_stands P i frames s t j apart steps x in
        subst (λ k. slice_get there.slots k ≡ slice_get here.slots k) e
        (set_there t.slots i (Running frames) (Running later) y.at ∙ sym (set_there s.slots i (Running frames) (Running later) x.at))

    other_same : i ≢ number → j ≢ number → id_of_move (next_move P s j) ≢ Some number → slice_get there.slots number ≡ slice_get here.slots number
    other_same own other none =
        set_elsewhere t.slots i number (Running later) own ∙ slot_stays P s t j number steps other none ∙ sym (set_elsewhere s.slots i number (Running later) own)

    -- an act that isn't a wait depends on none on the same object
    no_wait : (act : Act) → awaited_by act operands ≡ None → (Depends (next_move P s j) i (Move.Acts offset act operands later) → BothWait (next_move P s j) (Move.Acts offset act operands later)) →
        Depends (next_move P s j) i (Move.Acts offset act operands later) → ⊥
    no_wait act none free d = let b = free d in let no = sym none ∙ b.second in cc

    -- the thread j runs at s
    runs : j ≡ number → slice_get here.slots number ≡ Some (Running (goes P s t j steps).frames)
    runs e =
        set_elsewhere s.slots i number (Running later) (λ q. apart (q ∙ sym e)) ∙ subst (λ k. slice_get s.slots k ≡ Some (Running (goes P s t j steps).frames)) e (goes P s t j steps).at

-- who took a step isn't unused behind it
own_left : (P : Program) (s t : State) (j : ℕ) (frames : List Frame) (m : Move) → slice_get s.slots j ≡ Some (Running frames) → moved P s j m ≡ Steps t →
    slice_get t.slots j ≡ Some Unused → ⊥
own_left P s t j frames (Move.Moves fs reads write) at e none =
    let same : record s { globals = written_to s.globals write; slots = slice_set s.slots j (Running fs) } ≡ t = cc in
    let is : slice_get t.slots j ≡ Some (Running fs) = ap (λ (u : State). slice_get u.slots j) (sym same) ∙ set_there s.slots j (Running frames) (Running fs) at in
    let no = sym is ∙ none in
    cc
own_left P s t j frames (Move.Acts offset act operands fs) at e none =
    let lives = (act_acts P (with_slot s j (Running fs)) j t offset act operands e).lives j (ap is_running (set_there s.slots j (Running frames) (Running fs) at)) in
    let no = sym lives ∙ ap is_running none in
    cc
own_left P s t j frames (Move.Ends offset reads) at e none =
    let is : slice_get t.slots j ≡ Some Finished = ap (λ xs. slice_get xs j) (ended_of P s t j j offset e).slots ∙ set_there s.slots j (Running frames) Finished at in
    let no = sym is ∙ none in
    cc
own_left P s t j frames (Move.Faults offset cause) at e none = cc
own_left P s t j frames Move.Impossible at e none = cc

-- the barrier at which a thread waits that takes the step
pub record Awaited (s : State) (x : ℕ) : Type 0 where
  pub count : ℤ
  pub waiters : List ℕ
  pub is : slice_get s.barriers x ≡ Some (Awaits count waiters)

act_awaited : (P : Program) (s t : State) (j n : ℕ) (v : ℤ) (operands : List ℤ) (act : Act) (x : ℕ) → n ≡ object_operand operands → awaited_by act operands ≡ Some x →
    Effect P s t j n v operands act → Awaited s x
act_awaited P s t j n v operands Act.BarrierWait x here e effect =
    let same : object_operand operands ≡ x = cc in
    record { count = effect.0; waiters = effect.1; is = subst (λ k. slice_get s.barriers k ≡ Some (Awaits effect.0 effect.1)) (here ∙ same) effect.2.was }
act_awaited P s t j n v operands act x here e effect = absurd cc

pub moved_awaited : (P : Program) (s t : State) (j : ℕ) (m : Move) (x : ℕ) → awaited m ≡ Some x → moved P s j m ≡ Steps t → Awaited s x
moved_awaited P s t j (Move.Acts offset act operands fs) x e q =
    let a = act_awaited P (with_slot s j (Running fs)) t j (object_operand operands) (value_operand operands) operands act x refl e
    (act_effect P (with_slot s j (Running fs)) t j offset act operands q) in
    record { count = a.count; waiters = a.waiters; is = a.is }
moved_awaited P s t j m x e q = absurd cc

pub none_or_same : (o : Option ℕ) (x : ℕ) → (o ≡ Some x) ⊎ (o ≢ Some x)
none_or_same None x = inr (λ e. cc)
none_or_same (Some y) x = ⊎_elim (λ e. inl (ap Some e)) (λ e. inr (λ q. e (let r : y ≡ x = cc in r))) (cases_eq y x)

module _ (P : Program) (s t : State) (i j : ℕ) (apart : i ≢ j) (steps : step P s j ≡ Steps t) (frames : List Frame) (x : Stands s i frames) (offset : ℕ) (operands : List ℤ)
    (later : List Frame) where
  abbrev before : State
  before = with_slot s i (Running later)

  abbrev behind : State
  behind = with_slot t i (Running later)

  abbrev object : ℕ
  object = object_operand operands

  abbrev Frees : Act → Type 0
  Frees act = Depends (next_move P s j) i (Move.Acts offset act operands later) → BothWait (next_move P s j) (Move.Acts offset act operands later)

  abbrev Defined : State → Act → Type 0
  Defined u act = undefined (acted P u i offset act operands) ≡ false

  by_same : (act : Act) → SameObject before behind object act → Defined behind act → Defined before act
  by_same act same d = sym (same_undefined P before behind i offset object (value_operand operands) operands act same) ∙ d

  clear_of : (act : Act) → awaited_by act operands ≡ None → Frees act → Depends (next_move P s j) i (Move.Acts offset act operands later) → ⊥
  clear_of act none free = no_wait P s t i j apart steps frames x offset operands later act none free

  create_ahead : (routine : ℕ) → Frees (Act.Create routine) → Defined behind (Act.Create routine) → Defined before (Act.Create routine)
  create_ahead routine free d =
      ⊎_elim
      (λ (e : i ≡ object). by_same (Act.Create routine) (own_same P s t i j apart steps frames x offset operands later e) d)
      (λ (own : i ≢ object).
      ⊎_elim
      (λ (e : j ≡ object). absurd (used e own (slice_get behind.slots object) refl d))
      (λ (other : j ≢ object).
      by_same (Act.Create routine)
      (other_same P s t i j apart steps frames x offset operands later own other (λ q. clear_of (Act.Create routine) refl free (OnId object q refl))) d)
      (cases_eq j object))
      (cases_eq i object)
    where
      used : j ≡ object → i ≢ object → (o : Option Slot) → slice_get behind.slots object ≡ o →
          undefined (created P behind offset routine (value_operand operands) object o) ≡ false → ⊥
      used e own (Some Unused) at q =
          let g = goes P s t j steps in
          own_left P s t j g.frames (move P s.globals g.frames) g.at g.does
          (subst (λ k. slice_get t.slots k ≡ Some Unused) (sym e) (sym (set_elsewhere t.slots i object (Running later) own) ∙ at))
      used e own (Some (Running fs)) at q = cc
      used e own (Some Finished) at q = cc
      used e own None at q = cc

  join_ahead : Frees Act.Join → Defined behind Act.Join → Defined before Act.Join
  join_ahead free d =
      ⊎_elim
      (λ (e : i ≡ object). by_same Act.Join (own_same P s t i j apart steps frames x offset operands later e) d)
      (λ (own : i ≢ object).
      ⊎_elim
      (λ (e : j ≡ object).
      ap (λ o. undefined (joined before i offset object o)) (runs P s t i j apart steps frames x offset operands later e)
      ∙ ap (λ (b : Bool). undefined (if b then Undefines offset ThreadId else Blocks waits.Join)) (ne_eqb i object own))
      (λ (other : j ≢ object).
      by_same Act.Join
      (other_same P s t i j apart steps frames x offset operands later own other (λ q. clear_of Act.Join refl free (OnId object q refl))) d)
      (cases_eq j object))
      (cases_eq i object)

  wait_ahead : Frees Act.BarrierWait → Defined behind Act.BarrierWait → Defined before Act.BarrierWait
  wait_ahead free d =
      ⊎_elim
      (λ (e : barrier_of_move (next_move P s j) ≡ Some object). (let b = free (OnBarrier object e refl) in
      let here : Some object ≡ Some b.barrier = b.second in
      let same : b.barrier ≡ object = cc in
      let g = goes P s t j steps in
      let is : next_move P s j ≡ move P s.globals g.frames = ap (move_in P s) g.at in
      let a = moved_awaited P s t j (move P s.globals g.frames) object (ap awaited (sym is) ∙ subst (λ k. awaited (next_move P s j) ≡ Some k) same b.first) g.does in
      met_there before i offset object a.count a.waiters a.is))
      (λ none. by_same Act.BarrierWait (barrier_stays P s t j object steps none) d)
      (none_or_same (barrier_of_move (next_move P s j)) object)

  pub act_ahead : (act : Act) → Frees act → Defined behind act → Defined before act
  act_ahead (Act.Print format) free d = refl
  act_ahead (Act.Create routine) free d = create_ahead routine free d
  act_ahead Act.Join free d = join_ahead free d
  act_ahead Act.MutexInit free d = by_same Act.MutexInit (mutex_stays P s t j object steps (λ q. clear_of Act.MutexInit refl free (OnMutex object q refl))) d
  act_ahead Act.MutexDestroy free d = by_same Act.MutexDestroy (mutex_stays P s t j object steps (λ q. clear_of Act.MutexDestroy refl free (OnMutex object q refl))) d
  act_ahead Act.MutexLock free d = by_same Act.MutexLock (mutex_stays P s t j object steps (λ q. clear_of Act.MutexLock refl free (OnMutex object q refl))) d
  act_ahead Act.MutexUnlock free d = by_same Act.MutexUnlock (mutex_stays P s t j object steps (λ q. clear_of Act.MutexUnlock refl free (OnMutex object q refl))) d
  act_ahead Act.BarrierInit free d = by_same Act.BarrierInit (barrier_stays P s t j object steps (λ q. clear_of Act.BarrierInit refl free (OnBarrier object q refl))) d
  act_ahead Act.BarrierDestroy free d = by_same Act.BarrierDestroy (barrier_stays P s t j object steps (λ q. clear_of Act.BarrierDestroy refl free (OnBarrier object q refl))) d
  act_ahead Act.BarrierWait free d = wait_ahead free d

module _ (P : Program) (s t : State) (i j : ℕ) (apart : i ≢ j) (steps : step P s j ≡ Steps t) (frames : List Frame) (x : Stands s i frames) where
  moved_ahead : (m : Move) → IsDefined m → (Depends (next_move P s j) i m → BothWait (next_move P s j) m) → undefined (moved P t i m) ≡ false → undefined (moved P s i m) ≡ false
  moved_ahead (Move.Moves fs reads write) is free d = refl
  moved_ahead (Move.Acts offset act operands later) is free d = act_ahead P s t i j apart steps frames x offset operands later act free d
  moved_ahead (Move.Ends offset reads) is free d = ends i free
    where
      ends : (k : ℕ) → (Depends (next_move P s j) k (Move.Ends offset reads) → BothWait (next_move P s j) (Move.Ends offset reads)) →
          undefined (finished s k offset) ≡ false
      ends zero free = let b = free (OnAll refl refl) in let no = b.second in absurd cc
      ends (suc k) free = refl
  moved_ahead (Move.Faults offset cause) is free d = absurd is
  moved_ahead Move.Impossible is free d = absurd is

  -- and its step is defined
  pub step_ahead : (m : Move) → IsDefined m → move P t.globals frames ≡ m → (Depends (next_move P s j) i m → BothWait (next_move P s j) m) →
      undefined (step P t i) ≡ false → undefined (step P s i) ≡ false
  step_ahead m defined is free d =
      let y = step_stands P i frames s t j apart steps x in
      let same = move_ahead P s t i j apart steps frames x m defined is free in
      let there : undefined (moved P t i m) ≡ false = sym (ap undefined (step_moved P t i frames y.at y.free ∙ ap (moved P t i) is)) ∙ d in
      ap undefined (step_moved P s i frames x.at x.free ∙ ap (moved P s i) same) ∙ moved_ahead m defined free there
