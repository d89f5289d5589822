-- An act that a thread could take before the step of another one, on which it doesn't depend, it can take behind it.
use Rattle.std.proofs.Common.{◌≡◌, ◌≢◌, ℕ, zero, suc, List, [], ◌∷◌, ◌++◌, refl, ap, sym, ◌∙◌, subst}
use Rattle.std.specs.Prelude.{Some, slice_get, slice_set, ℤ}
use Rattle.lists.proofs.Places.{set_there, set_elsewhere}
use Rattle.c_program.specs.Tree.{Program}
use Rattle.thread_semantics.specs.declared.object.MutexState.TheVariants.{Uninitialised, Free, Owned}
use Rattle.thread_semantics.specs.Memory.{Location}
use Rattle.thread_semantics.specs.Work.{Act}
use Rattle.thread_semantics.specs.State.{Frame, Slot, Unused, Running, Finished, NoBarrier, Awaits, State, started}
use Rattle.thread_semantics.specs.Move.{Move, move}
use Rattle.thread_semantics.specs.Step.{Steps, with_slot, printed, written_to, moved, object_operand, value_operand, acted, step}
use Rattle.thread_semantics.specs.Races.{id_of_act}
use Rattle.race_model.proofs.Sound.{goes, step_moved}
use Rattle.run_races.specs.Order.{next_move, Depends, OnMutex, OnBarrier, OnId, OnAll}
use Rattle.run_races.proofs.Effects.{come_to, Effect, act_effect, effect_acts}
use Rattle.run_races.proofs.StandingThreads.{Stands, step_stands}
use Rattle.run_races.proofs.SameObjects.{mutex_stays, barrier_stays, slot_stays}

-- the object of an act stands the same
abbrev pub SameObject : State → State → ℕ → Act → Type 0
SameObject s t n (Act.Print format) = Unit {0}
SameObject s t n (Act.Create routine) = slice_get t.slots n ≡ slice_get s.slots n
SameObject s t n Act.Join = slice_get t.slots n ≡ slice_get s.slots n
SameObject s t n Act.MutexInit = slice_get t.mutexes n ≡ slice_get s.mutexes n
SameObject s t n Act.MutexDestroy = slice_get t.mutexes n ≡ slice_get s.mutexes n
SameObject s t n Act.MutexLock = slice_get t.mutexes n ≡ slice_get s.mutexes n
SameObject s t n Act.MutexUnlock = slice_get t.mutexes n ≡ slice_get s.mutexes n
SameObject s t n Act.BarrierInit = slice_get t.barriers n ≡ slice_get s.barriers n
SameObject s t n Act.BarrierDestroy = slice_get t.barriers n ≡ slice_get s.barriers n
SameObject s t n Act.BarrierWait = slice_get t.barriers n ≡ slice_get s.barriers n

-- then the act does there what it does here
pub effect_there : (P : Program) (s t u : State) (i n : ℕ) (v : ℤ) (operands : List ℤ) (act : Act) → SameObject s t n act → Effect P s u i n v operands act →
    (w : State) × Effect P t w i n v operands act
effect_there P s t u i n v operands (Act.Print format) same e = (record t { output = t.output ++ printed format operands }, refl)
effect_there P s t u i n v operands (Act.Create routine) same e =
    (record t { slots = slice_set t.slots n (Running (started (slice_get P.functions routine) routine (v ∷ []))) }, record { was = same ∙ e.was; is = refl })
effect_there P s t u i n v operands Act.Join same e = (record t { slots = slice_set t.slots n Unused }, record { was = same ∙ e.was; is = refl })
effect_there P s t u i n v operands Act.MutexInit same e = (record t { mutexes = slice_set t.mutexes n Free }, record { was = same ∙ e.was; is = refl })
effect_there P s t u i n v operands Act.MutexDestroy same e = (record t { mutexes = slice_set t.mutexes n Uninitialised }, record { was = same ∙ e.was; is = refl })
effect_there P s t u i n v operands Act.MutexLock same e = (record t { mutexes = slice_set t.mutexes n (Owned i) }, record { was = same ∙ e.was; is = refl })
effect_there P s t u i n v operands Act.MutexUnlock same e = (record t { mutexes = slice_set t.mutexes n Free }, record { was = same ∙ e.was; is = refl })
effect_there P s t u i n v operands Act.BarrierInit same e =
    (record t { barriers = slice_set t.barriers n (Awaits v []) }, (e.0, record { was = same ∙ e.1.was; is = refl }))
effect_there P s t u i n v operands Act.BarrierDestroy same e =
    (record t { barriers = slice_set t.barriers n NoBarrier }, (e.0, record { was = same ∙ e.1.was; is = refl }))
effect_there P s t u i n v operands Act.BarrierWait same e =
    (record t { barriers = slice_set t.barriers n (come_to i e.0 e.1) }, (e.0, e.1, record { was = same ∙ e.2.was; is = refl }))

module _ (P : Program) (s t : State) (i j : ℕ) (apart : i ≢ j) (steps : step P s j ≡ Steps t) (frames later : List Frame) (x : Stands s i frames)
    (offset : ℕ) (operands : List ℤ) where
  -- the states in which thread i acts
  abbrev here : State
  here = with_slot s i (Running later)

  abbrev there : State
  there = with_slot t i (Running later)

  abbrev number : ℕ
  number = object_operand operands

  -- a thread id that doesn't run
  idle_same : (act : Act) (old : Slot) → id_of_act act operands ≡ Some number → (Depends (next_move P s j) i (Move.Acts offset act operands later) → ⊥) →
      ((fs : List Frame) → old ≢ Running fs) → slice_get here.slots number ≡ Some old → slice_get there.slots number ≡ slice_get here.slots number
  idle_same act old names clear rests was =
      set_elsewhere t.slots i number (Running later) own
      ∙ slot_stays P s t j number steps other (λ e. clear (OnId number e names))
      ∙ sym (set_elsewhere s.slots i number (Running later) own)
    where
      own : i ≢ number
      own e =
          let both : Some old ≡ Some (Running later) =
          sym was ∙ subst (λ k. slice_get here.slots k ≡ Some (Running later)) e (set_there s.slots i (Running frames) (Running later) x.at) in
          rests later (let same : old ≡ Running later = cc in same)

      other : j ≢ number
      other e =
          let g = goes P s t j steps in
          let both : Some old ≡ Some (Running g.frames) =
          sym was ∙ set_elsewhere s.slots i number (Running later) own ∙ subst (λ k. slice_get s.slots k ≡ Some (Running g.frames)) e g.at in
          rests g.frames (let same : old ≡ Running g.frames = cc in same)

  -- the object of the act stands behind the step as it did
  pub same_object : (u : State) (act : Act) → (Depends (next_move P s j) i (Move.Acts offset act operands later) → ⊥) →
      Effect P here u i number (value_operand operands) operands act → SameObject here there number act
  same_object u (Act.Print format) clear e = tt
  same_object u (Act.Create routine) clear e = idle_same (Act.Create routine) Unused refl clear (λ fs q. cc) e.was
  same_object u Act.Join clear e = idle_same Act.Join Finished refl clear (λ fs q. cc) e.was
  same_object u Act.MutexInit clear e = mutex_stays P s t j number steps (λ q. clear (OnMutex number q refl))
  same_object u Act.MutexDestroy clear e = mutex_stays P s t j number steps (λ q. clear (OnMutex number q refl))
  same_object u Act.MutexLock clear e = mutex_stays P s t j number steps (λ q. clear (OnMutex number q refl))
  same_object u Act.MutexUnlock clear e = mutex_stays P s t j number steps (λ q. clear (OnMutex number q refl))
  same_object u Act.BarrierInit clear e = barrier_stays P s t j number steps (λ q. clear (OnBarrier number q refl))
  same_object u Act.BarrierDestroy clear e = barrier_stays P s t j number steps (λ q. clear (OnBarrier number q refl))
  same_object u Act.BarrierWait clear e = barrier_stays P s t j number steps (λ q. clear (OnBarrier number q refl))

  -- so the act can be taken there
  pub act_behind : (u : State) (act : Act) → (Depends (next_move P s j) i (Move.Acts offset act operands later) → ⊥) →
      acted P here i offset act operands ≡ Steps u → (w : State) × (acted P there i offset act operands ≡ Steps w)
  act_behind u act clear e =
      let effect = act_effect P here u i offset act operands e in
      let w = effect_there P here there u i number (value_operand operands) operands act (same_object u act clear effect) effect in
      (w.0, effect_acts P there w.0 i offset act operands w.1)

-- where the move is the same, the step of a thread that could take it before
pub step_behind : (P : Program) (s t u : State) (i j : ℕ) (frames : List Frame) → i ≢ j → step P s j ≡ Steps t → Stands s i frames →
    move P t.globals frames ≡ move P s.globals frames → (Depends (next_move P s j) i (move P s.globals frames) → ⊥) → step P s i ≡ Steps u →
    (w : State) × (step P t i ≡ Steps w)
step_behind P s t u i j frames apart steps x same clear e =
    let y = step_stands P i frames s t j apart steps x in
    let here = sym (step_moved P s i frames x.at x.free) ∙ e in
    let r = go (move P s.globals frames) clear here in
    (r.0, step_moved P t i frames y.at y.free ∙ ap (moved P t i) same ∙ r.1)
  where
    ends : (k offset : ℕ) (reads : List Location) → (Depends (next_move P s j) k (Move.Ends offset reads) → ⊥) →
        (w : State) × (moved P t k (Move.Ends offset reads) ≡ Steps w)
    ends zero offset reads none = absurd (none (OnAll refl refl))
    ends (suc k) offset reads none = (with_slot t (suc k) Finished, refl)

    go : (m : Move) → (Depends (next_move P s j) i m → ⊥) → moved P s i m ≡ Steps u → (w : State) × (moved P t i m ≡ Steps w)
    go (Move.Moves fs reads write) none q = (record t { globals = written_to t.globals write; slots = slice_set t.slots i (Running fs) }, refl)
    go (Move.Acts offset act operands later) none q = act_behind P s t i j apart steps frames later x offset operands u act none q
    go (Move.Ends offset reads) none q = ends i offset reads none
    go (Move.Faults offset cause) none q = absurd cc
    go Move.Impossible none q = absurd cc
