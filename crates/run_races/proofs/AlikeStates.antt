-- States that differ in the order of the waiters at barriers and in the output alone: each thread's step does the same.
use Rattle.std.proofs.Common.{◌≡◌, ℕ, zero, suc, List, [], ◌∷◌, ◌++◌, length, refl, ap, ap₂, sym, ◌∙◌, subst}
use Rattle.std.specs.Prelude.{Bool, true, ◌||◌, if◌then◌else◌, nat_eq, Some, slice_get, slice_set, ℤ}
use Rattle.std.specs.List.{list_any, list_all}
use Rattle.c_program.specs.Tree.{Program}
use Rattle.thread_semantics.specs.declared.cause.UndefinedCause.TheVariants.{LiveThread}
use Rattle.thread_semantics.specs.declared.object.MutexState.{MutexState}
use Rattle.thread_semantics.specs.declared.object.MutexState.TheVariants.{Uninitialised, Free, Owned}
use Rattle.thread_semantics.specs.Memory.{Location}
use Rattle.thread_semantics.specs.Work.{Act}
use Rattle.thread_semantics.specs.State.{Slot, Unused, Running, Finished, Barrier, NoBarrier, Awaits, State, started}
use Rattle.thread_semantics.specs.Move.{Move, move}
use Rattle.thread_semantics.specs.Step.{Steps, Undefines, with_slot, printed, written_to, finished, is_unused, created_slots, is_waiter, moved, object_operand, value_operand, step}
use Rattle.race_model.proofs.Sound.{goes, step_moved, main_ends}
use Rattle.run_races.proofs.Effects.{come_to, Effect, act_effect, effect_acts}
use Rattle.run_races.proofs.Meetings.{SameThreads, AlikeBarrier, NoBarriers, Waiters, alike_self, come_alike}

abbrev pub AlikeBarriers : List Barrier → List Barrier → Type 0
AlikeBarriers [] [] = Unit {0}
AlikeBarriers (b ∷ bs) (c ∷ cs) = AlikeBarrier b c × AlikeBarriers bs cs
AlikeBarriers bs cs = ⊥

pub record Alike (s t : State) : Type 0 where
  pub globals : t.globals ≡ s.globals
  pub slots : t.slots ≡ s.slots
  pub mutexes : t.mutexes ≡ s.mutexes
  pub ended : t.ended ≡ s.ended
  pub barriers : AlikeBarriers s.barriers t.barriers

pub all_alike : (bs : List Barrier) → AlikeBarriers bs bs
all_alike [] = tt
all_alike (b ∷ bs) = (alike_self b, all_alike bs)

-- the barrier that stands there
pub record There (cs : List Barrier) (n : ℕ) (b : Barrier) : Type 0 where
  pub other : Barrier
  pub is : slice_get cs n ≡ Some other
  pub alike : AlikeBarrier b other

pub alike_at : (bs cs : List Barrier) (n : ℕ) (b : Barrier) → AlikeBarriers bs cs → slice_get bs n ≡ Some b → There cs n b
alike_at [] [] n b x e = absurd cc
alike_at [] (c ∷ cs) n b x e = absurd x
alike_at (a ∷ bs) [] n b x e = absurd x
alike_at (a ∷ bs) (c ∷ cs) zero b x e = let same : a ≡ b = cc in record { other = c; is = refl; alike = subst (λ k. AlikeBarrier k c) same x.0 }
alike_at (a ∷ bs) (c ∷ cs) (suc n) b x e = let r = alike_at bs cs n b x.1 e in record { other = r.other; is = r.is; alike = r.alike }

pub alike_set : (bs cs : List Barrier) (n : ℕ) (b c : Barrier) → AlikeBarriers bs cs → AlikeBarrier b c → AlikeBarriers (slice_set bs n b) (slice_set cs n c)
alike_set [] [] n b c x y = tt
alike_set [] (d ∷ cs) n b c x y = absurd x
alike_set (a ∷ bs) [] n b c x y = absurd x
alike_set (a ∷ bs) (d ∷ cs) zero b c x y = (y, x.1)
alike_set (a ∷ bs) (d ∷ cs) (suc n) b c x y = (x.0, alike_set bs cs n b c x.1 y)

pub waiter_alike : (i : ℕ) (b c : Barrier) → AlikeBarrier b c → is_waiter i c ≡ is_waiter i b
waiter_alike i _ _ NoBarriers = refl
waiter_alike i _ _ (Waiters count ws vs same) = sym (same.any (nat_eq i))

pub free_alike : (i : ℕ) (bs cs : List Barrier) → AlikeBarriers bs cs → list_any (is_waiter i) cs ≡ list_any (is_waiter i) bs
free_alike i [] [] x = refl
free_alike i [] (c ∷ cs) x = absurd x
free_alike i (b ∷ bs) [] x = absurd x
free_alike i (b ∷ bs) (c ∷ cs) x = ap₂ (λ (p q : Bool). p || q) (waiter_alike i b c x.0) (free_alike i bs cs x.1)

none_alike : (b c : Barrier) → AlikeBarrier b c → b ≡ NoBarrier → c ≡ NoBarrier
none_alike _ _ NoBarriers e = refl
none_alike _ _ (Waiters count ws vs same) e = absurd cc

record Waits (count : ℤ) (ws : List ℕ) (c : Barrier) : Type 0 where
  others : List ℕ
  is : c ≡ Awaits count others
  same : SameThreads ws others

waits_alike : (b c : Barrier) (count : ℤ) (ws : List ℕ) → AlikeBarrier b c → b ≡ Awaits count ws → Waits count ws c
waits_alike _ _ count ws NoBarriers e = absurd cc
waits_alike _ _ count ws (Waiters k us vs same) e =
    let number : k ≡ count = cc in
    let list : us ≡ ws = cc in
    record { others = vs; is = ap (λ m. Awaits m vs) number; same = subst (λ xs. SameThreads xs vs) list same }

empty_alike : (vs : List ℕ) → length {A = ℕ} [] ≡ length vs → vs ≡ []
empty_alike [] e = refl
empty_alike (v ∷ vs) e = absurd cc

-- an act leaves such states again
pub record ActsAlike (P : Program) (B u : State) (i n : ℕ) (v : ℤ) (operands : List ℤ) (act : Act) : Type 0 where
  pub state : State
  pub does : Effect P B state i n v operands act
  pub alike : Alike u state

module _ (P : Program) (A B u : State) (i n : ℕ) (v : ℤ) (operands : List ℤ) (x : Alike A B) where
  slot_alike : (new : Slot) → Alike (record A { slots = slice_set A.slots n new }) (record B { slots = slice_set B.slots n new })
  slot_alike new = record { globals = x.globals; slots = ap (λ xs. slice_set xs n new) x.slots; mutexes = x.mutexes; ended = x.ended; barriers = x.barriers }

  mutex_alike : (new : MutexState) → Alike (record A { mutexes = slice_set A.mutexes n new }) (record B { mutexes = slice_set B.mutexes n new })
  mutex_alike new = record { globals = x.globals; slots = x.slots; mutexes = ap (λ xs. slice_set xs n new) x.mutexes; ended = x.ended; barriers = x.barriers }

  barrier_alike : (b c : Barrier) → AlikeBarrier b c → Alike (record A { barriers = slice_set A.barriers n b }) (record B { barriers = slice_set B.barriers n c })
  barrier_alike b c y =
      record { globals = x.globals; slots = x.slots; mutexes = x.mutexes; ended = x.ended; barriers = alike_set A.barriers B.barriers n b c x.barriers y }

  to : (a w : State) → u ≡ a → Alike a w → Alike u w
  to a w e y = subst (λ k. Alike k w) (sym e) y

  slot_was : (old : Slot) → slice_get A.slots n ≡ Some old → slice_get B.slots n ≡ Some old
  slot_was old was = ap (λ xs. slice_get xs n) x.slots ∙ was

  mutex_was : (old : MutexState) → slice_get A.mutexes n ≡ Some old → slice_get B.mutexes n ≡ Some old
  mutex_was old was = ap (λ xs. slice_get xs n) x.mutexes ∙ was

  pub act_alike : (act : Act) → Effect P A u i n v operands act → ActsAlike P B u i n v operands act
  act_alike (Act.Print format) e = record {
    state = record B { output = B.output ++ printed format operands };
    does = refl;
    alike = to (record A { output = A.output ++ printed format operands }) (record B { output = B.output ++ printed format operands }) e
        (record { globals = x.globals; slots = x.slots; mutexes = x.mutexes; ended = x.ended; barriers = x.barriers });
  }
  act_alike (Act.Create routine) e =
      let new : Slot = Running (started (slice_get P.functions routine) routine (v ∷ [])) in
      record { state = record B { slots = slice_set B.slots n new }; does = record { was = slot_was Unused e.was; is = refl }; alike = to _ _ e.is (slot_alike new) }
  act_alike Act.Join e =
      record { state = record B { slots = slice_set B.slots n Unused }; does = record { was = slot_was Finished e.was; is = refl }; alike = to _ _ e.is (slot_alike Unused) }
  act_alike Act.MutexInit e =
      record { state = record B { mutexes = slice_set B.mutexes n Free }; does = record { was = mutex_was Uninitialised e.was; is = refl }; alike = to _ _ e.is (mutex_alike Free) }
  act_alike Act.MutexDestroy e =
      record { state = record B { mutexes = slice_set B.mutexes n Uninitialised }; does = record { was = mutex_was Free e.was; is = refl }; alike = to _ _ e.is (mutex_alike Uninitialised) }
  act_alike Act.MutexLock e =
      record { state = record B { mutexes = slice_set B.mutexes n (Owned i) }; does = record { was = mutex_was Free e.was; is = refl }; alike = to _ _ e.is (mutex_alike (Owned i)) }
  act_alike Act.MutexUnlock e =
      record { state = record B { mutexes = slice_set B.mutexes n Free }; does = record { was = mutex_was (Owned i) e.was; is = refl }; alike = to _ _ e.is (mutex_alike Free) }
  act_alike Act.BarrierInit e =
      let r = alike_at A.barriers B.barriers n NoBarrier x.barriers e.1.was in
      record {
        state = record B { barriers = slice_set B.barriers n (Awaits v []) };
        does = (e.0, record { was = r.is ∙ ap Some (none_alike NoBarrier r.other r.alike refl); is = refl });
        alike = to _ _ e.1.is (barrier_alike (Awaits v []) (Awaits v []) (alike_self (Awaits v [])));
      }
  act_alike Act.BarrierDestroy e =
      let r = alike_at A.barriers B.barriers n (Awaits e.0 []) x.barriers e.1.was in
      let w = waits_alike (Awaits e.0 []) r.other e.0 [] r.alike refl in
      record {
        state = record B { barriers = slice_set B.barriers n NoBarrier };
        does = (e.0, record { was = r.is ∙ ap Some (w.is ∙ ap (λ vs. Awaits e.0 vs) (empty_alike w.others w.same.lengths)); is = refl });
        alike = to _ _ e.1.is (barrier_alike NoBarrier NoBarrier (alike_self NoBarrier));
      }
  act_alike Act.BarrierWait e =
      let r = alike_at A.barriers B.barriers n (Awaits e.0 e.1) x.barriers e.2.was in
      let w = waits_alike (Awaits e.0 e.1) r.other e.0 e.1 r.alike refl in
      record {
        state = record B { barriers = slice_set B.barriers n (come_to i e.0 w.others) };
        does = (e.0, w.others, record { was = r.is ∙ ap Some w.is; is = refl });
        alike = to _ _ e.2.is (barrier_alike (come_to i e.0 e.1) (come_to i e.0 w.others) (come_alike i e.0 e.1 w.others w.same));
      }

-- a step that one of them takes the other takes too, to such states again
pub record StepsAlike (P : Program) (t u : State) (i : ℕ) : Type 0 where
  pub state : State
  pub steps : step P t i ≡ Steps state
  pub alike : Alike u state

record MovesAlike (P : Program) (t u : State) (i : ℕ) (m : Move) : Type 0 where
  state : State
  does : moved P t i m ≡ Steps state
  alike : Alike u state

module _ (P : Program) (s t u : State) (x : Alike s t) where
  own_alike : (i : ℕ) (slot : Slot) (G : List (List ℤ)) → Alike (record s { globals = G; slots = slice_set s.slots i slot }) (record t { globals = G; slots = slice_set t.slots i slot })
  own_alike i slot G = record { globals = refl; slots = ap (λ xs. slice_set xs i slot) x.slots; mutexes = x.mutexes; ended = x.ended; barriers = x.barriers }

  slot_only : (i : ℕ) (slot : Slot) → Alike (with_slot s i slot) (with_slot t i slot)
  slot_only i slot = record { globals = x.globals; slots = ap (λ xs. slice_set xs i slot) x.slots; mutexes = x.mutexes; ended = x.ended; barriers = x.barriers }

  ends_alike : (i offset : ℕ) (reads : List Location) → finished s i offset ≡ Steps u → MovesAlike P t u i (Move.Ends offset reads)
  ends_alike zero offset reads e =
      let r = main_ends s u offset e in
      let all : list_all is_unused (created_slots t.slots) ≡ true = ap (λ xs. list_all is_unused (created_slots xs)) x.slots ∙ r.0 in
      record {
        state = record t { slots = slice_set t.slots 0 Finished; ended = true };
        does = ap (λ (b : Bool). if b then Steps (record t { slots = slice_set t.slots 0 Finished; ended = true }) else Undefines offset LiveThread) all;
        alike = subst (λ k. Alike k (record t { slots = slice_set t.slots 0 Finished; ended = true })) (sym r.1)
            (record { globals = x.globals; slots = ap (λ xs. slice_set xs 0 Finished) x.slots; mutexes = x.mutexes; ended = refl; barriers = x.barriers });
      }
  ends_alike (suc i) offset reads e =
      let same : with_slot s (suc i) Finished ≡ u = cc in
      record { state = with_slot t (suc i) Finished; does = refl; alike = subst (λ k. Alike k (with_slot t (suc i) Finished)) same (slot_only (suc i) Finished) }

  move_alike : (i : ℕ) (m : Move) → moved P s i m ≡ Steps u → MovesAlike P t u i m
  move_alike i (Move.Moves fs reads write) e =
      let same : record s { globals = written_to s.globals write; slots = slice_set s.slots i (Running fs) } ≡ u = cc in
      record {
        state = record t { globals = written_to t.globals write; slots = slice_set t.slots i (Running fs) };
        does = refl;
        alike = subst (λ k. Alike k (record t { globals = written_to t.globals write; slots = slice_set t.slots i (Running fs) })) same
            (record {
              globals = ap (λ G. written_to G write) x.globals;
              slots = ap (λ xs. slice_set xs i (Running fs)) x.slots;
              mutexes = x.mutexes;
              ended = x.ended;
              barriers = x.barriers;
            });
      }
  move_alike i (Move.Acts offset act operands fs) e =
      let a = act_alike P (with_slot s i (Running fs)) (with_slot t i (Running fs)) u i (object_operand operands) (value_operand operands) operands (slot_only i (Running fs)) act
      (act_effect P (with_slot s i (Running fs)) u i offset act operands e) in
      record { state = a.state; does = effect_acts P (with_slot t i (Running fs)) a.state i offset act operands a.does; alike = a.alike }
  move_alike i (Move.Ends offset reads) e = ends_alike i offset reads e
  move_alike i (Move.Faults offset cause) e = absurd cc
  move_alike i Move.Impossible e = absurd cc

  pub step_alike : (i : ℕ) → step P s i ≡ Steps u → StepsAlike P t u i
  step_alike i e =
      let g = goes P s u i e in
      let r = move_alike i (move P s.globals g.frames) g.does in
      let at : slice_get t.slots i ≡ Some (Running g.frames) = ap (λ xs. slice_get xs i) x.slots ∙ g.at in
      record {
        state = r.state;
        steps =
            step_moved P t i g.frames at (free_alike i s.barriers t.barriers x.barriers ∙ g.free)
            ∙ ap (λ G. moved P t i (move P G g.frames)) x.globals
            ∙ r.does;
        alike = r.alike;
      }
