-- A step as a change: of the thread's own slot, of one element of a global, of one object, and of the output.
use Rattle.std.proofs.Common.{◌≡◌, ◌≢◌, ℕ, zero, suc, List, [], ◌∷◌, ◌++◌, refl, ap, sym, ◌∙◌}
use Rattle.std.specs.Prelude.{Bool, true, false, ◌&&◌, ◌||◌, Option, Some, None, slice_get, slice_set, ℤ}
use Rattle.lists.proofs.Places.{set_elsewhere}
use Rattle.c_program.specs.Tree.{Program}
use Rattle.thread_semantics.specs.declared.object.MutexState.{MutexState}
use Rattle.thread_semantics.specs.declared.object.MutexState.TheVariants.{Uninitialised, Free, Owned}
use Rattle.thread_semantics.specs.Memory.{Location}
use Rattle.thread_semantics.specs.Work.{Act}
use Rattle.thread_semantics.specs.State.{Frame, Slot, Unused, Running, Finished, Barrier, NoBarrier, Awaits, State, started}
use Rattle.thread_semantics.specs.Move.{Move}
use Rattle.thread_semantics.specs.Step.{Steps, with_slot, printed, written_to, finished, moved, object_operand, value_operand}
use Rattle.thread_semantics.specs.Races.{id_of_act, id_of_move}
use Rattle.race_model.proofs.Sound.{main_ends}
use Rattle.run_races.specs.Order.{mutex_of_act, barrier_of_act, mutex_of_move, barrier_of_move, ends}
use Rattle.run_races.proofs.Effects.{come_to, Effect, act_effect}
use Rattle.run_races.proofs.SameMoves.{write_in}
use Rattle.run_races.proofs.Commutation.{sets_commute}

-- one element of a list changes, or none
pub data Change (A : Type 0) : Type 0 where
  Keeps : Change A
  Sets : (place : ℕ) (element : A) → Change A

module _ {A : Type 0} where
  abbrev pub changed : Change A → List A → List A
  changed Keeps xs = xs
  changed (Sets n x) xs = slice_set xs n x

  abbrev pub place : Change A → Option ℕ
  place Keeps = None
  place (Sets n x) = Some n

  -- two changes are of two elements
  abbrev pub AreApart : Change A → Change A → Type 0
  AreApart c d = (n : ℕ) → place c ≡ Some n → place d ≡ Some n → ⊥

  pub changes_commute : (c d : Change A) (xs : List A) → AreApart c d → changed c (changed d xs) ≡ changed d (changed c xs)
  changes_commute Keeps d xs apart = refl
  changes_commute (Sets n x) Keeps xs apart = refl
  changes_commute (Sets n x) (Sets k y) xs apart = sets_commute xs k n y x (λ e. apart n refl (ap Some e))

  pub changed_elsewhere : (c : Change A) (xs : List A) (n : ℕ) → place c ≢ Some n → slice_get (changed c xs) n ≡ slice_get xs n
  changed_elsewhere Keeps xs n other = refl
  changed_elsewhere (Sets k x) xs n other = set_elsewhere xs k n x (λ e. other (ap Some e))

abbrev pub own_slot : Move → Slot
own_slot (Move.Moves frames reads write) = Running frames
own_slot (Move.Acts offset act operands frames) = Running frames
own_slot m = Finished

abbrev pub act_slot : Program → Act → List ℤ → Change Slot
act_slot P (Act.Create routine) operands = Sets (object_operand operands) (Running (started (slice_get P.functions routine) routine (value_operand operands ∷ [])))
act_slot P Act.Join operands = Sets (object_operand operands) Unused
act_slot P act operands = Keeps

-- the thread id that a move creates or joins
abbrev pub slot_change : Program → Move → Change Slot
slot_change P (Move.Acts offset act operands frames) = act_slot P act operands
slot_change P m = Keeps

abbrev pub act_mutex : ℕ → Act → List ℤ → Change MutexState
act_mutex i Act.MutexInit operands = Sets (object_operand operands) Free
act_mutex i Act.MutexDestroy operands = Sets (object_operand operands) Uninitialised
act_mutex i Act.MutexLock operands = Sets (object_operand operands) (Owned i)
act_mutex i Act.MutexUnlock operands = Sets (object_operand operands) Free
act_mutex i act operands = Keeps

abbrev pub mutex_change : ℕ → Move → Change MutexState
mutex_change i (Move.Acts offset act operands frames) = act_mutex i act operands
mutex_change i m = Keeps

-- what is left of the barrier to which thread i comes
abbrev pub met : ℕ → Option Barrier → Barrier
met i (Some (Awaits count waiters)) = come_to i count waiters
met i barrier = NoBarrier

abbrev pub act_barrier : ℕ → List Barrier → Act → List ℤ → Change Barrier
act_barrier i barriers Act.BarrierInit operands = Sets (object_operand operands) (Awaits (value_operand operands) [])
act_barrier i barriers Act.BarrierDestroy operands = Sets (object_operand operands) NoBarrier
act_barrier i barriers Act.BarrierWait operands = Sets (object_operand operands) (met i (slice_get barriers (object_operand operands)))
act_barrier i barriers act operands = Keeps

abbrev pub barrier_change : ℕ → List Barrier → Move → Change Barrier
barrier_change i barriers (Move.Acts offset act operands frames) = act_barrier i barriers act operands
barrier_change i barriers m = Keeps

abbrev pub act_output : Act → List ℤ → List ℕ → List ℕ
act_output (Act.Print format) operands output = output ++ printed format operands
act_output act operands output = output

abbrev pub output_behind : Move → List ℕ → List ℕ
output_behind (Move.Acts offset act operands frames) output = act_output act operands output
output_behind m output = output

abbrev pub is_main : ℕ → Bool
is_main zero = true
is_main (suc i) = false

-- what the step of thread i with this move leaves of s
abbrev pub left : Program → State → ℕ → Move → State
left P s i m = record {
  globals = written_to s.globals (write_in m);
  slots = changed (slot_change P m) (slice_set s.slots i (own_slot m));
  mutexes = changed (mutex_change i m) s.mutexes;
  barriers = changed (barrier_change i s.barriers m) s.barriers;
  output = output_behind m s.output;
  ended = (ends m && is_main i) || s.ended;
}

-- The place of each change is the object of the move.
pub slot_place : (P : Program) (m : Move) → place (slot_change P m) ≡ id_of_move m
slot_place P (Move.Acts offset act operands frames) = go act
  where
    go : (act : Act) → place (act_slot P act operands) ≡ id_of_act act operands
    go (Act.Create routine) = refl
    go Act.Join = refl
    go act = refl
slot_place P m = refl

pub mutex_place : (i : ℕ) (m : Move) → place (mutex_change i m) ≡ mutex_of_move m
mutex_place i (Move.Acts offset act operands frames) = go act
  where
    go : (act : Act) → place (act_mutex i act operands) ≡ mutex_of_act act operands
    go Act.MutexInit = refl
    go Act.MutexDestroy = refl
    go Act.MutexLock = refl
    go Act.MutexUnlock = refl
    go act = refl
mutex_place i m = refl

pub barrier_place : (i : ℕ) (barriers : List Barrier) (m : Move) → place (barrier_change i barriers m) ≡ barrier_of_move m
barrier_place i barriers (Move.Acts offset act operands frames) = go act
  where
    go : (act : Act) → place (act_barrier i barriers act operands) ≡ barrier_of_act act operands
    go Act.BarrierInit = refl
    go Act.BarrierDestroy = refl
    go Act.BarrierWait = refl
    go act = refl
barrier_place i barriers m = refl

-- A step is its change.
act_left : (P : Program) (s t : State) (i offset : ℕ) (operands : List ℤ) (frames : List Frame) (act : Act) →
    Effect P (with_slot s i (Running frames)) t i (object_operand operands) (value_operand operands) operands act →
    t ≡ left P s i (Move.Acts offset act operands frames)
act_left P s t i offset operands frames (Act.Print format) e = e
act_left P s t i offset operands frames (Act.Create routine) e = e.is
act_left P s t i offset operands frames Act.Join e = e.is
act_left P s t i offset operands frames Act.MutexInit e = e.is
act_left P s t i offset operands frames Act.MutexDestroy e = e.is
act_left P s t i offset operands frames Act.MutexLock e = e.is
act_left P s t i offset operands frames Act.MutexUnlock e = e.is
act_left P s t i offset operands frames Act.BarrierInit e = e.1.is
act_left P s t i offset operands frames Act.BarrierDestroy e = e.1.is
act_left P s t i offset operands frames Act.BarrierWait e =
    e.2.is
    ∙ ap (λ b. record (with_slot s i (Running frames)) { barriers = slice_set s.barriers (object_operand operands) b }) (sym (ap (met i) e.2.was))

ended_left : (P : Program) (s t : State) (i offset : ℕ) (reads : List Location) → finished s i offset ≡ Steps t → t ≡ left P s i (Move.Ends offset reads)
ended_left P s t zero offset reads e = (main_ends s t offset e).1
ended_left P s t (suc i) offset reads e =
    let same : with_slot s (suc i) Finished ≡ t = cc in
    sym same

pub moved_left : (P : Program) (s t : State) (i : ℕ) (m : Move) → moved P s i m ≡ Steps t → t ≡ left P s i m
moved_left P s t i (Move.Moves frames reads write) e =
    let same : record s { globals = written_to s.globals write; slots = slice_set s.slots i (Running frames) } ≡ t = cc in
    sym same
moved_left P s t i (Move.Acts offset act operands frames) e =
    act_left P s t i offset operands frames act (act_effect P (with_slot s i (Running frames)) t i offset act operands e)
moved_left P s t i (Move.Ends offset reads) e = ended_left P s t i offset reads e
moved_left P s t i (Move.Faults offset cause) e = absurd cc
moved_left P s t i Move.Impossible e = absurd cc
