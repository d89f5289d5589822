-- An object on which a step doesn't act stays as it is.
use Rattle.std.proofs.Common.{◌≡◌, ◌≢◌, ℕ, zero, suc, List, [], ◌∷◌, refl, ap, sym, ◌∙◌}
use Rattle.std.specs.Prelude.{true, Some, slice_get, slice_set, ℤ}
use Rattle.lists.proofs.Places.{set_elsewhere}
use Rattle.c_program.specs.Tree.{Program}
use Rattle.thread_semantics.specs.declared.object.MutexState.{MutexState}
use Rattle.thread_semantics.specs.declared.object.MutexState.TheVariants.{Uninitialised, Free, Owned}
use Rattle.thread_semantics.specs.Work.{Act}
use Rattle.thread_semantics.specs.State.{Slot, Unused, Running, Finished, Barrier, NoBarrier, Awaits, State, started}
use Rattle.thread_semantics.specs.Move.{Move, move}
use Rattle.thread_semantics.specs.Step.{Steps, with_slot, finished, written_to, moved, object_operand, value_operand, step}
use Rattle.thread_semantics.specs.Races.{id_of_act, id_of_move}
use Rattle.race_model.proofs.Sound.{goes, main_ends}
use Rattle.run_races.specs.Order.{move_in, next_move, mutex_of_act, barrier_of_act, mutex_of_move, barrier_of_move}
use Rattle.run_races.proofs.Effects.{AtSlot, AtMutex, AtBarrier, come_to, Effect, act_effect}

module _ (P : Program) (s t : State) (j : ℕ) (operands : List ℤ) (x : ℕ) where
  at_mutex : (old new : MutexState) → object_operand operands ≢ x → AtMutex s t (object_operand operands) old new → slice_get t.mutexes x ≡ slice_get s.mutexes x
  at_mutex old new apart e =
      ap (λ (u : State). slice_get u.mutexes x) e.is ∙ set_elsewhere s.mutexes (object_operand operands) x new apart

  other : (o : ℕ) → Some o ≢ Some x → o ≢ x
  other o apart e = apart (ap Some e)

  act_mutex : (act : Act) → mutex_of_act act operands ≢ Some x → Effect P s t j (object_operand operands) (value_operand operands) operands act →
      slice_get t.mutexes x ≡ slice_get s.mutexes x
  act_mutex (Act.Print format) apart e = ap (λ (u : State). slice_get u.mutexes x) e
  act_mutex (Act.Create routine) apart e = ap (λ (u : State). slice_get u.mutexes x) e.is
  act_mutex Act.Join apart e = ap (λ (u : State). slice_get u.mutexes x) e.is
  act_mutex Act.MutexInit apart e = at_mutex Uninitialised Free (other (object_operand operands) apart) e
  act_mutex Act.MutexDestroy apart e = at_mutex Free Uninitialised (other (object_operand operands) apart) e
  act_mutex Act.MutexLock apart e = at_mutex Free (Owned j) (other (object_operand operands) apart) e
  act_mutex Act.MutexUnlock apart e = at_mutex (Owned j) Free (other (object_operand operands) apart) e
  act_mutex Act.BarrierInit apart e = ap (λ (u : State). slice_get u.mutexes x) e.1.is
  act_mutex Act.BarrierDestroy apart e = ap (λ (u : State). slice_get u.mutexes x) e.1.is
  act_mutex Act.BarrierWait apart e = ap (λ (u : State). slice_get u.mutexes x) e.2.is

  at_barrier : (old new : Barrier) → object_operand operands ≢ x → AtBarrier s t (object_operand operands) old new → slice_get t.barriers x ≡ slice_get s.barriers x
  at_barrier old new apart e =
      ap (λ (u : State). slice_get u.barriers x) e.is ∙ set_elsewhere s.barriers (object_operand operands) x new apart

  act_barrier : (act : Act) → barrier_of_act act operands ≢ Some x → Effect P s t j (object_operand operands) (value_operand operands) operands act →
      slice_get t.barriers x ≡ slice_get s.barriers x
  act_barrier (Act.Print format) apart e = ap (λ (u : State). slice_get u.barriers x) e
  act_barrier (Act.Create routine) apart e = ap (λ (u : State). slice_get u.barriers x) e.is
  act_barrier Act.Join apart e = ap (λ (u : State). slice_get u.barriers x) e.is
  act_barrier Act.MutexInit apart e = ap (λ (u : State). slice_get u.barriers x) e.is
  act_barrier Act.MutexDestroy apart e = ap (λ (u : State). slice_get u.barriers x) e.is
  act_barrier Act.MutexLock apart e = ap (λ (u : State). slice_get u.barriers x) e.is
  act_barrier Act.MutexUnlock apart e = ap (λ (u : State). slice_get u.barriers x) e.is
  act_barrier Act.BarrierInit apart e = at_barrier NoBarrier (Awaits (value_operand operands) []) (other (object_operand operands) apart) e.1
  act_barrier Act.BarrierDestroy apart e = at_barrier (Awaits e.0 []) NoBarrier (other (object_operand operands) apart) e.1
  act_barrier Act.BarrierWait apart e = at_barrier (Awaits e.0 e.1) (come_to j e.0 e.1) (other (object_operand operands) apart) e.2

  at_slot : (old new : Slot) → object_operand operands ≢ x → AtSlot s t (object_operand operands) old new → slice_get t.slots x ≡ slice_get s.slots x
  at_slot old new apart e = ap (λ (u : State). slice_get u.slots x) e.is ∙ set_elsewhere s.slots (object_operand operands) x new apart

  act_slot : (act : Act) → id_of_act act operands ≢ Some x → Effect P s t j (object_operand operands) (value_operand operands) operands act →
      slice_get t.slots x ≡ slice_get s.slots x
  act_slot (Act.Print format) apart e = ap (λ (u : State). slice_get u.slots x) e
  act_slot (Act.Create routine) apart e =
      at_slot Unused (Running (started (slice_get P.functions routine) routine (value_operand operands ∷ []))) (other (object_operand operands) apart) e
  act_slot Act.Join apart e = at_slot Finished Unused (other (object_operand operands) apart) e
  act_slot Act.MutexInit apart e = ap (λ (u : State). slice_get u.slots x) e.is
  act_slot Act.MutexDestroy apart e = ap (λ (u : State). slice_get u.slots x) e.is
  act_slot Act.MutexLock apart e = ap (λ (u : State). slice_get u.slots x) e.is
  act_slot Act.MutexUnlock apart e = ap (λ (u : State). slice_get u.slots x) e.is
  act_slot Act.BarrierInit apart e = ap (λ (u : State). slice_get u.slots x) e.1.is
  act_slot Act.BarrierDestroy apart e = ap (λ (u : State). slice_get u.slots x) e.1.is
  act_slot Act.BarrierWait apart e = ap (λ (u : State). slice_get u.slots x) e.2.is

module _ (P : Program) (s t : State) (j x : ℕ) where
  -- the end of a thread: its own slot alone changes
  pub record Ended : Type 0 where
    pub slots : t.slots ≡ slice_set s.slots j Finished
    pub mutexes : t.mutexes ≡ s.mutexes
    pub barriers : t.barriers ≡ s.barriers

  ended_as : (u : State) → u.slots ≡ slice_set s.slots j Finished → u.mutexes ≡ s.mutexes → u.barriers ≡ s.barriers → t ≡ u → Ended
  ended_as u slots mutexes barriers e = record {
    slots = ap (λ (v : State). v.slots) e ∙ slots;
    mutexes = ap (λ (v : State). v.mutexes) e ∙ mutexes;
    barriers = ap (λ (v : State). v.barriers) e ∙ barriers;
  }

pub ended_of : (P : Program) (s t : State) (j x offset : ℕ) → finished s j offset ≡ Steps t → Ended P s t j x
ended_of P s t zero x offset e = ended_as P s t zero x (record s { slots = slice_set s.slots 0 Finished; ended = true }) refl refl refl (main_ends s t offset e).1
ended_of P s t (suc j) x offset e =
    let same : with_slot s (suc j) Finished ≡ t = cc in
    ended_as P s t (suc j) x (with_slot s (suc j) Finished) refl refl refl (sym same)

module _ (P : Program) (s t : State) (j x : ℕ) where
  moved_mutex : (m : Move) → mutex_of_move m ≢ Some x → moved P s j m ≡ Steps t → slice_get t.mutexes x ≡ slice_get s.mutexes x
  moved_mutex (Move.Moves frames reads write) apart e =
      let same : record s { globals = written_to s.globals write; slots = slice_set s.slots j (Running frames) } ≡ t = cc in
      ap (λ (u : State). slice_get u.mutexes x) (sym same)
  moved_mutex (Move.Acts offset act operands frames) apart e =
      act_mutex P (with_slot s j (Running frames)) t j operands x act apart (act_effect P (with_slot s j (Running frames)) t j offset act operands e)
  moved_mutex (Move.Ends offset reads) apart e = ap (λ xs. slice_get xs x) (ended_of P s t j x offset e).mutexes
  moved_mutex (Move.Faults offset cause) apart e = absurd cc
  moved_mutex Move.Impossible apart e = absurd cc

  moved_barrier : (m : Move) → barrier_of_move m ≢ Some x → moved P s j m ≡ Steps t → slice_get t.barriers x ≡ slice_get s.barriers x
  moved_barrier (Move.Moves frames reads write) apart e =
      let same : record s { globals = written_to s.globals write; slots = slice_set s.slots j (Running frames) } ≡ t = cc in
      ap (λ (u : State). slice_get u.barriers x) (sym same)
  moved_barrier (Move.Acts offset act operands frames) apart e =
      act_barrier P (with_slot s j (Running frames)) t j operands x act apart (act_effect P (with_slot s j (Running frames)) t j offset act operands e)
  moved_barrier (Move.Ends offset reads) apart e = ap (λ xs. slice_get xs x) (ended_of P s t j x offset e).barriers
  moved_barrier (Move.Faults offset cause) apart e = absurd cc
  moved_barrier Move.Impossible apart e = absurd cc

  moved_slot : (m : Move) → j ≢ x → id_of_move m ≢ Some x → moved P s j m ≡ Steps t → slice_get t.slots x ≡ slice_get s.slots x
  moved_slot (Move.Moves frames reads write) own apart e =
      let same : record s { globals = written_to s.globals write; slots = slice_set s.slots j (Running frames) } ≡ t = cc in
      ap (λ (u : State). slice_get u.slots x) (sym same) ∙ set_elsewhere s.slots j x (Running frames) own
  moved_slot (Move.Acts offset act operands frames) own apart e =
      act_slot P (with_slot s j (Running frames)) t j operands x act apart (act_effect P (with_slot s j (Running frames)) t j offset act operands e)
      ∙ set_elsewhere s.slots j x (Running frames) own
  moved_slot (Move.Ends offset reads) own apart e =
      ap (λ xs. slice_get xs x) (ended_of P s t j x offset e).slots ∙ set_elsewhere s.slots j x Finished own
  moved_slot (Move.Faults offset cause) own apart e = absurd cc
  moved_slot Move.Impossible own apart e = absurd cc

  module _ (steps : step P s j ≡ Steps t) where
    next_is : (x : ℕ) → next_move P s j ≡ move P s.globals (goes P s t j steps).frames
    next_is x = ap (move_in P s) (goes P s t j steps).at

    pub mutex_stays : mutex_of_move (next_move P s j) ≢ Some x → slice_get t.mutexes x ≡ slice_get s.mutexes x
    mutex_stays apart =
        let g = goes P s t j steps in
        moved_mutex (move P s.globals g.frames) (λ e. apart (ap mutex_of_move (next_is x) ∙ e)) g.does

    pub barrier_stays : barrier_of_move (next_move P s j) ≢ Some x → slice_get t.barriers x ≡ slice_get s.barriers x
    barrier_stays apart =
        let g = goes P s t j steps in
        moved_barrier (move P s.globals g.frames) (λ e. apart (ap barrier_of_move (next_is x) ∙ e)) g.does

    pub slot_stays : j ≢ x → id_of_move (next_move P s j) ≢ Some x → slice_get t.slots x ≡ slice_get s.slots x
    slot_stays own apart =
        let g = goes P s t j steps in
        moved_slot (move P s.globals g.frames) own (λ e. apart (ap id_of_move (next_is x) ∙ e)) g.does
