-- A thread that runs and waits nowhere, while another one takes a step: it runs on as it did, waits nowhere, and hears
-- nothing.
use Rattle.std.proofs.Common.{◌≡◌, ◌≢◌, ℕ, zero, suc, ◌+◌, List, [], ◌∷◌, length, refl, ap, sym, ◌∙◌, subst}
use Rattle.std.specs.Prelude.{Bool, true, false, ◌||◌, if◌then◌else◌, nat_eq, Some, slice_get, slice_set, ℤ, unsigned_abs}
use Rattle.std.specs.List.{list_any}
use Rattle.std.proofs.lemmas.Bool.{or_parts, ne_eqb}
use Rattle.lists.proofs.Places.{set_elsewhere}
use Rattle.c_program.specs.Tree.{Program}
use Rattle.thread_semantics.specs.Work.{Act}
use Rattle.thread_semantics.specs.State.{Frame, Slot, Unused, Running, Finished, Barrier, NoBarrier, Awaits, State, started}
use Rattle.thread_semantics.specs.Move.{Move, move}
use Rattle.thread_semantics.specs.Step.{Steps, written_to, with_slot, finished, moved, is_waiter, object_operand, value_operand, step}
use Rattle.race_model.proofs.Lists.{list_any_at}
use Rattle.race_model.proofs.Sound.{goes, main_ends}
use Rattle.run_races.proofs.Effects.{come_to, Effect, act_effect}

-- thread i has these calls and waits at no barrier
pub record Stands (s : State) (i : ℕ) (frames : List Frame) : Type 0 where
  pub at : slice_get s.slots i ≡ Some (Running frames)
  pub free : list_any (is_waiter i) s.barriers ≡ false

-- one element changes to one that is not so
pub none_set : {A : Type 0} (p : A → Bool) (xs : List A) (n : ℕ) (x : A) → list_any p xs ≡ false → p x ≡ false → list_any p (slice_set xs n x) ≡ false
none_set p [] n x none not = refl
none_set p (y ∷ ys) zero x none not = ap (λ b. b || list_any p ys) not ∙ (or_parts (p y) (list_any p ys) none).1
none_set p (y ∷ ys) (suc n) x none not =
    ap (λ b. b || list_any p (slice_set ys n x)) (or_parts (p y) (list_any p ys) none).0
    ∙ none_set p ys n x (or_parts (p y) (list_any p ys) none).1 not

-- where another thread comes, who didn't wait doesn't wait
come_free : (i j : ℕ) (count : ℤ) (waiters : List ℕ) → i ≢ j → is_waiter i (Awaits count waiters) ≡ false → is_waiter i (come_to j count waiters) ≡ false
come_free i j count waiters apart none = go (nat_eq (length waiters + 1) (unsigned_abs count))
  where
    go : (b : Bool) → is_waiter i (if b then Awaits count [] else Awaits count (j ∷ waiters)) ≡ false
    go true = refl
    go false = ap (λ b. b || list_any (nat_eq i) waiters) (ne_eqb i j apart) ∙ none

module _ (P : Program) (i : ℕ) (frames : List Frame) where
  stands_as : (s t : State) → t.slots ≡ s.slots → t.barriers ≡ s.barriers → Stands s i frames → Stands t i frames
  stands_as s t slots barriers x = record {
    at = ap (λ (xs : List Slot). slice_get xs i) slots ∙ x.at;
    free = ap (λ (bs : List Barrier). list_any (is_waiter i) bs) barriers ∙ x.free;
  }

  slot_stands : (s t : State) (n : ℕ) (old new : Slot) → n ≢ i → t ≡ record s { slots = slice_set s.slots n new } → Stands s i frames → Stands t i frames
  slot_stands s t n old new other is x =
      subst (λ u. Stands u i frames) (sym is) (record { at = set_elsewhere s.slots n i new other ∙ x.at; free = x.free })

  -- an id that doesn't run is another one
  pub idle : (s : State) (n : ℕ) (old : Slot) → slice_get s.slots n ≡ Some old → ((fs : List Frame) → old ≢ Running fs) → Stands s i frames → n ≢ i
  idle s n old was rests x e =
      let both : Some old ≡ Some (Running frames) = sym was ∙ ap (λ k. slice_get s.slots k) e ∙ x.at in
      rests frames (let same : old ≡ Running frames = cc in same)

  barrier_stands : (s t : State) (n : ℕ) (new : Barrier) → is_waiter i new ≡ false → t ≡ record s { barriers = slice_set s.barriers n new } →
      Stands s i frames → Stands t i frames
  barrier_stands s t n new none is x =
      subst (λ u. Stands u i frames) (sym is) (record { at = x.at; free = none_set (is_waiter i) s.barriers n new x.free none })

  act_stands : (s t : State) (j n : ℕ) (v : ℤ) (operands : List ℤ) (act : Act) → i ≢ j → Effect P s t j n v operands act → Stands s i frames → Stands t i frames
  act_stands s t j n v operands (Act.Print format) apart e x = stands_as s t (ap (λ (u : State). u.slots) e) (ap (λ (u : State). u.barriers) e) x
  act_stands s t j n v operands (Act.Create routine) apart e x =
      slot_stands s t n Unused (Running (started (slice_get P.functions routine) routine (v ∷ []))) (idle s n Unused e.was (λ fs q. cc) x) e.is x
  act_stands s t j n v operands Act.Join apart e x = slot_stands s t n Finished Unused (idle s n Finished e.was (λ fs q. cc) x) e.is x
  act_stands s t j n v operands Act.MutexInit apart e x = stands_as s t (ap (λ (u : State). u.slots) e.is) (ap (λ (u : State). u.barriers) e.is) x
  act_stands s t j n v operands Act.MutexDestroy apart e x = stands_as s t (ap (λ (u : State). u.slots) e.is) (ap (λ (u : State). u.barriers) e.is) x
  act_stands s t j n v operands Act.MutexLock apart e x = stands_as s t (ap (λ (u : State). u.slots) e.is) (ap (λ (u : State). u.barriers) e.is) x
  act_stands s t j n v operands Act.MutexUnlock apart e x = stands_as s t (ap (λ (u : State). u.slots) e.is) (ap (λ (u : State). u.barriers) e.is) x
  act_stands s t j n v operands Act.BarrierInit apart e x = barrier_stands s t n (Awaits v []) refl e.1.is x
  act_stands s t j n v operands Act.BarrierDestroy apart e x = barrier_stands s t n NoBarrier refl e.1.is x
  act_stands s t j n v operands Act.BarrierWait apart e x =
      barrier_stands s t n (come_to j e.0 e.1)
      (come_free i j e.0 e.1 apart (list_any_at (is_waiter i) s.barriers n (Awaits e.0 e.1) x.free e.2.was)) e.2.is x

  pub own_slot : (s : State) (j : ℕ) (slot : Slot) (globals : List (List ℤ)) → i ≢ j → Stands s i frames →
      Stands (record s { globals = globals; slots = slice_set s.slots j slot }) i frames
  own_slot s j slot globals apart x = record { at = set_elsewhere s.slots j i slot (λ e. apart (sym e)) ∙ x.at; free = x.free }

  ended_stands : (s t : State) (j offset : ℕ) → i ≢ j → finished s j offset ≡ Steps t → Stands s i frames → Stands t i frames
  ended_stands s t zero offset apart e x =
      let r = main_ends s t offset e in
      subst (λ u. Stands u i frames) (sym r.1) (record { at = set_elsewhere s.slots 0 i Finished (λ q. apart (sym q)) ∙ x.at; free = x.free })
  ended_stands s t (suc j) offset apart e x =
      let same : with_slot s (suc j) Finished ≡ t = cc in
      subst (λ u. Stands u i frames) same (own_slot s (suc j) Finished s.globals apart x)

  moved_stands : (s t : State) (j : ℕ) (mv : Move) → i ≢ j → moved P s j mv ≡ Steps t → Stands s i frames → Stands t i frames
  moved_stands s t j (Move.Moves fs reads write) apart e x =
      let same : record s { globals = written_to s.globals write; slots = slice_set s.slots j (Running fs) } ≡ t = cc in
      subst (λ u. Stands u i frames) same (own_slot s j (Running fs) (written_to s.globals write) apart x)
  moved_stands s t j (Move.Acts offset act operands fs) apart e x =
      act_stands (with_slot s j (Running fs)) t j (object_operand operands) (value_operand operands) operands act apart
      (act_effect P (with_slot s j (Running fs)) t j offset act operands e) (own_slot s j (Running fs) s.globals apart x)
  moved_stands s t j (Move.Ends offset reads) apart e x = ended_stands s t j offset apart e x
  moved_stands s t j (Move.Faults offset cause) apart e x = absurd cc
  moved_stands s t j Move.Impossible apart e x = absurd cc

  -- it runs on as it did, and waits nowhere
  pub step_stands : (s t : State) (j : ℕ) → i ≢ j → step P s j ≡ Steps t → Stands s i frames → Stands t i frames
  step_stands s t j apart e x = let g = goes P s t j e in moved_stands s t j (move P s.globals g.frames) apart g.does x
