-- A clean run from a state is one from each state that differs in the order of waiters and in the output alone.
use Rattle.std.proofs.Common.{◌≡◌, ℕ, zero, suc, List, [], ◌∷◌, refl, ap, sym, ◌∙◌, subst, inl, inr}
use Rattle.std.specs.Prelude.{◌⊎◌, Bool, true, false, ◌||◌, nat_eq, Option, Some, None, slice_get}
use Rattle.c_program.specs.Tree.{Program}
use Rattle.thread_semantics.specs.Work.{Act}
use Rattle.thread_semantics.specs.State.{Slot, Unused, Running, Finished, Barrier, State}
use Rattle.thread_semantics.specs.Move.{Move, move}
use Rattle.thread_semantics.specs.Step.{object_operand}
use Rattle.run_races.specs.Order.{move_in, next_move, awaited, told_by_act, told, waits_in, Meet, AllOrderedBy}
use Rattle.run_races.specs.Clean.{IsOrderedBy}
use Rattle.run_races.proofs.Meetings.{AlikeBarrier, NoBarriers, Waiters, heard_there, alike_tells}
use Rattle.run_races.proofs.AlikeStates.{AlikeBarriers, Alike, waiter_alike, step_alike}

barrier_turn : (b c : Barrier) → AlikeBarrier b c → AlikeBarrier c b
barrier_turn _ _ NoBarriers = NoBarriers
barrier_turn _ _ (Waiters count ws vs same) = Waiters count vs ws (record { lengths = sym same.lengths; any = λ p. sym (same.any p) })

barriers_turn : (bs cs : List Barrier) → AlikeBarriers bs cs → AlikeBarriers cs bs
barriers_turn [] [] x = tt
barriers_turn [] (c ∷ cs) x = absurd x
barriers_turn (b ∷ bs) [] x = absurd x
barriers_turn (b ∷ bs) (c ∷ cs) x = (barrier_turn b c x.0, barriers_turn bs cs x.1)

pub alike_turn : (s t : State) → Alike s t → Alike t s
alike_turn s t x =
    record { globals = sym x.globals; slots = sym x.slots; mutexes = sym x.mutexes; ended = sym x.ended; barriers = barriers_turn s.barriers t.barriers x.barriers }

heard_alike : (bs cs : List Barrier) (n i : ℕ) (heard : ℕ → Bool) (k : ℕ) → AlikeBarriers bs cs → heard_there i (slice_get cs n) heard k ≡ heard_there i (slice_get bs n) heard k
heard_alike [] [] n i heard k x = refl
heard_alike [] (c ∷ cs) n i heard k x = absurd x
heard_alike (b ∷ bs) [] n i heard k x = absurd x
heard_alike (b ∷ bs) (c ∷ cs) zero i heard k x = sym (alike_tells i b c heard k x.0)
heard_alike (b ∷ bs) (c ∷ cs) (suc n) i heard k x = heard_alike bs cs n i heard k x.1

waits_alike : (bs cs : List Barrier) (n i : ℕ) → AlikeBarriers bs cs → waits_in i (slice_get cs n) ≡ waits_in i (slice_get bs n)
waits_alike [] [] n i x = refl
waits_alike [] (c ∷ cs) n i x = absurd x
waits_alike (b ∷ bs) [] n i x = absurd x
waits_alike (b ∷ bs) (c ∷ cs) zero i x = waiter_alike i b c x.0
waits_alike (b ∷ bs) (c ∷ cs) (suc n) i x = waits_alike bs cs n i x.1

module _ (P : Program) (s t : State) (x : Alike s t) where
  pub next_alike : (i : ℕ) → next_move P t i ≡ next_move P s i
  next_alike i = ap (λ o. move_in P t o) (ap (λ xs. slice_get xs i) x.slots) ∙ go (slice_get s.slots i)
    where
      go : (o : Option Slot) → move_in P t o ≡ move_in P s o
      go None = refl
      go (Some Unused) = refl
      go (Some Finished) = refl
      go (Some (Running frames)) = ap (λ G. move P G frames) x.globals

  act_told : (i : ℕ) (act : Act) (n : ℕ) (heard : ℕ → Bool) (k : ℕ) → told_by_act t i act n heard k ≡ told_by_act s i act n heard k
  act_told i Act.BarrierWait n heard k = heard_alike s.barriers t.barriers n i heard k x.barriers
  act_told i act n heard k = refl

  same_told : (i : ℕ) (m : Move) (heard : ℕ → Bool) (k : ℕ) → told t i m heard k ≡ told s i m heard k
  same_told i (Move.Acts offset act operands frames) heard k = act_told i act (object_operand operands) heard k
  same_told i m heard k = refl

  pub told_alike : (i : ℕ) (heard : ℕ → Bool) → told s i (next_move P s i) heard ≡ told t i (next_move P t i) heard
  told_alike i heard = ap (λ m. told s i m heard) (sym (next_alike i)) ∙ (λ d k. sym (same_told i (next_move P t i) heard k) d)

pub ordered_alike : (D : Move → ℕ → Move → Type 0) (P : Program) (list : List ℕ) (s t : State) (i : ℕ) (m : Move) (heard : ℕ → Bool) (again : Bool) →
    Alike s t → AllOrderedBy D P i m heard again s list → AllOrderedBy D P i m heard again t list
ordered_alike D P [] s t i m heard again x o = tt
ordered_alike D P (j ∷ list) s t i m heard again x o = (
  λ d. first (o.0 (subst (λ n. D m j n) (next_alike P s t x j) d)),
  λ w steps.
      (let r = step_alike P t s w (alike_turn s t x) j steps in
      subst (λ h. AllOrderedBy D P i m h (again || nat_eq j i) w list) (told_alike P s t x j heard)
      (ordered_alike D P list r.state w i m (told s j (next_move P s j) heard) (again || nat_eq j i) (alike_turn w r.state r.alike) (o.1 r.state r.steps))),
)
  where
    first : (heard j ≡ true) ⊎ Meet s i m again (next_move P s j) → (heard j ≡ true) ⊎ Meet t i m again (next_move P t j)
    first (inl e) = inl e
    first (inr meet) =
        inr
        (record {
          barrier = meet.barrier;
          first = meet.first;
          second = subst (λ n. awaited n ≡ Some meet.barrier) (sym (next_alike P s t x j)) meet.second;
          still = meet.still;
          waits = waits_alike s.barriers t.barriers meet.barrier i x.barriers ∙ meet.waits;
        })

pub clean_alike : (D : Move → ℕ → Move → Type 0) (P : Program) (list : List ℕ) (s t : State) → Alike s t → IsOrderedBy D P s list → IsOrderedBy D P t list
clean_alike D P [] s t x clean = x.ended ∙ clean
clean_alike D P (i ∷ list) s t x clean =
    let u = clean.0 in
    let r = step_alike P s t u x i clean.1 in (
      r.state,
      r.steps,
      subst (λ n. AllOrderedBy D P i n (told t i (next_move P t i) (nat_eq i)) false r.state list) (sym (next_alike P s t x i))
          (subst (λ h. AllOrderedBy D P i (next_move P s i) h false r.state list) (told_alike P s t x i (nat_eq i))
          (ordered_alike D P list u r.state i (next_move P s i) (told s i (next_move P s i) (nat_eq i)) false r.alike clean.2)),
      clean_alike D P list u r.state r.alike clean.3,
    )
