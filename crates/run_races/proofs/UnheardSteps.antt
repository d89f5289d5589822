-- A thread that runs and waits nowhere hears nothing by the step of another one.
use Rattle.std.proofs.Common.{◌≡◌, ◌≢◌, ℕ, ◌+◌, List, [], ◌∷◌, length, refl, ap, sym, ◌∙◌}
use Rattle.std.specs.Prelude.{Bool, true, false, ◌&&◌, ◌||◌, if◌then◌else◌, nat_eq, Option, Some, None, slice_get, ℤ, unsigned_abs}
use Rattle.std.specs.List.{list_any}
use Rattle.std.proofs.lemmas.Bool.{ne_eqb}
use Rattle.c_program.specs.Tree.{Program}
use Rattle.thread_semantics.specs.Work.{Act}
use Rattle.thread_semantics.specs.State.{Frame, Slot, Unused, Running, Barrier, NoBarrier, Awaits, State}
use Rattle.thread_semantics.specs.Move.{Move, move}
use Rattle.thread_semantics.specs.Step.{Steps, with_slot, is_waiter, moved, object_operand, value_operand, step}
use Rattle.race_model.proofs.Lists.{list_any_at}
use Rattle.race_model.proofs.Sound.{goes}
use Rattle.run_races.specs.Order.{move_in, next_move, is_in, let_go, told_by_act, told}
use Rattle.run_races.proofs.Effects.{Effect, act_effect}
use Rattle.run_races.proofs.StandingThreads.{Stands, idle, own_slot}

or_false : (a b : Bool) → b ≡ false → (a || b) ≡ a
or_false true b e = refl
or_false false b e = e

-- who doesn't wait isn't let go where another thread comes
not_let_go : (i j : ℕ) (o : Option Barrier) → i ≢ j → ((b : Barrier) → o ≡ Some b → is_waiter i b ≡ false) → is_in i (let_go j o) ≡ false
not_let_go i j None apart free = refl
not_let_go i j (Some NoBarrier) apart free = refl
not_let_go i j (Some (Awaits count waiters)) apart free = go (nat_eq (length waiters + 1) (unsigned_abs count))
  where
    go : (b : Bool) → is_in i (if b then j ∷ waiters else []) ≡ false
    go true = ap (λ b. b || list_any (nat_eq i) waiters) (ne_eqb i j apart) ∙ free (Awaits count waiters) refl
    go false = refl

module _ (P : Program) (i : ℕ) (frames : List Frame) (s : State) (x : Stands s i frames) (heard : ℕ → Bool) where
  act_unheard : (t : State) (j n : ℕ) (v : ℤ) (operands : List ℤ) (act : Act) (slot : Slot) → i ≢ j → Effect P (with_slot s j slot) t j n v operands act →
      told_by_act s j act n heard i ≡ heard i
  act_unheard t j n v operands (Act.Create routine) slot apart e =
      let other : n ≢ i = idle P i frames (with_slot s j slot) n Unused e.was (λ fs q. cc) (own_slot P i frames s j slot s.globals apart x) in
      or_false (heard i) (nat_eq i n && heard j) (ap (λ b. b && heard j) (ne_eqb i n (λ q. other (sym q))))
  act_unheard t j n v operands Act.Join slot apart e = or_false (heard i) (nat_eq i j && heard n) (ap (λ b. b && heard n) (ne_eqb i j apart))
  act_unheard t j n v operands Act.BarrierWait slot apart e =
      let gone : is_in i (let_go j (slice_get s.barriers n)) ≡ false =
      not_let_go i j (slice_get s.barriers n) apart (λ b at. list_any_at (is_waiter i) s.barriers n b x.free at) in
      or_false (heard i) (is_in i (let_go j (slice_get s.barriers n)) && list_any heard (let_go j (slice_get s.barriers n)))
      (ap (λ b. b && list_any heard (let_go j (slice_get s.barriers n))) gone)
  act_unheard t j n v operands act slot apart e = refl

  moved_unheard : (t : State) (j : ℕ) (mv : Move) → i ≢ j → moved P s j mv ≡ Steps t → told s j mv heard i ≡ heard i
  moved_unheard t j (Move.Acts offset act operands fs) apart e =
      act_unheard t j (object_operand operands) (value_operand operands) operands act (Running fs) apart
      (act_effect P (with_slot s j (Running fs)) t j offset act operands e)
  moved_unheard t j mv apart e = refl

  -- it hears nothing
  pub unheard : (t : State) (j : ℕ) → i ≢ j → step P s j ≡ Steps t → told s j (next_move P s j) heard i ≡ heard i
  unheard t j apart e =
      let g = goes P s t j e in
      let is : next_move P s j ≡ move P s.globals g.frames = ap (move_in P s) g.at in
      ap (λ mv. told s j mv heard i) is ∙ moved_unheard t j (move P s.globals g.frames) apart g.does
