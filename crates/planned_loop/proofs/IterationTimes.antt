-- When the iterations of a pipelined loop begin.
use Rattle.std.specs.Prelude.{nat_eq, nat_lt, Bool, true, false, not, ◌&&◌, ◌||◌, if◌then◌else◌}
use Rattle.std.proofs.Common.{◌≡◌, ℕ, zero, suc, ◌+◌, ◌*◌, ◌<◌, ◌≤◌, refl, sym, ap, ◌∙◌, subst, inl, ⊎_elim, arith}
use Rattle.std.proofs.lemmas.Bool.{cases_eq}
use Rattle.std.proofs.lemmas.Nat.{mul-le, same_from_place}
use Rattle.planned_block.specs.Slot.{Slot}
use Rattle.planned_block.proofs.Bits.{same_is, other_is, not_less_is, less_or_not}
use Rattle.planned_loop.specs.Loop.{Loop, Iterations, AreIterations, runs}
use Rattle.planned_loop.specs.Plan.{LoopPlan, KeepsLoop}
use Rattle.planned_loop.specs.Move.{flag, is_set, smaller, prologue, is_running, is_in, is_some_in, goes_round}
use Rattle.planned_loop.specs.Moment.{IsAt}
use Rattle.planned_loop.specs.Next.{Owner, AreOwners, wires, loop_next}
use Rattle.planned_loop.specs.Time.{Place, place_next, place_after, Stays, KeepsTime, LoopKeepsTime}
use Rattle.planned_loop.proofs.RoundNumbers.{smaller_is, rounds_are}
use Rattle.planned_loop.proofs.ShownWires.{runs_before}
use Rattle.planned_loop.proofs.CycleSteps as step
use Rattle.planned_loop.proofs.RoundEnds.{loop_goes_on, loop_ends}
use Rattle.planned_loop.proofs.NextSlots.{loop_moves}

set_flag : (b : Bool) → is_set (flag b) ≡ b
set_flag true = refl
set_flag false = refl

module _ (l : Loop) (p : LoopPlan) (it : Iterations) (owner : ℕ → Owner) (exit : ℕ) (are : AreIterations l it) (keeps : KeepsLoop l p)
    (owners : AreOwners l p owner) where
  abbrev At : Place → Type 0
  At z = IsAt l p it z.round z.phase z.slot

  abbrev round_of : Place → ℕ
  round_of z = smaller z.round (prologue p)

  abbrev goes : Place → Bool
  goes z = goes_round l p (round_of z) z.phase z.slot (wires l p owner exit (round_of z) z.phase z.slot)

  moved_end : (z : Place) → At z → suc z.phase ≡ p.interval → goes z ≡ true → At (place_next l p owner exit z)
  moved_end z at e g =
      let t : nat_eq (suc z.phase) p.interval ≡ true = same_is (suc z.phase) p.interval e in
      let r = (loop_moves l p owner exit (round_of z) z.phase z.slot keeps owners).1 e in
      let n = (loop_ends l p it are keeps z.round z.phase z.slot (loop_next l p owner exit (round_of z) z.phase z.slot)
      (wires l p owner exit (round_of z) z.phase z.slot) at r).0 g in
      subst (λ (b : Bool). IsAt l p it (if b then suc z.round else z.round) (if b then 0 else suc z.phase)
      (loop_next l p owner exit (round_of z) z.phase z.slot)) (sym t) n

  moved_within : (z : Place) → At z → suc z.phase < p.interval → At (place_next l p owner exit z)
  moved_within z at lt =
      let t : nat_eq (suc z.phase) p.interval ≡ false = other_is (suc z.phase) p.interval (λ e. omega arith) in
      let r = (loop_moves l p owner exit (round_of z) z.phase z.slot keeps owners).0 lt in
      let n = loop_goes_on l p it are keeps z.round z.phase z.slot (loop_next l p owner exit (round_of z) z.phase z.slot)
      (wires l p owner exit (round_of z) z.phase z.slot) at r in
      subst (λ (b : Bool). IsAt l p it (if b then suc z.round else z.round) (if b then 0 else suc z.phase)
      (loop_next l p owner exit (round_of z) z.phase z.slot)) (sym t) n

  moved : (z : Place) → At z → Stays l p owner exit z → At (place_next l p owner exit z)
  moved z at s = ⊎_elim
      (λ e. (let t : nat_eq (suc z.phase) p.interval ≡ true = same_is (suc z.phase) p.interval e in
      let g : not (goes z) ≡ false = sym (ap (λ b. b && not (goes z)) t) ∙ s in
      moved_end z at e (true_of (goes z) g)))
      (λ ne. moved_within z at (let i = at.inside in omega (arith, ne, i)))
      (cases_eq (suc z.phase) p.interval)
    where
      true_of : (b : Bool) → not b ≡ false → b ≡ true
      true_of true e = refl
      true_of false e = absurd cc

  counted : (z : Place) → At z → (place_next l p owner exit z).round * p.interval + (place_next l p owner exit z).phase ≡ suc (z.round * p.interval + z.phase)
  counted z at = ⊎_elim
      (λ e. (let t : nat_eq (suc z.phase) p.interval ≡ true = same_is (suc z.phase) p.interval e in
      let f : suc z.round * p.interval ≡ z.round * p.interval + p.interval = grind arith in
      ap (λ (b : Bool). (if b then suc z.round else z.round) * p.interval + (if b then 0 else suc z.phase)) t ∙ (omega (arith, f, e))))
      (λ ne. (let t : nat_eq (suc z.phase) p.interval ≡ false = other_is (suc z.phase) p.interval ne in
      ap (λ (b : Bool). (if b then suc z.round else z.round) * p.interval + (if b then 0 else suc z.phase)) t ∙ (omega arith)))
      (cases_eq (suc z.phase) p.interval)

  first_in : (z : Place) (n : ℕ) → is_in l p (round_of z) z.phase z.slot (wires l p owner exit (round_of z) z.phase z.slot) 0 ≡ true → 0 < n →
      is_some_in l p (round_of z) z.phase z.slot (wires l p owner exit (round_of z) z.phase z.slot) n ≡ true
  first_in z zero e lt = absurd (omega arith)
  first_in z (suc zero) e lt = e
  first_in z (suc (suc n)) e lt =
      ap (λ b. b || is_in l p (round_of z) z.phase z.slot (wires l p owner exit (round_of z) z.phase z.slot) (suc n)) (first_in z (suc n) e (omega arith))

  -- while comparisons hold, the loop is not left
  stays_on : (z : Place) → At z → runs l it (suc z.round) ≡ true → Stays l p owner exit z
  stays_on z at run = ⊎_elim
      (λ e. (let t : nat_eq (suc z.phase) p.interval ≡ true = same_is (suc z.phase) p.interval e in
      let r = (loop_moves l p owner exit (round_of z) z.phase z.slot keeps owners).1 e in
      let v = loop_next l p owner exit (round_of z) z.phase z.slot in
      let w = wires l p owner exit (round_of z) z.phase z.slot in
      let known = step.compared_is l p it keeps are z.round z.phase z.slot v w at r.works e in
      let some = keeps.some in
      let first = step.in_stage l p it keeps are z.round z.phase z.slot v w at r.works 0 z.round some (omega arith) (inl known) ∙ run in
      let g : goes z ≡ true = first_in z (prologue p) first (let b = rounds_are p.stages in omega arith) in
      ap (λ b. b && not (goes z)) t ∙ ap not g))
      (λ ne. (let t : nat_eq (suc z.phase) p.interval ≡ false = other_is (suc z.phase) p.interval ne in ap (λ b. b && not (goes z)) t))
      (cases_eq (suc z.phase) p.interval)

  module _ (q : Slot) (start : IsAt l p it 0 0 q) where
    abbrev after : ℕ → Place
    after m = place_after l p owner exit q m

    abbrev StaysTo : ℕ → Type 0
    StaysTo m = (k : ℕ) → k < m → Stays l p owner exit (after k)

    pub at_after : (m : ℕ) → StaysTo m → At (after m)
    at_after zero s = start
    at_after (suc m) s = moved (after m) (at_after m (λ k lt. s k (omega arith))) (s m (omega arith))

    pub time_after : (m : ℕ) → StaysTo m → (after m).round * p.interval + (after m).phase ≡ m
    time_after zero s = omega arith
    time_after (suc m) s =
        let rest = λ (k : ℕ) (lt : k < m). s k (omega arith) in
        counted (after m) (at_after m rest) ∙ ap suc (time_after m rest)

    stays_here : (j m : ℕ) → runs l it j ≡ true → m < j * p.interval → StaysTo m → Stays l p owner exit (after m)
    stays_here j m run lt rest =
        let at = at_after m rest in
        let t = time_after m rest in
        let low : (after m).round < j = ⊎_elim (λ less. less)
        (λ ge. (let h = mul-le j p.interval (after m).round p.interval ge (omega arith) in absurd (omega (arith, t, h)))) (less_or_not (after m).round j) in
        stays_on (after m) at (runs_before l p it j (suc (after m).round) (omega arith) run)

    stays_to : (j : ℕ) → runs l it j ≡ true → (m : ℕ) → m ≤ j * p.interval → StaysTo m
    stays_to j run zero le = λ k lt. absurd (omega arith)
    stays_to j run (suc m) le =
        let rest = stays_to j run m (omega arith) in
        let here = stays_here j m run (omega arith) rest in
        λ k lt. ⊎_elim (λ e. subst (λ z. Stays l p owner exit (after z)) (sym e) here) (λ ne. rest k (omega (arith, ne))) (cases_eq k m)

    on_time : (j : ℕ) → runs l it j ≡ true → ((after (j * p.interval)).round ≡ j) × ((after (j * p.interval)).phase ≡ 0)
    on_time j run =
        let s = stays_to j run (j * p.interval) (omega arith) in
        let at = at_after (j * p.interval) s in
        let t = time_after (j * p.interval) s in
        let i = at.inside in
        same_from_place (after (j * p.interval)).round (after (j * p.interval)).phase j 0 p.interval i (omega (arith, i)) (omega (arith, t))

    runs_at : (z : Place) → At z → z.phase ≡ 0 → runs l it z.round ≡ true →
        is_running l p (round_of z) z.phase z.slot (wires l p owner exit (round_of z) z.phase z.slot) ≡ true
    runs_at z at first run = ⊎_elim
        (λ e. (let s = smaller_is z.round (prologue p) in let f : nat_eq (round_of z) 0 ≡ true = same_is (round_of z) 0 (omega arith) in ap
        (λ b. b || is_set (z.slot.registers (p.bit 0))) f))
        (λ ne. (let s = smaller_is z.round (prologue p) in
        let b = rounds_are p.stages in
        let f : nat_eq (round_of z) 0 ≡ false = other_is (round_of z) 0 (λ x. ⊎_elim (λ y. omega (arith, ne)) (λ y. omega arith) s.2) in
        let g : nat_lt (p.phase l.comparison) z.phase ≡ false = not_less_is (p.phase l.comparison) z.phase (omega arith) in
        ap (λ c. c || is_set (z.slot.registers (p.bit 0))) f ∙ ap is_set (at.first (inl (omega (arith, ne)))) ∙ set_flag _
        ∙ ap (λ (c : Bool). runs l it (if c then suc z.round else z.round)) g ∙ run))
        (cases_eq z.round 0)

    keeps_time : KeepsTime l p it owner exit q
    keeps_time = record {
      at = at_after;
      moves = time_after;
      stays = λ j k run lt. stays_to j run (j * p.interval) (omega arith) k lt;
      begins = λ j run. (let s = stays_to j run (j * p.interval) (omega arith) in
          let t = on_time j run in
          record { phase = t.1; running = runs_at (after (j * p.interval)) (at_after (j * p.interval) s) t.1 (ap (runs l it) t.0 ∙ run) });
      number = λ j run. (on_time j run).0;
    }

pub loop_keeps_time : LoopKeepsTime
loop_keeps_time l p it owner exit q are keeps owners start = keeps_time l p it owner exit are keeps owners q start
