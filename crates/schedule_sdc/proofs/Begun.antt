-- The history before the first round: each place has one step, at start 0.
use Rattle.std.proofs.Common.{◌≡◌, ℕ, zero, suc, ◌<◌, ◌≤◌, List, length, get_or, replicate, arith, refl, sym, inl}
use Rattle.std.proofs.lemmas.List.{length-replicate}
use Rattle.schedule_sdc.specs.declared.constraint.Constraint.{Constraint}
use Rattle.schedule_sdc.specs.declared.history.Step.{Step}
use Rattle.schedule_sdc.specs.History.{at, IsStep, IsLatest, IsSound, IsShallow}
use Rattle.schedule_sdc.specs.Relaxed.{AreEarly}
use Rattle.schedule_sdc.proofs.Rounds.{IsBegun}

zero_at : (n i : ℕ) → get_or (replicate {A = ℕ} n 0) i 0 ≡ 0
zero_at zero i = refl
zero_at (suc n) zero = refl
zero_at (suc n) (suc i) = zero_at n i

module _ (list : List Constraint) (n : ℕ) (last : List ℕ) (steps : List Step) (begun : IsBegun n last steps) where
  first_step : (i : ℕ) → i < n → IsStep list n steps i (at steps i)
  first_step i l = rw (begun.step_at i l) (record { place = l; depth = omega arith; small = omega arith; linked = inl (refl, refl) })

  latest : (v : ℕ) → v < n → IsLatest (replicate n 0) steps v (get_or last v 0)
  latest v l =
      rw (begun.last_at v l) (record {
        within = omega (arith, begun.steps_length);
        place = rw (begun.step_at v l) refl;
        start = rw (begun.step_at v l) (sym (zero_at n v));
      })

  rising : (i j : ℕ) → i < j → j < length steps → (at steps i).place ≡ (at steps j).place → (at steps i).start < (at steps j).start
  rising i j before l same =
      let lj : j < n = omega (arith, begun.steps_length) in
      let li : i < n = omega arith in
      let equal : i ≡ j = rw (begun.step_at i li, begun.step_at j lj) at same in
      absurd (omega (arith, equal, before))

  passed : (i : ℕ) → i < n → (at steps i).start ≤ get_or (replicate n 0) (at steps i).place 0
  passed i l = rw (begun.step_at i l) (omega arith)

  pub begun_sound : IsSound list n (replicate n 0) last steps
  begun_sound = record {
    starts_length = length-replicate n 0;
    last_length = begun.last_length;
    latest = latest;
    history = record { step = λ i l. first_step i (omega (arith, l, begun.steps_length)); rising = rising };
    passed = λ i l. passed i (omega (arith, l, begun.steps_length));
  }

  pub begun_shallow : IsShallow n steps
  begun_shallow = λ i l. (let l' : i < n = omega (arith, l, begun.steps_length) in rw (begun.step_at i l') (omega (arith, l')))

  pub begun_early : AreEarly list n (replicate n 0)
  begun_early = λ t solves i l. rw (zero_at n i) (omega arith)
