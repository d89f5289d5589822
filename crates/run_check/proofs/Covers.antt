-- What the clocks show: who has heard of a step that stands for an earlier one has heard of that one.
use Rattle.std.proofs.Common.{◌≡◌, ℕ, ◌+◌, ◌≤◌, List, refl, ap, ap₂, sym, ◌∙◌, ⊎_elim, inl, inr, arith}
use Rattle.std.specs.Prelude.{◌⊎◌, Bool, true, false, ◌&&◌, if◌then◌else◌, nat_eq}
use Rattle.std.proofs.lemmas.Bool.{eqb-true, eq-eqb, leb-true}
use Rattle.run_check.specs.declared.clocks.Stamp.{Stamp}
use Rattle.run_check.specs.declared.class.Class.{Class}
use Rattle.run_check.specs.Clocks.{is_heard, ticked}
use Rattle.run_check.specs.Shadow.{ClocksAfter, next_stamp}
use Rattle.run_check.specs.Shown.{Covers, HasPeaks}
use Rattle.run_check.proofs.Telling.{told_class, told_more, told_by, told_back}

pub covers_as : (clock : ℕ → ℕ → ℕ) (step : Stamp) (h g : ℕ → Bool) → ((j : ℕ) → g j ≡ h j) → Covers clock step h → Covers clock step g
covers_as clock step h g is y = record { past = y.past; known = λ j e. is j ∙ y.known j e }

pub heard_by : (clock : ℕ → ℕ → ℕ) (step : Stamp) (h : ℕ → Bool) (j : ℕ) → Covers clock step h → is_heard (clock j) step ≡ true → h j ≡ true
heard_by clock step h j y e = y.known j (leb-true step.number (clock j step.thread) e)

pub ticked_cases : (clock : ℕ → ℕ → ℕ) (i j k : ℕ) →
    ((j ≡ i) × (k ≡ i) × (ticked clock i j k ≡ clock i i + 1)) ⊎ (ticked clock i j k ≡ clock j k)
unfolding ticked
ticked_cases clock i j k = go (nat_eq j i) (nat_eq k i) refl refl
  where
    go : (a b : Bool) → nat_eq j i ≡ a → nat_eq k i ≡ b →
        ((j ≡ i) × (k ≡ i) × ((if a && b then clock i i + 1 else clock j k) ≡ clock i i + 1))
        ⊎ ((if a && b then clock i i + 1 else clock j k) ≡ clock j k)
    go true true p q = inl (eqb-true j i p, eqb-true k i q, refl)
    go true false p q = inr refl
    go false b p q = inr refl

ticked_at : (clock : ℕ → ℕ → ℕ) (i : ℕ) → ticked clock i i i ≡ clock i i + 1
unfolding ticked
ticked_at clock i = ap (λ b. if b && b then clock i i + 1 else clock i i) (eq-eqb i i refl)

module _ (old : ℕ → ℕ → ℕ) (i : ℕ) where
  ticked_more : (j k : ℕ) → old j k ≤ ticked old i j k
  ticked_more j k =
      ⊎_elim (λ z. let same : old j k ≡ old i i = ap₂ old z.0 z.1 in omega (arith, same, z.2)) (λ z. omega (arith, z)) (ticked_cases old i j k)

  -- who has heard of it, has, whoever takes a step
  ticked_known : (step : Stamp) (h : ℕ → Bool) (j : ℕ) → Covers old step h → step.number ≤ ticked old i j step.thread → h j ≡ true
  ticked_known step h j y e =
      ⊎_elim
      (λ z. y.known j
      (let same : old step.thread step.thread ≡ old j step.thread = ap (λ u. old u step.thread) (z.1 ∙ sym z.0) in omega (arith, same, y.past)))
      (λ z. y.known j (omega (arith, z, e))) (ticked_cases old i j step.thread)

  -- who has heard of the new step is its thread
  ticked_own : HasPeaks old → (j : ℕ) → old i i + 1 ≤ ticked old i j i → nat_eq i j ≡ true
  ticked_own peaks j e =
      ⊎_elim (λ z. eq-eqb i j (sym z.0)) (λ z. absurd (let most = peaks j i in omega (arith, e, z, most))) (ticked_cases old i j i)

  ticked_peaks : HasPeaks old → (j k : ℕ) → ticked old i j k ≤ ticked old i k k
  ticked_peaks peaks j k =
      ⊎_elim
      (λ z. let same : ticked old i k k ≡ ticked old i i i = ap (λ u. ticked old i u u) z.1 in let at = ticked_at old i in omega (arith, same, at, z.2))
      (λ z. let most = peaks j k in let more = ticked_more k k in omega (arith, z, most, more)) (ticked_cases old i j k)

module _ (old new : ℕ → ℕ → ℕ) (i : ℕ) (c : Class) (r : List ℕ) (x : ClocksAfter old new i c r) where
  pub covers_on : (step : Stamp) (h : ℕ → Bool) → Covers old step h → Covers new step (told_class c r i h)
  covers_on step h y = record {
    past =
        let more = ticked_more old i step.thread step.thread in
        let grows = x.grows step.thread step.thread in
        let past = y.past in
        omega (arith, past, more, grows);
    known = λ j e.
        ⊎_elim (λ q. told_more c r i h j (ticked_known old i step h j y (omega (arith, e, q))))
        (λ q. told_by c r i h q.0 j q.1 (ticked_known old i step h q.0 y (let is = q.2 in omega (arith, e, is))))
        (x.source j step.thread);
  }

  -- the new step stands for each one of which all have heard that hear of it
  pub covers_new : HasPeaks old → (h : ℕ → Bool) → ((j : ℕ) → told_class c r i (nat_eq i) j ≡ true → h j ≡ true) → Covers new (next_stamp old i) h
  covers_new peaks h m = record {
    past = let grows = x.grows i i in let at = ticked_at old i in omega (arith, grows, at);
    known = λ j e.
        ⊎_elim (λ q. m j (told_more c r i (nat_eq i) j (ticked_own old i peaks j (omega (arith, e, q)))))
        (λ q. m j (told_by c r i (nat_eq i) q.0 j q.1 (ticked_own old i peaks q.0 (let is = q.2 in omega (arith, e, is)))))
        (x.source j i);
  }

  pub peaks_on : HasPeaks old → HasPeaks new
  peaks_on peaks j k =
      ⊎_elim (λ q. let most = ticked_peaks old i peaks j k in let grows = x.grows k k in omega (arith, q, most, grows))
      (λ q. let is = q.2 in let most = ticked_peaks old i peaks q.0 k in let grows = x.grows k k in omega (arith, is, most, grows)) (x.source j k)

  -- the clocks show each who has heard of a step, and of the new one
  pub heard_on : (step : Stamp) (h : ℕ → Bool) → ((j : ℕ) → h j ≡ true → step.number ≤ old j step.thread) → (j : ℕ) →
      told_class c r i h j ≡ true → step.number ≤ new j step.thread
  heard_on step h y j e =
      ⊎_elim
      (λ q. let a = y j q in let b = ticked_more old i j step.thread in let g = x.grows j step.thread in omega (arith, a, b, g))
      (λ q. let a = y q.0 q.2 in let b = ticked_more old i q.0 step.thread in let g = x.told q.0 j step.thread q.1 in omega (arith, a, b, g))
      (told_back c r i h j e)

  pub heard_new : (j : ℕ) → told_class c r i (nat_eq i) j ≡ true → old i i + 1 ≤ new j i
  heard_new j e =
      ⊎_elim
      (λ q. let a = own j q in let g = x.grows j i in omega (arith, a, g))
      (λ q. let a = own q.0 q.2 in let g = x.told q.0 j i q.1 in omega (arith, a, g))
      (told_back c r i (nat_eq i) j e)
    where
      own : (v : ℕ) → nat_eq i v ≡ true → ticked old i v i ≡ old i i + 1
      own v q = ap (λ u. ticked old i u i) (sym (eqb-true i v q)) ∙ ticked_at old i

  -- nobody tells a thread of its own steps
  pub own_on : HasPeaks old → (k : ℕ) → new k k ≡ ticked old i k k
  own_on peaks k =
      ⊎_elim (λ q. q)
      (λ q. let is = q.2 in let most = ticked_peaks old i peaks q.0 k in let grows = x.grows k k in omega (arith, is, most, grows)) (x.source k k)
