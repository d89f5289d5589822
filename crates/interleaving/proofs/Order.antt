-- What all threads do in one cycle, one after the other by thread number.
use Rattle.std.proofs.Common.{◌≡◌, ◌≢◌, ℕ, zero, suc, ◌+◌, ◌<◌, ◌≤◌, List, ◌∷◌, refl, sym, ap, ◌∙◌, subst, ⊎_elim, inl, inr, arith}
use Rattle.std.specs.Prelude.{◌⊎◌, Bool, true, false, nat_lt, if◌then◌else◌}
use Rattle.std.proofs.Math.Path.{fun_ext}
use Rattle.std.proofs.lemmas.Bool.{cases_lt}
use Rattle.std.proofs.lemmas.Bool.Decides.{nat_tests}
use Rattle.interleaving.specs.Memory.{Location, Memory, Access, memory_after, Touches, AgreeOn}
use Rattle.interleaving.specs.Source.{Source}
use Rattle.interleaving.specs.Hardware.{World, Hardware, Turned}
use Rattle.interleaving.specs.Cycle.{movers, Chain, AreForThread, StaysInCycle, TurnsInCycle, ActsInCycle, InCycle, OrderInCycle}
use Rattle.interleaving.proofs.Accesses.{memory_after-agree, memory_after-unwritten, touched}
use Rattle.interleaving.proofs.Update.{same_or_not}

-- the new value for those whose owner is below n
abbrev pub upto : {A : Type 0} → ℕ → ℕ → A → A → A
upto n owner new old = if nat_lt owner n then new else old

pub upto_below : {A : Type 0} (n owner : ℕ) (new old : A) → owner < n → upto n owner new old ≡ new
upto_below n owner new old lt = grind (arith, nat_tests)

pub upto_above : {A : Type 0} (n owner : ℕ) (new old : A) → n ≤ owner → upto n owner new old ≡ old
upto_above n owner new old le = grind (arith, nat_tests)

-- where nobody owns it, or its owner comes later, nothing changes from n to n + 1
pub upto_step : {A : Type 0} (n owner : ℕ) (new old : A) → (owner ≡ n → new ≡ old) → upto n owner new old ≡ upto (suc n) owner new old
upto_step n owner new old same =
    ⊎_elim
    (λ (e : owner ≡ n). upto_above n owner new old (omega arith) ∙ sym (same e) ∙ sym (upto_below (suc n) owner new old (omega arith)))
    (λ (ne : owner ≢ n).
    ⊎_elim
    (λ lt. upto_below n owner new old lt ∙ sym (upto_below (suc n) owner new old (omega arith)))
    (λ le. upto_above n owner new old le ∙ sym (upto_above (suc n) owner new old (omega arith)))
    (cases_lt owner n))
    (same_or_not owner n)

module _ {Value Local State Slot Cores : Type 0} (P : Source Value Local State) (H : Hardware Value Local State Slot Cores) (T : ℕ) (w w' : World Value Slot Cores)
    (place_owner : Location → ℕ) (cores_at : ℕ → Cores) where
  -- the threads below n have moved. A place belongs to the thread that its bank is granted to in this cycle, and cores_at n is what the cores are then
  abbrev pub mix : ℕ → World Value Slot Cores
  mix n = record {
    slots = λ i. upto n i (w'.slots i) (w.slots i);
    memory = λ p. upto n (place_owner p) (w'.memory p) (w.memory p);
    cores = cores_at n;
  }

  -- thread n does nothing in this cycle
  pub record StaysIn (n : ℕ) : Type 0 where
    pub slot : w'.slots n ≡ w.slots n
    pub memory : (p : Location) → place_owner p ≡ n → w'.memory p ≡ w.memory p
    pub cores : cores_at (suc n) ≡ cores_at n

  -- thread n turns in this cycle
  pub record TurnsIn (n : ℕ) : Type 0 where
    pub accesses : List (Access Value)
    pub turn : (M : Memory Value) → AgreeOn accesses w.memory M → H.Turn (cores_at n) n (w.slots n) M accesses (w'.slots n)
    pub own : (p : Location) → Touches p accesses → place_owner p ≡ n
    pub memory : (p : Location) → place_owner p ≡ n → w'.memory p ≡ memory_after accesses w.memory p
    pub cores : cores_at (suc n) ≡ cores_at n

  pub mix_same : (a b : World Value Slot Cores) → ((i : ℕ) → a.slots i ≡ b.slots i) → ((p : Location) → a.memory p ≡ b.memory p) → (a.cores ≡ b.cores) → a ≡ b
  mix_same a b s m c = λ i. record { slots = fun_ext s i; memory = fun_ext m i; cores = c i }

  stays_in : (n : ℕ) → StaysIn n → mix n ≡ mix (suc n)
  stays_in n r =
      mix_same (mix n) (mix (suc n))
      (λ i. upto_step n i (w'.slots i) (w.slots i) (λ e. ap w'.slots e ∙ r.slot ∙ ap w.slots (sym e)))
      (λ p. upto_step n (place_owner p) (w'.memory p) (w.memory p) (λ e. r.memory p e))
      (sym r.cores)

  turns_in : (n : ℕ) → TurnsIn n → Turned P H (mix n) n (mix (suc n))
  turns_in n r =
      let was : upto n n (w'.slots n) (w.slots n) ≡ w.slots n = upto_above n n (w'.slots n) (w.slots n) (omega arith) in
      let now : upto (suc n) n (w'.slots n) (w.slots n) ≡ w'.slots n = upto_below (suc n) n (w'.slots n) (w.slots n) (omega arith) in
      let sees : AgreeOn r.accesses w.memory (mix n).memory = λ p u. let e = r.own p u in sym (upto_above n (place_owner p) (w'.memory p) (w.memory p) (omega arith)) in
      record {
        accesses = r.accesses;
        turn = subst (λ q. H.Turn (mix n).cores n q (mix n).memory r.accesses (upto (suc n) n (w'.slots n) (w.slots n))) (sym was)
            (subst (λ q. H.Turn (mix n).cores n (w.slots n) (mix n).memory r.accesses q) (sym now) (r.turn (mix n).memory sees));
        others = λ j ne. sym (upto_step n j (w'.slots j) (w.slots j) (λ e. absurd (ne e)));
        memory = λ p.
            ⊎_elim
            (λ (e : place_owner p ≡ n).
            upto_below (suc n) (place_owner p) (w'.memory p) (w.memory p) (omega arith) ∙ r.memory p e
            ∙ memory_after-agree r.accesses w.memory (mix n).memory p (sym (upto_above n (place_owner p) (w'.memory p) (w.memory p) (omega arith))))
            (λ (ne : place_owner p ≢ n).
            sym (upto_step n (place_owner p) (w'.memory p) (w.memory p) (λ e. absurd (ne e)))
            ∙ sym (memory_after-unwritten r.accesses (mix n).memory p (λ wr. ne (r.own p (touched r.accesses p wr)))))
            (same_or_not (place_owner p) n);
        cores = r.cores;
      }

  -- a cycle in which each bank and core is granted to one thread is a chain of moves by thread number
  pub in_order_of_threads : (moves : ℕ → Bool) → ((n : ℕ) → n < T → moves n ≡ false → StaysIn n) →
      ((n : ℕ) → n < T → moves n ≡ true → TurnsIn n ⊎ H.Act (mix n) n (mix (suc n))) → ((i : ℕ) → T ≤ i → w'.slots i ≡ w.slots i) →
      ((p : Location) → T ≤ place_owner p → w'.memory p ≡ w.memory p) → (cores_at 0 ≡ w.cores) → (cores_at T ≡ w'.cores) → Chain P H T (movers moves T 0) w w'
  in_order_of_threads moves stay move slots memory cores_first cores_last =
      let all = go T 0 (omega arith) in
      let first : mix 0 ≡ w = mix_same (mix 0) w (λ i. upto_above 0 i (w'.slots i) (w.slots i) (omega arith))
      (λ p. upto_above 0 (place_owner p) (w'.memory p) (w.memory p) (omega arith)) cores_first in
      let last : mix T ≡ w' = mix_same (mix T) w'
      (λ i. at_end i (w'.slots i) (w.slots i) (slots i))
      (λ p. at_end (place_owner p) (w'.memory p) (w.memory p) (memory p))
      cores_last in
      subst (λ v. Chain P H T (movers moves T 0) v w') first (subst (λ v. Chain P H T (movers moves T 0) (mix 0) v) last all)
    where
      at_end : {A : Type 0} (owner : ℕ) (new old : A) → (T ≤ owner → new ≡ old) → upto T owner new old ≡ new
      at_end owner new old same =
          ⊎_elim
          (λ lt. upto_below T owner new old lt)
          (λ le. upto_above T owner new old le ∙ sym (same le))
          (cases_lt owner T)

      one : (b : Bool) (n : ℕ) (is : List ℕ) → n < T → moves n ≡ b → Chain P H T is (mix (suc n)) (mix T) → Chain P H T (if b then n ∷ is else is) (mix n) (mix T)
      one true n is below e rest = (mix (suc n), below, ⊎_elim (λ t. inl (turns_in n t)) (λ a. inr a) (move n below e), rest)
      one false n is below e rest = subst (λ v. Chain P H T is v (mix T)) (sym (stays_in n (stay n below e))) rest

      go : (r n : ℕ) → n + r ≡ T → Chain P H T (movers moves r n) (mix n) (mix T)
      go zero n e = let same : n ≡ T = omega arith in ap mix same
      go (suc r) n e = one (moves n) n (movers moves r (suc n)) (omega arith) refl (go r (suc n) (omega arith))

-- cores by number, each granted to one thread
module _ {Value Local State Slot Core : Type 0} (P : Source Value Local State) (H : Hardware Value Local State Slot (ℕ → Core)) (w v : World Value Slot (ℕ → Core))
    (place_owner : Location → ℕ) (core_owner : ℕ → ℕ) (T : ℕ) where
  -- the cores when the threads below n have moved
  abbrev cores_upto : ℕ → ℕ → Core
  cores_upto n k = upto n (core_owner k) (v.cores k) (w.cores k)

  cores_stay : (n : ℕ) → ((k : ℕ) → core_owner k ≡ n → v.cores k ≡ w.cores k) → cores_upto (suc n) ≡ cores_upto n
  cores_stay n same = fun_ext (λ k. sym (upto_step n (core_owner k) (v.cores k) (w.cores k) (λ e. same k e)))

  stays_in_cycle : (n : ℕ) → StaysInCycle P H w v place_owner core_owner n → StaysIn P H T w v place_owner cores_upto n
  stays_in_cycle n r = record { slot = r.slot; memory = r.memory; cores = cores_stay n r.cores }

  -- what thread n finds: its own cores are old
  cores_for : (n : ℕ) → AreForThread P H w v place_owner core_owner n (cores_upto n)
  cores_for n k =
      ⊎_elim
      (λ lt. inr ((λ (e : core_owner k ≡ n). absurd (omega arith)), upto_below n (core_owner k) (v.cores k) (w.cores k) lt))
      (λ le. inl (upto_above n (core_owner k) (v.cores k) (w.cores k) le))
      (cases_lt (core_owner k) n)

  turns_in_cycle : (n : ℕ) → TurnsInCycle P H w v place_owner core_owner n → TurnsIn P H T w v place_owner cores_upto n
  turns_in_cycle n r = record {
    accesses = r.accesses;
    turn = λ M agree. r.turn M (cores_upto n) agree (cores_for n);
    own = r.own;
    memory = r.memory;
    cores = cores_stay n r.cores;
  }

  acts_in_cycle : (n : ℕ) → ActsInCycle P H w v place_owner core_owner n → H.Act (mix P H T w v place_owner cores_upto n) n (mix P H T w v place_owner cores_upto (suc n))
  acts_in_cycle n r =
      r.act (mix P H T w v place_owner cores_upto n) (mix P H T w v place_owner cores_upto (suc n))
      (record {
        old_slot = upto_above n n (v.slots n) (w.slots n) (omega arith);
        new_slot = upto_below (suc n) n (v.slots n) (w.slots n) (omega arith);
        old_cores = cores_for n;
        new_cores = λ k e. upto_below (suc n) (core_owner k) (v.cores k) (w.cores k) (omega arith);
        slots = λ j ne. sym (upto_step n j (v.slots j) (w.slots j) (λ e. absurd (ne e)));
        cores = λ k ne. sym (upto_step n (core_owner k) (v.cores k) (w.cores k) (λ e. absurd (ne e)));
        memory = λ p. sym (upto_step n (place_owner p) (v.memory p) (w.memory p) (λ e. r.memory p e));
      })

  in_cycle : (moving : ℕ → Bool) → InCycle P H w v place_owner core_owner T moving → Chain P H T (movers moving T 0) w v
  in_cycle moving cycle =
      in_order_of_threads P H T w v place_owner cores_upto moving
      (λ n lt e. stays_in_cycle n (cycle.stays n lt e))
      (λ n lt e. ⊎_elim (λ t. inl (turns_in_cycle n t)) (λ a. inr (acts_in_cycle n a)) (cycle.goes n lt e))
      cycle.beyond cycle.unowned
      (fun_ext (λ k. upto_above 0 (core_owner k) (v.cores k) (w.cores k) (omega arith)))
      (fun_ext (λ k.
      ⊎_elim
      (λ lt. upto_below T (core_owner k) (v.cores k) (w.cores k) lt)
      (λ le. upto_above T (core_owner k) (v.cores k) (w.cores k) le ∙ sym (cycle.idle k le))
      (cases_lt (core_owner k) T)))

-- ORDER IN A CYCLE
pub order_in_cycle : {Value Local State Slot Core : Type 0} (P : Source Value Local State) (H : Hardware Value Local State Slot (ℕ → Core)) → OrderInCycle P H
order_in_cycle P H w v place_owner core_owner T moving cycle = in_cycle P H w v place_owner core_owner T moving cycle
