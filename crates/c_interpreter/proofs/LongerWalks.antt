-- Lists of steps, one step longer and some turns longer.
use Rattle.std.proofs.Common.{◌≡◌, ℕ, zero, suc, ◌+◌, ◌<◌, ◌≤◌, List, [], ◌∷◌, ◌++◌, refl, ap, sym, subst, ◌∙◌}
use Rattle.std.proofs.Common.{length, take, replicate, get_or, length-append, arith, Some, false, inl, inr}
use Rattle.std.proofs.Math.Nat.{eq-or-lt_of_le}
use Rattle.std.proofs.Math.Seq.{take-suc}
use Rattle.std.proofs.lemmas.Option.{slice_get_within, get_or_from_slice_get, slice_get-get_or}
use Rattle.std.proofs.lemmas.List.{length-replicate, get_or-replicate}
use Rattle.std.proofs.lemmas.List.Concat.{get_or-flat_map, flat_map-cons}
use Rattle.std.proofs.lemmas.List.Folds.{length-flat_map-take}
use Rattle.std.specs.List.{flat_map}
use Rattle.std.specs.Prelude.{slice_get}
use Rattle.c_program.specs.Tree.{Program}
use Rattle.thread_semantics.specs.State.{State, start}
use Rattle.thread_semantics.specs.Step.{Stepped, Steps, Blocks, Undefines, step, and_steps, after}
use Rattle.turns.specs.declared.Turn.{Turn}
use Rattle.turns.specs.Turns.{threads_of}
use Rattle.c_interpreter.specs.Walk.{Takes, IsAt, Lists}

and_steps-one : (P : Program) (a : Stepped) (s : State) (i : ℕ) → a ≡ Steps s → and_steps P a (i ∷ []) ≡ step P s i
and_steps-one P (Steps t) s i e = let h : t ≡ s = cc in ap (λ x. step P x i) h
and_steps-one P (Blocks cause) s i e = cc
and_steps-one P (Undefines offset cause) s i e = cc

pub and_steps-append : (P : Program) (xs : List ℕ) (a : Stepped) (s : State) (i : ℕ) → and_steps P a xs ≡ Steps s → and_steps P a (xs ++ i ∷ []) ≡ step P s i
and_steps-append P [] a s i e = and_steps-one P a s i e
and_steps-append P (x ∷ xs) (Steps t) s i e = and_steps-append P xs (step P t x) s i e
and_steps-append P (x ∷ xs) (Blocks cause) s i e = cc
and_steps-append P (x ∷ xs) (Undefines offset cause) s i e = cc

module _ (P : Program) (list : List ℕ) (n : ℕ) (s t : State) (i : ℕ) (before : Takes P list n s) (running : s.ended ≡ false) (listed_here : slice_get list n ≡ Some i)
    (stepped : step P s i ≡ Steps t) where
  there : n < length list
  there = slice_get_within list n i listed_here

  taken_more : after P (take (suc n) list) ≡ Steps t
  taken_more =
      rw (take-suc list n i there, get_or_from_slice_get list n i i listed_here)
      (and_steps-append P (take n list) _ s i before.taken ∙ stepped)

  earlier_more : (m : ℕ) (u : State) → m < suc n → after P (take m list) ≡ Steps u → u.ended ≡ false
  earlier_more m u h e =
      let at_most : m ≤ n = omega arith in
      elim (eq-or-lt_of_le at_most) [
        | inl same ↦
            let q : Steps s ≡ Steps u = sym before.taken ∙ ap (λ k. after P (take k list)) (sym same) ∙ e in
            let r : s ≡ u = cc in
            ap (λ x. x.ended) (sym r) ∙ running
        | inr less ↦ before.earlier m u less e
      ]

  pub takes_more : Takes P list (suc n) t
  takes_more = record { within = there; taken = taken_more; earlier = earlier_more }

pub start_at : (P : Program) (list : List ℕ) → IsAt P list 0 (start P)
start_at P list = record {
  so_far = record { within = omega arith; taken = refl; earlier = λ m t h e. absurd (omega arith) };
  running = refl;
}

abbrev turn_numbers : Turn → List ℕ
turn_numbers turn = replicate turn.steps turn.thread

threads_flat : (ts : List Turn) → threads_of ts ≡ flat_map turn_numbers ts
threads_flat [] = refl
threads_flat (t ∷ ts) =
    ap (λ l. replicate t.steps t.thread ++ l) (threads_flat ts) ∙ sym (flat_map-cons turn_numbers t ts)

threads_one : (t : Turn) (ts : List Turn) → length (threads_of (t ∷ ts)) ≡ t.steps + length (threads_of ts)
threads_one t ts =
    rw (length-append (replicate t.steps t.thread) (threads_of ts), length-replicate t.steps t.thread) refl

module _ (ts : List Turn) (i : ℕ) (d : Turn) (there : i < length ts) where
  numbers_of : length (turn_numbers (get_or ts i d)) ≡ (get_or ts i d).steps
  numbers_of = length-replicate (get_or ts i d).steps (get_or ts i d).thread

  flat_at : Lists (flat_map turn_numbers ts) (length (flat_map turn_numbers (take i ts))) (get_or ts i d)
  flat_at k h =
      let within : length (flat_map turn_numbers (take i ts)) + length (turn_numbers (get_or ts i d)) ≤ length (flat_map turn_numbers ts) =
      length-flat_map-take turn_numbers ts i d there in
      let inside : k < length (turn_numbers (get_or ts i d)) = subst (λ (n : ℕ). k < n) (sym numbers_of) h in
      let bound : length (flat_map turn_numbers (take i ts)) + k < length (flat_map turn_numbers ts) = omega (arith, within, inside) in
      slice_get-get_or (flat_map turn_numbers ts) (length (flat_map turn_numbers (take i ts)) + k) 0 bound
      ∙ ap Some (get_or-flat_map turn_numbers ts i k d 0 there inside ∙ get_or-replicate (get_or ts i d).steps k (get_or ts i d).thread 0 h)

  -- the numbers of a turn stand behind those of the turns before it
  pub lists_at : Lists (threads_of ts) (length (threads_of (take i ts))) (get_or ts i d)
  lists_at k h =
      ap (λ l. slice_get l (length (threads_of (take i ts)) + k)) (threads_flat ts)
      ∙ ap (λ l. slice_get (flat_map turn_numbers ts) (length l + k)) (threads_flat (take i ts))
      ∙ flat_at k h

pub threads_more : (ts : List Turn) (i : ℕ) (d : Turn) → i < length ts → length (threads_of (take (suc i) ts)) ≡ length (threads_of (take i ts)) + (get_or ts i d).steps
threads_more [] i d h = absurd (omega arith)
threads_more (u ∷ ts) zero d h = threads_one u [] ∙ (let e : u.steps + 0 ≡ 0 + u.steps = omega arith in e)
threads_more (u ∷ ts) (suc i) d h =
    let more = threads_more ts i d (omega arith) in
    let e : u.steps + (length (threads_of (take i ts)) + (get_or ts i d).steps) ≡ u.steps + length (threads_of (take i ts)) + (get_or ts i d).steps = omega arith in
    threads_one u (take (suc i) ts)
    ∙ ap (λ (n : ℕ). u.steps + n) more
    ∙ e
    ∙ ap (λ (n : ℕ). n + (get_or ts i d).steps) (sym (threads_one u (take i ts)))
