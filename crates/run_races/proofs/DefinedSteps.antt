-- In a state from which a clean run goes on, no step is undefined: a thread that runs and waits nowhere has a first step in
-- that run, and no step before it is one that this one depends on.
use Rattle.std.proofs.Common.{◌≡◌, ◌≢◌, ℕ, List, [], ◌∷◌, refl, ap, sym, ◌∙◌, subst, ⊎_elim, inl, inr}
use Rattle.std.specs.Prelude.{◌⊎◌, Bool, true, false, ◌||◌, if◌then◌else◌, nat_eq, Option, Some, None, slice_get}
use Rattle.std.specs.List.{list_any}
use Rattle.std.proofs.lemmas.Bool.{cases_eq, ne_eqb, eq-eqb, or_parts}
use Rattle.c_program.specs.Tree.{Program}
use Rattle.c_program.specs.Resolved.{IsResolved}
use Rattle.thread_semantics.specs.declared.cause.UndefinedCause.{UndefinedCause}
use Rattle.thread_semantics.specs.declared.cause.BlockedCause.TheVariants as waits
use Rattle.thread_semantics.specs.State.{Frame, Slot, Unused, Running, Finished, Barrier, State}
use Rattle.thread_semantics.specs.Move.{Move, move}
use Rattle.thread_semantics.specs.Step.{Steps, Blocks, Undefines, is_waiter, is_running, is_live, moved, slot_step, step}
use Rattle.race_model.proofs.Depends.{IsDefined}
use Rattle.race_model.proofs.Lists.{list_any_at}
use Rattle.race_model.proofs.Sound.{IsSound, step_moved, step_sound}
use Rattle.run_races.specs.Order.{move_in, next_move, awaited, told, waits_in, Meet, Depends, AllOrderedBy, AllOrdered}
use Rattle.run_races.specs.Clean.{IsClean}
use Rattle.run_races.proofs.StandingThreads.{Stands, step_stands}
use Rattle.run_races.proofs.UnheardSteps.{unheard}
use Rattle.run_races.proofs.StepsAhead.{undefined, BothWait, move_ahead, step_ahead}

-- the first step of thread i in the run list from s, with the move m
abbrev pub First : Program → ℕ → Move → State → List ℕ → Type 0
First P i m s [] = ⊥
First P i m s (j ∷ list) =
    ((i ≡ j) × (next_move P s j ≡ m) × IsDefined m)
    ⊎ ((i ≢ j) × (t : State) × (step P s j ≡ Steps t) × First P i m t list)

module _ (D : Move → ℕ → Move → Type 0) (P : Program) (i : ℕ) (frames : List Frame) where
  -- a step that is before it is ordered before it only as a wait of one meeting
  pub not_before : (list : List ℕ) (s : State) (k : ℕ) (n m : Move) (heard : ℕ → Bool) (again : Bool) → Stands s i frames → heard i ≡ false →
      AllOrderedBy D P k n heard again s list → First P i m s list → D n i m → BothWait n m
  not_before [] s k n m heard again x silent ordered first d = absurd first
  not_before (j ∷ list) s k n m heard again x silent ordered first d =
      ⊎_elim
      (λ now. here now)
      (λ later.
      not_before list later.1 k n m (told s j (next_move P s j) heard) (again || nat_eq j k)
      (step_stands P i frames s later.1 j later.0 later.2 x) (unheard P i frames s x heard later.1 j later.0 later.2 ∙ silent)
      (ordered.1 later.1 later.2) later.3 d)
      first
    where
      here : (i ≡ j) × (next_move P s j ≡ m) × IsDefined m → BothWait n m
      here now =
          let depends : D n j (next_move P s j) = subst (λ q. D n j q) (sym now.1) (subst (λ q. D n q m) now.0 d) in
          ⊎_elim
          (λ (told_it : heard j ≡ true). absurd (let no = sym (ap heard now.0 ∙ told_it) ∙ silent in cc))
          (λ (meet : Meet s k n again (next_move P s j)). record {
            barrier = meet.barrier;
            first = meet.first;
            second = sym (ap awaited now.1) ∙ meet.second;
          })
          (ordered.0 depends)

-- who waits at a barrier doesn't stand
pub waits_not_stands : (s : State) (k n : ℕ) (fs : List Frame) → waits_in k (slice_get s.barriers n) ≡ true → Stands s k fs → ⊥
waits_not_stands s k n fs waits x = go (slice_get s.barriers n) refl waits
  where
    go : (o : Option Barrier) → slice_get s.barriers n ≡ o → waits_in k o ≡ true → ⊥
    go None at e = cc
    go (Some b) at e = let free = list_any_at (is_waiter k) s.barriers n b x.free at in let no = sym e ∙ free in cc

module _ (P : Program) (i : ℕ) (frames : List Frame) where
  -- and then the one of that step, where it has taken none since, waits all the while
  pub waits_on : (list : List ℕ) (s : State) (k : ℕ) (n m : Move) (heard : ℕ → Bool) (again : Bool) (fs : List Frame) → Stands s i frames → heard i ≡ false →
      AllOrdered P k n heard again s list → First P i m s list → Depends n i m → (again ≡ false) × (Stands s k fs → ⊥)
  waits_on [] s k n m heard again fs x silent ordered first d = absurd first
  waits_on (j ∷ list) s k n m heard again fs x silent ordered first d =
      ⊎_elim
      (λ now. here now)
      (λ later.
      earlier later.1 later.2
      (waits_on list later.1 k n m (told s j (next_move P s j) heard) (again || nat_eq j k) fs
      (step_stands P i frames s later.1 j later.0 later.2 x) (unheard P i frames s x heard later.1 j later.0 later.2 ∙ silent)
      (ordered.1 later.1 later.2) later.3 d))
      first
    where
      here : (i ≡ j) × (next_move P s j ≡ m) × IsDefined m → (again ≡ false) × (Stands s k fs → ⊥)
      here now =
          let depends : Depends n j (next_move P s j) = subst (λ q. Depends n j q) (sym now.1) (subst (λ q. Depends n q m) now.0 d) in
          ⊎_elim
          (λ (told_it : heard j ≡ true). absurd (let no = sym (ap heard now.0 ∙ told_it) ∙ silent in cc))
          (λ (meet : Meet s k n again (next_move P s j)). (meet.still, λ y. waits_not_stands s k meet.barrier fs meet.waits y))
          (ordered.0 depends)

      earlier : (t : State) → step P s j ≡ Steps t → ((again || nat_eq j k) ≡ false) × (Stands t k fs → ⊥) → (again ≡ false) × (Stands s k fs → ⊥)
      earlier t steps r =
          let both = or_parts again (nat_eq j k) r.0 in
          (both.0, λ y. r.1 (step_stands P k fs s t j (λ e. (let no = sym (eq-eqb j k (sym e)) ∙ both.1 in cc)) steps y))

-- a move that is taken is defined
pub taken_defined : (P : Program) (s t : State) (i : ℕ) (m : Move) → moved P s i m ≡ Steps t → IsDefined m
taken_defined P s t i (Move.Moves fs reads write) e = tt
taken_defined P s t i (Move.Acts offset act operands fs) e = tt
taken_defined P s t i (Move.Ends offset reads) e = tt
taken_defined P s t i (Move.Faults offset cause) e = absurd cc
taken_defined P s t i Move.Impossible e = absurd cc

-- thread i, with these calls, has a first step in the run; its move is the one at hand, and its step is defined
pub record Fate (P : Program) (i : ℕ) (frames : List Frame) (s : State) (list : List ℕ) : Type 0 where
  pub next : Move
  pub first : First P i next s list
  pub is : move P s.globals frames ≡ next
  pub possible : IsDefined next
  pub goes : undefined (step P s i) ≡ false

module _ (P : Program) (R : IsResolved P) (i : ℕ) (frames : List Frame) where
  pub fate : (list : List ℕ) (s : State) → IsSound P s → Stands s i frames → IsClean P s list → Fate P i frames s list
  fate [] s sound x clean =
      let still : is_live s i ≡ false = sound.quiet clean i in
      let lives : is_live s i ≡ true = ap is_running x.at in
      absurd (let no = sym still ∙ lives in cc)
  fate (j ∷ list) s sound x clean = ⊎_elim (λ now. own now) (λ later. other later (λ so y. fate list clean.0 so y clean.3)) (cases_eq i j)
    where
      t : State
      t = clean.0

      own : i ≡ j → Fate P i frames s (j ∷ list)
      own same =
          let steps : step P s i ≡ Steps t = subst (λ k. step P s k ≡ Steps t) (sym same) clean.1 in
          let is : next_move P s j ≡ move P s.globals frames = subst (λ k. next_move P s k ≡ move P s.globals frames) same (ap (move_in P s) x.at) in
          let defined : IsDefined (move P s.globals frames) = taken_defined P s t i (move P s.globals frames) (sym (step_moved P s i frames x.at x.free) ∙ steps) in
          record {
            next = move P s.globals frames;
            first = inl (same, is, defined);
            is = refl;
            possible = defined;
            goes = ap undefined steps;
          }

      other : i ≢ j → (IsSound P t → Stands t i frames → Fate P i frames t list) → Fate P i frames s (j ∷ list)
      other apart later =
          let y = step_stands P i frames s t j apart clean.1 x in
          let r = later (step_sound P R s t j sound clean.1) y in
          let silent = unheard P i frames s x (nat_eq j) t j apart clean.1 ∙ ne_eqb j i (λ e. apart (sym e)) in
          let free = not_before Depends P i frames list t j (next_move P s j) r.next (told s j (next_move P s j) (nat_eq j)) false y silent clean.2 r.first in
          record {
            next = r.next;
            first = inr (apart, t, clean.1, r.first);
            is = move_ahead P s t i j apart clean.1 frames x r.next r.possible r.is free;
            possible = r.possible;
            goes = step_ahead P s t i j apart clean.1 frames x r.next r.possible r.is free r.goes;
          }

-- no step is undefined
module _ (P : Program) (R : IsResolved P) (s : State) (sound : IsSound P s) (list : List ℕ) (clean : IsClean P s list) where
  pub none_undefined : (i offset : ℕ) (cause : UndefinedCause) → step P s i ≢ Undefines offset cause
  none_undefined i offset cause e = slot (slice_get s.slots i) refl (list_any (is_waiter i) s.barriers) refl
    where
      slot : (o : Option Slot) → slice_get s.slots i ≡ o → (b : Bool) → list_any (is_waiter i) s.barriers ≡ b → ⊥
      slot (Some (Running frames)) at false free =
          let f = fate P R i frames list s sound (record { at = at; free = free }) clean in
          let no = sym f.goes ∙ ap undefined e in
          cc
      slot (Some (Running frames)) at true kept =
          let blocks : step P s i ≡ Blocks waits.Barrier =
          ap (λ o. slot_step P s i o) at ∙ ap (λ (b : Bool). if b then Blocks waits.Barrier else moved P s i (move P s.globals frames)) kept in
          let no = sym blocks ∙ e in
          cc
      slot (Some Unused) at b q = let no = sym (ap (λ o. slot_step P s i o) at) ∙ e in cc
      slot (Some Finished) at b q = let no = sym (ap (λ o. slot_step P s i o) at) ∙ e in cc
      slot None at b q = let no = sym (ap (λ o. slot_step P s i o) at) ∙ e in cc
