-- In a state from which a clean run goes on no two threads race: the first steps of the two in that run would depend on one
-- another, and neither happens before the other.
use Rattle.std.proofs.Common.{◌≡◌, ◌≢◌, ℕ, List, [], ◌∷◌, refl, ap, sym, ◌∙◌, subst, ⊎_elim}
use Rattle.std.specs.Prelude.{Bool, true, false, ◌||◌, nat_eq, slice_get, Contains}
use Rattle.std.proofs.lemmas.Bool.{cases_eq, ne_eqb}
use Rattle.lists.proofs.Places.{in_none}
use Rattle.c_program.specs.Tree.{Program}
use Rattle.c_program.specs.Resolved.{IsResolved}
use Rattle.thread_semantics.specs.Memory.{Location}
use Rattle.thread_semantics.specs.State.{Frame, State}
use Rattle.thread_semantics.specs.Move.{move}
use Rattle.thread_semantics.specs.Step.{Stepped, Steps, Blocks, Undefines, is_running, is_live, step}
use Rattle.thread_semantics.specs.Races.{Touch, touched, thread_touched, if_taken, footprint, Races}
use Rattle.race_model.proofs.Sound.{IsSound, goes, step_sound}
use Rattle.run_races.specs.Order.{move_in, next_move, told, Conflict, Depends, OnData}
use Rattle.run_races.specs.Clean.{IsClean}
use Rattle.run_races.proofs.StandingThreads.{Stands, step_stands}
use Rattle.run_races.proofs.UnheardSteps.{unheard}
use Rattle.run_races.proofs.StepsAhead.{no_conflict, move_ahead}
use Rattle.run_races.proofs.DefinedSteps.{fate, not_before}

or_turned : (a b : Bool) → (a || b) ≡ true → (b || a) ≡ true
or_turned true true e = refl
or_turned true false e = refl
or_turned false true e = refl
or_turned false false e = e

pub turned : (xs ys : List Touch) → Conflict xs ys → Conflict ys xs
turned xs ys c = record {
  first = c.second;
  second = c.first;
  first_in = c.second_in;
  second_in = c.first_in;
  same = sym c.same;
  written = or_turned c.first.written c.second.written c.written;
}

module _ (P : Program) (R : IsResolved P) where
  -- the next step of j is the run's, and thread i stands: the two don't conflict
  head_apart : (s : State) (i j : ℕ) (fi fj : List Frame) (list : List ℕ) → i ≢ j → IsSound P s → Stands s i fi → Stands s j fj → IsClean P s (j ∷ list) →
      Conflict (touched (move P s.globals fj)) (touched (move P s.globals fi)) → ⊥
  head_apart s i j fi fj list apart sound x z clean c =
      let t = clean.0 in
      let y = step_stands P i fi s t j apart clean.1 x in
      let r = fate P R i fi list t (step_sound P R s t j sound clean.1) y clean.3 in
      let silent = unheard P i fi s x (nat_eq j) t j apart clean.1 ∙ ne_eqb j i (λ e. apart (sym e)) in
      let free = not_before Depends P i fi list t j (next_move P s j) r.next (told s j (next_move P s j) (nat_eq j)) false y silent clean.2 r.first in
      let is = move_ahead P s t i j apart clean.1 fi x r.next r.possible r.is free in
      let own : next_move P s j ≡ move P s.globals fj = ap (move_in P s) z.at in
      let d : Conflict (touched (next_move P s j)) (touched r.next) =
      subst (λ m. Conflict (touched (next_move P s j)) (touched m)) is (subst (λ m. Conflict (touched m) (touched (move P s.globals fi))) (sym own) c) in
      no_conflict (next_move P s j) r.next (free (OnData d)) d

  -- the move of a thread that stands stays where another one takes the run's next step
  kept : (s : State) (i j : ℕ) (fi : List Frame) (list : List ℕ) → i ≢ j → IsSound P s → Stands s i fi → (clean : IsClean P s (j ∷ list)) →
      move P s.globals fi ≡ move P clean.0.globals fi
  kept s i j fi list apart sound x clean =
      let t = clean.0 in
      let y = step_stands P i fi s t j apart clean.1 x in
      let r = fate P R i fi list t (step_sound P R s t j sound clean.1) y clean.3 in
      let silent = unheard P i fi s x (nat_eq j) t j apart clean.1 ∙ ne_eqb j i (λ e. apart (sym e)) in
      let free = not_before Depends P i fi list t j (next_move P s j) r.next (told s j (next_move P s j) (nat_eq j)) false y silent clean.2 r.first in
      move_ahead P s t i j apart clean.1 fi x r.next r.possible r.is free ∙ sym r.is

  none_conflict : (list : List ℕ) (s : State) (i k : ℕ) (fi fk : List Frame) → i ≢ k → IsSound P s → Stands s i fi → Stands s k fk → IsClean P s list →
      Conflict (touched (move P s.globals fi)) (touched (move P s.globals fk)) → ⊥
  none_conflict [] s i k fi fk apart sound x z clean c =
      let still : is_live s i ≡ false = sound.quiet clean i in
      let lives : is_live s i ≡ true = ap is_running x.at in
      let no = sym still ∙ lives in
      cc
  none_conflict (j ∷ list) s i k fi fk apart sound x z clean c =
      ⊎_elim
      (λ (e : k ≡ j).
      head_apart s i j fi fk list (λ q. apart (q ∙ sym e)) sound x (subst (λ n. Stands s n fk) e z) clean (turned (touched (move P s.globals fi)) (touched (move P s.globals fk)) c))
      (λ (other : k ≢ j).
      ⊎_elim
      (λ (e : i ≡ j). head_apart s k j fk fi list other sound z (subst (λ n. Stands s n fi) e x) clean c)
      (λ (second : i ≢ j).
      none_conflict list clean.0 i k fi fk apart (step_sound P R s clean.0 j sound clean.1) (step_stands P i fi s clean.0 j second clean.1 x)
      (step_stands P k fk s clean.0 j other clean.1 z) clean.3
      (subst (λ m. Conflict (touched m) (touched (move P clean.0.globals fk))) (kept s i j fi list second sound x clean)
      (subst (λ m. Conflict (touched (move P s.globals fi)) (touched m)) (kept s k j fk list other sound z clean) c)))
      (cases_eq i j))
      (cases_eq k j)

-- what a step touches that is taken
record Taken (P : Program) (s : State) (i : ℕ) (t : Touch) : Type 0 where
  frames : List Frame
  stands : Stands s i frames
  touches : Contains (touched (move P s.globals frames)) t

taken : (P : Program) (s : State) (i : ℕ) (t : Touch) → Contains (footprint P s i) t → Taken P s i t
taken P s i t c = go (step P s i) refl c
  where
    go : (o : Stepped) → step P s i ≡ o → Contains (if_taken o (thread_touched P s (slice_get s.slots i))) t → Taken P s i t
    go (Steps u) e h =
        let g = goes P s u i e in
        record {
          frames = g.frames;
          stands = record { at = g.at; free = g.free };
          touches = subst (λ o. Contains (thread_touched P s o) t) g.at h;
        }
    go (Blocks cause) e h = absurd (in_none t h)
    go (Undefines offset cause) e h = absurd (in_none t h)

-- no two threads race
pub none_races : (P : Program) (R : IsResolved P) (s : State) (i j : ℕ) (place : Location) (list : List ℕ) → IsSound P s → IsClean P s list → Races P s i j place → ⊥
none_races P R s i j place list sound clean r =
    let a = taken P s i r.first r.first_in in
    let b = taken P s j r.second r.second_in in
    none_conflict P R list s i j a.frames b.frames r.apart sound a.stands b.stands clean
    (record {
      first = r.first;
      second = r.second;
      first_in = a.touches;
      second_in = b.touches;
      same = r.first_place ∙ sym r.second_place;
      written = r.written;
    })
