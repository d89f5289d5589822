-- A thread that can step where a clean run goes on with another one's step: its step there doesn't depend on that one, or both
-- wait at one barrier, which neither opens.
use Rattle.std.proofs.Common.{◌≡◌, ◌≢◌, ℕ, List, ◌∷◌, sym, ◌∙◌, subst}
use Rattle.std.specs.Prelude.{false, nat_eq}
use Rattle.std.proofs.lemmas.Bool.{ne_eqb}
use Rattle.c_program.specs.Tree.{Program}
use Rattle.c_program.specs.Resolved.{IsResolved}
use Rattle.thread_semantics.specs.State.{Frame, State}
use Rattle.thread_semantics.specs.Move.{move}
use Rattle.thread_semantics.specs.Step.{Steps, step}
use Rattle.race_model.proofs.Sound.{IsSound, step_sound}
use Rattle.run_races.specs.Order.{next_move, told, Depends}
use Rattle.run_races.specs.Clean.{IsClean}
use Rattle.run_races.proofs.StandingThreads.{Stands, step_stands}
use Rattle.run_races.proofs.UnheardSteps.{unheard}
use Rattle.run_races.proofs.StepsAhead.{BothWait, move_ahead}
use Rattle.run_races.proofs.StepsBehind.{step_behind}
use Rattle.run_races.proofs.DefinedSteps.{fate, not_before, waits_on}

-- threads i and j can step at s, j to t; frames are the calls of i
pub record Partner (P : Program) (s t : State) (i j : ℕ) (frames : List Frame) : Type 0 where
  pub stands : Stands s i frames
  -- the move of i is the same at s and t
  pub same : move P t.globals frames ≡ move P s.globals frames
  pub free : Depends (next_move P s j) i (move P s.globals frames) → BothWait (next_move P s j) (move P s.globals frames)
  -- and then j waits at t
  pub kept : Depends (next_move P s j) i (move P s.globals frames) → (fs : List Frame) → Stands t j fs → ⊥

pub partner : (P : Program) (R : IsResolved P) (s : State) (i j : ℕ) (frames : List Frame) (list : List ℕ) → i ≢ j → IsSound P s → Stands s i frames →
    (clean : IsClean P s (j ∷ list)) → Partner P s clean.0 i j frames
partner P R s i j frames list apart sound x clean =
    let t = clean.0 in
    let y = step_stands P i frames s t j apart clean.1 x in
    let r = fate P R i frames list t (step_sound P R s t j sound clean.1) y clean.3 in
    let silent = unheard P i frames s x (nat_eq j) t j apart clean.1 ∙ ne_eqb j i (λ e. apart (sym e)) in
    let free = not_before Depends P i frames list t j (next_move P s j) r.next (told s j (next_move P s j) (nat_eq j)) false y silent clean.2 r.first in
    let is = move_ahead P s t i j apart clean.1 frames x r.next r.possible r.is free in
    record {
      stands = x;
      same = r.is ∙ sym is;
      free = subst (λ m. Depends (next_move P s j) i m → BothWait (next_move P s j) m) (sym is) free;
      kept = λ d fs.
          (waits_on P i frames list t j (next_move P s j) r.next (told s j (next_move P s j) (nat_eq j)) false fs y silent clean.2 r.first
          (subst (λ m. Depends (next_move P s j) i m) is d)).1;
    }

-- where it doesn't depend, it can step behind the other one
pub steps_behind : (P : Program) (s a t : State) (i j : ℕ) (frames : List Frame) → i ≢ j → step P s j ≡ Steps t → step P s i ≡ Steps a → Partner P s t i j frames →
    (Depends (next_move P s j) i (move P s.globals frames) → ⊥) → (w : State) × (step P t i ≡ Steps w)
steps_behind P s a t i j frames apart steps e p clear = step_behind P s t a i j frames apart steps p.stands p.same clear e
