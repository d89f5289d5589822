-- Interleavings of the steps of a program's threads, races, and good programs.
-- Lamport 1979 (sequential consistency: one order of all threads' steps); POSIX.1-2008, base definitions 4.12:
-- no thread may read or modify a memory location while another thread may be modifying it.
use Rattle.std.specs.Prelude.{◌≡◌, ◌≢◌, ℕ, List, [], ◌∷◌, Option, Some, None, true, false}
use Rattle.interleaving.specs.Memory.{Conflict}
use Rattle.interleaving.specs.Source.{Outcome, StepsTo, Blocked, Undefined, Source, footprint}

abbrev pub if_steps : {State : Type 0} → Outcome State → (State → Option State) → Option State
if_steps (StepsTo t) next = next t
if_steps Blocked next = None
if_steps Undefined next = None

module _ {Value Local State : Type 0} (P : Source Value Local State) where
  -- the state to which an interleaving, a list of thread numbers, leads from s; none where one of its steps is no state
  abbrev pub after_from : State → List ℕ → Option State
  after_from s [] = Some s
  after_from s (i ∷ L) = if_steps (P.step s i) (λ t. after_from t L)

  abbrev pub after : List ℕ → Option State
  after L = after_from P.start L

  -- the interleaving leads to s
  abbrev pub Reached : List ℕ → State → Type 0
  Reached L s = after L ≡ Some s

  abbrev pub Reachable : State → Type 0
  Reachable s = (L : List ℕ) × Reached L s

  -- not ended, and nobody who lives can go on
  pub record Deadlocked (s : State) : Type 0 where
    pub runs_on : P.is_ended s ≡ false
    pub blocked : (i : ℕ) → P.is_live s i ≡ true → P.step s i ≡ Blocked

  -- the next steps of two live threads touch one place, and at least one of them writes it
  pub record Races (s : State) (i j : ℕ) : Type 0 where
    pub runs_on : P.is_ended s ≡ false
    pub apart : i ≢ j
    pub first_lives : P.is_live s i ≡ true
    pub second_lives : P.is_live s j ≡ true
    pub first_goes : P.step s i ≢ Blocked
    pub second_goes : P.step s j ≢ Blocked
    pub conflict : Conflict (footprint P s i) (footprint P s j)

  -- GOOD PROGRAM: no interleaving comes to an undefined step or to a race
  pub record IsGood : Type 0 where
    pub defined : (L : List ℕ) (s : State) (i : ℕ) → Reached L s → P.is_ended s ≡ false → P.is_live s i ≡ true → P.step s i ≢ Undefined
    pub race_free : (L : List ℕ) (s : State) (i j : ℕ) → Reached L s → Races s i j → ⊥
