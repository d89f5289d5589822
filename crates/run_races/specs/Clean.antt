-- One run of a program that shows all its interleavings.
use Rattle.std.specs.Prelude.{◌≡◌, ℕ, ◌≤◌, true, false, nat_eq, List, [], ◌∷◌, length}
use Rattle.c_program.specs.Tree.{Program}
use Rattle.c_program.specs.Resolved.{IsResolved}
use Rattle.thread_semantics.specs.State.{State, start}
use Rattle.thread_semantics.specs.Move.{Move}
use Rattle.thread_semantics.specs.Step.{Steps, step, after, IsDeadlocked}
use Rattle.thread_semantics.specs.Races.{IsGood}
use Rattle.run_races.specs.Order.{next_move, told, Depends, DependsOrPrints, AllOrderedBy}

-- the list is a run from s to the return of main, in which of any two steps of two threads that depend, by D, on one another
-- the one happens before the other
abbrev pub IsOrderedBy : (Move → ℕ → Move → Type 0) → Program → State → List ℕ → Type 0
IsOrderedBy D P s [] = s.ended ≡ true
IsOrderedBy D P s (i ∷ list) =
    (t : State) × (step P s i ≡ Steps t)
    × AllOrderedBy D P i (next_move P s i) (told s i (next_move P s i) (nat_eq i)) false t list
    × IsOrderedBy D P t list

abbrev pub IsClean : Program → State → List ℕ → Type 0
IsClean P s list = IsOrderedBy Depends P s list

-- and any two prints are ordered so too
abbrev pub IsOrdered : Program → State → List ℕ → Type 0
IsOrdered P s list = IsOrderedBy DependsOrPrints P s list

-- one such run, and the program is good
abbrev pub CleanIsGood : Type 0
CleanIsGood = (P : Program) → IsResolved P → (list : List ℕ) → IsClean P (start P) list → IsGood P

-- and no interleaving takes more steps than that run, or comes to a state in which no thread can go on: each, carried on,
-- comes to main's return
abbrev pub CleanEnds : Type 0
CleanEnds =
    (P : Program) → IsResolved P → (list : List ℕ) → IsClean P (start P) list → (other : List ℕ) (s : State) → after P other ≡ Steps s →
    (length other ≤ length list) × (IsDeadlocked P s → ⊥)

-- one whose prints are ordered, and each interleaving that comes to main's return prints what it prints
abbrev pub OrderedPrintsOnce : Type 0
OrderedPrintsOnce =
    (P : Program) → IsResolved P → (list : List ℕ) → IsOrdered P (start P) list → (t : State) → after P list ≡ Steps t →
    (other : List ℕ) (s : State) → after P other ≡ Steps s → s.ended ≡ true → s.output ≡ t.output
