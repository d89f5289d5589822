-- What a discipline gives: no two threads race, and no two are at one thread id.
use Rattle.std.specs.Prelude.{◌≡◌, ◌≢◌, ℕ, ◌≤◌, true, false, List}
use Rattle.std.specs.List.{list_any}
use Rattle.c_program.specs.Tree.{Program}
use Rattle.c_program.specs.Resolved.{IsResolved}
use Rattle.c_program.specs.Limits.{thread_ids}
use Rattle.thread_semantics.specs.declared.cause.UndefinedCause.{UndefinedCause}
use Rattle.thread_semantics.specs.Memory.{Location}
use Rattle.thread_semantics.specs.State.{State}
use Rattle.thread_semantics.specs.Step.{Steps, Undefines, step, after}
use Rattle.thread_semantics.specs.Races.{Races, IsGood}
use Rattle.lock_discipline.specs.Discipline.{all_seen, is_too_deep, verdict, is_disciplined}

-- until main returns, no interleaving comes to two threads that race
abbrev pub IsCalm : Program → Type 0
IsCalm P =
    (list : List ℕ) (s : State) (i j : ℕ) (place : Location) →
    after P list ≡ Steps s → s.ended ≡ false → Races P s i j place → ⊥

-- a disciplined program never races, whether its steps are defined or not
abbrev pub DisciplinedIsCalm : Type 0
DisciplinedIsCalm = (P : Program) → IsResolved P → thread_ids P ≤ 63 → is_disciplined (verdict P) ≡ true → IsCalm P

-- no interleaving comes to a step that is undefined
abbrev pub IsDefined : Program → Type 0
IsDefined P =
    (list : List ℕ) (s : State) (i offset : ℕ) (cause : UndefinedCause) →
    after P list ≡ Steps s → s.ended ≡ false → step P s i ≢ Undefines offset cause

-- and where no step is undefined either, it is good
abbrev pub DisciplinedIsGood : Type 0
DisciplinedIsGood = (P : Program) → IsResolved P → thread_ids P ≤ 63 → is_disciplined (verdict P) ≡ true → IsDefined P → IsGood P

-- no walk of a resolved program meets a call that is deeper than there are functions: each doubt is about a creator or a global
abbrev pub NoneTooDeep : Type 0
NoneTooDeep = (P : Program) → IsResolved P → list_any is_too_deep (all_seen P) ≡ false
