-- What is proved of generated programs.
use Rattle.std.specs.Prelude.{ℕ, ◌≤◌, List}
use Rattle.generated_text.specs.declared.draws.Line.{Line}
use Rattle.c_program.specs.Tree.{Program}
use Rattle.thread_semantics.specs.Races.{IsGood}
use Rattle.generated_program.specs.Generated.{IsGenerated}

-- no interleaving of a generated program races or is undefined
abbrev pub GeneratedIsGood : Type 0
GeneratedIsGood =
    (threads : ℕ) (lines : List Line) (P : Program) → 1 ≤ threads → threads ≤ 63 → IsGenerated threads lines P → IsGood P
