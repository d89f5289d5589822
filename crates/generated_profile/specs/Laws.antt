-- The law of generated texts.
use Rattle.std.specs.Prelude.{◌≡◌, ℕ, ◌+◌, ◌≤◌, List, length}
use Rattle.c_tree.specs.declared.declaration.TranslationUnit.{TranslationUnit}
use Rattle.c_program.specs.Tree.{Program}
use Rattle.c_program.specs.Weight.{thread_count}
use Rattle.c_accepted.specs.Profile.{IsTreeOf, IsAccepted}
use Rattle.generated_text.specs.declared.draws.Line.{Line}
use Rattle.generated_text.specs.Text.{text_of}
use Rattle.generated_program.specs.Generated.{IsGenerated}

-- THE TEXT HAS A TREE: it is short enough, splits into tokens within their limits, and these are a sentence of the grammar, no
-- token of which is nested too deep
abbrev pub GeneratedHasTree : Type 0
GeneratedHasTree =
    (threads : ℕ) (lines : List Line) → threads ≤ 63 → length lines ≤ 1000 → (tree : TranslationUnit) × IsTreeOf (text_of threads lines) tree

-- THE TEXT IS ACCEPTED: its tree keeps the rules on names, kinds and types, its program is within all limits, is the one that the
-- text writes out, statement by statement, and has a thread id for each of so many threads beside main
abbrev pub GeneratedIsAccepted : Type 0
GeneratedIsAccepted =
    (threads : ℕ) (lines : List Line) → 1 ≤ threads → threads ≤ 63 → length lines ≤ 1000 →
    (P : Program) × (w : ℕ) × IsAccepted (text_of threads lines) P w × IsGenerated threads lines P × (thread_count P ≡ threads + 1)
