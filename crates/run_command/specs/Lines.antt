-- The lines on err of a run and of a replay.
use Rattle.std.specs.Prelude.{ℕ, Bool, true, false, List, [], ◌++◌, length, codes, decimal}
use Rattle.journal_text.specs.declared.entry.Entry.{Entry}
use Rattle.journal_text.specs.Lines.{all_lines}
use Rattle.journal_laws.specs.declared.verdict.Verdict.{Verdict}
use Rattle.journal_laws.specs.declared.verdict.Verdict.TheVariants as verdicts
use Rattle.run_command.specs.Counts.{cycle_count}

abbrev pub verdict_word : Verdict → List ℕ
verdict_word verdicts.Done = codes "done"
verdict_word verdicts.Stuck = codes "stuck"
verdict_word verdicts.Entries = codes "entries"

-- the verdict, and how many entries and cycles a journal has
abbrev pub verdict_line : Verdict → ℕ → ℕ → List ℕ
verdict_line v entries cycles =
    codes "hls: " ++ (verdict_word v ++ (codes ", " ++ (decimal entries ++ (codes " entries, " ++ (decimal cycles ++ codes " cycles\n")))))

abbrev pub summary : List Entry → Verdict → List ℕ
summary journal v = verdict_line v (length journal) (cycle_count journal)

abbrev pub bad_entry_line : ℕ → List ℕ
bad_entry_line index = codes "hls: bad entry " ++ (decimal index ++ codes "\n")

-- the lines of the journal where they are asked for
abbrev pub listed_lines : Bool → List Entry → List ℕ
listed_lines true journal = all_lines journal
listed_lines false journal = []
