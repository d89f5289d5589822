-- What a replay answers.
use Rattle.std.specs.Prelude.{◌≡◌, ℕ, ◌⊎◌, List, Option, Some, None, string_bytes}
use Rattle.netlist.specs.declared.netlist.Module.{Module}
use Rattle.verilog_meaning.specs.Cycles.{Valuation, initial_state}
use Rattle.verilog_meaning.specs.Threads.{IsLegal}
use Rattle.journal_text.specs.declared.entry.Entry.{Entry}
use Rattle.journal_laws.specs.declared.verdict.Verdict.{Verdict}
use Rattle.journal_laws.specs.Journal.{all_entries}
use Rattle.journal_laws.specs.Steps.{InTop}
use Rattle.journal_replay.specs.declared.replay.Redone.TheVariants as redone
use Rattle.journal_replay.specs.Replays.{Replays}
use Rattle.run_command.specs.Lines.{summary, bad_entry_line}
use Rattle.run_command.specs.declared.replay.ReplayAnswer.{ReplayAnswer}
use Rattle.run_command.specs.declared.replay.ReplayAnswer.TheVariants.{Replayed, BadEntry}

-- the entries are legal
abbrev pub AreLegal : List Module → ℕ → List Entry → Type 0
AreLegal modules threads entries = InTop modules (λ top. (h : Valuation) × IsLegal modules top threads (initial_state modules top) (all_entries modules top threads entries) h)

-- they are, and this is what they print, and the verdict on the state that they lead to
abbrev pub AreRun : List Module → ℕ → List Entry → List ℕ → Verdict → Type 0
AreRun modules threads entries output v = InTop modules (λ top. (cycles : ℕ) × Replays modules top threads entries (redone.Replayed output cycles v))

-- the first entry of a journal that is not legal, or that is misspelt: entries that are spelled come before the first misspelt one
abbrev pub IsFirstBad : List Module → ℕ → List Entry → Option ℕ → ℕ → Type 0
IsFirstBad modules threads entries bad index =
    InTop modules (λ top. Replays modules top threads entries (redone.BadEntry index)) ⊎ ((bad ≡ Some index) × AreLegal modules threads entries)

abbrev pub IsBadEntry : ReplayAnswer → ℕ → Type 0
IsBadEntry (Replayed verdict output journal line) index = ⊥
IsBadEntry (BadEntry at line) index = (at ≡ index) × (string_bytes line ≡ bad_entry_line index)

abbrev pub IsReplayAnswer : List Module → ℕ → List Entry → Option ℕ → ReplayAnswer → Type 0
IsReplayAnswer modules threads entries bad (Replayed verdict output journal line) =
    (bad ≡ None) × (journal ≡ entries) × AreRun modules threads entries output verdict × (string_bytes line ≡ summary entries verdict)
IsReplayAnswer modules threads entries bad (BadEntry index line) = IsFirstBad modules threads entries bad index × (string_bytes line ≡ bad_entry_line index)
