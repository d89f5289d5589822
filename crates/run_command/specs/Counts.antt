-- How many cycles a journal has.
use Rattle.std.specs.Prelude.{◌≡◌, ℕ, ◌+◌, List, [], ◌∷◌, length, if◌then◌else◌}
use Rattle.netlist.specs.declared.netlist.Module.{Module}
use Rattle.journal_text.specs.declared.entry.Entry.{Entry}
use Rattle.journal_laws.specs.Journal.{choices}

-- the closed cycles of an entry, and its open one
abbrev pub entry_cycles : Entry → ℕ
entry_cycles e = if e.opened then e.closed + 1 else e.closed

abbrev pub cycle_count : List Entry → ℕ
cycle_count [] = 0
cycle_count (e ∷ entries) = entry_cycles e + cycle_count entries

-- each is a choice of the journal
abbrev pub AreItsChoices : Type 0
AreItsChoices = (modules : List Module) (top : Module) (threads : ℕ) (journal : List Entry) → length (choices modules top threads journal) ≡ cycle_count journal
