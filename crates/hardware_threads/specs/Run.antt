-- What a run answers.
use Rattle.std.specs.Prelude.{ℕ, ◌≤◌, List, length}
use Rattle.netlist.specs.declared.netlist.Module.{Module}
use Rattle.verilog_meaning.specs.Cycles.{Valuation, Reaches}
use Rattle.journal_text.specs.declared.entry.Entry.{Entry}
use Rattle.journal_laws.specs.declared.verdict.Verdict.{Verdict}
use Rattle.journal_laws.specs.Journal.{choices, LeadsTo, Ends}
use Rattle.journal_laws.specs.Steps.{InTop}

-- a journal of at most so many legal and full entries, what its choices print, and the verdict on the state that it leads to
pub record IsRan (modules : List Module) (threads most : ℕ) (journal : List Entry) (output : List ℕ) (v : Verdict) : Type 0 where
  pub within : length journal ≤ most
  pub ends : InTop modules (λ top. (h : Valuation) × LeadsTo modules top threads journal h × Reaches modules top (choices modules top threads journal) h output
      × Ends modules top threads h (length journal) most v)
