-- Entries and verdicts of the code in the terms of the definitions, and the state at the end of a journal.
use Rattle.std.specs.Prelude.{◌≡◌, ℕ, ◌<◌, Bool, List, [], ◌∷◌, Option, Some, None}
use Rattle.netlist.specs.declared.netlist.Module.{Module}
use Rattle.verilog_meaning.specs.Cycles.{Valuation, Choice, Cycle, ShowsDone, initial_state}
use Rattle.verilog_meaning.specs.Threads as threads
use Rattle.verilog_meaning.specs.Threads.{alone, all_enabled, IsSameSlot, IsJournal, HasVerdict, choices_of}
use Rattle.journal_text.specs.declared.entry.Entry.{Entry}
use Rattle.journal_laws.specs.declared.verdict.Verdict.{Verdict}
use Rattle.journal_laws.specs.declared.verdict.Verdict.TheVariants as verdicts
use Rattle.journal_laws.specs.declared.verdict.Next.{Next}
use Rattle.journal_laws.specs.declared.verdict.Next.TheVariants as nexts

abbrev pub made : ℕ → ℕ → Bool → Entry
made i closed opened = record { thread = i; closed = closed; opened = opened }

-- why a run is over, where it is
abbrev pub ended : Next → Option Verdict
ended (nexts.Thread i) = None
ended (nexts.Ended v) = Some v

module _ (modules : List Module) (top : Module) (count : ℕ) where
  abbrev pub entry : Entry → threads.Entry modules top count
  entry e = record { thread = e.thread; closed = e.closed; opened = e.opened }

  abbrev pub all_entries : List Entry → List (threads.Entry modules top count)
  all_entries [] = []
  all_entries (e ∷ entries) = entry e ∷ all_entries entries

  abbrev pub verdict : Verdict → threads.Verdict modules top count
  verdict verdicts.Done = threads.Done
  verdict verdicts.Stuck = threads.Stuck
  verdict verdicts.Entries = threads.Entries

  -- the choices of a journal
  abbrev pub choices : List Entry → List Choice
  choices entries = choices_of modules top count (all_entries entries)

  -- the entries of a journal are legal and full, and lead to a state
  abbrev pub LeadsTo : List Entry → Valuation → Type 0
  LeadsTo entries h = IsJournal modules top count (initial_state modules top) (all_entries entries) h

  -- why a run ends in a state after e of at most n entries
  abbrev pub Ends : Valuation → ℕ → ℕ → Verdict → Type 0
  Ends h e n v = HasVerdict modules top count h e n (verdict v)

  -- the next cycle of thread i alone changes its slot
  pub record CanMove (h : Valuation) (i : ℕ) : Type 0 where
    pub next : Valuation
    pub out : List ℕ
    pub cycle : Cycle modules top h (alone i) next out
    pub changes : IsSameSlot modules top count i h next → ⊥

  -- a run ends in none of the ways
  pub record GoesOn (h : Valuation) (e n : ℕ) : Type 0 where
    pub running : ShowsDone modules top h (all_enabled count []) 0
    pub thread : ℕ
    pub within : thread < count
    pub moves : CanMove h thread
    pub room : e ≡ n → ⊥

  abbrev pub Judged : Valuation → ℕ → ℕ → Option Verdict → Type 0
  Judged h e n None = GoesOn h e n
  Judged h e n (Some v) = Ends h e n v
