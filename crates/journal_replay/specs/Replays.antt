-- What a journal that is done again gives.
use Rattle.std.specs.Prelude.{◌≡◌, ℕ, Bool, true, false, List, ◌++◌, length, take, Some, slice_get, []}
use Rattle.netlist.specs.declared.netlist.Module.{Module}
use Rattle.verilog_meaning.specs.Cycles.{Valuation, Runs, Reaches, initial_state}
use Rattle.verilog_meaning.specs.Threads.{alone, all_enabled, times, entry_choices, Moves, IsLegal, IsLegalEntry}
use Rattle.journal_text.specs.declared.entry.Entry.{Entry}
use Rattle.sim_layout.specs.Rounds.{threads_of}
use Rattle.sim_layout.specs.Running.{Running, TellsDone}
use Rattle.slot_sim.specs.Slots.{TellsNeed, Moving}
use Rattle.journal_laws.specs.Journal.{entry, all_entries, choices, Ends}
use Rattle.journal_replay.specs.declared.replay.Redone.{Redone}
use Rattle.journal_replay.specs.declared.replay.Redone.TheVariants.{Replayed, BadEntry}

-- what need is of open cycles, and of closed ones
abbrev pub needed : Bool → ℕ
needed true = 1
needed false = 0

-- the next cycle of thread i alone is open or closed as wanted, changes its slot, and does not begin where done is shown
pub record MayStep (i : ℕ) (is_open : Bool) (r : Running) : Type 0 where
  pub need : TellsNeed (threads_of r.modules) i r is_open
  pub running : TellsDone (all_enabled (threads_of r.modules) []) r false
  pub moves : Moving (threads_of r.modules) i r

module _ (modules : List Module) (top : Module) (count : ℕ) where
  -- so many such cycles were done, and what they write was appended
  pub record AreRedone (i : ℕ) (is_open : Bool) (n : ℕ) (h g : Valuation) (before after : List ℕ) : Type 0 where
    pub moves : Moves modules top count (needed is_open) i n h g
    pub bytes : List ℕ
    pub runs : Runs modules top h (times modules top count n (alone i)) g bytes
    pub appended : after ≡ before ++ bytes

  -- there are no so many such cycles
  abbrev pub CannotRedo : ℕ → Bool → ℕ → Valuation → Type 0
  CannotRedo i is_open n h = (g : Valuation) → Moves modules top count (needed is_open) i n h g → ⊥

  -- an entry was done again, and is of so many cycles
  pub record IsEntryRedone (e : Entry) (h g : Valuation) (before after : List ℕ) (cycles : ℕ) : Type 0 where
    pub legal : IsLegalEntry modules top count h (entry modules top count e) g
    pub bytes : List ℕ
    pub runs : Runs modules top h (entry_choices modules top count (entry modules top count e)) g bytes
    pub appended : after ≡ before ++ bytes
    pub many : cycles ≡ length (entry_choices modules top count (entry modules top count e))

  -- an entry is not legal
  abbrev pub IsNoEntry : Entry → Valuation → Type 0
  IsNoEntry e h = (g : Valuation) → IsLegalEntry modules top count h (entry modules top count e) g → ⊥

  -- the first entries were done again, from the initial state
  pub record AreReplayed (journal : List Entry) (h : Valuation) (output : List ℕ) (cycles : ℕ) : Type 0 where
    pub legal : IsLegal modules top count (initial_state modules top) (all_entries modules top count journal) h
    pub reached : Reaches modules top (choices modules top count journal) h output
    pub many : cycles ≡ length (choices modules top count journal)

  -- all entries are legal: this is what their choices print, how many there are, and the verdict; or this is the first that isn't
  abbrev pub Replays : List Entry → Redone → Type 0
  Replays journal (Replayed output cycles v) = (h : Valuation) × AreReplayed journal h output cycles × Ends modules top count h (length journal) (length journal) v
  Replays journal (BadEntry i) =
      (e : Entry) × (slice_get journal i ≡ Some e) × (h : Valuation) × IsLegal modules top count (initial_state modules top) (all_entries modules top count (take i journal)) h
      × IsNoEntry e h
