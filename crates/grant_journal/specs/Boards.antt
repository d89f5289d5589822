-- What a board keeps, and what its calls give.
use Rattle.std.specs.Prelude.{◌≡◌, ℕ, ◌<◌, ◌≤◌, Bool, true, List, [], ◌∷◌, ◌++◌, length, Some}
use Rattle.netlist.specs.declared.netlist.Module.{Module}
use Rattle.verilog_meaning.specs.Names.{top_of}
use Rattle.verilog_meaning.specs.Cycles.{Valuation, Reaches}
use Rattle.verilog_meaning.specs.Threads.{IsSame, IsSameSlot, IsThreaded}
use Rattle.sim_layout.specs.Running.{Running, state_of, IsSameNet}
use Rattle.sim_layout.specs.Rounds.{threads_of}
use Rattle.journal_text.specs.declared.entry.Entry.{Entry}
use Rattle.journal_laws.specs.declared.verdict.Verdict.{Verdict}
use Rattle.journal_laws.specs.declared.verdict.Next.{Next}
use Rattle.journal_laws.specs.declared.verdict.Next.TheVariants.{Thread, Ended as EndedNext}
use Rattle.journal_laws.specs.declared.verdict.Answer.{Answer}
use Rattle.journal_laws.specs.declared.verdict.Answer.TheVariants.{Committed, Stale, Waits, Ended}
use Rattle.journal_laws.specs.Journal.{made, choices, LeadsTo, Ends, CanMove, GoesOn}
use Rattle.journal_laws.specs.Steps.{InTop, ComesFirst, OpensTo, Opens, IsCopyRun, IsClosedRun}

-- a net of so many threads, its outermost module, and how a simulator of it is laid out
pub record Frame (modules : List Module) (count : ℕ) (layout : Running) : Type 0 where
  pub top : Module
  pub is_top : top_of modules ≡ Some top
  pub threaded : IsThreaded modules top count
  pub any : 0 < count
  pub few : count ≤ 64
  pub many : threads_of modules ≡ count
  pub same : layout.modules ≡ modules

-- a board's simulator is of its net, its state is the end of its journal, its output what was printed on the way, and it has room for all entries
pub record Keeps (modules : List Module) (count most : ℕ) (layout sim : Running) (journal : List Entry) (room : ℕ) (output : List ℕ) : Type 0 where
  pub frame : Frame modules count layout
  pub net : IsSameNet layout sim
  pub led : LeadsTo modules frame.top count journal (state_of sim)
  pub reached : Reaches modules frame.top (choices modules frame.top count journal) (state_of sim) output
  pub within : length journal ≤ most
  pub roomy : most ≤ room

-- a simulator of the net for one thread's slot
pub record Holds (modules : List Module) (count : ℕ) (layout : Running) (thread : ℕ) (run : Running) : Type 0 where
  pub frame : Frame modules count layout
  pub net : IsSameNet layout run
  pub within : thread < count

-- what contracts see of a local: a thread, and a simulator whose slot of it counts
pub record Held : Type 0 where
  pub thread : ℕ
  pub run : Running

module _ (modules : List Module) (top : Module) (count : ℕ) where
  -- a local holds slot i of a state
  abbrev pub HasSlot : ℕ → Valuation → Held → Type 0
  HasSlot i h local = (local.thread ≡ i) × IsSameSlot modules top count i h (state_of local.run)

  -- thread i is the first from a preferred one on, cyclically, that can move
  pub record IsFirstMover (prefer i : ℕ) (h : Valuation) : Type 0 where
    pub within : i < count
    pub moves : CanMove modules top count h i
    pub none : (k : ℕ) → k < count → ComesFirst prefer i k → CanMove modules top count h k → ⊥

  module _ (most : ℕ) where
    -- the state at the end of a journal, from which the run goes on
    pub record StandsAt (journal : List Entry) (h : Valuation) : Type 0 where
      pub led : LeadsTo modules top count journal h
      pub on : GoesOn modules top count h (length journal) most

    -- there it ends
    abbrev pub EndsAt : List Entry → Valuation → Verdict → Type 0
    EndsAt journal h v = LeadsTo modules top count journal h × Ends modules top count h (length journal) most v

    -- an entry was added
    pub record IsCommitted (i : ℕ) (start : Held) (closed : ℕ) (journal : List Entry) (local : Held) (grown : List Entry) (left : Held) : Type 0 where
      pub before : Valuation
      pub stands : StandsAt journal before
      pub same : HasSlot i before start
      pub opened : Bool
      pub opens : opened ≡ true → Opens modules top count i before (state_of local.run)
      pub only : Opens modules top count i before (state_of local.run) → opened ≡ true
      pub added : grown ≡ journal ++ made i closed opened ∷ []
      pub after : Valuation
      pub led : LeadsTo modules top count grown after
      pub slot_left : HasSlot i after left

    -- what `commit` gives: the journal and the caller's local before and after it
    abbrev pub Gives : ℕ → Held → ℕ → List Entry → Held → List Entry → Held → Answer → Type 0
    Gives i start closed journal local grown left (Ended v) = ((h : Valuation) × EndsAt journal h v) × (grown ≡ journal) × (left ≡ local)
    Gives i start closed journal local grown left Stale =
        ((h : Valuation) × StandsAt journal h × (HasSlot i h start → ⊥) × HasSlot i h left) × (grown ≡ journal)
    Gives i start closed journal local grown left Waits =
        ((h : Valuation) × StandsAt journal h × HasSlot i h start × (Opens modules top count i h (state_of local.run) → ⊥)) × (closed ≡ 0) × (grown ≡ journal) × (left ≡ local)
    Gives i start closed journal local grown left Committed = IsCommitted i start closed journal local grown left

    -- the entry that `commit` would add prints something
    pub record IsPrinting (i : ℕ) (start : Held) (journal : List Entry) (local : Held) : Type 0 where
      pub before : Valuation
      pub stands : StandsAt journal before
      pub same : HasSlot i before start
      pub bytes : List ℕ
      pub opens : OpensTo modules top count i before (state_of local.run) bytes
      pub something : 0 < length bytes

    -- what `next` gives
    abbrev pub Offers : List Entry → ℕ → Next → Type 0
    Offers journal prefer (Thread i) = (h : Valuation) × StandsAt journal h × IsFirstMover prefer i h
    Offers journal prefer (EndedNext v) = (h : Valuation) × EndsAt journal h v

-- ---- locals

-- a local holds the slot of a thread as it is in a simulator
abbrev pub IsSlotOf : List Module → ℕ → ℕ → Running → Held → Type 0
IsSlotOf modules count thread run local = InTop modules (λ top. HasSlot modules top count thread (state_of run) local)

-- as another local holds it
abbrev pub HasSlotOf : List Module → ℕ → Held → Held → Type 0
HasSlotOf modules count from local = IsSlotOf modules count from.thread from.run local

-- as it is at the end of a journal
abbrev pub IsSlotAt : List Module → ℕ → List Entry → ℕ → Held → Type 0
IsSlotAt modules count journal thread local = InTop modules (λ top. (h : Valuation) × LeadsTo modules top count journal h × HasSlot modules top count thread h local)

-- closed cycles led from one slot of a local's thread to another
pub record RunsClosed (modules : List Module) (count most : ℕ) (old : Held) (closed : ℕ) (new : Held) : Type 0 where
  pub same : new.thread ≡ old.thread
  pub run : InTop modules (λ top. IsClosedRun modules top count old.thread most closed (state_of old.run) (state_of new.run))

-- the caller's local is what so many closed cycles of a thread make of the one that it started from
pub record RunsOn (modules : List Module) (count thread : ℕ) (start : Held) (closed : ℕ) (local : Held) : Type 0 where
  pub starts : start.thread ≡ thread
  pub ends : local.thread ≡ thread
  pub run : InTop modules (λ top. IsCopyRun modules top count thread closed (state_of start.run) (state_of local.run))

-- ---- boards

abbrev pub IsGiven : List Module → ℕ → ℕ → ℕ → Held → ℕ → List Entry → Held → List Entry → Held → Answer → Type 0
IsGiven modules count most thread start closed journal local grown left answer = InTop modules (λ top. Gives modules top count most thread start closed journal local grown left answer)

abbrev pub IsOffered : List Module → ℕ → ℕ → List Entry → ℕ → Next → Type 0
IsOffered modules count most journal prefer next = InTop modules (λ top. Offers modules top count most journal prefer next)

abbrev pub IsOver : List Module → ℕ → ℕ → List Entry → Verdict → Type 0
IsOver modules count most journal v = IsOffered modules count most journal 0 (EndedNext v)

-- what is printed on the way to a journal's end, that its entries are legal and full, and that they lead to one state
pub record IsFinished (modules : List Module) (count most : ℕ) (journal : List Entry) (output : List ℕ) : Type 0 where
  pub ends : InTop modules (λ top. (h : Valuation) × LeadsTo modules top count journal h × Reaches modules top (choices modules top count journal) h output)
  pub one : InTop modules (λ top. (h g : Valuation) → LeadsTo modules top count journal h → LeadsTo modules top count journal g → IsSame modules top count h g)
  pub within : length journal ≤ most
