-- The steps of a run: who can move, why it ends, and what an entry does.
use Rattle.std.specs.Prelude.{◌≡◌, ℕ, ◌<◌, ◌≤◌, ◌⊎◌, Bool, true, false, List, ◌++◌, length, Option, Some, None}
use Rattle.netlist.specs.declared.netlist.Module.{Module}
use Rattle.verilog_meaning.specs.Names.{top_of}
use Rattle.verilog_meaning.specs.Cycles.{Valuation, IsState, Cycle, Runs}
use Rattle.verilog_meaning.specs.Threads.{slot, alone, IsSame, IsSameSlot, Needs, IsLegalEntry, IsFullEntry, entry_choices}
use Rattle.sim_layout.specs.Running.{Running, state_of}
use Rattle.sim_layout.specs.Rounds.{threads_of}
use Rattle.slot_sim.specs.Slots.{Moving, Opening, IsTaken}
use Rattle.slot_sim.specs.Threaded.{IsSameBut, Advances}
use Rattle.journal_text.specs.declared.entry.Entry.{Entry}
use Rattle.journal_laws.specs.declared.verdict.Next.{Next}
use Rattle.journal_laws.specs.declared.verdict.Next.TheVariants as nexts
use Rattle.journal_laws.specs.Journal.{entry, made}

-- it holds of the net's outermost module
pub record InTop (modules : List Module) (P : Module → Type 0) : Type 0 where
  pub top : Module
  pub is_top : top_of modules ≡ Some top
  pub holds : P top

-- it holds of a simulator's net, its outermost module and the number of its threads
abbrev pub OfTop : Running → (List Module → Module → ℕ → Type 0) → Type 0
OfTop r P = InTop r.modules (λ top. P r.modules top (threads_of r.modules))

-- the first of the threads from one on, up to another, that can move
abbrev pub IsFirstFound : Running → ℕ → ℕ → Option ℕ → Type 0
IsFirstFound r from end None = (k : ℕ) → from ≤ k → k < end → Moving (threads_of r.modules) k r → ⊥
IsFirstFound r from end (Some i) = (from ≤ i) × (i < end) × Moving (threads_of r.modules) i r × ((k : ℕ) → from ≤ k → k < i → Moving (threads_of r.modules) k r → ⊥)

-- of the threads from a preferred one on, cyclically, k comes before i
abbrev pub ComesFirst : ℕ → ℕ → ℕ → Type 0
ComesFirst prefer i k = ((prefer ≤ k) × (k < i)) ⊎ ((i < prefer) × ((prefer ≤ k) ⊎ (k < i)))

-- thread i is the first from a preferred one on, cyclically, that can move
pub record IsPreferred (r : Running) (prefer i : ℕ) : Type 0 where
  pub within : i < threads_of r.modules
  pub moves : Moving (threads_of r.modules) i r
  pub none : (k : ℕ) → k < threads_of r.modules → ComesFirst prefer i k → Moving (threads_of r.modules) k r → ⊥

-- what a search from a preferred one on, cyclically, finds
abbrev pub IsMover : Running → ℕ → Option ℕ → Type 0
IsMover r prefer None = (k : ℕ) → k < threads_of r.modules → Moving (threads_of r.modules) k r → ⊥
IsMover r prefer (Some i) = IsPreferred r prefer i

-- a thread that is run next is the first from a preferred one on, cyclically, that can move
abbrev pub IsOffer : Running → ℕ → Next → Type 0
IsOffer r prefer (nexts.Thread i) = IsPreferred r prefer i
IsOffer r prefer (nexts.Ended v) = Unit {0}

-- the next cycle of thread i is open, and changes its slot
abbrev pub CanOpen : ℕ → Running → Type 0
CanOpen i r = Opening (threads_of r.modules) i r

module _ (modules : List Module) (top : Module) (count : ℕ) where
  -- with slot i of another state put into a state, the next cycle of thread i is open, changes the slot and writes out
  pub record OpensTo (i : ℕ) (h l : Valuation) (out : List ℕ) : Type 0 where
    pub put : Valuation
    pub kept : IsSameBut modules top (slot modules top count i) h put
    pub taken : IsSameSlot modules top count i l put
    pub need : Needs modules top count put (alone i) i 1
    pub next : Valuation
    pub cycle : Cycle modules top put (alone i) next out
    pub changes : IsSameSlot modules top count i put next → ⊥

  abbrev pub Opens : ℕ → Valuation → Valuation → Type 0
  Opens i h l = (out : List ℕ) × OpensTo i h l out

  -- so many closed cycles of thread i make of a state with one slot i a state with another; they are 4,096, or the next cycle is open
  pub record IsCopyRun (i closed : ℕ) (start local : Valuation) : Type 0 where
    pub from : Valuation
    pub state : IsState modules top from
    pub begins : IsSameSlot modules top count i start from
    pub run : Advances modules top count i closed from local
    pub whole : (closed ≡ 4096) ⊎ Needs modules top count local (alone i) i 1

  -- so many closed cycles of thread i, of at most so many, lead from one state to another: all of them, or the next one is open
  pub record IsClosedRun (i most closed : ℕ) (h g : Valuation) : Type 0 where
    pub state : IsState modules top h
    pub run : Advances modules top count i closed h g
    pub whole : (closed ≡ most) ⊎ Needs modules top count g (alone i) i 1

  -- a legal and full entry leads from one state to another, and its cycles print
  pub record Enters (e : Entry) (h k : Valuation) (bytes : List ℕ) : Type 0 where
    pub legal : IsLegalEntry modules top count h (entry modules top count e) k
    pub full : IsFullEntry modules top count legal.between (entry modules top count e)
    pub runs : Runs modules top h (entry_choices modules top count (entry modules top count e)) k bytes

  -- an entry of thread i that was made with the slot of another state
  pub record IsEntered (i closed : ℕ) (h l k : Valuation) (bytes : List ℕ) (e : Entry) : Type 0 where
    pub opened : Bool
    pub is : e ≡ made i closed opened
    pub opens : opened ≡ true → Opens i h l
    pub only : Opens i h l → opened ≡ true
    pub enters : Enters e h k bytes

  -- there was no cycle
  pub record IsWaiting (i closed : ℕ) (h l k : Valuation) : Type 0 where
    pub none : closed ≡ 0
    pub waits : Opens i h l → ⊥
    pub same : IsSame modules top count h k

-- ---- the slot of a thread put in, and then its open cycle

pub record IsPutIn (thread : ℕ) (old local new : Running) (before after : List ℕ) (opened : Bool) : Type 0 where
  pub put : Running
  pub taken : IsTaken (threads_of old.modules) thread old local put
  pub opens : opened ≡ true → CanOpen thread put × OfTop put (λ ms top n. (bytes : List ℕ) × Cycle ms top (state_of put) (alone thread) (state_of new) bytes × (after ≡ before ++ bytes))
  pub waits : opened ≡ false → (CanOpen thread put → ⊥) × OfTop put (λ ms top n. IsSame ms top n (state_of put) (state_of new)) × (after ≡ before)

-- the open cycle writes something
pub record IsPutPrinting (thread : ℕ) (old local : Running) : Type 0 where
  pub put : Running
  pub taken : IsTaken (threads_of old.modules) thread old local put
  pub can : CanOpen thread put
  pub prints : OfTop put (λ ms top n. (next : Valuation) × (bytes : List ℕ) × Cycle ms top (state_of put) (alone thread) next bytes × (0 < length bytes))
