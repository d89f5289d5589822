-- Which words lead to one another by the steps that give them their numbers.
use Rattle.std.specs.Prelude.{◌≡◌, ℕ, ◌+◌, ◌<◌, ◌⊎◌, Bool, List, length, Option, Some, None, slice_get}
use Rattle.netlist.specs.declared.netlist.Module.{Module}
use Rattle.verilog_meaning.specs.Threads.{IsOneOf}
use Rattle.sim_values.specs.declared.settle.Step.{Step}
use Rattle.sim_values.specs.declared.edge.Part.{Part}
use Rattle.sim_layout.specs.declared.loops.Found.{Found}
use Rattle.sim_layout.specs.declared.loops.Site.{Site}
use Rattle.sim_values.specs.Rows.{EachOf}
use Rattle.sim_values.specs.Order.{reads, Takes, IsMarked, IsClear}
use Rattle.sim_layout.specs.Wires.{signals_of}

module _ (modules : List Module) (wires : List Step) where
  -- the step to one word reads the other, or one that leads to it
  pub data Leads : ℕ → ℕ → Type 0 where
    Directly : (s : Step) (y : ℕ) → Takes wires s → IsOneOf y (reads modules s.feed) → Leads s.target y
    Through : (a b c : ℕ) → Leads a b → Leads b c → Leads a c

  -- steps write and read only so many words
  abbrev pub AreInRoom : ℕ → Type 0
  AreInRoom n = (s : Step) → Takes wires s → (s.target < n) × EachOf (λ y. y < n) (reads modules s.feed)

  -- ---- a search for all that leads to a place; all that is not found is marked

  pub record IsSearch (place : ℕ) (apart : List Bool) : Type 0 where
    pub here : IsClear apart place
    pub leads : (k : ℕ) → k < length apart → IsClear apart k → (k ≡ place) ⊎ Leads k place

  -- a word that is not found reads only such
  abbrev pub IsClosed : List Bool → ℕ → Type 0
  IsClosed apart k = (s : Step) → slice_get wires k ≡ Some s → IsMarked apart s.target → EachOf (IsMarked apart) (reads modules s.feed)

  abbrev pub AreClosed : List Bool → ℕ → Type 0
  AreClosed apart count = (k : ℕ) → k < count → IsClosed apart k

  -- the steps to the place read nothing that is found
  abbrev pub AreApart : ℕ → List Bool → ℕ → Type 0
  AreApart place apart count = (k : ℕ) (s : Step) → k < count → slice_get wires k ≡ Some s → s.target ≡ place → EachOf (IsMarked apart) (reads modules s.feed)

  -- ---- the first word that leads to itself

  abbrev pub LoopsNowhere : ℕ → ℕ → Type 0
  LoopsNowhere base count = (x : ℕ) → x < count → Leads (base + x) (base + x) → ⊥

  pub record IsLoopIn (base count x : ℕ) : Type 0 where
    pub inside : x < count
    pub leads : Leads (base + x) (base + x)
    pub first : LoopsNowhere base x

  abbrev pub AreLoopless : List Part → ℕ → Type 0
  AreLoopless parts count = (q : ℕ) (p : Part) → q < count → slice_get parts q ≡ Some p → LoopsNowhere p.spot.base (length (signals_of (slice_get modules p.module)))

  -- signal x of part number q is the first that depends on itself
  pub record IsLoopOf (parts : List Part) (q x : ℕ) : Type 0 where
    pub part : Part
    pub listed : slice_get parts q ≡ Some part
    pub loops : IsLoopIn part.spot.base (length (signals_of (slice_get modules part.module))) x
    pub first : AreLoopless parts q

  abbrev pub IsFirstSite : List Part → Option Site → Type 0
  IsFirstSite parts (Some site) = IsLoopOf parts site.part site.signal
  IsFirstSite parts None = AreLoopless parts (length parts)

  pub record IsFirstFound (parts : List Part) (found : Found) : Type 0 where
    pub number : ℕ
    pub part : Part
    pub listed : slice_get parts number ≡ Some part
    pub kind : found.module ≡ part.module
    pub loops : IsLoopIn part.spot.base (length (signals_of (slice_get modules part.module))) found.signal
    pub first : AreLoopless parts number

-- the words of all signals are among so many
abbrev pub AreWithin : List Module → List Part → ℕ → Type 0
AreWithin modules parts n = (q : ℕ) (p : Part) (x : ℕ) → slice_get parts q ≡ Some p → x < length (signals_of (slice_get modules p.module)) → p.spot.base + x < n
