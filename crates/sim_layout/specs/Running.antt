-- A simulator as its callers see it: the net, how its flat words stand for it, and the state that they stand in.
use Rattle.std.specs.Prelude.{◌≡◌, ℕ, ◌+◌, ◌<◌, ◌≤◌, Bool, true, false, ◌||◌, List, [], ◌∷◌, ◌++◌, length, Some, slice_get, slice_index, nat_eq}
use Rattle.netlist.specs.declared.netlist.Action.{Action}
use Rattle.netlist.specs.declared.netlist.Signal.{Signal}
use Rattle.netlist.specs.declared.netlist.Module.{Module}
use Rattle.netlist.specs.Sound.{is_write}
use Rattle.verilog_meaning.specs.Ports.{HasDone}
use Rattle.verilog_meaning.specs.Readings.{memory_words}
use Rattle.verilog_meaning.specs.Names.{top_of}
use Rattle.verilog_meaning.specs.Cycles.{Path, Valuation, Choice, module_at, IsAt, IsState, IsSameIn, Cycle, ShowsDone}
use Rattle.sim_values.specs.Rows.{EachOf}
use Rattle.sim_values.specs.Modules.{FitsAction}
use Rattle.sim_values.specs.Nets.{FitsNet, FitsStatements, FitsChoice}
use Rattle.global_banks.specs.Elements.{AreNamed}
use Rattle.sim_values.specs.declared.settle.Step.{Step}
use Rattle.sim_values.specs.declared.settle.Choice as code
use Rattle.sim_values.specs.declared.edge.Part.{Part}
use Rattle.sim_values.specs.Flat.{Flat, AreNarrow, ArePrintable, settled, all_numbers, all_words}
use Rattle.sim_values.specs.Stands.{place_of, word_of, valuation_of, IsPlan}
use Rattle.sim_values.specs.Tree.{IsInstance}
use Rattle.sim_layout.specs.Rounds.{TakesTurns}

pub record Running : Type 0 where
  pub modules : List Module
  pub parts : List Part
  pub steps : List Step
  pub numbers : List ℕ
  pub words : List ℕ
  pub starts : List ℕ
  pub prefs : ℕ
  -- the place of the output `done`
  pub done : ℕ

abbrev pub running : List Module → List Part → List Step → List ℕ → List ℕ → List ℕ → ℕ → ℕ → Running
running modules parts steps numbers words starts prefs done = record {
  modules = modules;
  parts = parts;
  steps = steps;
  numbers = numbers;
  words = words;
  starts = starts;
  prefs = prefs;
  done = done;
}

abbrev pub flat : Running → Flat
flat r = record { numbers = r.numbers; words = r.words; starts = r.starts }

-- the numbers of the net that the words stand for; of a state its registers and memory words count
abbrev pub state_of : Running → Valuation
state_of r = valuation_of r.parts (flat r)

-- ---- what `open` needs of a net: each of its widths fits, no signal, operand or value has more than 64 bits, and names tell its
-- instances and memories apart

pub record IsRight (modules : List Module) (top : Module) : Type 0 where
  pub fits : FitsNet modules top
  pub narrow : (path : Path) (m : Module) (x : ℕ) (s : Signal) → IsAt modules top path m x s → s.width ≤ 64
  pub values : AreNarrow modules
  pub prints : ArePrintable modules
  pub statements : FitsStatements modules top
  pub acts : (k : ℕ) (m : Module) → slice_get modules k ≡ Some m → EachOf (FitsAction m) m.actions
  pub named : AreNamed modules top

-- ---- no two instances, signals or memory words have one place, and one instance at most writes

abbrev pub some_write : List Action → Bool
some_write [] = false
some_write (a ∷ actions) = is_write a.effect || some_write actions

-- part q, which is an instance of m
pub record IsPart (modules : List Module) (parts : List Part) (q : ℕ) (p : Part) (m : Module) : Type 0 where
  pub listed : slice_get parts q ≡ Some p
  pub kind : slice_get modules p.module ≡ Some m

pub record IsApart (modules : List Module) (top : Module) (parts : List Part) (starts : List ℕ) (n size : ℕ) : Type 0 where
  pub stands : (path : Path) (m : Module) → module_at modules top path ≡ Some m → (p : Part) × (slice_get parts (place_of parts path) ≡ Some p)
  pub reached : (q : ℕ) (p : Part) (m : Module) → IsPart modules parts q p m → (path : Path) × (place_of parts path ≡ q) × (module_at modules top path ≡ Some m)
  pub paths : (path other : Path) → IsInstance modules top path → IsInstance modules top other → place_of parts path ≡ place_of parts other → path ≡ other
  pub signals : (q o : ℕ) (p other : Part) (m k : Module) (x y : ℕ) → IsPart modules parts q p m → IsPart modules parts o other k → x < length m.signals → y < length k.signals
      → p.spot.base + x ≡ other.spot.base + y → q ≡ o
  pub room : (q : ℕ) (p : Part) (m : Module) (x : ℕ) → IsPart modules parts q p m → x < length m.signals → p.spot.base + x < n
  pub words : (q o : ℕ) (p other : Part) (m k : Module) (j i x y : ℕ) → IsPart modules parts q p m → IsPart modules parts o other k
      → x < memory_words (slice_get m.memories j) → y < memory_words (slice_get k.memories i)
      → slice_index starts (p.spot.memories + j) + x ≡ slice_index starts (other.spot.memories + i) + y → (q ≡ o) × (j ≡ i)
  pub word_room : (q : ℕ) (p : Part) (m : Module) (j x : ℕ) → IsPart modules parts q p m → x < memory_words (slice_get m.memories j)
      → slice_index starts (p.spot.memories + j) + x < size
  pub printer : (q o : ℕ) (p other : Part) (m k : Module) → IsPart modules parts q p m → IsPart modules parts o other k
      → some_write m.actions ≡ true → some_write k.actions ≡ true → q ≡ o

-- the word at a place is that of the output `done` of the outermost module
pub record IsDone (top : Module) (parts : List Part) (place : ℕ) : Type 0 where
  pub has : HasDone top
  pub stands : place ≡ word_of parts [] has.place

-- ---- what a simulator keeps

pub record Stands (r : Running) : Type 0 where
  pub top : Module
  pub is_top : top_of r.modules ≡ Some top
  pub right : IsRight r.modules top
  pub takes : TakesTurns r.modules top
  pub free : List Bool
  pub plan : IsPlan r.modules top r.parts r.steps free r.prefs (length r.numbers)
  pub apart : IsApart r.modules top r.parts r.starts (length r.numbers) (length r.words)
  pub state : IsState r.modules top (state_of r)
  pub done : IsDone top r.parts r.done

-- the same net, laid out in the same way
pub record IsSameNet (old new : Running) : Type 0 where
  pub modules : new.modules ≡ old.modules
  pub parts : new.parts ≡ old.parts
  pub steps : new.steps ≡ old.steps
  pub starts : new.starts ≡ old.starts
  pub prefs : new.prefs ≡ old.prefs
  pub done : new.done ≡ old.done

-- a cycle of the net led from the old to the new state, and appended what it writes
pub record IsCycleOf (c : Choice) (old new : Running) (before after : List ℕ) : Type 0 where
  pub top : Module
  pub is_top : top_of old.modules ≡ Some top
  pub bytes : List ℕ
  pub appended : after ≡ before ++ bytes
  pub cycle : Cycle old.modules top (state_of old) c (state_of new) bytes

-- a cycle of the net under a choice writes something
pub record Prints (c : Choice) (r : Running) : Type 0 where
  pub top : Module
  pub is_top : top_of r.modules ≡ Some top
  pub next : Valuation
  pub bytes : List ℕ
  pub cycle : Cycle r.modules top (state_of r) c next bytes
  pub something : 0 < length bytes

-- the states are one
pub record IsSameState (old new : Running) : Type 0 where
  pub top : Module
  pub is_top : top_of old.modules ≡ Some top
  pub same : IsSameIn old.modules top [] (state_of old) (state_of new)

-- whether done is shown under a choice
pub record TellsDone (c : Choice) (r : Running) (shown : Bool) : Type 0 where
  pub top : Module
  pub is_top : top_of r.modules ≡ Some top
  pub number : ℕ
  pub shows : ShowsDone r.modules top (state_of r) c number
  pub is : shown ≡ nat_eq number 1

-- ---- what the calls do to the words

abbrev pub settled_run : Choice → Running → Running
settled_run c r = running r.modules r.parts r.steps (settled r.modules c (flat r) r.steps) r.words r.starts r.prefs r.done

abbrev pub advanced : Running → Running
advanced r = running r.modules r.parts r.steps (all_numbers r.modules (flat r) r.numbers r.parts) (all_words r.modules (flat r) r.parts) r.starts r.prefs r.done

-- the numbers of a choice fit their inputs, and it has no more prefs than there are inputs for them
pub record Fits (r : Running) (c : Choice) : Type 0 where
  pub few : length c.prefs ≤ r.prefs
  pub numbers : (top : Module) → top_of r.modules ≡ Some top → FitsChoice r.modules top c

-- these words are settled
pub record IsSettledRun (c : Choice) (old new : Running) : Type 0 where
  pub stands : Stands old
  pub fits : Fits old c
  pub is : new ≡ settled_run c old

-- a choice in the definition's own terms
abbrev pub choice_of : code.Choice → Choice
choice_of c = record { mask = c.en; prefs = c.prefs }
