-- A net that is laid out in words, with all its steps.
use Rattle.std.specs.Prelude.{◌≡◌, ℕ, Bool, List, [], ◌∷◌, length, Some, slice_get}
use Rattle.netlist.specs.declared.netlist.Source.{Source}
use Rattle.netlist.specs.declared.netlist.Source.TheVariants.{Input, Register, Assigned, Port}
use Rattle.netlist.specs.declared.netlist.Module.{Module}
use Rattle.verilog_meaning.specs.Names.{top_of}
use Rattle.verilog_meaning.specs.Cycles.{Path, instance_at, connected}
use Rattle.sim_values.specs.declared.settle.Feed.TheVariants.{Copied, Computed}
use Rattle.sim_values.specs.declared.settle.Step.{Step}
use Rattle.sim_values.specs.declared.edge.Part.{Part}
use Rattle.sim_layout.specs.declared.place.Placed.{Placed}
use Rattle.sim_layout.specs.Given.{IsInput}
use Rattle.sim_values.specs.Stands.{spot_of, spot_at, kind_at, word_of, step}
use Rattle.sim_layout.specs.Running.{IsRight}
use Rattle.sim_values.specs.Tree.{IsTree}
use Rattle.sim_layout.specs.Placed.{IsPlaced}
use Rattle.sim_layout.specs.Wires.{AreWires}

pub record IsLaidOut (modules : List Module) (top : Module) (parts : List Part) (numbers : List ℕ) (free : List Bool) (words starts : List ℕ) (wires : List Step) (most : ℕ) : Type 0 where
  pub number : ℕ
  pub is_top : top_of modules ≡ Some top
  pub top_at : slice_get modules number ≡ Some top
  pub right : IsRight modules top
  pub kinds : List ℕ
  pub children : List ℕ
  pub tree : IsTree modules number kinds children
  pub placed : IsPlaced modules kinds children parts numbers free words starts
  pub whole : length parts ≡ length kinds
  pub base : ℕ
  pub base_is : base ≡ (spot_of (slice_get parts 0)).base
  pub are : AreWires modules parts top.signals base most wires

-- the words that were placed, and the steps, are those of the net
abbrev pub IsPlacedNet : List Module → Placed → List Step → Type 0
IsPlacedNet modules p wires = (top : Module) × (prefs : ℕ) × IsLaidOut modules top p.parts.items p.numbers.items p.free.items p.words.items p.starts.items wires prefs

module _ (modules : List Module) (top : Module) (parts : List Part) (most : ℕ) where
  -- a step gives signal x of the instance at a path what its source gives it
  abbrev pub GivesBy : Path → ℕ → List ℕ → Source → Step → Type 0
  GivesBy path x name (Register n) s = ⊥
  GivesBy path x name (Assigned v) s = s ≡ step (word_of parts path x) (Computed (kind_at parts path) x (spot_at parts path))
  GivesBy path x name (Port i port) s = s ≡ step (word_of parts path x) (Copied (word_of parts (i ∷ path) port))
  GivesBy [] x name Input s = (s.target ≡ word_of parts [] x) × IsInput most name s.feed
  GivesBy (i ∷ outer) x name Input s = s ≡ step (word_of parts (i ∷ outer) x) (Copied (word_of parts outer (connected modules top (instance_at modules top outer i) x)))
