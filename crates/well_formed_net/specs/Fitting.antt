-- What the rules of a well-formed text say of its netlist.
use Rattle.std.specs.Prelude.{◌≡◌, ℕ, ◌≤◌, ◌<◌, ◌^◌, List, Some, slice_get}
use Rattle.verilog_tree.specs.declared.tree.Net.{Net}
use Rattle.verilog_tree.specs.WellFormed.{IsWellFormed}
use Rattle.netlist.specs.declared.netlist.Source.{Source}
use Rattle.netlist.specs.declared.netlist.Source.TheVariants as source
use Rattle.netlist.specs.declared.netlist.Signal.{Signal}
use Rattle.netlist.specs.declared.netlist.Instance.{Instance}
use Rattle.netlist.specs.declared.netlist.Module.{Module}
use Rattle.netlist.specs.Laid.{AreApart, EachAt, module_names, signal_names, memory_names, instance_names}
use Rattle.netlist.specs.Sound.{IsPrinting}
use Rattle.netlist.specs.NetlistOf.{netlist_of}
use Rattle.verilog_meaning.specs.Readings.{or_zero}
use Rattle.circuit.specs.Rows.{EachOf}
use Rattle.circuit.specs.Modules.{Has, FitsValue, FitsAction, FitsMemory}

module _ (modules : List Module) (m : Module) where
  -- a port that drives a signal is one of an instance
  pub record IsPortOf (i port w : ℕ) : Type 0 where
    pub instance : Instance
    pub listed : slice_get m.instances i ≡ Some instance
    pub of : Module
    pub stands : slice_get modules instance.of ≡ Some of
    pub has : Has of port w

  abbrev pub IsFitSource : ℕ → Source → Type 0
  IsFitSource w source.Input = Unit {0}
  IsFitSource w (source.Register n) = n < 2 ^ w
  IsFitSource w (source.Assigned v) = FitsValue (Has m) (λ j. slice_get m.memories j) w v
  IsFitSource w (source.Port i port) = IsPortOf i port w

  -- a signal of 1 to 64 bits, as wide as what drives it
  pub record IsFitSignal (s : Signal) : Type 0 where
    pub low : 1 ≤ s.width
    pub high : s.width ≤ 64
    pub drives : IsFitSource s.width s.source

  -- each input of an instance is connected to a signal of its width
  abbrev pub IsFitInstance : Instance → Type 0
  IsFitInstance n =
      (of : Module) → slice_get modules n.of ≡ Some of → (x : ℕ) (s : Signal) → slice_get of.signals x ≡ Some s → s.source ≡ source.Input
      → Has m (or_zero (slice_get n.inputs x)) s.width

  -- the widths of a module among others fit, and no two signals have one name, nor two memories, nor two instances
  pub record IsFitModule : Type 0 where
    pub signals : EachAt m.signals (λ x. IsFitSignal)
    pub instances : EachAt m.instances (λ i. IsFitInstance)
    pub actions : EachOf (FitsAction m) m.actions
    pub memories : EachOf FitsMemory m.memories
    pub signals_apart : AreApart (signal_names m)
    pub memories_apart : AreApart (memory_names m)
    pub instances_apart : AreApart (instance_names m)

-- each module of the netlist of a well-formed text fits
abbrev pub FitsOfWellFormed : Type 0
FitsOfWellFormed = (n : Net) → IsWellFormed n → (k : ℕ) (m : Module) → slice_get (netlist_of n).modules k ≡ Some m → IsFitModule (netlist_of n).modules m

-- an instance's module stands earlier, and no two modules have one name
pub record IsOrdered (modules : List Module) : Type 0 where
  pub names : AreApart (module_names modules)
  pub earlier : (k i : ℕ) (m : Module) (x : Instance) → slice_get modules k ≡ Some m → slice_get m.instances i ≡ Some x → x.of < k

-- so stand the modules of the netlist of a well-formed text
abbrev pub OrderedOfWellFormed : Type 0
OrderedOfWellFormed = (n : Net) → IsWellFormed n → IsOrdered (netlist_of n).modules

-- in the netlist of a well-formed text $write stands in one module, which is `top` or has one instance, below others that have one
abbrev pub PrintingOfWellFormed : Type 0
PrintingOfWellFormed = (n : Net) → IsWellFormed n → IsPrinting (netlist_of n)
