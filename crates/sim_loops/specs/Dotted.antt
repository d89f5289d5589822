-- The path of a signal as a text.
use Rattle.std.specs.Prelude.{◌≡◌, ℕ, List, [], ◌∷◌, ◌++◌, Option, Some, None, option_and_then, slice_get}
use Rattle.netlist.specs.declared.netlist.Signal.{Signal}
use Rattle.netlist.specs.declared.netlist.Instance.{Instance}
use Rattle.netlist.specs.declared.netlist.Module.{Module}
use Rattle.verilog_meaning.specs.Names.{top_of}
use Rattle.verilog_meaning.specs.Cycles.{Path, module_at}
use Rattle.sim_loops.specs.First.{IsLoopAt}

abbrev pub instance_in : Option Module → ℕ → Option Instance
instance_in m i = option_and_then (λ (k : Module). slice_get k.instances i) m

abbrev pub module_of : List Module → Option Instance → Option Module
module_of modules i = option_and_then (λ (n : Instance). slice_get modules n.of) i

abbrev pub signal_in : Option Module → ℕ → Option Signal
signal_in m x = option_and_then (λ (k : Module). slice_get k.signals x) m

abbrev pub instance_name : Option Instance → List ℕ
instance_name None = []
instance_name (Some i) = i.name

abbrev pub signal_name : Option Signal → List ℕ
signal_name None = []
signal_name (Some s) = s.name

-- the names of the instances on a path, the outermost first, each with a dot behind it
abbrev pub prefix : List Module → Module → Path → List ℕ
prefix modules top [] = []
prefix modules top (i ∷ outer) = prefix modules top outer ++ instance_name (instance_in (module_at modules top outer) i) ++ 46 ∷ []

-- the path of signal x of the instance at a path
abbrev pub dotted_name : List Module → Module → Path → ℕ → List ℕ
dotted_name modules top path x = prefix modules top path ++ signal_name (signal_in (module_at modules top path) x)

-- the path below `top` of the first signal of a net that depends on itself
pub record IsLoopPath (modules : List Module) (text : List ℕ) : Type 0 where
  pub top : Module
  pub is_top : top_of modules ≡ Some top
  pub path : Path
  pub signal : ℕ
  pub loops : IsLoopAt modules top path signal
  pub is : text ≡ dotted_name modules top path signal
