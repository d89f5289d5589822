-- What is put into a simulator: a number at a place, a word into a memory.
use Rattle.std.specs.Prelude.{◌≡◌, ℕ, ◌+◌, ◌^◌, ◌<◌, length, Some, slice_index, slice_set}
use Rattle.netlist.specs.declared.netlist.Signal.{Signal}
use Rattle.netlist.specs.declared.netlist.Memory.{Memory}
use Rattle.netlist.specs.declared.netlist.Module.{Module}
use Rattle.verilog_meaning.specs.Names.{top_of}
use Rattle.verilog_meaning.specs.Cycles.{Path, IsAt, HasMemory, IsRegister}
use Rattle.sim_values.specs.Stands.{word_of, spot_at}
use Rattle.sim_layout.specs.Running.{Running, running}

-- a number fits each register that stands at a place
abbrev pub FitsAt : Running → ℕ → ℕ → Type 0
FitsAt r place number =
    (top : Module) → top_of r.modules ≡ Some top → (path : Path) (m : Module) (x : ℕ) (s : Signal) → IsAt r.modules top path m x s → IsRegister s.source → word_of r.parts path x ≡ place
    → number < 2 ^ s.width

abbrev pub with_number : Running → ℕ → ℕ → Running
with_number r place number = running r.modules r.parts r.steps (slice_set r.numbers place number) r.words r.starts r.prefs r.done

-- where word k of memory j of the instance at a path stands
abbrev pub place_of_word : Running → Path → ℕ → ℕ → ℕ
place_of_word r path j k = slice_index r.starts ((spot_at r.parts path).memories + j) + k

-- a number fits each memory word that stands at a place
abbrev pub FitsWordAt : Running → ℕ → ℕ → Type 0
FitsWordAt r place number =
    (top : Module) → top_of r.modules ≡ Some top → (path : Path) (m : Module) (j k : ℕ) (s : Memory) → HasMemory r.modules top path m j s → k < length s.initial
    → place_of_word r path j k ≡ place → number < 2 ^ s.width

abbrev pub with_word : Running → ℕ → ℕ → Running
with_word r place number = running r.modules r.parts r.steps r.numbers (slice_set r.words place number) r.starts r.prefs r.done
