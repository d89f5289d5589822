-- THE REPORT OF A NET: of each module its registers, memories, writes and instances; and the cores of `top`.
use Rattle.std.specs.Prelude.{ℕ, ◌/◌, List, [], ◌∷◌, ◌++◌, length, take, drop, codes, slice_get, Option, Some, None, if◌then◌else◌}
use Rattle.std.specs.List.{flat_map}
use Rattle.std.specs.Str.{bytes_eq}
use Rattle.netlist.specs.declared.netlist.Source.{Source}
use Rattle.netlist.specs.declared.netlist.Source.TheVariants as source
use Rattle.netlist.specs.declared.netlist.Signal.{Signal}
use Rattle.netlist.specs.declared.netlist.Memory.{Memory}
use Rattle.netlist.specs.declared.netlist.Effect.{Effect}
use Rattle.netlist.specs.declared.netlist.Effect.TheVariants as effect
use Rattle.netlist.specs.declared.netlist.Action.{Action}
use Rattle.netlist.specs.declared.netlist.Instance.{Instance}
use Rattle.netlist.specs.declared.netlist.Module.{Module}
use Rattle.plan_report.specs.Words.{word, number, numbered}

-- a name behind numbers
abbrev pub named : List ℕ → List ℕ
named name = word name ++ 10 ∷ []

-- a register: its width in bits and its name
abbrev pub register_line : Signal → List ℕ
register_line s = codes "flipflops" ++ number s.width ++ named s.name

abbrev pub line_if_register : Signal → Source → List ℕ
line_if_register s (source.Register initial) = register_line s
line_if_register s source.Input = []
line_if_register s (source.Assigned v) = []
line_if_register s (source.Port i p) = []

abbrev pub signal_line : Signal → List ℕ
signal_line s = line_if_register s s.source

-- a memory: its words, their width and its name
abbrev pub memory_line : Memory → List ℕ
memory_line m = codes "memory" ++ number (length m.initial) ++ number m.width ++ named m.name

-- statement k of a module where it writes: what stands between the quotes
abbrev pub effect_line : ℕ → Effect → List ℕ
effect_line k (effect.Write text arguments) = codes "write" ++ number k ++ named text
effect_line k (effect.Set r s) = []
effect_line k (effect.Store m a s) = []

abbrev pub action_line : ℕ → Action → List ℕ
action_line k a = effect_line k a.effect

-- the name of a module by its place
abbrev pub place_name : Option Module → List ℕ
place_name None = []
place_name (Some m) = m.name

-- an instance: its name, and that of its module
abbrev pub instance_line : List Module → Instance → List ℕ
instance_line modules i = codes "instance" ++ word i.name ++ named (place_name (slice_get modules i.of))

abbrev pub module_lines : List Module → Module → List ℕ
module_lines modules m =
    codes "module" ++ named m.name ++ flat_map signal_line m.signals ++ flat_map memory_line m.memories ++ numbered action_line 0 m.actions
    ++ flat_map (instance_line modules) m.instances

-- a core: the number of its arbiter and of its preference, and its name
abbrev pub core_line : ℕ → Instance → List ℕ
core_line k i = codes "core" ++ number k ++ named i.name

-- behind the threads of `top` stand its cores, and behind these as many arbiters
abbrev pub cores_of : List Instance → List Instance
cores_of rest = take (length rest / 2) rest

abbrev pub core_lines : ℕ → Module → List ℕ
core_lines threads top = numbered core_line 0 (cores_of (drop threads top.instances))

abbrev pub top_lines : ℕ → Module → List ℕ
top_lines threads m = if bytes_eq (codes "top") m.name then core_lines threads m else []

-- a net whose `top` has so many threads
abbrev pub net_lines : ℕ → List Module → List ℕ
net_lines threads modules = flat_map (module_lines modules) modules ++ flat_map (top_lines threads) modules
