-- How many numbers a net has: those of each module with all that stands in its instances.
use Rattle.std.specs.Prelude.{ℕ, ◌+◌, ◌-◌, ◌^◌, min, List, [], ◌∷◌, ◌++◌, length, sum_by, slice_index}
use Rattle.netlist.specs.declared.netlist.Memory.{Memory}
use Rattle.netlist.specs.declared.netlist.Instance.{Instance}
use Rattle.netlist.specs.declared.netlist.Module.{Module}

-- counts stop at the greatest number of 64 bits
abbrev pub capped : ℕ → ℕ
capped n = min n (2 ^ 64 - 1)

abbrev pub words : Memory → ℕ
words memory = length memory.initial

-- the size of an instance is that of its module, one of those before
abbrev pub size_in : List ℕ → Instance → ℕ
size_in sizes instance = slice_index sizes instance.of

-- a module by itself is one, as long as it may have nothing else in it
abbrev pub module_size : List ℕ → Module → ℕ
module_size sizes m =
    capped (1 + capped (capped (length m.signals + capped (sum_by words m.memories)) + capped (sum_by (size_in sizes) m.instances)))

-- the sizes of these modules behind those of others
abbrev pub sizes_behind : List ℕ → List Module → List ℕ
sizes_behind sizes [] = sizes
sizes_behind sizes (m ∷ modules) = sizes_behind (sizes ++ module_size sizes m ∷ []) modules

abbrev pub sizes_of : List Module → List ℕ
sizes_of modules = sizes_behind [] modules
