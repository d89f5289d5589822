-- The memories of a thread's module: one for each local array, each word of which is 0 at the start.
use Rattle.std.specs.Prelude.{ℕ, suc, List, [], ◌∷◌, codes, replicate, slice_get}
use Rattle.hls_ints.specs.Types.{width_of}
use Rattle.block_ir.specs.declared.code.Array.{Array}
use Rattle.block_ir.specs.declared.code.ThreadCode.{ThreadCode}
use Rattle.netlist.specs.declared.netlist.Memory.{Memory}
use Rattle.verilog_meaning.specs.Names.{numbered}
use Rattle.operator_wires.specs.Built.{Base, no_memory}

-- of array n
abbrev pub memory_for : ℕ → Array → Memory
memory_for n a = record { name = numbered (codes "array") n; width = width_of a.ty; initial = replicate a.length 0 }

-- of arrays from number n on
abbrev pub memories_from : ℕ → List Array → List Memory
memories_from n [] = []
memories_from n (a ∷ arrays) = memory_for n a ∷ memories_from (suc n) arrays

-- what wires stand on that read none of so many first signals: those of what is asked and of stages read no input, those of what is heard neither the enable nor
-- a grant; all these read the memories of the code's arrays. Those of control do not read the clock, and no memory
abbrev pub base_behind : ℕ → ThreadCode → Base
base_behind n code = record { first = n; memory = λ j. slice_get (memories_from 0 code.arrays) j }

abbrev pub control_base : Base
control_base = record { first = 1; memory = no_memory }
