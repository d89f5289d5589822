-- The wires of top: whether each thread is enabled, and for each instance one for each of its output ports.
use Rattle.std.specs.Prelude.{ℕ, ◌+◌, ◌-◌, false, nat_eq, if◌then◌else◌, List, [], ◌∷◌, length, Option, Some, None, slice_get}
use Rattle.netlist.specs.declared.netlist.Value.TheVariants.{Copy, Select}
use Rattle.netlist.specs.declared.netlist.Source.{Source}
use Rattle.netlist.specs.declared.netlist.Source.TheVariants as source
use Rattle.netlist.specs.declared.netlist.Signal.{Signal}
use Rattle.netlist.specs.declared.netlist.Module.{Module}
use Rattle.verilog_meaning.specs.Names.{numbered}
use Rattle.std.specs.Prelude.{codes}
use Rattle.circuit.specs.Rows.{spread}
use Rattle.top_parts.specs.declared.parts.Part.{Part}
use Rattle.top_parts.specs.declared.wires.Wire.{Wire}
use Rattle.top_parts.specs.declared.wires.Wire.TheVariants.{Whole, Bit, Port}
use Rattle.top_parts.specs.Parts.{each_from, flat_from}

-- the place of the first of so many last signals
abbrev pub ports_from : Option Module → ℕ → ℕ
ports_from None n = 0
ports_from (Some m) n = length m.signals - n

abbrev pub first_port : List Module → Part → ℕ
first_port modules p = ports_from (slice_get modules p.of) (length p.outputs)

-- whether each of n threads is enabled: its bit of the mask, or the mask itself where that is one bit
abbrev pub enables : ℕ → List Wire
enables n = if nat_eq n 1 then Whole ∷ [] else spread Bit 0 n

abbrev pub port_wire : ℕ → ℕ → ℕ → ℕ → Wire
port_wire j first x w = Port w j (first + x)

-- the wires of instance j
abbrev pub ports : List Module → ℕ → Part → List Wire
ports modules j p = each_from (port_wire j (first_port modules p)) 0 p.outputs

abbrev pub blocks : List Module → List Part → List Wire
blocks modules parts = flat_from (ports modules) 0 parts

-- where the wires of each instance begin, those of the first one at a place
abbrev pub starts_from : ℕ → List Part → List ℕ
starts_from at [] = []
starts_from at (p ∷ ps) = at ∷ starts_from (at + length p.outputs) ps

-- ---- as signals

abbrev pub width_of : Wire → ℕ
width_of Whole = 1
width_of (Bit i) = 1
width_of (Port w j q) = w

-- the mask is signal 1
abbrev pub source_of : Wire → Source
source_of Whole = source.Assigned (Copy 1)
source_of (Bit i) = source.Assigned (Select 1 i i)
source_of (Port w j q) = source.Port j q

abbrev pub wire_signal : ℕ → Wire → Signal
wire_signal place w = record { name = numbered (codes "w") place; width = width_of w; is_output = false; source = source_of w }
