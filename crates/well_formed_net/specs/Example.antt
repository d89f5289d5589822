-- A net that a simulator takes and that no netlist of ours tells: `module top(input wire [0:0] a, output wire done);
-- assign done = a[0]; endmodule`. Bit 0 of a name with a range of one bit may be read.
use Rattle.std.specs.Prelude.{[], ◌∷◌, Some, None, codes}
use Rattle.verilog_tree.specs.declared.tree.Direction.TheVariants as direction
use Rattle.verilog_tree.specs.declared.tree.Expression.TheVariants as e
use Rattle.verilog_tree.specs.declared.tree.Item.TheVariants as i
use Rattle.verilog_tree.specs.declared.tree.Port.{Port}
use Rattle.verilog_tree.specs.declared.tree.Module.{Module}
use Rattle.verilog_tree.specs.declared.tree.Net.{Net}
use Rattle.verilog_tree.specs.WellFormed.{IsWellFormed}
use Rattle.netlist.specs.NetlistOf.{netlist_of}
use Rattle.netlist.specs.Sound.{IsSound}
use Rattle.cycle_sim.specs.Opened.{IsOpenable}

abbrev pub one_bit : Port
one_bit = record { direction = direction.Input; high = Some 0; name = codes "a" }

abbrev pub done : Port
done = record { direction = direction.Output; high = None; name = codes "done" }

abbrev pub top : Module
top = record { name = codes "top"; ports = one_bit ∷ done ∷ []; items = i.Assign (record { target = codes "done"; value = e.BitSelect (codes "a") 0 }) ∷ [] }

abbrev pub net : Net
net = record { modules = top ∷ [] }

-- it is well formed and can be opened, and its netlist is not sound
pub record OpensOneBit : Type 0 where
  pub well_formed : IsWellFormed net
  pub opens : IsOpenable (netlist_of net).modules
  pub not_sound : IsSound (netlist_of net) → ⊥
