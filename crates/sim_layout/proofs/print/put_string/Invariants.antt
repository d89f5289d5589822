use Rattle.std.proofs.Common.{◌≡◌, ◌++◌, drop}
use Rattle.verilog_meaning.specs.Readings as meaning
use Rattle.verilog_meaning.specs.Readings.{filled, all_arguments}
use Rattle.sim_values.specs.Rows.{EachOf}
use Rattle.sim_values.specs.Flat.{flat_of, reading, IsNarrowArgument}
use Rattle.sim_layout.specs.Print.{mode_of, Keeps}
use Rattle.sim_layout.proofs.print.put_string.Given as goal

abbrev pub invariant-loop-byte : goal.invariant-loop-byte
invariant-loop-byte l = record {
  left : l.initial.out ++ filled meaning.Plain l.text (all_arguments l.module (reading l.spot (flat_of l.now)) l.arguments)
      ≡ l.out ++ filled (mode_of l.mode) (drop l.byte-index l.text) (all_arguments l.module (reading l.spot (flat_of l.now)) l.rest);
  narrow : EachOf (IsNarrowArgument l.module) l.rest;
  kept : Keeps l.initial.out l.out;
}
