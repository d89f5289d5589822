use Rattle.std.proofs.Common.{◌≡◌, ◌++◌, drop}
use Rattle.verilog_meaning.specs.Readings.{action_bytes}
use Rattle.sim_values.specs.Rows.{EachOf}
use Rattle.sim_values.specs.Flat.{flat_of, reading, IsNarrowAction}
use Rattle.sim_layout.specs.Print.{Keeps}
use Rattle.sim_layout.proofs.print.put_module.Given as goal

abbrev pub invariant-loop-action : goal.invariant-loop-action
invariant-loop-action l = record {
  left : l.initial.out ++ action_bytes l.module (reading l.spot (flat_of l.now)) l.module.actions
      ≡ l.out ++ action_bytes l.module (reading l.spot (flat_of l.now)) (drop l.action-index l.module.actions);
  narrow : EachOf (IsNarrowAction l.module) (drop l.action-index l.module.actions);
  kept : Keeps l.initial.out l.out;
}
