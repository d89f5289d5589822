use Rattle.std.proofs.Common.{◌≡◌, ◌++◌, drop}
use Rattle.sim_values.specs.Flat.{flat_of, all_written}
use Rattle.sim_layout.specs.Print.{Keeps}
use Rattle.sim_layout.proofs.print.put_parts.Given as goal

abbrev pub invariant-loop-part : goal.invariant-loop-part
invariant-loop-part l = record {
  left : l.initial.out ++ all_written l.modules (flat_of l.now) l.parts ≡ l.out ++ all_written l.modules (flat_of l.now) (drop l.part-index l.parts);
  kept : Keeps l.initial.out l.out;
}
