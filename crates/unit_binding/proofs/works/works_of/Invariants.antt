use Rattle.std.proofs.Common.{◌≡◌, ℕ, ◌<◌, length}
use Rattle.interval_pack.specs.Packing.{at}
use Rattle.unit_binding.specs.Works.{work_of}
use Rattle.unit_binding.proofs.works.works_of.Given as goal

abbrev pub invariant-loop-i : goal.invariant-loop-i
invariant-loop-i l = record {
  count : length l.works.items ≡ l.i;
  each : (i : ℕ) → i < l.i → at l.works.items i ≡ work_of l.nodes l.starts l.kind i;
}
