use Rattle.std.proofs.Common.{◌≡◌, ℕ, ◌<◌, length, get_or, if◌then◌else◌}
use Rattle.register_binding.specs.Registers.{is_marked}
use Rattle.register_binding.specs.Steps.{AreEnds}
use Rattle.register_binding.proofs.lives.life_ends.Given as goal

abbrev pub invariant-loop-i : goal.invariant-loop-i
invariant-loop-i l = record {
  count : length l.ends.items ≡ l.i;
  each : (i : ℕ) → i < l.i → get_or l.ends.items i 0 ≡ (if is_marked l.at_end i then get_or l.starts (length l.nodes) 0 else 0);
}

abbrev pub invariant-loop-k : goal.invariant-loop-k
invariant-loop-k l = AreEnds l.nodes l.starts (is_marked l.at_end) l.k l.ends.items
