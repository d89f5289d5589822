use Rattle.sim_layout.specs.Ranks.{AreRanked}
use Rattle.std.proofs.Common.{◌≡◌, length}
use Rattle.sim_layout.proofs.suspects.all_suspects.Given as goal

abbrev pub invariant-loop-number : goal.invariant-loop-number
invariant-loop-number l = record {
  ranked : AreRanked l.modules l.wires l.ranks l.suspects l.number;
  long : length l.suspects ≡ length l.fn.suspects;
}
