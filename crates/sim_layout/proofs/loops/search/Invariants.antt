use Rattle.std.proofs.Common.{◌≡◌, length}
use Rattle.sim_layout.specs.Leads.{IsSearch}
use Rattle.sim_layout.proofs.loops.search.Given as goal

abbrev pub invariant-loop-turn : goal.invariant-loop-turn
invariant-loop-turn l = record {
  search : IsSearch l.modules l.wires l.place l.apart;
  long : length l.apart ≡ l.words;
}
