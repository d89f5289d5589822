use Rattle.std.proofs.Common.{◌≡◌, length}
use Rattle.sim_layout.specs.Leads.{IsSearch}
use Rattle.sim_layout.proofs.loops.spread.Given as goal

abbrev pub invariant-loop-next : goal.invariant-loop-next
invariant-loop-next l = record {
  search : IsSearch l.modules l.wires l.place l.apart;
  long : length l.apart ≡ l.words;
}
