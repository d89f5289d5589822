use Rattle.std.proofs.Common.{◌≡◌, length, false}
use Rattle.sim_layout.specs.Leads.{IsSearch, AreClosed}
use Rattle.sim_layout.proofs.loops.look_through.Given as goal

abbrev pub invariant-loop-number : goal.invariant-loop-number
invariant-loop-number l = record {
  search : IsSearch l.modules l.wires l.place l.apart;
  long : length l.apart ≡ l.words;
  closed : l.found ≡ false → AreClosed l.modules l.wires l.apart l.number;
}
