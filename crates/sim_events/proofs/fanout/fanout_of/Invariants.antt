use Rattle.std.proofs.Common.{◌≡◌, ◌+◌, length, slice_index}
use Rattle.sim_events.proofs.Touched.{AreListed}
use Rattle.sim_events.proofs.fanout.fanout_of.Given as goal

abbrev pub invariant-loop-word : goal.invariant-loop-word
invariant-loop-word l = record {
  long : length l.starts.items ≡ l.word + 1;
  ends : slice_index l.starts.items l.word ≡ length l.listed.items;
  listed : AreListed l.touched.last.items l.touched.chain.items l.starts.items l.listed.items l.word;
}
