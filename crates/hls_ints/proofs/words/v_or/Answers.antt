use Rattle.std.proofs.lemmas.Nat.{or_lt}
use Rattle.hls_ints.proofs.words.v_or.Goals as goal

pub returns-clause-below : goal.returns-clause-below
returns-clause-below c = or_lt c.args.width c.read.result c.read-2.result c.read.ensures.below c.read-2.ensures.below
