use Rattle.std.proofs.lemmas.Nat.{xor_lt}
use Rattle.hls_ints.proofs.words.v_xor.Goals as goal

pub returns-clause-below : goal.returns-clause-below
returns-clause-below c = xor_lt c.args.width c.read.result c.read-2.result c.read.ensures.below c.read-2.ensures.below
