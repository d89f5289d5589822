use Rattle.std.proofs.KnownBytes.{Consumes-trans}
use Rattle.hls_io.proofs.whole.read_all.Goals as goal

pub returns-then-count-max-clause-prefix : goal.returns-then-count-max-clause-prefix
returns-then-count-max-clause-prefix g c =
    (_, Consumes-trans _ _ _ _ _ c.pieces.invariant.taken c.in_ok-count.ensures.bytes.0)

pub returns-in_err-put-clause-prefix : goal.returns-in_err-put-clause-prefix
returns-in_err-put-clause-prefix g c =
    (_, Consumes-trans _ _ _ _ _ c.pieces.invariant.taken c.in_ok-count.ensures.bytes.0)
