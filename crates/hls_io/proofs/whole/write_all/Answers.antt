use Rattle.std.proofs.Common.{arith}
use Rattle.std.proofs.KnownBytes.{Appends-trans}
use Rattle.std.proofs.Math.Seq.{take-add}
use Rattle.std.proofs.lemmas.List.{take_rest}
use Rattle.hls_io.proofs.whole.write_all.Goals as goal

pub pieces-preserved : goal.pieces-preserved
pieces-preserved g c = record {
  within = omega (arith, c.in-Ok.ensures.bound);
  held = rw (take-add c.pieces.written c.in-Ok.count c.args.bytes.now)
      (Appends-trans _ _ _ _ _ c.pieces.invariant.held (rw take_rest at c.in-Ok.ensures.bytes));
  later = omega (arith, c.write.ensures.cause.later);
}
