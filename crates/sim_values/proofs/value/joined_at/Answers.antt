use Rattle.std.proofs.Common.{◌≡◌, ◌+◌, ◌*◌, ◌^◌, get_or, ap, ◌∙◌, arith}
use Rattle.hls_ints.specs.Words.{word}
use Rattle.circuit.specs.Readings.{Reading, width, joined}
use Rattle.sim_values.specs.Flat.{flat_of, reading, IsWide}
use Rattle.sim_values.proofs.Words.{joined_next, joined_end, each_next}
use Rattle.sim_values.proofs.value.joined_at.Goals as goal

pub loop-part-preserved : goal.loop-part-preserved
loop-part-preserved c =
    let m = c.args.module.now in
    let r : Reading = reading c.args.spot (flat_of c.args.now.now) in
    let xs = c.args.parts.now in
    let i = c.loop-part.part-index in
    let x = get_or xs i 0 in
    let out : c.beside-above.result ≡ word 64 (c.loop-part.above * 2 ^ width m x + r.signal x) =
    c.beside-above.ensures
    ∙ ap (λ w. word 64 (c.loop-part.above * 2 ^ w + c.number_at-number.result)) c.width_at.ensures
    ∙ ap (λ n. word 64 (c.loop-part.above * 2 ^ width m x + n)) c.number_at-number.ensures in
    record {
      left = joined_next m r xs i c.loop-part.above c.beside-above.result (word 64 (joined m r xs 0)) c.loop-part-test.true c.loop-part.invariant.left out;
      wide = (each_next (IsWide m) xs i c.loop-part-test.true c.loop-part.invariant.wide).1;
      below = omega arith;
    }

pub returns : goal.returns
returns c =
    let m = c.args.module.now in
    let r : Reading = reading c.args.spot (flat_of c.args.now.now) in
    let xs = c.args.parts.now in
    joined_end m r xs c.loop-part.part-index c.loop-part.above (word 64 (joined m r xs 0)) (omega arith) c.loop-part.invariant.left c.loop-part.invariant.below
