use Rattle.std.proofs.Common.{◌<◌, ◌^◌, sym, ◌∙◌, arith}
use Rattle.std.proofs.Math.Pow.{pow_mono}
use Rattle.std.proofs.lemmas.Bool.{lt-ltb, le-leb}
use Rattle.net_rules.proofs.expressions.is_below.Goals as goal

pub returns-then-width-ge64 : goal.returns-then-width-ge64
returns-then-width-ge64 c =
    let fits : c.args.value < 2 ^ c.args.width = omega (arith, pow_mono c.if-width-ge64.true, c.ranges.value.fits) in
    le-leb _ _ c.if-width-ge64.true ∙ sym (lt-ltb _ _ fits)
