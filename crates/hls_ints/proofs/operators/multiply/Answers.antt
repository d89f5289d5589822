use Rattle.std.proofs.Common.{sym, ◌∙◌}
use Rattle.std.proofs.lemmas.Int.{to_z-of_z}
use Rattle.hls_ints.proofs.Ranges.{fits_product}
use Rattle.hls_ints.proofs.operators.multiply.Goals as goal

pub overflow_mul-a : goal.overflow_mul-a
overflow_mul-a c =
    let left = c.ranges.a in
    let right = c.ranges.b in
    let signed = sym c.is_signed.ensures ∙ c.if-is_signed.true in
    simp to_z-of_z (fits_product c.args.ty c.args.a c.args.b signed c.requires.left c.requires.right)

pub returns-then-is_signed-clause-value : goal.returns-then-is_signed-clause-value
returns-then-is_signed-clause-value c =
    let left = c.ranges.a in
    let right = c.ranges.b in
    let signed = sym c.is_signed.ensures ∙ c.if-is_signed.true in
    let product = fits_product c.args.ty c.args.a c.args.b signed c.requires.left c.requires.right in
    simp to_z-of_z at c.fit.ensures.value
