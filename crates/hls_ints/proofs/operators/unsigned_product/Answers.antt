use Rattle.std.proofs.lemmas.Int.{to_z-of_z}
use Rattle.hls_ints.specs.declared.fault.ArithmeticFault.TheVariants.{Overflow}
use Rattle.hls_ints.proofs.Ranges.{unsigned_product}
use Rattle.hls_ints.proofs.operators.unsigned_product.Goals as goal

pub returns-clause-value : goal.returns-clause-value
returns-clause-value c =
    let left = c.ranges.a in
    let right = c.ranges.b in
    simp to_z-of_z (rw c.bits.ensures.value (unsigned_product Overflow c.args.ty c.args.a c.args.b c.requires.sign c.requires.left c.requires.right))
