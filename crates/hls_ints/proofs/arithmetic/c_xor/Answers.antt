use Rattle.std.proofs.Common.{◌≡◌, ◌^◌, ◌<◌, pos, bit_xor, Some, FitsSigned, rules, ap, ◌∙◌, lit≤}
use mir.Syntax.{w128}
use Rattle.std.proofs.Math.Nat.{lt_of_lt_of_le}
use Rattle.std.proofs.lemmas.Nat.{xor_lt}
use Rattle.std.proofs.lemmas.Int.{to_z-of_z, to_z_pos}
use Rattle.hls_ints.specs.Residues.{residue_of}
use Rattle.hls_ints.specs.Types.{width_of, wrapped}
use Rattle.hls_ints.proofs.arithmetic.c_xor.Goals as goal

pub returns-clause-value : goal.returns-clause-value
returns-clause-value c =
    let left_range = c.ranges.a in
    let right_range = c.ranges.b in
    let wrap_range : FitsSigned w128 c.wrap.result = search rules in
    let below : bit_xor c.residue.result c.residue-2.result < 2 ^ 127 =
    lt_of_lt_of_le (xor_lt 64 c.residue.result c.residue-2.result c.residue.type_inv c.residue-2.type_inv) (lit≤ tt)
    in
    let left : c.residue.result ≡ residue_of (width_of c.args.ty) c.args.a =
    c.residue.ensures.value ∙ rw (c.bits.ensures.value) (simp to_z-of_z)
    in
    let right : c.residue-2.result ≡ residue_of (width_of c.args.ty) c.args.b =
    c.residue-2.ensures.value ∙ rw (c.bits-2.ensures.value) (simp to_z-of_z)
    in
    let bits : bit_xor c.residue.result c.residue-2.result ≡ bit_xor (residue_of (width_of c.args.ty) c.args.a) (residue_of (width_of c.args.ty) c.args.b) = cc in
    simp to_z-of_z
    (ap Some (c.wrap.ensures.value ∙ ap (wrapped c.args.ty) (to_z_pos w128 _ below ∙ ap pos bits)))
