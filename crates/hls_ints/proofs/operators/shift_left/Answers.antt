use Rattle.std.proofs.Common.{◌≡◌, ◌*ℤ◌, ◌^◌, pos, unsigned_abs, ap, ◌∙◌, sym, int_lt, false, true}
use mir.Syntax.{w128}
use Rattle.std.proofs.lemmas.Int.{to_z-of_z}
use Rattle.hls_ints.specs.Operators.{result_of, is_count}
use Rattle.hls_ints.specs.Types.{width_of}
use Rattle.hls_ints.specs.declared.fault.ArithmeticFault.TheVariants.{Shift}
use Rattle.hls_ints.proofs.Ranges.{shifted, left_shift_at}
use Rattle.hls_ints.proofs.operators.shift_left.Goals as goal

pub returns-clause-value : goal.returns-clause-value
returns-clause-value c =
    let left = c.ranges.a in
    let right = c.ranges.b in
    let counted : c.is_shift_count.result ≡ is_count (width_of c.args.ty) c.args.b = simp to_z-of_z at c.is_shift_count.ensures in
    let count : is_count (width_of c.args.ty) c.args.b ≡ true = sym counted ∙ c.if-not-is_shift_count.false in
    let at_least_0 : int_lt c.args.a (pos 0) ≡ false = simp to_z-of_z at c.if-a-lt0.false in
    let exact = shifted c.args.ty c.args.a c.args.b c.requires count at_least_0 in
    let shifted_value : c.fit.result ≡ result_of Shift c.args.ty (c.args.a *ℤ pos (2 ^ unsigned_abs c.args.b)) =
    c.fit.ensures.value ∙ ap (result_of Shift c.args.ty) (rw (to_z-of_z w128 c.args.b right) exact)
    in
    shifted_value ∙ sym (left_shift_at c.args.ty c.args.a c.args.b count at_least_0)
