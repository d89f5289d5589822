-- What a $write of a value writes is something.
use Rattle.std.specs.Prelude.{ℕ, zero, suc, ◌/◌, ◌%◌, ◌<◌, ◌==◌, Bool, true, false, List, [], ◌∷◌, length, if◌then◌else◌}
use Rattle.std.specs.Fmt.{decimal, signed_decimal, digits, digits_onto, digit_glyph}
use Rattle.std.proofs.Common.{ℤ, pos, negsuc, arith}
use Rattle.netlist.specs.declared.netlist.Argument.{Argument}
use Rattle.netlist.specs.declared.netlist.Argument.TheVariants.{Unsigned, Signed}
use Rattle.netlist.specs.declared.netlist.Module.{Module}
use Rattle.verilog_meaning.specs.Readings.{Reading, argument_bytes, width}
use Rattle.hls_ints.specs.Words.{signed_word}
use Rattle.sim_layout.specs.Print.{IsSomething}

longer_by : (b : Bool) (acc here rest : List ℕ) → length acc < length here → length acc < length rest → length acc < length (if b then here else rest)
longer_by true acc here rest h r = h
longer_by false acc here rest h r = r

longer : (k n : ℕ) (acc : List ℕ) → length acc < length (digits_onto (suc k) 10 false n acc)
longer zero n acc = longer_by (n / 10 == 0) acc (digit_glyph false (n % 10) ∷ acc) (digit_glyph false (n % 10) ∷ acc) (omega arith) (omega arith)
longer (suc k) n acc =
    let rest = longer k (n / 10) (digit_glyph false (n % 10) ∷ acc) in
    longer_by (n / 10 == 0) acc (digit_glyph false (n % 10) ∷ acc) (digits_onto (suc k) 10 false (n / 10) (digit_glyph false (n % 10) ∷ acc)) (omega arith) (omega (arith, rest))

some_decimal : (n : ℕ) → 0 < length (decimal n)
unfolding digits
some_decimal n = longer 63 n []

some_signed : (z : ℤ) → 0 < length (signed_decimal z)
some_signed (pos n) = some_decimal n
some_signed (negsuc n) = omega arith

pub some_argument : (m : Module) (r : Reading) (a : Argument) → IsSomething (argument_bytes m r a)
some_argument m r (Unsigned x) = some_decimal (r.signal x)
some_argument m r (Signed x) = some_signed (signed_word (width m x) (r.signal x))
