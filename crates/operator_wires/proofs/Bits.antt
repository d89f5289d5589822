-- Words of one bit.
use Rattle.std.proofs.Common.{◌≡◌, ℕ, Bool, true, false, not, ◌&&◌, ◌||◌, nat_eq, if◌then◌else◌, refl}
use Rattle.hls_ints.specs.Residues.{bit_of}
use Rattle.hls_ints.specs.Words.{word_and, word_inclusive_or}

pub and_bits : (t u : Bool) → word_and 1 (bit_of t) (bit_of u) ≡ bit_of (t && u)
and_bits true true = refl
and_bits true false = refl
and_bits false true = refl
and_bits false false = refl

pub or_bits : (t u : Bool) → word_inclusive_or 1 (bit_of t) (bit_of u) ≡ bit_of (t || u)
or_bits true true = refl
or_bits true false = refl
or_bits false true = refl
or_bits false false = refl

-- what the test of a bit is
pub set_bit : (t : Bool) → not (nat_eq (bit_of t) 0) ≡ t
set_bit true = refl
set_bit false = refl

-- what a choice by a bit shows
pub chosen_by : (t : Bool) (one other : ℕ) → (if nat_eq (bit_of t) 0 then other else one) ≡ (if t then one else other)
chosen_by true one other = refl
chosen_by false one other = refl
