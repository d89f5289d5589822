-- The dimensions of objects (C99 6.7.5.2).
use Rattle.std.specs.Prelude.{ℕ, ◌*◌, min, Bool, true, false}
use Rattle.c_rules.specs.declared.dimensions.Dimensions.{Dimensions}
use Rattle.c_rules.specs.declared.dimensions.Dimensions.TheVariants.{Scalar, One, Two, Three}

abbrev pub count : Dimensions → ℕ
count Scalar = 0
count (One a) = 1
count (Two a b) = 2
count (Three a b c) = 3

abbrev pub is_scalar : Dimensions → Bool
is_scalar Scalar = true
is_scalar dimensions = false

-- the product of two lengths, as far as a length goes
abbrev pub times : ℕ → ℕ → ℕ
times a b = min (a * b) 0xffff_ffff_ffff_ffff

-- the number of elements; a scalar is one
abbrev pub elements : Dimensions → ℕ
elements Scalar = 1
elements (One a) = a
elements (Two a b) = times a b
elements (Three a b c) = times (times a b) c

-- the length of the outermost dimension, and the dimensions of its elements
abbrev pub outermost : Dimensions → ℕ
outermost Scalar = 1
outermost (One a) = a
outermost (Two a b) = a
outermost (Three a b c) = a

abbrev pub inner : Dimensions → Dimensions
inner Scalar = Scalar
inner (One a) = Scalar
inner (Two a b) = One b
inner (Three a b c) = Two b c

-- one more dimension, the innermost; there are at most three
abbrev pub with_length : Dimensions → ℕ → Dimensions
with_length Scalar n = One n
with_length (One a) n = Two a n
with_length (Two a b) n = Three a b n
with_length (Three a b c) n = Three a b c
