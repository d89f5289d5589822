-- Numbers of comparisons.
use Rattle.std.specs.Prelude.{ℕ, Bool, if◌then◌else◌}
use Rattle.hls_ints.specs.Words.{word_less, signed_less}

-- whether a word is less than another one, both with negative values or both without
abbrev pub less_number : Bool → ℕ → ℕ → ℕ → ℕ
less_number signed w a b = if signed then signed_less w a b else word_less w a b
