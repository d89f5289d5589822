-- The lines of a worker that a number gives.
use Rattle.std.specs.Prelude.{ℕ, zero, suc, List, [], ◌∷◌, ◌+◌, ◌*◌, ◌/◌, ◌%◌, ◌^◌, ◌==◌, if◌then◌else◌}
use Rattle.generated_text.specs.declared.draws.Letter.{Letter}
use Rattle.generated_text.specs.declared.draws.Letter.TheVariants.{A, B, C, D}
use Rattle.generated_text.specs.declared.draws.Kind.{Kind}
use Rattle.generated_text.specs.declared.draws.Kind.TheVariants.{Sum, Difference, Product, ExclusiveOr, Quotient, Raise, Publish, Add}
use Rattle.generated_text.specs.declared.draws.Line.{Line}

-- a linear congruential generator
abbrev pub drawn : ℕ → ℕ
drawn x = (x * 1664525 + 1013904223) % 2 ^ 32

-- what a draw from so many gives: the upper half, since the lower bits of such a generator have short periods
abbrev pub from_draw : ℕ → ℕ → ℕ
from_draw x count = x / 65536 % count

abbrev pub letter_of : ℕ → Letter
letter_of n = if n == 0 then A else if n == 1 then B else if n == 2 then C else D

abbrev pub kind_of : ℕ → Kind
kind_of n =
    if n == 0 then Sum else if n == 1 then Difference else if n == 2 then Product else if n == 3 then ExclusiveOr
    else if n == 4 then Quotient else if n == 5 then Raise else if n == 6 then Publish else Add

-- a line takes four draws: from 8 kinds, then from 4 variables each
abbrev pub line_at : ℕ → Line
line_at x = record {
  kind = kind_of (from_draw (drawn x) 8);
  target = letter_of (from_draw (drawn (drawn x)) 4);
  left = letter_of (from_draw (drawn (drawn (drawn x))) 4);
  right = letter_of (from_draw (drawn (drawn (drawn (drawn x)))) 4);
}

abbrev pub behind_line : ℕ → ℕ
behind_line x = drawn (drawn (drawn (drawn x)))

-- so many lines
abbrev pub lines_of : ℕ → ℕ → List Line
lines_of seed zero = []
lines_of seed (suc size) = line_at seed ∷ lines_of (behind_line seed) size
