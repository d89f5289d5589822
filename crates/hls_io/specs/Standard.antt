-- A reader or a writer of std with the count of its faults.
use Rattle.std.specs.Prelude.{ℕ}

pub record Counting (S : Type 0) : Type 0 where
  pub inner : S
  pub faults : ℕ
