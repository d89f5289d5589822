-- How many bytes one call moves.
use Rattle.std.specs.Prelude.{ℕ, ◌<◌, ◌≤◌, List, length, Result, IfOk}

-- a write takes no more than the piece has, and at least one byte of a piece that isn't empty
abbrev pub TakesSome : {E : Type 0} → Result ℕ E → List ℕ → Type 0
TakesSome result piece = IfOk result (λ n. (n ≤ length piece) × (0 < length piece → 0 < n))
