-- Sources and sinks in memory, and the calls at which they fail.
use Rattle.std.specs.Prelude.{◌≡◌, ◌==◌, ℕ, ◌-◌, min, Bool, List, ◌++◌, length, take, drop, Result, MatchResult, IsOkAnd, true, false, ◌||◌}
use Rattle.std.specs.List.{list_any}
use Rattle.hls_io.specs.Causes.{counted}

-- a source in memory: the bytes left, the most that a call moves, the numbers of the calls that fail,
-- how many calls there were and how many of them failed
pub record SourceState : Type 0 where
  pub left : List ℕ
  pub chunk : ℕ
  pub fails : List ℕ
  pub calls : ℕ
  pub faults : ℕ

-- a sink in memory: the same, with the bytes held and the most that it can hold
pub record SinkState : Type 0 where
  pub held : List ℕ
  pub room : ℕ
  pub chunk : ℕ
  pub fails : List ℕ
  pub calls : ℕ
  pub faults : ℕ

-- a source that never fails
pub record SureState : Type 0 where
  pub left : List ℕ
  pub chunk : ℕ

-- the next call is one that fails, calls being counted from 1
abbrev pub fails_next : List ℕ → ℕ → Bool
fails_next fails calls = list_any (λ k. k == counted calls) fails

-- how many bytes go where so many are at hand and there is so much space
abbrev pub moved : ℕ → ℕ → ℕ → ℕ
moved available space chunk = min (min available space) chunk

-- one read: it fails exactly at the calls of the list, and else moves what the bytes left, the buffer's
-- space and the chunk allow
abbrev pub ReadsInMemory : {E : Type 0} → SourceState → SourceState → ℕ → Result ℕ E → Type 0
ReadsInMemory old new space result = MatchResult result
    (λ n. (fails_next old.fails old.calls ≡ false)
    × (n ≡ moved (length old.left) space old.chunk)
    × (new ≡ record old { left = drop n old.left; calls = counted old.calls }))
    (λ _. (fails_next old.fails old.calls ≡ true)
    × (new ≡ record old { calls = counted old.calls; faults = counted old.faults }))

-- the next write fails: it is one of the list, or the room is full
abbrev pub refuses : SinkState → Bool
refuses s = fails_next s.fails s.calls || (s.room == length s.held)

-- one write: it fails exactly at the calls of the list and where the room is full, and else takes what the
-- piece, the room and the chunk allow
abbrev pub WritesInMemory : {E : Type 0} → SinkState → SinkState → List ℕ → Result ℕ E → Type 0
WritesInMemory old new piece result = MatchResult result
    (λ n. (refuses old ≡ false)
    × (n ≡ moved (length piece) (old.room - length old.held) old.chunk)
    × (new ≡ record old { held = old.held ++ take n piece; calls = counted old.calls }))
    (λ _. (refuses old ≡ true)
    × (new ≡ record old { calls = counted old.calls; faults = counted old.faults }))

-- one read of a source that never fails
abbrev pub ReadsSurely : {E : Type 0} → SureState → SureState → ℕ → Result ℕ E → Type 0
ReadsSurely old new space result = IsOkAnd result
    (λ n. (n ≡ moved (length old.left) space old.chunk)
    × (new ≡ record old { left = drop n old.left }))
