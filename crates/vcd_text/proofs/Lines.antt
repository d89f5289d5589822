-- A dump, read line by line.
use Rattle.std.proofs.Common.{◌≡◌, ◌++◌, ◌∷◌, ℕ, List, ap, ◌∙◌, Bool, false, refl}
use Rattle.std.specs.Prelude.{if◌then◌else◌, ◌==◌, Option}
use Rattle.std.specs.List.{slice_split, All}
use Rattle.std.specs.Str.{bytes_eq}
use Rattle.std.proofs.lemmas.List.Splits.{slice_split_at}
use Rattle.vcd_text.specs.Recover.{told, later, recovered}

abbrev pub read : List ℕ → List ℕ → Option ℕ → List ℕ → Option ℕ
read stop id last text = recovered stop id last (slice_split (λ b. b == 10) text)

-- a line, and what is behind it
pub line_read :
    (stop id line rest : List ℕ) (last : Option ℕ) → All (λ b. (b == 10) ≡ false) line →
    read stop id last (line ++ 10 ∷ rest) ≡ (if bytes_eq line stop then last else read stop id (later last (told id line)) rest)
line_read stop id line rest last one =
    ap (λ (lines : List (List ℕ)). recovered stop id last lines) (slice_split_at (λ b. b == 10) line 10 rest one refl)

-- a line that is not the one at which reading ends
pub goes_past :
    (stop id line rest : List ℕ) (last : Option ℕ) → All (λ b. (b == 10) ≡ false) line → bytes_eq line stop ≡ false →
    read stop id last (line ++ 10 ∷ rest) ≡ read stop id (later last (told id line)) rest
goes_past stop id line rest last one other =
    line_read stop id line rest last one
    ∙ ap (λ (b : Bool). if b then last else read stop id (later last (told id line)) rest) other
