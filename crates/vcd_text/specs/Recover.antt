-- What a value change dump says of a register after a number of cycles, for any text.
use Rattle.std.specs.Prelude.{◌≡◌, ℕ, zero, suc, List, [], ◌∷◌, ◌++◌, ◌+◌, ◌-◌, ◌^◌, ◌<◌, ◌≤◌, ◌==◌, ◌&&◌, ◌||◌, false, Option, Some, None, if◌then◌else◌, decimal, length, slice_index}
use Rattle.std.specs.List.{slice_split, All}
use Rattle.std.specs.Str.{bytes_eq}
use Rattle.std.specs.Str.Parse.{digits_value}
use Rattle.vcd_text.specs.Dump.{id_of, first_frame, frame, AreValues}

-- what stands before the first blank, and behind it
abbrev pub before_blank : List ℕ → List ℕ
before_blank [] = []
before_blank (b ∷ bytes) = if b == 32 then [] else b ∷ before_blank bytes

abbrev pub behind_blank : List ℕ → List ℕ
behind_blank [] = []
behind_blank (b ∷ bytes) = if b == 32 then bytes else behind_blank bytes

-- the value that a line gives the register of an identifier, where it is a change of it
abbrev pub told : List ℕ → List ℕ → Option ℕ
told id [] = None
told id (b ∷ rest) =
    if b == 98 then (if bytes_eq (behind_blank rest) id then Some (digits_value 2 (before_blank rest)) else None)
    else (if (b == 48 || b == 49) && bytes_eq rest id then Some (b - 48) else None)

-- a later value counts
abbrev pub later : Option ℕ → Option ℕ → Option ℕ
later before None = before
later before (Some v) = Some v

-- the value that the lines before one last give, where `last` is the one so far
abbrev pub recovered : List ℕ → List ℕ → Option ℕ → List (List ℕ) → Option ℕ
recovered stop id last [] = last
recovered stop id last (line ∷ lines) = if bytes_eq line stop then last else recovered stop id (later last (told id line)) lines

-- the line of a number of cycles, without its line feed
abbrev pub time_line : ℕ → List ℕ
time_line cycles = 35 ∷ decimal cycles

-- what a text says of register r after so many cycles: the last change of its identifier before the next cycle's line, or the end
abbrev pub recover : List ℕ → ℕ → ℕ → Option ℕ
recover text cycles r = recovered (time_line (cycles + 1)) (id_of r) None (slice_split (λ b. b == 10) text)

-- lines with their line feeds
abbrev pub unlines : List (List ℕ) → List ℕ
unlines [] = []
unlines (line ∷ lines) = line ++ 10 ∷ unlines lines

-- the first frame, and those after 1 to n cycles
abbrev pub frames : List ℕ → (ℕ → List ℕ) → ℕ → List ℕ
frames widths values zero = first_frame widths (values 0)
frames widths values (suc n) = frames widths values n ++ frame (suc n) widths (values n) (values (suc n))

-- a line of a head begins with `$`
pub record IsHeadLine (line : List ℕ) : Type 0 where
  pub rest : List ℕ
  pub is : line ≡ 36 ∷ rest
  pub one : All (λ b. (b == 10) ≡ false) rest

-- a dump of n cycles gives each register's value after each number of cycles
abbrev pub Recovers : Type 0
Recovers =
    (head : List (List ℕ)) (widths : List ℕ) (values : ℕ → List ℕ) (n k r : ℕ) →
    All IsHeadLine head → ((j : ℕ) → j ≤ n → AreValues widths (values j)) → All (λ w. w ≤ 64) widths → length widths < 2 ^ 64 → n < 2 ^ 32 →
    k ≤ n → r < length widths → recover (unlines head ++ frames widths values n) k r ≡ Some (slice_index (values k) r)
