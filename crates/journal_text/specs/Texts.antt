-- The journal that a text begins with.
use Rattle.std.specs.Prelude.{◌≡◌, ℕ, ◌≤◌, false, List, [], ◌∷◌, ◌++◌, length, drop, Option, Some, None}
use Rattle.journal_text.specs.declared.entry.Entry.{Entry}
use Rattle.journal_text.specs.declared.text.Reading.{Reading}
use Rattle.journal_text.specs.Lines.{begins, Led, AreSpelled, IsMisspelt}

-- what lines read as: the entries that they spell, or those before the first line that spells none, and its number
abbrev pub AreRead : List (List ℕ) → List Entry → Option ℕ → Type 0
AreRead lines entries None = AreSpelled lines entries
AreRead lines entries (Some number) = IsMisspelt lines entries number

-- what lines read as so far
pub record IsReading (lines : List (List ℕ)) (r : Reading) : Type 0 where
  pub count : r.lines ≡ length lines
  pub read : AreRead lines r.entries.items r.bad

-- a line more is read
abbrev pub ReadsOn : Reading → List ℕ → Reading → Type 0
ReadsOn old line new = (lines : List (List ℕ)) → IsReading lines old → IsReading (lines ++ line ∷ []) new

-- the leading lines that begin with `//@`, up to a place, and the entries that they spell
pub record IsParted (text : List ℕ) (entries : List Entry) (bad : Option ℕ) (rest : ℕ) : Type 0 where
  pub lines : List (List ℕ)
  pub led : Led text rest lines
  pub within : rest ≤ length text
  pub ends : begins (drop rest text) ≡ false
  pub read : AreRead lines entries bad
