-- The lines of a journal.
use Rattle.std.specs.Prelude.{◌≡◌, ◌≢◌, ℕ, suc, ◌+◌, ◌^◌, ◌<◌, Bool, true, false, ◌&&◌, nat_eq, List, [], ◌∷◌, ◌++◌, length, take, drop, slice_index, Option, Some, None, codes, decimal, if◌then◌else◌}
use Rattle.journal_text.specs.declared.entry.Entry.{Entry}
use Rattle.journal_text.specs.Numbers.{IsNumber}

-- ---- one line

abbrev pub mark : Bool → ℕ
mark true = 115
mark false = 45

-- the thread, a space, the closed cycles, a space, `s` where an open cycle follows or `-`
abbrev pub fields : Entry → List ℕ
fields e = decimal e.thread ++ (32 ∷ (decimal e.closed ++ (32 ∷ (mark e.opened ∷ []))))

-- `//@ `, the fields, and a line feed
abbrev pub line_of : Entry → List ℕ
line_of e = codes "//@ " ++ (fields e ++ (10 ∷ []))

-- the numbers of an entry have 10 digits at most
pub record IsShort (e : Entry) : Type 0 where
  pub thread : e.thread < 10 ^ 10
  pub closed : e.closed < 10 ^ 10

-- a line spells an entry
pub record Spells (line : List ℕ) (e : Entry) : Type 0 where
  pub is : line ≡ line_of e
  pub short : IsShort e

-- and what stands between `//@ ` and the line feed its fields
pub record AreFields (text : List ℕ) (e : Entry) : Type 0 where
  pub is : text ≡ fields e
  pub short : IsShort e

-- the thread, the closed cycles and the mark of an entry
pub record ArePieces (thread closed last : List ℕ) (e : Entry) : Type 0 where
  pub thread_is : IsNumber thread e.thread
  pub closed_is : IsNumber closed e.closed
  pub last_is : last ≡ mark e.opened ∷ []

-- ---- all lines

-- what stands before the first byte of a kind, and what stands behind it
abbrev pub upto : ℕ → List ℕ → List ℕ
upto b [] = []
upto b (c ∷ cs) = if nat_eq c b then [] else c ∷ upto b cs

abbrev pub past : ℕ → List ℕ → Option (List ℕ)
past b [] = None
past b (c ∷ cs) = if nat_eq c b then Some cs else past b cs

-- none of the bytes is this one
abbrev pub IsFree : ℕ → List ℕ → Type 0
IsFree b [] = Unit {0}
IsFree b (c ∷ cs) = (c ≢ b) × IsFree b cs

-- what stands between `//@ ` and the line feed of a line
pub record IsInside (line text : List ℕ) : Type 0 where
  pub is : line ≡ codes "//@ " ++ (text ++ (10 ∷ []))
  pub free : IsFree 10 text

-- a text begins with `//@`
abbrev pub begins : List ℕ → Bool
begins text = nat_eq (slice_index text 0) 47 && (nat_eq (slice_index text 1) 47 && nat_eq (slice_index text 2) 64)

-- how long the first line is, with its line feed
abbrev pub line_long : List ℕ → ℕ
line_long [] = 0
line_long (c ∷ cs) = if nat_eq c 10 then 1 else suc (line_long cs)

-- so many bytes of a text are lines that begin with `//@`
pub data Led (text : List ℕ) : ℕ → List (List ℕ) → Type 0 where
  start : Led text 0 []
  more : {n : ℕ} {lines : List (List ℕ)} → Led text n lines → begins (drop n text) ≡ true
      → Led text (n + line_long (drop n text)) (lines ++ take (line_long (drop n text)) (drop n text) ∷ [])

-- each line spells an entry
abbrev pub AreSpelled : List (List ℕ) → List Entry → Type 0
AreSpelled [] [] = Unit {0}
AreSpelled (l ∷ lines) (e ∷ entries) = Spells l e × AreSpelled lines entries
AreSpelled _ _ = ⊥

-- the first lines spell these entries, and the next one none
pub record IsMisspelt (lines : List (List ℕ)) (entries : List Entry) (number : ℕ) : Type 0 where
  pub before : List (List ℕ)
  pub spelled : AreSpelled before entries
  pub bad : List ℕ
  pub behind : List (List ℕ)
  pub are : lines ≡ before ++ bad ∷ behind
  pub here : number ≡ length before
  pub lacks : (e : Entry) → Spells bad e → ⊥

-- the text of a journal
abbrev pub all_lines : List Entry → List ℕ
all_lines [] = []
all_lines (e ∷ entries) = line_of e ++ all_lines entries
