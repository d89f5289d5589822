-- The last act on each object of a kind, and the last accesses to each element of a global.
use Rattle.std.specs.Prelude.{◌≡◌, ℕ, List, Vec, Option, Some, None, slice_get, slice_index}
use Rattle.std.specs.declared.alloc.Global.{Global}
use Rattle.thread_semantics.specs.Memory.{Location}
use Rattle.run_check.specs.declared.clocks.Stamp.{Stamp}
use Rattle.run_check.specs.declared.elements.Element.{Element}

abbrev pub or_none : Option Stamp → Stamp
or_none None = record { thread = 0; number = 0 }
or_none (Some step) = step

abbrev pub stamp_at : List Stamp → ℕ → Stamp
stamp_at steps n = or_none (slice_get steps n)

abbrev pub Elements : Type 0
Elements = List (Vec Element Global)

abbrev pub element_in : Option (Vec Element Global) → ℕ → Option Element
element_in None k = None
element_in (Some row) k = slice_get row.items k

abbrev pub element_at : Elements → Location → Option Element
element_at rows p = element_in (slice_get rows p.variable) p.index

abbrev pub write_of : Option Element → Stamp
write_of None = record { thread = 0; number = 0 }
write_of (Some e) = e.write

abbrev pub read_of : Option Element → ℕ → ℕ
read_of None k = 0
read_of (Some e) k = slice_index e.reads.items k

-- the last write of an element, and how many steps thread k had taken with its last read of it
abbrev pub write_at : Elements → Location → Stamp
write_at rows p = write_of (element_at rows p)

abbrev pub read_at : Elements → Location → ℕ → ℕ
read_at rows p k = read_of (element_at rows p) k

-- no step has made an access to an element of the row
pub record IsFirstRow (row : List Element) : Type 0 where
  pub write : (n : ℕ) → (write_of (slice_get row n)).number ≡ 0
  pub read : (n k : ℕ) → read_of (slice_get row n) k ≡ 0
