-- Tables of rows whose operands name rows: the places that follow, and the signals.
use Rattle.std.specs.Prelude.{ℕ, ◌+◌, ◌*◌, ◌/◌, ◌<◌, ◌^◌, Bool, true, false, List, [], ◌∷◌, ◌++◌, take, replicate}
use Rattle.netlist.specs.declared.netlist.Value.TheVariants as value
use Rattle.netlist.specs.declared.netlist.Source.{Source}
use Rattle.netlist.specs.declared.netlist.Source.TheVariants as source
use Rattle.netlist.specs.declared.netlist.Signal.{Signal}
use Rattle.circuit.specs.declared.rows.Role.{Role}
use Rattle.circuit.specs.declared.table.Size.{Size}
use Rattle.circuit.specs.declared.table.Size.TheVariants.{Fixed, PerThread}
use Rattle.circuit.specs.declared.table.Operand.{Operand}
use Rattle.circuit.specs.declared.table.Operand.TheVariants.{Same, Only, Last, Before, Group}
use Rattle.circuit.specs.declared.table.Form.{Form}
use Rattle.circuit.specs.declared.table.Form.TheVariants as form
use Rattle.circuit.specs.declared.table.Row.{Row}
use Rattle.circuit.specs.declared.table.Row.TheVariants.{One, Each, Many, Chain, Chains}
use Rattle.circuit.specs.Rows.{spread, name_of}

abbrev pub is_output : Form → Bool
is_output (form.Output x) = true
is_output _ = false

-- for n threads
module _ (n : ℕ) where
  abbrev pub size_of : Size → ℕ
  size_of (Fixed count) = count
  size_of (PerThread count) = n * count

  -- the place after a row
  abbrev pub row_end : ℕ → Row → ℕ
  row_end at (One r w f) = at + 1
  row_end at (Each r w f) = at + n
  row_end at (Many size r w f) = at + size_of size
  row_end at (Chain r w first step) = at + 1 + n
  row_end at (Chains count r w first step) = at + count + n * count

  abbrev pub rows_end : ℕ → List Row → ℕ
  rows_end at [] = at
  rows_end at (r ∷ rows) = rows_end (row_end at r) rows

  -- the place of the first signal of row k
  abbrev pub place : List Row → ℕ → ℕ
  place rows k = rows_end 0 (take k rows)

  -- ---- signals, where rows start at these places

  module _ (starts : ℕ → ℕ) where
    abbrev pub operand_at : Operand → ℕ → ℕ
    operand_at (Same j) i = starts j + i
    operand_at (Only j) i = starts j
    operand_at (Last j) i = starts j + n
    operand_at (Before j) i = starts j + i
    operand_at (Group j count) i = starts j + i / count

    abbrev pub source_at : Form → ℕ → Source
    source_at form.Input i = source.Input
    source_at (form.Register initial) i = source.Register initial
    source_at (form.Constant number) i = source.Assigned (value.Constant number)
    source_at (form.Count first) i = source.Assigned (value.Constant (first + i))
    source_at (form.Copy x) i = source.Assigned (value.Copy (operand_at x i))
    source_at (form.Output x) i = source.Assigned (value.Copy (operand_at x i))
    source_at (form.Binary operator x y) i = source.Assigned (value.Binary operator (operand_at x i) (operand_at y i))
    source_at (form.Conditional c x y) i = source.Assigned (value.Conditional (operand_at c i) (operand_at x i) (operand_at y i))
    source_at (form.MemoryRead memory address) i = source.Assigned (value.MemoryRead memory (operand_at address i))
    source_at (form.Pair x y) i = source.Assigned (value.Concatenation (operand_at x i ∷ operand_at y i ∷ []))

    -- the signal of number i of a row, which stands at a place
    abbrev pub signal_at : ℕ → Role → ℕ → Form → ℕ → Signal
    signal_at at r width f i = record { name = name_of r at; width = width; is_output = is_output f; source = source_at f i }

    -- so many, from a place on
    abbrev pub signals_from : ℕ → ℕ → Role → ℕ → Form → List Signal
    signals_from at count r w f = spread (λ i. signal_at (at + i) r w f i) 0 count

    abbrev pub row_signals : ℕ → Row → List Signal
    row_signals at (One r w f) = signal_at at r w f 0 ∷ []
    row_signals at (Each r w f) = signals_from at n r w f
    row_signals at (Many size r w f) = signals_from at (size_of size) r w f
    row_signals at (Chain r w first step) = signal_at at r w first 0 ∷ signals_from (at + 1) n r w step
    row_signals at (Chains count r w first step) = signals_from at count r w first ++ signals_from (at + count) (n * count) r w step

    abbrev pub laid_from : ℕ → List Row → List Signal
    laid_from at [] = []
    laid_from at (r ∷ rows) = row_signals at r ++ laid_from (row_end at r) rows

  abbrev pub laid : List Row → List Signal
  laid rows = laid_from (place rows) 0 rows

  -- ---- ports

  -- the widths of the signals of some rows
  abbrev pub widths : List Row → List ℕ
  widths [] = []
  widths (One r w f ∷ rows) = w ∷ widths rows
  widths (Each r w f ∷ []) = replicate n w
  widths (Each r w f ∷ r' ∷ rows) = replicate n w ++ widths (r' ∷ rows)
  widths (Many size r w f ∷ rows) = replicate (size_of size) w ++ widths rows
  widths (Chain r w first step ∷ rows) = w ∷ replicate n w ++ widths rows
  widths (Chains count r w first step ∷ rows) = replicate (count + n * count) w ++ widths rows

-- ---- numbers that leave room for a row's numbers

abbrev pub IsSmallForm : Form → Type 0
IsSmallForm (form.Count first) = first < 2 ^ 32
IsSmallForm _ = Unit {0}

abbrev pub IsSmallRow : Row → Type 0
IsSmallRow (One r w f) = IsSmallForm f
IsSmallRow (Each r w f) = IsSmallForm f
IsSmallRow (Many size r w f) = IsSmallForm f
IsSmallRow (Chain r w first step) = IsSmallForm first × IsSmallForm step
IsSmallRow (Chains count r w first step) = IsSmallForm first × IsSmallForm step
