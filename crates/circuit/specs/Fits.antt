-- When the rows of a table are in order: each reads what stands before it, of a right width, inputs stand first and registers behind
-- them, output ports last. It is a test of the rows alone: neither the number of threads nor a place is in it.
use Rattle.std.specs.Prelude.{ℕ, suc, ◌+◌, ◌*◌, ◌^◌, Bool, true, false, not, ◌&&◌, ◌||◌, nat_eq, nat_lt, nat_le, if◌then◌else◌, List, [], ◌∷◌, Option, Some, None, slice_get, take, drop}
use Rattle.verilog_tree.specs.declared.tree.BinaryOperator.{BinaryOperator}
use Rattle.verilog_tree.specs.declared.tree.BinaryOperator.TheVariants.{Equal, Less, ShiftLeft, ShiftRight}
use Rattle.circuit.specs.declared.rows.Role.{Role}
use Rattle.circuit.specs.declared.rows.Role.TheVariants as role
use Rattle.circuit.specs.declared.table.Size.{Size}
use Rattle.circuit.specs.declared.table.Size.TheVariants.{Fixed, PerThread}
use Rattle.circuit.specs.declared.table.Operand.{Operand}
use Rattle.circuit.specs.declared.table.Operand.TheVariants.{Same, Only, Last, Before, Group}
use Rattle.circuit.specs.declared.table.Form.{Form}
use Rattle.circuit.specs.declared.table.Form.TheVariants.{Input, Register, Constant, Count, Copy, Output, Binary, Conditional, MemoryRead, Pair}
use Rattle.circuit.specs.declared.table.Row.{Row}
use Rattle.circuit.specs.declared.table.Row.TheVariants.{One, Each, Many, Chain, Chains}
use Rattle.circuit.specs.Rows.{is_clock}
use Rattle.circuit.specs.Modules.{is_between}
use Rattle.circuit.specs.Table.{is_output, place, widths}

-- ---- the parts of a table, by the numbers of their first rows

abbrev pub first_where : (Row → Bool) → List Row → ℕ
first_where p [] = 0
first_where p (r ∷ rows) = if p r then 0 else suc (first_where p rows)

abbrev pub is_input : Form → Bool
is_input Input = true
is_input _ = false

abbrev pub is_register : Form → Bool
is_register (Register n) = true
is_register _ = false

-- of a row that is no chain
abbrev pub form_is : (Form → Bool) → Row → Bool
form_is p (One r w f) = p f
form_is p (Each r w f) = p f
form_is p (Many size r w f) = p f
form_is p _ = false

abbrev pub is_grant : Role → Bool
is_grant role.Grant = true
is_grant _ = false

abbrev pub is_granting : Row → Bool
is_granting (Each r w Input) = is_grant r
is_granting _ = false

abbrev pub is_chain : Row → Bool
is_chain (Chain r w first step) = true
is_chain (Chains count r w first step) = true
is_chain _ = false

module _ (rows : List Row) where
  -- the inputs stand before this row, then the registers before that one; and from this one on the outputs
  abbrev pub inputs : ℕ
  inputs = first_where (λ r. not (form_is is_input r)) rows

  abbrev pub registers : ℕ
  registers = first_where (λ r. not (form_is is_input r || form_is is_register r)) rows

  abbrev pub outputs : ℕ
  outputs = first_where (form_is is_output) rows

  abbrev pub grants : ℕ
  grants = first_where is_granting rows

  -- the first chain, which is the first to read the grants
  abbrev pub chains : ℕ
  chains = first_where is_chain rows

  -- a row is late that is that of the grants, or stands between the first chain and the outputs
  abbrev pub is_late_row : ℕ → Bool
  is_late_row k = is_between grants (suc grants) k || is_between chains outputs k

  -- and so is each of its signals
  abbrev pub is_late : ℕ → ℕ → Bool
  is_late n x = is_between (place n rows grants) (place n rows (suc grants)) x || is_between (place n rows chains) (place n rows outputs) x

  -- the widths of the input ports, and of the output ports
  abbrev pub input_widths : ℕ → List ℕ
  input_widths n = widths n (take inputs rows)

  abbrev pub output_widths : ℕ → List ℕ
  output_widths n = widths n (drop outputs rows)

-- ---- widths

-- a memory's width, and that of its addresses
pub record Words : Type 0 where
  pub width : ℕ
  pub address : ℕ

-- whether two rows have as many signals, by their sizes; none is that of one for each thread
abbrev pub same : Option Size → Option Size → Bool
same None None = true
same (Some (Fixed a)) (Some (Fixed b)) = nat_eq a b
same (Some (PerThread a)) (Some (PerThread b)) = nat_eq a b
same _ _ = false

-- the most signals of a size, for 64 threads
abbrev pub most : Option Size → ℕ
most None = 64
most (Some (Fixed count)) = count
most (Some (PerThread count)) = 64 * count

abbrev pub only_width : Option Row → ℕ
only_width (Some (One r w f)) = w
only_width _ = 0

-- the width of a row of this size, and 0 of another
abbrev pub each_width : Option Size → Option Row → ℕ
each_width k (Some (Each r w f)) = if same k None then w else 0
each_width k (Some (Many size r w f)) = if same k (Some size) then w else 0
each_width k _ = 0

-- of chains with as many steps
abbrev pub chain_width : Option Size → Option Row → ℕ
chain_width k (Some (Chain r w first step)) = if same k None then w else 0
chain_width k (Some (Chains count r w first step)) = if same k (Some (PerThread count)) then w else 0
chain_width k _ = 0

abbrev pub agree : Bool → Bool → Bool
agree a b = if a then b else not b

-- which row reads: its number, before which row its own chain may stand, and its size
pub record Reader : Type 0 where
  pub number : ℕ
  pub until : ℕ
  pub size : Option Size

abbrev pub binary_fits : BinaryOperator → ℕ → ℕ → ℕ → Bool
binary_fits Equal w u v = nat_eq w 1 && (nat_lt 0 u && nat_eq u v)
binary_fits Less w u v = nat_eq w 1 && (nat_lt 0 u && nat_eq u v)
binary_fits ShiftLeft w u v = false
binary_fits ShiftRight w u v = false
binary_fits _ w u v = nat_eq u w && nat_eq v w

abbrev pub memory_fits : Option Words → ℕ → ℕ → Bool
memory_fits None w v = false
memory_fits (Some c) w v = nat_eq c.width w && (nat_lt 0 v && nat_eq c.address v)

abbrev pub is_wide : ℕ → Bool
is_wide w = nat_lt 0 w && nat_le w 64

-- rows that are late by this test, and memories
module _ (late : ℕ → Bool) (memories : List Words) (rows : List Row) where
  -- the clock is not read, and only late rows read late ones
  abbrev pub may_read : ℕ → ℕ → ℕ → Bool
  may_read k until j = nat_lt 0 j && (nat_lt j until && (late k || not (late j)))

  -- the width of what is read, and 0 where it is not in order
  abbrev pub width_of : Reader → Operand → ℕ
  width_of k (Same j) = if may_read k.number k.number j then each_width k.size (slice_get rows j) else 0
  width_of k (Only j) = if may_read k.number k.number j then only_width (slice_get rows j) else 0
  width_of k (Last j) = if may_read k.number k.number j then chain_width None (slice_get rows j) else 0
  width_of k (Before j) = if may_read k.number k.until j then chain_width k.size (slice_get rows j) else 0
  width_of k (Group j count) = if same k.size (Some (PerThread count)) && may_read k.number k.number j then each_width None (slice_get rows j) else 0

  abbrev pub form_fits : Reader → ℕ → Form → Bool
  form_fits k w Input = true
  form_fits k w (Register c) = nat_lt c (2 ^ w)
  form_fits k w (Constant c) = nat_lt c (2 ^ w)
  form_fits k w (Count first) = nat_le (first + most k.size) (2 ^ w)
  form_fits k w (Copy x) = nat_eq (width_of k x) w
  form_fits k w (Output x) = nat_eq (width_of k x) w
  form_fits k w (Binary operator x y) = binary_fits operator w (width_of k x) (width_of k y)
  form_fits k w (Conditional c x y) = nat_eq (width_of k c) 1 && (nat_eq (width_of k x) w && nat_eq (width_of k y) w)
  form_fits k w (MemoryRead j x) = memory_fits (slice_get memories j) w (width_of k x)
  form_fits k w (Pair x y) = nat_lt 0 (width_of k x) && (nat_lt 0 (width_of k y) && nat_eq w (width_of k x + width_of k y))

  -- of row k: inputs first, then registers, and outputs last
  abbrev pub stands : ℕ → Form → Bool
  stands k f =
      agree (is_input f) (nat_lt k (inputs rows)) && (agree (is_register f) (is_between (inputs rows) (registers rows) k) && agree (is_output f) (not (nat_lt k (outputs rows))))

  abbrev pub many_fit : ℕ → Option Size → Role → ℕ → Form → Bool
  many_fit k size r w f =
      is_wide w && (not (is_clock r) && (nat_lt 0 k && (stands k f && form_fits (record { number = k; until = k; size = size }) w f)))

  -- so many chains side by side
  abbrev pub chains_fit : ℕ → ℕ → Option Size → Role → ℕ → Form → Form → Bool
  chains_fit k chains size r w first step =
      is_wide w && (not (is_clock r) && (nat_lt 0 k && (stands k first && (stands k step
      && (form_fits (record { number = k; until = k; size = Some (Fixed chains) }) w first && form_fits (record { number = k; until = suc k; size = size }) w step)))))

  abbrev pub row_fits : ℕ → Row → Bool
  row_fits k (One r w f) =
      is_wide w && (agree (is_clock r) (nat_eq k 0) && (stands k f && form_fits (record { number = k; until = k; size = Some (Fixed 1) }) w f))
  row_fits k (Each r w f) = many_fit k None r w f
  row_fits k (Many size r w f) = many_fit k (Some size) r w f
  row_fits k (Chain r w first step) = chains_fit k 1 None r w first step
  row_fits k (Chains count r w first step) = chains_fit k count (Some (PerThread count)) r w first step

  abbrev pub rows_fit : ℕ → List Row → Bool
  rows_fit k [] = true
  rows_fit k (r ∷ rest) = row_fits k r && rows_fit (suc k) rest

  -- the first row is the clock, one bit
  abbrev pub fits : Bool
  fits = rows_fit 0 rows && (nat_eq (only_width (slice_get rows 0)) 1
      && (nat_lt 0 (inputs rows) && (nat_le (inputs rows) (registers rows) && nat_le (registers rows) (outputs rows))))
