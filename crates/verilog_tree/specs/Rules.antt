-- The rules of expressions, statements, initial constants and connections (IEEE 1364-2005, sections 4 to 6, 9 and 12).
use Rattle.std.specs.Prelude.{ℕ, ◌+◌, ◌-◌, ◌*◌, ◌^◌, Bool, true, false, not, ◌==◌, ◌&&◌, ◌||◌, nat_lt, nat_le, if◌then◌else◌, List, [], ◌∷◌, Option, Some, None, option_map, is_some, length}
use Rattle.std.specs.Str.{bytes_eq}
use Rattle.verilog_tree.specs.declared.kind.Kind.{Kind}
use Rattle.verilog_tree.specs.declared.tree.Constant.{Constant}
use Rattle.verilog_tree.specs.declared.tree.BinaryOperator.{BinaryOperator}
use Rattle.verilog_tree.specs.declared.tree.BinaryOperator.TheVariants as op
use Rattle.verilog_tree.specs.declared.tree.Expression.{Expression}
use Rattle.verilog_tree.specs.declared.tree.Expression.TheVariants as expr
use Rattle.verilog_tree.specs.declared.tree.Direction.{Direction}
use Rattle.verilog_tree.specs.declared.tree.Direction.TheVariants as dir
use Rattle.verilog_tree.specs.declared.tree.Port.{Port}
use Rattle.verilog_tree.specs.declared.tree.InitialConstant.{InitialConstant}
use Rattle.verilog_tree.specs.declared.tree.WriteArgument.{WriteArgument}
use Rattle.verilog_tree.specs.declared.tree.WriteArgument.TheVariants as a
use Rattle.verilog_tree.specs.declared.tree.Statement.{Statement}
use Rattle.verilog_tree.specs.declared.tree.Statement.TheOpen.{Statement-F}
use Rattle.verilog_tree.specs.declared.tree.Statement.TheFolds.{fold-Statement}
use Rattle.verilog_tree.specs.declared.tree.Connection.{Connection}
use Rattle.verilog_tree.specs.Scope.{Name, Names, is_known, is_clk, Scope, kind_of, width_of, read_width, ranged_width, driven_width, register_width, memory_width, words_of, is_clock}

abbrev pub all_true : List Bool → Bool
all_true [] = true
all_true (b ∷ bs) = b && all_true bs

abbrev pub all_right : {A : Type 0} → (A → Bool) → List A → Bool
all_right p [] = true
all_right p (x ∷ xs) = p x && all_right p xs

-- a constant of this width, below 2 to the width
abbrev pub is_constant : Constant → ℕ → Bool
is_constant c w = c.width == w && nat_lt c.value (2 ^ w)

abbrev pub is_zero : Constant → ℕ → Bool
is_zero c w = c.width == w && c.value == 0

abbrev pub is_comparison : BinaryOperator → Bool
is_comparison op.Equal = true
is_comparison op.Less = true
is_comparison _ = false

abbrev pub is_shift : BinaryOperator → Bool
is_shift op.ShiftLeft = true
is_shift op.ShiftRight = true
is_shift _ = false

-- ---- the string of a write

-- where a string stands: between characters and values, behind `%`, behind `%0`, behind `\`, right behind a value, or at what it may not have
pub data Formatting : Type 0 where
  Between : Formatting
  Percent : Formatting
  Zero : Formatting
  Backslash : Formatting
  Value : Formatting
  Wrong : Formatting

abbrev pub next_plain : ℕ → Formatting
next_plain b = if b == 37 then Percent else (if b == 92 then Backslash else Between)

abbrev pub is_escape : ℕ → Bool
is_escape b = b == 110 || (b == 116 || (b == 92 || b == 34))

abbrev pub next : Formatting → ℕ → Formatting
next Between b = next_plain b
next Value b = next_plain b
next Percent b = if b == 37 then Between else (if b == 48 then Zero else Wrong)
next Zero b = if b == 100 then Value else Wrong
next Backslash b = if is_escape b then Between else Wrong
next Wrong b = Wrong

abbrev pub count_at : Formatting → ℕ
count_at Value = 1
count_at _ = 0

-- the number of `%0d`, where `%%`, `\n`, `\t`, `\\` and `\"` are the other escapes
abbrev pub values_in : Formatting → List ℕ → Option ℕ
values_in Between [] = Some 0
values_in Value [] = Some 0
values_in _ [] = None
values_in at (b ∷ z) = option_map (λ n. count_at (next at b) + n) (values_in (next at b) z)

abbrev pub has_values : Option ℕ → ℕ → Bool
has_values None n = false
has_values (Some k) n = k == n

-- ---- ports

abbrev pub port_named : List Port → Name → Option Port
port_named [] name = None
port_named (p ∷ ps) name = if bytes_eq name p.name then Some p else port_named ps name

abbrev pub has_port : List Port → Name → Bool
has_port ports name = is_some (port_named ports name)

abbrev pub connected_ports : List Connection → Names
connected_ports [] = []
connected_ports (c ∷ cs) = c.port ∷ connected_ports cs

abbrev pub are_distinct : Names → Bool
are_distinct [] = true
are_distinct (x ∷ xs) = not (is_known xs x) && are_distinct xs

-- ---- by the declarations of the module

module _ (scope : Scope) where
  abbrev pub width : Name → ℕ
  width x = read_width (kind_of scope x)

  abbrev pub is_signal : Name → Bool
  is_signal x = nat_lt 0 (width x)

  abbrev pub has_width : Name → ℕ → Bool
  has_width x w = is_signal x && width x == w

  abbrev pub have_one_width : Name → Name → Bool
  have_one_width x y = has_width x (width y)

  -- ---- expressions, at a target of this width

  abbrev pub binary_right : BinaryOperator → Name → Name → ℕ → Bool
  binary_right operator x y w =
      if is_comparison operator then (w == 1 && have_one_width x y)
      else (if is_shift operator then (has_width x w && is_signal y) else (has_width x w && has_width y w))

  abbrev pub division_right : Name → Constant → Constant → Name → Name → ℕ → Bool
  division_right tested nought guarded x y w = bytes_eq tested y && (is_zero nought w && (is_zero guarded w && (has_width x w && has_width y w)))

  abbrev pub memory_read_right : Name → Constant → Name → Name → Constant → ℕ → Bool
  memory_read_right tested bound memory address guarded w =
      bytes_eq tested address && (is_signal address && (is_constant bound (width address) && (bound.value == words_of (kind_of scope memory)
      && (memory_width (kind_of scope memory) == w && is_zero guarded w))))

  abbrev pub part_select_right : Name → ℕ → ℕ → ℕ → Bool
  part_select_right x high low w = nat_le low high && (nat_lt high (ranged_width (kind_of scope x)) && w == high - low + 1)

  abbrev pub joint_width : Names → ℕ
  joint_width [] = 0
  joint_width (x ∷ xs) = width x + joint_width xs

  abbrev pub expression_right : Expression → ℕ → Bool
  expression_right (expr.Copy x) w = has_width x w
  expression_right (expr.Constant c) w = is_constant c w
  expression_right (expr.BitwiseNot x) w = has_width x w
  expression_right (expr.Binary operator x y) w = binary_right operator x y w
  expression_right (expr.SignedLess x y) w = w == 1 && have_one_width x y
  expression_right (expr.ArithmeticShiftRight x y) w = has_width x w && is_signal y
  expression_right (expr.Conditional condition x y) w = has_width condition 1 && (has_width x w && has_width y w)
  expression_right (expr.Division tested nought guarded operator x y) w = division_right tested nought guarded x y w
  expression_right (expr.SignedDivision tested nought guarded operator x y) w = division_right tested nought guarded x y w
  expression_right (expr.MemoryRead tested bound memory address guarded) w = memory_read_right tested bound memory address guarded w
  expression_right (expr.BitSelect x bit) w = w == 1 && nat_lt bit (ranged_width (kind_of scope x))
  expression_right (expr.PartSelect x high low) w = part_select_right x high low w
  expression_right (expr.Concatenation xs) w = all_right is_signal xs && joint_width xs == w
  expression_right (expr.Replication count x) w = is_signal x && count * width x == w

  abbrev pub assign_right : Name → Expression → Bool
  assign_right target value = let w = driven_width (kind_of scope target) in nat_lt 0 w && expression_right value w

  -- ---- statements

  abbrev pub argument_right : WriteArgument → Bool
  argument_right (a.Unsigned x) = is_signal x
  argument_right (a.Signed x) = is_signal x

  abbrev pub statement_step : Statement-F Bool → Bool
  statement_step (Statement-F.Set register source) = has_width source (register_width (kind_of scope register))
  statement_step (Statement-F.Store memory address source) = is_signal address && has_width source (memory_width (kind_of scope memory))
  statement_step (Statement-F.If condition body) = has_width condition 1 && all_true body
  statement_step (Statement-F.Write text arguments) = has_values (values_in Between text) (length arguments) && all_right argument_right arguments

  abbrev pub statement_right : Statement → Bool
  statement_right = fold-Statement Bool statement_step

  -- ---- initial constants

  abbrev pub place_right : Option Kind → Option ℕ → Constant → Bool
  place_right kind None value = nat_lt 0 (register_width kind) && is_constant value (register_width kind)
  place_right kind (Some word) value = nat_lt 0 (memory_width kind) && (nat_lt word (words_of kind) && is_constant value (memory_width kind))

  abbrev pub initial_constant_right : InitialConstant → Bool
  initial_constant_right x = place_right (kind_of scope x.name) x.word x.value

  -- ---- instances

  abbrev pub signal_right : Direction → Name → ℕ → Bool
  signal_right dir.Input x w = has_width x w
  signal_right dir.Output x w = nat_lt 0 w && driven_width (kind_of scope x) == w

  -- `clk` stands at the port clk alone
  abbrev pub connects : Port → Name → Bool
  connects p x = if is_clk p.name then (is_clk x && is_clock (kind_of scope x)) else signal_right p.direction x (width_of p.high)

  abbrev pub takes : Option Port → Name → Bool
  takes None x = false
  takes (Some p) x = connects p x

  -- each connection is to a port, and each port is connected once
  abbrev pub connections_right : List Port → List Connection → Bool
  connections_right ports connections =
      all_right (λ c. takes (port_named ports c.port) c.signal) connections
      && (are_distinct (connected_ports connections) && all_right (λ p. is_known (connected_ports connections) p.name) ports)
