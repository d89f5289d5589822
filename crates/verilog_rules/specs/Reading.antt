-- How the tokens of a text are read from the left: for each phrase its reader. The number counts the levels of nesting that are left.
use Rattle.std.specs.Prelude.{ℕ, zero, suc, Bool, ◌||◌, List, [], ◌∷◌, length, Option, Some, None}
use Rattle.verilog_tree.specs.declared.token.Word.TheVariants as w
use Rattle.verilog_tree.specs.declared.token.Mark.TheVariants as m
use Rattle.verilog_tree.specs.declared.token.Token.{Token}
use Rattle.verilog_tree.specs.declared.tree.BinaryOperator.{BinaryOperator}
use Rattle.verilog_tree.specs.declared.tree.DivisionOperator.{DivisionOperator}
use Rattle.verilog_tree.specs.declared.tree.Direction.{Direction}
use Rattle.verilog_tree.specs.declared.tree.Constant.{Constant}
use Rattle.verilog_tree.specs.declared.tree.Expression.{Expression}
use Rattle.verilog_tree.specs.declared.tree.Expression.TheVariants as expr
use Rattle.verilog_tree.specs.declared.tree.Port.{Port}
use Rattle.verilog_tree.specs.declared.tree.InitialConstant.{InitialConstant}
use Rattle.verilog_tree.specs.declared.tree.WriteArgument.{WriteArgument}
use Rattle.verilog_tree.specs.declared.tree.WriteArgument.TheVariants as a
use Rattle.verilog_tree.specs.declared.tree.Statement.{Statement}
use Rattle.verilog_tree.specs.declared.tree.Statement.TheVariants as st
use Rattle.verilog_tree.specs.declared.tree.Connection.{Connection}
use Rattle.verilog_tree.specs.declared.tree.Item.{Item}
use Rattle.verilog_tree.specs.declared.tree.Item.TheVariants as i
use Rattle.verilog_tree.specs.declared.tree.Module.{Module}
use Rattle.verilog_tree.specs.declared.tree.Net.{Net}
use Rattle.grammar.specs.Readers.{Reader, reads_pure, reads_one, reads_while, reads_many, reads_either, reads_optional, too_deep, sees, appended, ◌>>=◌, ◌>>◌}
use Rattle.verilog_rules.specs.declared.sign.Sign.{Sign}
use Rattle.verilog_rules.specs.declared.sign.Sign.TheVariants.{Word, Mark, Zero, Clock}
use Rattle.verilog_rules.specs.Signs.{is, sign_at, name_at, is_name, number_at, is_number, quoted_at, operator_at, is_operator, division_at, direction_at}

abbrev pub Reads : Type 0 → Type 0
Reads A = Reader Token A

-- ---- single tokens

unfoldable pub expect : Sign → Reads (Unit {0})
expect q = reads_one (sign_at q)

unfoldable pub read_name : Reads (List ℕ)
read_name = reads_one name_at

unfoldable pub read_number : Reads ℕ
read_number = reads_one number_at

unfoldable pub read_quoted : Reads (List ℕ)
read_quoted = reads_one quoted_at

unfoldable pub read_operator : Reads BinaryOperator
read_operator = reads_one operator_at

unfoldable pub read_division : Reads DivisionOperator
read_division = reads_one division_at

unfoldable pub read_direction : Reads Direction
read_direction = reads_one direction_at

-- ---- lists

-- a comma and one more
unfoldable pub read_next : {A : Type 0} → Reads A → Reads A
read_next item = do
  expect (Mark m.Comma)
  item

-- those with commas between them, behind the first
unfoldable pub read_more : {A : Type 0} → Reads A → A → Reads (List A)
read_more item first ts = reads_while (sees (is (Mark m.Comma))) appended (read_next item) (length ts) (first ∷ []) ts

unfoldable pub read_listed : {A : Type 0} → Reads A → Reads (List A)
read_listed item = do
  first ← item
  read_more item first

-- ---- ranges and constants

unfoldable pub read_range : Reads ℕ
read_range = do
  expect (Mark m.OpenSquare)
  high ← read_number
  expect (Mark m.Colon)
  expect Zero
  expect (Mark m.CloseSquare)
  reads_pure high

unfoldable pub read_optional_range : Reads (Option ℕ)
read_optional_range = reads_optional (is (Mark m.OpenSquare)) read_range

unfoldable pub read_constant : Reads Constant
read_constant = do
  width ← read_number
  expect (Mark m.Decimal)
  value ← read_number
  reads_pure (record { width = width; value = value })

unfoldable pub read_signed : Reads (List ℕ)
read_signed = do
  expect (Mark m.Signed)
  expect (Mark m.OpenRound)
  x ← read_name
  expect (Mark m.CloseRound)
  reads_pure x

-- ---- expressions

unfoldable pub read_constant_expression : Reads Expression
read_constant_expression = do
  c ← read_constant
  reads_pure (expr.Constant c)

unfoldable pub read_bitwise_not : Reads Expression
read_bitwise_not = do
  expect (Mark m.Tilde)
  x ← read_name
  reads_pure (expr.BitwiseNot x)

unfoldable pub read_binary : List ℕ → Reads Expression
read_binary x = do
  operator ← read_operator
  y ← read_name
  reads_pure (expr.Binary operator x y)

unfoldable pub read_conditional : List ℕ → Reads Expression
read_conditional x = do
  expect (Mark m.Question)
  y ← read_name
  expect (Mark m.Colon)
  z ← read_name
  reads_pure (expr.Conditional x y z)

unfoldable pub read_bit_end : List ℕ → ℕ → Reads Expression
read_bit_end x bit = do
  expect (Mark m.CloseSquare)
  reads_pure (expr.BitSelect x bit)

unfoldable pub read_part_end : List ℕ → ℕ → Reads Expression
read_part_end x high = do
  expect (Mark m.Colon)
  low ← read_number
  expect (Mark m.CloseSquare)
  reads_pure (expr.PartSelect x high low)

unfoldable pub read_select : List ℕ → Reads Expression
read_select x = do
  expect (Mark m.OpenSquare)
  high ← read_number
  reads_either (is (Mark m.CloseSquare)) (read_bit_end x high) (read_part_end x high)

unfoldable pub read_behind_name : List ℕ → Reads Expression
read_behind_name x =
    reads_either is_operator (read_binary x) (reads_either (is (Mark m.Question)) (read_conditional x) (reads_either (is (Mark m.OpenSquare)) (read_select x) (reads_pure
    (expr.Copy x))))

unfoldable pub read_named : Reads Expression
read_named = do
  x ← read_name
  read_behind_name x

unfoldable pub read_signed_less : List ℕ → Reads Expression
read_signed_less x = do
  expect (Mark m.Less)
  y ← read_signed
  reads_pure (expr.SignedLess x y)

unfoldable pub read_arithmetic_shift : List ℕ → Reads Expression
read_arithmetic_shift x = do
  expect (Mark m.ArithmeticShiftRight)
  y ← read_name
  reads_pure (expr.ArithmeticShiftRight x y)

unfoldable pub read_of_signed : Reads Expression
read_of_signed = do
  x ← read_signed
  reads_either (is (Mark m.Less)) (read_signed_less x) (read_arithmetic_shift x)

unfoldable pub read_division_end : List ℕ → Constant → ℕ → Reads Expression
read_division_end tested nought width = do
  expect (Mark m.Decimal)
  value ← read_number
  expect (Mark m.Colon)
  x ← read_name
  operator ← read_division
  y ← read_name
  reads_pure (expr.Division tested nought (record { width = width; value = value }) operator x y)

unfoldable pub read_signed_division_end : List ℕ → Constant → ℕ → Reads Expression
read_signed_division_end tested nought width = do
  expect (Mark m.SignedDecimal)
  value ← read_number
  expect (Mark m.Colon)
  x ← read_signed
  operator ← read_division
  y ← read_signed
  reads_pure (expr.SignedDivision tested nought (record { width = width; value = value }) operator x y)

unfoldable pub read_bound : Reads Constant
read_bound = do
  c ← read_constant
  expect (Mark m.CloseRound)
  expect (Mark m.Question)
  reads_pure c

unfoldable pub read_guarded_division : List ℕ → Reads Expression
read_guarded_division tested = do
  expect (Mark m.EqualEqual)
  nought ← read_bound
  width ← read_number
  reads_either (is (Mark m.Decimal)) (read_division_end tested nought width) (read_signed_division_end tested nought width)

unfoldable pub read_guarded_read : List ℕ → Reads Expression
read_guarded_read tested = do
  expect (Mark m.Less)
  c ← read_bound
  memory ← read_name
  expect (Mark m.OpenSquare)
  address ← read_name
  expect (Mark m.CloseSquare)
  expect (Mark m.Colon)
  guarded ← read_constant
  reads_pure (expr.MemoryRead tested c memory address guarded)

unfoldable pub read_guarded : Reads Expression
read_guarded = do
  expect (Mark m.OpenRound)
  tested ← read_name
  reads_either (is (Mark m.EqualEqual)) (read_guarded_division tested) (read_guarded_read tested)

unfoldable pub read_concatenation : Reads Expression
read_concatenation = do
  parts ← read_listed read_name
  expect (Mark m.CloseCurly)
  reads_pure (expr.Concatenation parts)

unfoldable pub read_replication : Reads Expression
read_replication = do
  count ← read_number
  expect (Mark m.OpenCurly)
  x ← read_name
  expect (Mark m.CloseCurly)
  expect (Mark m.CloseCurly)
  reads_pure (expr.Replication count x)

unfoldable pub read_braced : Reads Expression
read_braced = do
  expect (Mark m.OpenCurly)
  reads_either is_name read_concatenation read_replication

unfoldable pub read_expression : Reads Expression
read_expression =
    reads_either is_name read_named
    (reads_either is_number read_constant_expression
    (reads_either (is (Mark m.Tilde)) read_bitwise_not
    (reads_either (is (Mark m.Signed)) read_of_signed (reads_either (is (Mark m.OpenRound)) read_guarded read_braced))))

-- ---- statements

unfoldable pub read_set : List ℕ → Reads Statement
read_set x = do
  expect (Mark m.LessEqual)
  y ← read_name
  expect (Mark m.Semicolon)
  reads_pure (st.Set x y)

unfoldable pub read_store : List ℕ → Reads Statement
read_store x = do
  expect (Mark m.OpenSquare)
  address ← read_name
  expect (Mark m.CloseSquare)
  expect (Mark m.LessEqual)
  y ← read_name
  expect (Mark m.Semicolon)
  reads_pure (st.Store x address y)

unfoldable pub read_written : Reads Statement
read_written = do
  x ← read_name
  reads_either (is (Mark m.LessEqual)) (read_set x) (read_store x)

unfoldable pub read_unsigned_argument : Reads WriteArgument
read_unsigned_argument = do
  x ← read_name
  reads_pure (a.Unsigned x)

unfoldable pub read_signed_argument : Reads WriteArgument
read_signed_argument = do
  x ← read_signed
  reads_pure (a.Signed x)

unfoldable pub read_argument : Reads WriteArgument
read_argument = reads_either is_name read_unsigned_argument read_signed_argument

unfoldable pub read_arguments : Reads (List WriteArgument)
read_arguments = reads_many (is (Mark m.Comma)) (read_next read_argument)

unfoldable pub read_write : Reads Statement
read_write = do
  expect (Mark m.Write)
  expect (Mark m.OpenRound)
  text ← read_quoted
  arguments ← read_arguments
  expect (Mark m.CloseRound)
  expect (Mark m.Semicolon)
  reads_pure (st.Write text arguments)

abbrev pub begins_statement : Token → Bool
begins_statement x = is (Word w.If) x || (is_name x || is (Mark m.Write) x)

-- the reader is that of a statement in the list
unfoldable pub read_statements : Reads Statement → Reads (List Statement)
read_statements statement = reads_many begins_statement statement

-- the condition of an `if`, and `begin`
unfoldable pub read_branch_head : Reads (List ℕ)
read_branch_head = do
  expect (Word w.If)
  expect (Mark m.OpenRound)
  x ← read_name
  expect (Mark m.CloseRound)
  expect (Word w.Begin)
  reads_pure x

unfoldable pub read_branch : Reads Statement → Reads Statement
read_branch statement = do
  x ← read_branch_head
  body ← read_statements statement
  expect (Word w.End)
  reads_pure (st.If x body)

-- a statement other than an `if`
unfoldable pub read_plain : Reads Statement
read_plain = reads_either is_name read_written read_write

unfoldable pub read_statement : ℕ → Reads Statement
read_statement zero = too_deep begins_statement
read_statement (suc room) = reads_either (is (Word w.If)) (read_branch (read_statement room)) read_plain

-- ---- items

unfoldable pub read_wire : Reads Item
read_wire = do
  expect (Word w.Wire)
  high ← read_optional_range
  x ← read_name
  expect (Mark m.Semicolon)
  reads_pure (i.Wire (record { high = high; name = x }))

unfoldable pub read_register_end : Option ℕ → List ℕ → Reads Item
read_register_end high x = do
  expect (Mark m.Semicolon)
  reads_pure (i.Register (record { high = high; name = x }))

unfoldable pub read_memory_end : ℕ → List ℕ → Reads Item
read_memory_end high x = do
  expect (Mark m.OpenSquare)
  expect Zero
  expect (Mark m.Colon)
  last ← read_number
  expect (Mark m.CloseSquare)
  expect (Mark m.Semicolon)
  reads_pure (i.Memory (record { high = high; name = x; last = last }))

unfoldable pub read_stored_end : Option ℕ → List ℕ → Reads Item
read_stored_end None x = read_register_end None x
read_stored_end (Some high) x = reads_either (is (Mark m.OpenSquare)) (read_memory_end high x) (read_register_end (Some high) x)

unfoldable pub read_stored : Reads Item
read_stored = do
  expect (Word w.Reg)
  high ← read_optional_range
  x ← read_name
  read_stored_end high x

unfoldable pub read_assign : Reads Item
read_assign = do
  expect (Word w.Assign)
  x ← read_name
  expect (Mark m.Equal)
  value ← read_expression
  expect (Mark m.Semicolon)
  reads_pure (i.Assign (record { target = x; value = value }))

unfoldable pub read_index : Reads ℕ
read_index = do
  expect (Mark m.OpenSquare)
  k ← read_number
  expect (Mark m.CloseSquare)
  reads_pure k

unfoldable pub read_optional_index : Reads (Option ℕ)
read_optional_index = reads_optional (is (Mark m.OpenSquare)) read_index

unfoldable pub read_initial_constant : Reads InitialConstant
read_initial_constant = do
  x ← read_name
  word ← read_optional_index
  expect (Mark m.Equal)
  c ← read_constant
  expect (Mark m.Semicolon)
  reads_pure (record { name = x; word = word; value = c })

unfoldable pub read_initial_constants : Reads (List InitialConstant)
read_initial_constants = reads_many is_name read_initial_constant

unfoldable pub read_initial : Reads Item
read_initial = do
  expect (Word w.Initial)
  expect (Word w.Begin)
  found ← read_initial_constants
  expect (Word w.End)
  reads_pure (i.Initial (record { constants = found }))

-- "always" "@" "(" "posedge" "clk" ")" "begin"
unfoldable pub read_always_head : Reads (Unit {0})
read_always_head = do
  expect (Word w.Always)
  expect (Mark m.At)
  expect (Mark m.OpenRound)
  expect (Word w.PosEdge)
  expect Clock
  expect (Mark m.CloseRound)
  expect (Word w.Begin)

unfoldable pub read_always : Reads Statement → Reads Item
read_always statement = do
  read_always_head
  body ← read_statements statement
  expect (Word w.End)
  reads_pure (i.Always (record { body = body }))

unfoldable pub read_connection : Reads Connection
read_connection = do
  expect (Mark m.Dot)
  port ← read_name
  expect (Mark m.OpenRound)
  x ← read_name
  expect (Mark m.CloseRound)
  reads_pure (record { port = port; signal = x })

unfoldable pub read_instance : Reads Item
read_instance = do
  module_name ← read_name
  x ← read_name
  expect (Mark m.OpenRound)
  found ← read_listed read_connection
  expect (Mark m.CloseRound)
  expect (Mark m.Semicolon)
  reads_pure (i.Instance (record { module_name = module_name; name = x; connections = found }))

abbrev pub begins_item : Token → Bool
begins_item x = is (Word w.Wire) x || (is (Word w.Reg) x || (is (Word w.Assign) x || (is (Word w.Initial) x || (is (Word w.Always) x || is_name x))))

unfoldable pub read_item : Reads Statement → Reads Item
read_item statement =
    reads_either (is (Word w.Wire)) read_wire
    (reads_either (is (Word w.Reg)) read_stored
    (reads_either (is (Word w.Assign)) read_assign
    (reads_either (is (Word w.Initial)) read_initial (reads_either (is (Word w.Always)) (read_always statement) read_instance))))

-- ---- modules

unfoldable pub read_port : Reads Port
read_port = do
  way ← read_direction
  expect (Word w.Wire)
  high ← read_optional_range
  x ← read_name
  reads_pure (record { direction = way; high = high; name = x })

unfoldable pub read_items : Reads Statement → Reads (List Item)
read_items statement = reads_many begins_item (read_item statement)

-- the name and the ports
unfoldable pub read_module_head : Reads (List ℕ × List Port)
read_module_head = do
  expect (Word w.Module)
  x ← read_name
  expect (Mark m.OpenRound)
  ports ← read_listed read_port
  expect (Mark m.CloseRound)
  expect (Mark m.Semicolon)
  reads_pure (x, ports)

unfoldable pub read_module : Reads Statement → Reads Module
read_module statement = do
  head ← read_module_head
  items ← read_items statement
  expect (Word w.EndModule)
  reads_pure (record { name = head.0; ports = head.1; items = items })

-- the modules behind the first
unfoldable pub read_modules : Reads Statement → Module → Reads (List Module)
read_modules statement first ts = reads_while (sees (is (Word w.Module))) appended (read_module statement) (length ts) (first ∷ []) ts

unfoldable pub read_net : ℕ → Reads Net
read_net room = do
  first ← read_module (read_statement room)
  modules ← read_modules (read_statement room) first
  reads_pure (record { modules = modules })
