-- The grammar of a text as phrases of tokens: each phrase with the part of the tree that it spells. What begins with the same token stands in
-- one phrase up to the token that tells them apart.
--
--     text  = module { module }
--     module= "module" id "(" port {"," port} ")" ";" { item } "endmodule"
--     port  = ("input"|"output") "wire" [range] id      range = "[" dec ":" "0" "]"
--     item  = "wire" [range] id ";" | "reg" [range] id ";" | "reg" range id "[" "0" ":" dec "]" ";"
--           | "assign" id "=" rhs ";" | "initial" "begin" { id ["[" dec "]"] "=" const ";" } "end"
--           | "always" "@" "(" "posedge" "clk" ")" "begin" { stmt } "end"
--           | id id "(" "." id "(" id ")" { "," "." id "(" id ")" } ")" ";"
--     stmt  = id "<=" id ";" | id "[" id "]" "<=" id ";" | "if" "(" id ")" "begin" { stmt } "end"
--           | "$write" "(" string { "," warg } ")" ";"
--
-- Nesting: a statement in an `if` stands one level deeper.
use Rattle.std.specs.Prelude.{ℕ, zero, suc, List, ◌∷◌, Option, Some, None}
use Rattle.verilog_tree.specs.declared.token.Word.TheVariants as w
use Rattle.verilog_tree.specs.declared.token.Mark.TheVariants as m
use Rattle.verilog_tree.specs.declared.token.Token.{Token}
use Rattle.verilog_tree.specs.declared.tree.Constant.{Constant}
use Rattle.verilog_tree.specs.declared.tree.Expression.{Expression}
use Rattle.verilog_tree.specs.declared.tree.Expression.TheVariants as expr
use Rattle.verilog_tree.specs.declared.tree.Port.{Port}
use Rattle.verilog_tree.specs.declared.tree.InitialConstant.{InitialConstant}
use Rattle.verilog_tree.specs.declared.tree.WriteArgument.{WriteArgument}
use Rattle.verilog_tree.specs.declared.tree.WriteArgument.TheVariants as a
use Rattle.verilog_tree.specs.declared.tree.Statement.{Statement}
use Rattle.verilog_tree.specs.declared.tree.Statement.TheVariants as st
use Rattle.verilog_tree.specs.declared.tree.Connection.{Connection}
use Rattle.verilog_tree.specs.declared.tree.Item.{Item}
use Rattle.verilog_tree.specs.declared.tree.Item.TheVariants as i
use Rattle.verilog_tree.specs.declared.tree.Module.{Module}
use Rattle.verilog_tree.specs.declared.tree.Net.{Net}
use Rattle.grammar.specs.Rules.{Rule, Family, pure, one, ◌>>=◌, ◌>>◌, ◌<|>◌, none, nested, many, optional}
use Rattle.verilog_rules.specs.declared.sign.Sign.{Sign}
use Rattle.verilog_rules.specs.declared.sign.Sign.TheVariants.{Word, Mark, Zero, Clock}
use Rattle.verilog_rules.specs.Signs.{sign_at, name_at, number_at, quoted_at, operator_at, division_at, direction_at}

abbrev pub Phrase : Type 0 → Type 1
Phrase A = Rule Token A

abbrev pub sign : Sign → Phrase (Unit {0})
sign q = one (sign_at q)

abbrev pub name : Phrase (List ℕ)
name = one name_at

abbrev pub number : Phrase ℕ
number = one number_at

-- one or more, with commas between them
abbrev pub listed : {A : Type 0} → Phrase A → Phrase (List A)
listed item = do
  first ← item
  more ← many (sign (Mark m.Comma) >> item)
  pure (first ∷ more)

-- "[" dec ":" "0" "]"
abbrev pub range : Phrase ℕ
range = do
  sign (Mark m.OpenSquare)
  high ← number
  sign (Mark m.Colon)
  sign Zero
  sign (Mark m.CloseSquare)
  pure high

-- ---- expressions

-- dec "'d" dec
abbrev pub constant : Phrase Constant
constant = do
  width ← number
  sign (Mark m.Decimal)
  value ← number
  pure (record { width = width; value = value })

-- "$signed" "(" id ")"
abbrev pub signed : Phrase (List ℕ)
signed = do
  sign (Mark m.Signed)
  sign (Mark m.OpenRound)
  x ← name
  sign (Mark m.CloseRound)
  pure x

abbrev pub constant_expression : Phrase Expression
constant_expression = do
  c ← constant
  pure (expr.Constant c)

abbrev pub bitwise_not : Phrase Expression
bitwise_not = do
  sign (Mark m.Tilde)
  x ← name
  pure (expr.BitwiseNot x)

-- what stands behind a name
abbrev pub binary : List ℕ → Phrase Expression
binary x = do
  operator ← one operator_at
  y ← name
  pure (expr.Binary operator x y)

abbrev pub conditional : List ℕ → Phrase Expression
conditional x = do
  sign (Mark m.Question)
  y ← name
  sign (Mark m.Colon)
  z ← name
  pure (expr.Conditional x y z)

abbrev pub select_end : List ℕ → ℕ → Phrase Expression
select_end x high = (do
  sign (Mark m.CloseSquare)
  pure (expr.BitSelect x high)) <|> (do
    sign (Mark m.Colon)
    low ← number
    sign (Mark m.CloseSquare)
    pure (expr.PartSelect x high low))

abbrev pub select : List ℕ → Phrase Expression
select x = do
  sign (Mark m.OpenSquare)
  high ← number
  select_end x high

abbrev pub behind_name : List ℕ → Phrase Expression
behind_name x = binary x <|> (conditional x <|> (select x <|> pure (expr.Copy x)))

abbrev pub named : Phrase Expression
named = do
  x ← name
  behind_name x

-- what stands behind a signed name
abbrev pub signed_less : List ℕ → Phrase Expression
signed_less x = do
  sign (Mark m.Less)
  y ← signed
  pure (expr.SignedLess x y)

abbrev pub arithmetic_shift : List ℕ → Phrase Expression
arithmetic_shift x = do
  sign (Mark m.ArithmeticShiftRight)
  y ← name
  pure (expr.ArithmeticShiftRight x y)

abbrev pub of_signed : Phrase Expression
of_signed = do
  x ← signed
  (signed_less x <|> arithmetic_shift x)

-- what stands behind the guard of a division, from the base of the guarded constant on
abbrev pub division : List ℕ → Constant → ℕ → Phrase Expression
division tested nought width = do
  sign (Mark m.Decimal)
  value ← number
  sign (Mark m.Colon)
  x ← name
  operator ← one division_at
  y ← name
  pure (expr.Division tested nought (record { width = width; value = value }) operator x y)

abbrev pub signed_division : List ℕ → Constant → ℕ → Phrase Expression
signed_division tested nought width = do
  sign (Mark m.SignedDecimal)
  value ← number
  sign (Mark m.Colon)
  x ← signed
  operator ← one division_at
  y ← signed
  pure (expr.SignedDivision tested nought (record { width = width; value = value }) operator x y)

-- const ")" "?", behind the mark of a guard
abbrev pub bound : Phrase Constant
bound = do
  c ← constant
  sign (Mark m.CloseRound)
  sign (Mark m.Question)
  pure c

abbrev pub guarded_division : List ℕ → Phrase Expression
guarded_division tested = do
  sign (Mark m.EqualEqual)
  nought ← bound
  width ← number
  (division tested nought width <|> signed_division tested nought width)

abbrev pub guarded_read : List ℕ → Phrase Expression
guarded_read tested = do
  sign (Mark m.Less)
  c ← bound
  memory ← name
  sign (Mark m.OpenSquare)
  address ← name
  sign (Mark m.CloseSquare)
  sign (Mark m.Colon)
  guarded ← constant
  pure (expr.MemoryRead tested c memory address guarded)

abbrev pub guarded : Phrase Expression
guarded = do
  sign (Mark m.OpenRound)
  tested ← name
  (guarded_division tested <|> guarded_read tested)

-- what stands behind "{"
abbrev pub concatenation : Phrase Expression
concatenation = do
  parts ← listed name
  sign (Mark m.CloseCurly)
  pure (expr.Concatenation parts)

abbrev pub replication : Phrase Expression
replication = do
  count ← number
  sign (Mark m.OpenCurly)
  x ← name
  sign (Mark m.CloseCurly)
  sign (Mark m.CloseCurly)
  pure (expr.Replication count x)

abbrev pub braced : Phrase Expression
braced = do
  sign (Mark m.OpenCurly)
  (concatenation <|> replication)

-- the right side of an assign
abbrev pub expression : Phrase Expression
expression = named <|> (constant_expression <|> (bitwise_not <|> (of_signed <|> (guarded <|> braced))))

-- ---- statements

abbrev pub set : List ℕ → Phrase Statement
set x = do
  sign (Mark m.LessEqual)
  y ← name
  sign (Mark m.Semicolon)
  pure (st.Set x y)

abbrev pub store : List ℕ → Phrase Statement
store x = do
  sign (Mark m.OpenSquare)
  address ← name
  sign (Mark m.CloseSquare)
  sign (Mark m.LessEqual)
  y ← name
  sign (Mark m.Semicolon)
  pure (st.Store x address y)

abbrev pub written : Phrase Statement
written = do
  x ← name
  (set x <|> store x)

abbrev pub unsigned_argument : Phrase WriteArgument
unsigned_argument = do
  x ← name
  pure (a.Unsigned x)

abbrev pub signed_argument : Phrase WriteArgument
signed_argument = do
  x ← signed
  pure (a.Signed x)

abbrev pub argument : Phrase WriteArgument
argument = unsigned_argument <|> signed_argument

abbrev pub write : Phrase Statement
write = do
  sign (Mark m.Write)
  sign (Mark m.OpenRound)
  text ← one quoted_at
  arguments ← many (sign (Mark m.Comma) >> argument)
  sign (Mark m.CloseRound)
  sign (Mark m.Semicolon)
  pure (st.Write text arguments)

-- "if" "(" id ")" "begin"
abbrev pub branch_head : Phrase (List ℕ)
branch_head = do
  sign (Word w.If)
  sign (Mark m.OpenRound)
  x ← name
  sign (Mark m.CloseRound)
  sign (Word w.Begin)
  pure x

abbrev pub plain_statement : Phrase Statement
plain_statement = written <|> write

module _ (statement : Phrase Statement) where
  abbrev pub branch : Phrase Statement
  branch = do
    x ← branch_head
    body ← many (nested statement)
    sign (Word w.End)
    pure (st.If x body)

  abbrev pub any_statement : Phrase Statement
  any_statement = branch <|> plain_statement

-- by how often the rule is entered within itself
abbrev pub statement : Family Token Statement
statement zero = none
statement (suc depth) = any_statement (statement depth)

-- ---- items

abbrev pub wire : Phrase Item
wire = do
  sign (Word w.Wire)
  high ← optional range
  x ← name
  sign (Mark m.Semicolon)
  pure (i.Wire (record { high = high; name = x }))

abbrev pub register_end : Option ℕ → List ℕ → Phrase Item
register_end high x = do
  sign (Mark m.Semicolon)
  pure (i.Register (record { high = high; name = x }))

-- "[" "0" ":" dec "]" ";"
abbrev pub memory_end : ℕ → List ℕ → Phrase Item
memory_end high x = do
  sign (Mark m.OpenSquare)
  sign Zero
  sign (Mark m.Colon)
  last ← number
  sign (Mark m.CloseSquare)
  sign (Mark m.Semicolon)
  pure (i.Memory (record { high = high; name = x; last = last }))

-- a memory has a range
abbrev pub stored_end : Option ℕ → List ℕ → Phrase Item
stored_end None x = register_end None x
stored_end (Some high) x = memory_end high x <|> register_end (Some high) x

abbrev pub stored : Phrase Item
stored = do
  sign (Word w.Reg)
  high ← optional range
  x ← name
  stored_end high x

abbrev pub assign : Phrase Item
assign = do
  sign (Word w.Assign)
  x ← name
  sign (Mark m.Equal)
  value ← expression
  sign (Mark m.Semicolon)
  pure (i.Assign (record { target = x; value = value }))

abbrev pub index : Phrase ℕ
index = do
  sign (Mark m.OpenSquare)
  k ← number
  sign (Mark m.CloseSquare)
  pure k

abbrev pub initial_constant : Phrase InitialConstant
initial_constant = do
  x ← name
  word ← optional index
  sign (Mark m.Equal)
  c ← constant
  sign (Mark m.Semicolon)
  pure (record { name = x; word = word; value = c })

abbrev pub initial : Phrase Item
initial = do
  sign (Word w.Initial)
  sign (Word w.Begin)
  found ← many initial_constant
  sign (Word w.End)
  pure (i.Initial (record { constants = found }))

-- "always" "@" "(" "posedge" "clk" ")" "begin"
abbrev pub always_head : Phrase (Unit {0})
always_head = do
  sign (Word w.Always)
  sign (Mark m.At)
  sign (Mark m.OpenRound)
  sign (Word w.PosEdge)
  sign Clock
  sign (Mark m.CloseRound)
  sign (Word w.Begin)

abbrev pub always : Phrase Statement → Phrase Item
always statement = do
  always_head
  body ← many statement
  sign (Word w.End)
  pure (i.Always (record { body = body }))

abbrev pub connection : Phrase Connection
connection = do
  sign (Mark m.Dot)
  port ← name
  sign (Mark m.OpenRound)
  x ← name
  sign (Mark m.CloseRound)
  pure (record { port = port; signal = x })

abbrev pub instance : Phrase Item
instance = do
  module_name ← name
  x ← name
  sign (Mark m.OpenRound)
  found ← listed connection
  sign (Mark m.CloseRound)
  sign (Mark m.Semicolon)
  pure (i.Instance (record { module_name = module_name; name = x; connections = found }))

abbrev pub item : Phrase Statement → Phrase Item
item statement = wire <|> (stored <|> (assign <|> (initial <|> (always statement <|> instance))))

-- ---- modules

abbrev pub port : Phrase Port
port = do
  way ← one direction_at
  sign (Word w.Wire)
  high ← optional range
  x ← name
  pure (record { direction = way; high = high; name = x })

-- the name and the ports
abbrev pub module_head : Phrase (List ℕ × List Port)
module_head = do
  sign (Word w.Module)
  x ← name
  sign (Mark m.OpenRound)
  ports ← listed port
  sign (Mark m.CloseRound)
  sign (Mark m.Semicolon)
  pure (x, ports)

abbrev pub module_of : Phrase Statement → Phrase Module
module_of statement = do
  head ← module_head
  items ← many (item statement)
  sign (Word w.EndModule)
  pure (record { name = head.0; ports = head.1; items = items })

abbrev pub net_of : Phrase Statement → Phrase Net
net_of statement = do
  first ← module_of statement
  more ← many (module_of statement)
  pure (record { modules = first ∷ more })

-- a whole text
abbrev pub net : Family Token Net
net depth = net_of (statement depth)
