-- The grammar of a text: the tokens of each phrase, one line for each alternative.
use Rattle.std.specs.Prelude.{ℕ, List, [], ◌∷◌, ◌++◌, Option, Some, None, codes}
use Rattle.verilog_tree.specs.declared.token.Word.{Word}
use Rattle.verilog_tree.specs.declared.token.Word.TheVariants as w
use Rattle.verilog_tree.specs.declared.token.Mark.{Mark}
use Rattle.verilog_tree.specs.declared.token.Mark.TheVariants as m
use Rattle.verilog_tree.specs.declared.token.Token.{Token}
use Rattle.verilog_tree.specs.declared.token.Token.TheVariants as t
use Rattle.verilog_tree.specs.declared.tree.Constant.{Constant}
use Rattle.verilog_tree.specs.declared.tree.BinaryOperator.{BinaryOperator}
use Rattle.verilog_tree.specs.declared.tree.BinaryOperator.TheVariants as op
use Rattle.verilog_tree.specs.declared.tree.DivisionOperator.{DivisionOperator}
use Rattle.verilog_tree.specs.declared.tree.DivisionOperator.TheVariants as d
use Rattle.verilog_tree.specs.declared.tree.Direction.{Direction}
use Rattle.verilog_tree.specs.declared.tree.Direction.TheVariants as dir
use Rattle.verilog_tree.specs.declared.tree.Expression.{Expression}
use Rattle.verilog_tree.specs.declared.tree.Expression.TheVariants as expr
use Rattle.verilog_tree.specs.declared.tree.Port.{Port}
use Rattle.verilog_tree.specs.declared.tree.InitialConstant.{InitialConstant}
use Rattle.verilog_tree.specs.declared.tree.WriteArgument.{WriteArgument}
use Rattle.verilog_tree.specs.declared.tree.WriteArgument.TheVariants as a
use Rattle.verilog_tree.specs.declared.tree.Statement.{Statement}
use Rattle.verilog_tree.specs.declared.tree.Statement.TheOpen.{Statement-F}
use Rattle.verilog_tree.specs.declared.tree.Statement.TheFolds.{fold-Statement}
use Rattle.verilog_tree.specs.declared.tree.Connection.{Connection}
use Rattle.verilog_tree.specs.declared.tree.Item.{Item}
use Rattle.verilog_tree.specs.declared.tree.Item.TheVariants as i
use Rattle.verilog_tree.specs.declared.tree.Module.{Module}
use Rattle.verilog_tree.specs.declared.tree.Net.{Net}

abbrev pub Tokens : Type 0
Tokens = List Token

abbrev pub name : List ℕ → Tokens
name n = t.Name n ∷ []

abbrev pub number : ℕ → Tokens
number n = t.Number n ∷ []

abbrev pub word : Word → Tokens
word w = t.Word w ∷ []

abbrev pub mark : Mark → Tokens
mark m = t.Mark m ∷ []

-- { x }
abbrev pub all : {A : Type 0} → (A → Tokens) → List A → Tokens
all f [] = []
all f (x ∷ xs) = f x ++ all f xs

-- { "," x }
abbrev pub more : {A : Type 0} → (A → Tokens) → List A → Tokens
more f [] = []
more f (x ∷ xs) = t.Mark m.Comma ∷ (f x ++ more f xs)

-- x { "," x }
abbrev pub commas : {A : Type 0} → (A → Tokens) → List A → Tokens
commas f [] = []
commas f (x ∷ xs) = f x ++ more f xs

-- [range]
abbrev pub range : Option ℕ → Tokens
range None = []
range (Some high) = mark m.OpenSquare ++ number high ++ mark m.Colon ++ number 0 ++ mark m.CloseSquare

abbrev pub constant : Constant → Tokens
constant c = number c.width ++ mark m.Decimal ++ number c.value

abbrev pub signed_constant : Constant → Tokens
signed_constant c = number c.width ++ mark m.SignedDecimal ++ number c.value

abbrev pub signed : List ℕ → Tokens
signed n = mark m.Signed ++ mark m.OpenRound ++ name n ++ mark m.CloseRound

abbrev pub operator_mark : BinaryOperator → Mark
operator_mark op.Add = m.Plus
operator_mark op.Subtract = m.Minus
operator_mark op.Multiply = m.Star
operator_mark op.And = m.And
operator_mark op.Or = m.Or
operator_mark op.Xor = m.Xor
operator_mark op.Equal = m.EqualEqual
operator_mark op.Less = m.Less
operator_mark op.ShiftLeft = m.ShiftLeft
operator_mark op.ShiftRight = m.ShiftRight

abbrev pub division_mark : DivisionOperator → Mark
division_mark d.Quotient = m.Slash
division_mark d.Remainder = m.Percent

-- "(" id mark const ")" "?"
abbrev pub guard : List ℕ → Mark → Constant → Tokens
guard n by c = mark m.OpenRound ++ name n ++ mark by ++ constant c ++ mark m.CloseRound ++ mark m.Question

-- the right side of an assign
abbrev pub expression : Expression → Tokens
expression (expr.Copy of) = name of
expression (expr.Constant c) = constant c
expression (expr.BitwiseNot of) = mark m.Tilde ++ name of
expression (expr.Binary operator left right) = name left ++ mark (operator_mark operator) ++ name right
expression (expr.SignedLess left right) = signed left ++ mark m.Less ++ signed right
expression (expr.ArithmeticShiftRight left right) = signed left ++ mark m.ArithmeticShiftRight ++ name right
expression (expr.Conditional condition if_true if_false) = name condition ++ mark m.Question ++ name if_true ++ mark m.Colon ++ name if_false
expression (expr.Division tested nought guarded operator left right) =
    guard tested m.EqualEqual nought ++ constant guarded ++ mark m.Colon ++ name left ++ mark (division_mark operator) ++ name right
expression (expr.SignedDivision tested nought guarded operator left right) =
    guard tested m.EqualEqual nought ++ signed_constant guarded ++ mark m.Colon ++ signed left ++ mark (division_mark operator) ++ signed right
expression (expr.MemoryRead tested bound memory address guarded) =
    guard tested m.Less bound ++ name memory ++ mark m.OpenSquare ++ name address ++ mark m.CloseSquare ++ mark m.Colon ++ constant guarded
expression (expr.BitSelect of bit) = name of ++ mark m.OpenSquare ++ number bit ++ mark m.CloseSquare
expression (expr.PartSelect of high low) = name of ++ mark m.OpenSquare ++ number high ++ mark m.Colon ++ number low ++ mark m.CloseSquare
expression (expr.Concatenation parts) = mark m.OpenCurly ++ commas name parts ++ mark m.CloseCurly
expression (expr.Replication count of) = mark m.OpenCurly ++ number count ++ mark m.OpenCurly ++ name of ++ mark m.CloseCurly ++ mark m.CloseCurly

abbrev pub direction : Direction → Tokens
direction dir.Input = word w.Input
direction dir.Output = word w.Output

abbrev pub port : Port → Tokens
port p = direction p.direction ++ word w.Wire ++ range p.high ++ name p.name

-- ["[" dec "]"]
abbrev pub index : Option ℕ → Tokens
index None = []
index (Some k) = mark m.OpenSquare ++ number k ++ mark m.CloseSquare

abbrev pub initial_constant : InitialConstant → Tokens
initial_constant c = name c.name ++ index c.word ++ mark m.Equal ++ constant c.value ++ mark m.Semicolon

abbrev pub argument : WriteArgument → Tokens
argument (a.Unsigned n) = name n
argument (a.Signed n) = signed n

abbrev pub set : List ℕ → List ℕ → Tokens
set register source = name register ++ mark m.LessEqual ++ name source ++ mark m.Semicolon

abbrev pub store : List ℕ → List ℕ → List ℕ → Tokens
store memory address source = name memory ++ mark m.OpenSquare ++ name address ++ mark m.CloseSquare ++ mark m.LessEqual ++ name source ++ mark m.Semicolon

abbrev pub conditional : List ℕ → Tokens → Tokens
conditional condition body = word w.If ++ mark m.OpenRound ++ name condition ++ mark m.CloseRound ++ word w.Begin ++ body ++ word w.End

abbrev pub write : List ℕ → List WriteArgument → Tokens
write text arguments = mark m.Write ++ mark m.OpenRound ++ t.Quoted text ∷ [] ++ more argument arguments ++ mark m.CloseRound ++ mark m.Semicolon

-- a statement, by the tokens of those in it
abbrev pub statement_of : Statement-F Tokens → Tokens
statement_of (Statement-F.Set register source) = set register source
statement_of (Statement-F.Store memory address source) = store memory address source
statement_of (Statement-F.If condition body) = conditional condition (all (λ ts. ts) body)
statement_of (Statement-F.Write text arguments) = write text arguments

abbrev pub statement : Statement → Tokens
statement = fold-Statement Tokens statement_of

abbrev pub connection : Connection → Tokens
connection c = mark m.Dot ++ name c.port ++ mark m.OpenRound ++ name c.signal ++ mark m.CloseRound

-- the name of the clock
abbrev pub clk : List ℕ
clk = codes "clk"

abbrev pub item : Item → Tokens
item (i.Wire x) = word w.Wire ++ range x.high ++ name x.name ++ mark m.Semicolon
item (i.Register x) = word w.Reg ++ range x.high ++ name x.name ++ mark m.Semicolon
item (i.Memory x) = word w.Reg ++ range (Some x.high) ++ name x.name ++ mark m.OpenSquare ++ number 0 ++ mark m.Colon ++ number x.last ++ mark m.CloseSquare ++ mark m.Semicolon
item (i.Assign x) = word w.Assign ++ name x.target ++ mark m.Equal ++ expression x.value ++ mark m.Semicolon
item (i.Initial x) = word w.Initial ++ word w.Begin ++ all initial_constant x.constants ++ word w.End
item (i.Always x) = word w.Always ++ mark m.At ++ mark m.OpenRound ++ word w.PosEdge ++ name clk ++ mark m.CloseRound ++ word w.Begin ++ all statement x.body ++ word w.End
item (i.Instance x) = name x.module_name ++ name x.name ++ mark m.OpenRound ++ commas connection x.connections ++ mark m.CloseRound ++ mark m.Semicolon

abbrev pub module_tokens : Module → Tokens
module_tokens x = word w.Module ++ name x.name ++ mark m.OpenRound ++ commas port x.ports ++ mark m.CloseRound ++ mark m.Semicolon ++ all item x.items ++ word w.EndModule

abbrev pub net : Net → Tokens
net n = all module_tokens n.modules
