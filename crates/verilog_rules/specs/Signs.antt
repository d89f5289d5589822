-- What single tokens give to the grammar.
use Rattle.std.specs.Prelude.{ℕ, Bool, true, false, ◌==◌, List, Option, Some, None, is_some}
use Rattle.std.specs.Str.{bytes_eq}
use denote.Enum.Bare.{sameb}
use Rattle.verilog_tree.specs.declared.token.Word.{Word}
use Rattle.verilog_tree.specs.contracts.token.Word as word
use Rattle.verilog_tree.specs.declared.token.Word.TheVariants as w
use Rattle.verilog_tree.specs.declared.token.Mark.{Mark}
use Rattle.verilog_tree.specs.contracts.token.Mark as mark
use Rattle.verilog_tree.specs.declared.token.Mark.TheVariants as m
use Rattle.verilog_tree.specs.declared.token.Token.{Token}
use Rattle.verilog_tree.specs.declared.token.Token.TheVariants as t
use Rattle.verilog_tree.specs.declared.tree.BinaryOperator.{BinaryOperator}
use Rattle.verilog_tree.specs.declared.tree.BinaryOperator.TheVariants as op
use Rattle.verilog_tree.specs.declared.tree.DivisionOperator.{DivisionOperator}
use Rattle.verilog_tree.specs.declared.tree.DivisionOperator.TheVariants as d
use Rattle.verilog_tree.specs.declared.tree.Direction.{Direction}
use Rattle.verilog_tree.specs.declared.tree.Direction.TheVariants as dir
use Rattle.verilog_tree.specs.Grammar.{clk}
use Rattle.verilog_rules.specs.declared.sign.Sign.{Sign}
use Rattle.verilog_rules.specs.declared.sign.Sign.TheVariants as s

unfoldable pub same_word : Word → Word → Bool
same_word = sameb word.the_type

unfoldable pub same_mark : Mark → Mark → Bool
same_mark = sameb mark.the_type

-- whether a token is of the sign
abbrev pub is : Sign → Token → Bool
is (s.Word x) (t.Word y) = same_word x y
is (s.Mark x) (t.Mark y) = same_mark x y
is s.Zero (t.Number n) = n == 0
is s.Clock (t.Name n) = bytes_eq n clk
is _ _ = false

abbrev pub given_if : Bool → Option (Unit {0})
given_if true = Some tt
given_if false = None

abbrev pub sign_at : Sign → Token → Option (Unit {0})
sign_at q x = given_if (is q x)

abbrev pub name_at : Token → Option (List ℕ)
name_at (t.Name n) = Some n
name_at _ = None

abbrev pub is_name : Token → Bool
is_name x = is_some (name_at x)

abbrev pub number_at : Token → Option ℕ
number_at (t.Number n) = Some n
number_at _ = None

abbrev pub is_number : Token → Bool
is_number x = is_some (number_at x)

-- what stands between the quotes of a string
abbrev pub quoted_at : Token → Option (List ℕ)
quoted_at (t.Quoted text) = Some text
quoted_at _ = None

abbrev pub operator_of : Mark → Option BinaryOperator
operator_of m.Plus = Some op.Add
operator_of m.Minus = Some op.Subtract
operator_of m.Star = Some op.Multiply
operator_of m.And = Some op.And
operator_of m.Or = Some op.Or
operator_of m.Xor = Some op.Xor
operator_of m.EqualEqual = Some op.Equal
operator_of m.Less = Some op.Less
operator_of m.ShiftLeft = Some op.ShiftLeft
operator_of m.ShiftRight = Some op.ShiftRight
operator_of _ = None

-- an operator between two names
abbrev pub operator_at : Token → Option BinaryOperator
operator_at (t.Mark x) = operator_of x
operator_at _ = None

abbrev pub is_operator : Token → Bool
is_operator x = is_some (operator_at x)

abbrev pub division_of : Mark → Option DivisionOperator
division_of m.Slash = Some d.Quotient
division_of m.Percent = Some d.Remainder
division_of _ = None

abbrev pub division_at : Token → Option DivisionOperator
division_at (t.Mark x) = division_of x
division_at _ = None

abbrev pub direction_of : Word → Option Direction
direction_of w.Input = Some dir.Input
direction_of w.Output = Some dir.Output
direction_of _ = None

abbrev pub direction_at : Token → Option Direction
direction_at (t.Word x) = direction_of x
direction_at _ = None
