-- Trees as the grammar makes them.
use Rattle.std.specs.Prelude.{ℕ, Bool, true, false, List, [], ◌∷◌, ◌++◌, Some, None}
use Rattle.c_token.specs.declared.constant.Constant.{Constant}
use Rattle.c_tree.specs.declared.expression.Name.{Name}
use Rattle.c_tree.specs.declared.expression.Specifiers.{Specifiers}
use Rattle.c_tree.specs.declared.expression.UnaryOperator.{UnaryOperator}
use Rattle.c_tree.specs.declared.expression.BinaryOperator.{BinaryOperator}
use Rattle.c_tree.specs.declared.expression.Expression.{Expression, roll-Expression, out-Expression}
use Rattle.c_tree.specs.declared.expression.Form.{Form}
use Rattle.c_tree.specs.declared.expression.Form.TheVariants as form
use Rattle.c_tree.specs.declared.expression.Term.{Term, roll-Term}
use Rattle.c_tree.specs.declared.expression.Choice.{Choice, roll-Choice}
use Rattle.c_tree.specs.declared.expression.Place.{Place, roll-Place}
use Rattle.c_tree.specs.declared.expression.Call.{Call, roll-Call}
use Rattle.c_tree.specs.declared.expression.Argument.{Argument}
use Rattle.c_tree.specs.declared.expression.Argument.TheVariants as argument
use Rattle.c_tree.specs.declared.expression.Pointer.{Pointer, roll-Pointer}
use Rattle.c_tree.specs.declared.statement.CaseLabel.{CaseLabel}
use Rattle.c_tree.specs.declared.statement.Block.{Block, roll-Block}
use Rattle.c_tree.specs.declared.statement.BlockItem.{BlockItem}
use Rattle.c_tree.specs.declared.statement.Statement.{Statement}
use Rattle.c_tree.specs.declared.statement.Group.{Group, roll-Group}

-- an expression whose text begins at the place
abbrev pub expression : ℕ → Form → Expression
expression at f = roll-Expression (record { offset = at; form = f })

-- where an expression's text begins
abbrev pub offset_of : Expression → ℕ
offset_of e = (out-Expression e).offset

-- the expression with parentheses round it, the first of them at the place
abbrev pub moved : ℕ → Expression → Expression
moved at e = expression at (out-Expression e).form

abbrev pub constant : Constant × ℕ → Expression
constant c = expression c.1 (form.Constant c.0 c.1)

abbrev pub unary : UnaryOperator × ℕ → Expression → Expression
unary op e = expression op.1 (form.Unary op.0 e)

abbrev pub cast : Specifiers → ℕ → Expression → Expression
cast s at e = expression at (form.Cast s e)

abbrev pub place : Name → List Expression → Place
place x indices = roll-Place (record { name = x; indices = indices })

abbrev pub call : Name → List Argument → Call
call f arguments = roll-Call (record { name = f; arguments = arguments })

abbrev pub term : BinaryOperator × ℕ → Expression → Term
term op e = roll-Term (record { operator = op.0; offset = op.1; operand = e })

-- an operand with the terms behind it
abbrev pub joined : Expression → List Term → Expression
joined first [] = first
joined first (t ∷ ts) = expression (offset_of first) (form.Binary first (t ∷ ts))

-- a condition with the place of its `?`, and what stands behind the `:`
abbrev pub choice : Expression × ℕ → Expression → Choice
choice c e = roll-Choice (record { condition = c.0; offset = c.1; otherwise = e })

-- conditions with the places of their `?`, and what stands behind the last `?`
abbrev pub Asked : Type 0
Asked = List (Expression × ℕ) × Expression

-- one more `?` and an operand
abbrev pub asked : Asked → ℕ × Expression → Asked
asked so_far x = (so_far.0 ++ ((so_far.1, x.0) ∷ []), x.1)

-- a value with choices round it, the outermost of which begins at the place
abbrev pub conditional : ℕ → Expression → List Choice → Expression
conditional at e choices = expression at (form.Conditional e choices)

abbrev pub null : ℕ → Pointer
null at = roll-Pointer (record { operand = None; offset = at })

abbrev pub pointer : ℕ → Expression → Pointer
pointer at e = roll-Pointer (record { operand = Some e; offset = at })

abbrev pub block : List BlockItem → ℕ → Block
block items close = roll-Block (record { items = items; close = close })

abbrev pub group : CaseLabel → List Statement → Group
group label statements = roll-Group (record { label = label; statements = statements })
