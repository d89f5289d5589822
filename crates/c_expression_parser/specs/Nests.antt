-- A function value that reads operands and expressions where some levels of nesting are left.
use Rattle.std.specs.Prelude.{ℕ, ◌≤◌, Result}
use Rattle.std.specs.declared.alloc.Global.{Global}
use denote.Ref.{MutBor}
use Rattle.grammar.specs.declared.Fault.{Fault}
use Rattle.grammar.specs.Steps.{Steps}
use Rattle.c_tree.specs.declared.expression.Expression.{Expression}
use Rattle.c_cursor.specs.declared.cursor.Cursor.{Cursor}
use Rattle.c_expression_parser.specs.declared.expressions.Part.{Part}
use Rattle.c_expression_parser.specs.declared.expressions.Part.TheVariants.{Operand, Whole}
use Rattle.c_reading.specs.Tokens.{Reads}
use Rattle.c_reading.specs.Expressions.{read_cast, read_expr}

abbrev pub read_part : Part → ℕ → Reads Expression
read_part Operand room = read_cast room
read_part Whole room = read_expr room

pub record Nests (room : ℕ) (pre : Global → MutBor Cursor → ℕ → Part → Type 0)
    (post : Global → MutBor Cursor → ℕ → Part → Result Expression Fault → MutBor Cursor → Type 0) : Type 0 where
  pub callable : (alloc : Global) (old : MutBor Cursor) (r : ℕ) (part : Part) → r ≤ room → pre alloc old r part
  pub reads : (alloc : Global) (old new : MutBor Cursor) (r : ℕ) (part : Part) (x : Result Expression Fault) → r ≤ room → post alloc old r part x new
      → Steps (read_part part r old.now) x new.now
