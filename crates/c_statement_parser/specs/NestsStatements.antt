-- A function value that reads statements where some levels of nesting are left.
use Rattle.std.specs.Prelude.{ℕ, ◌≤◌, Result}
use Rattle.std.specs.declared.alloc.Global.{Global}
use denote.Ref.{MutBor}
use Rattle.grammar.specs.declared.Fault.{Fault}
use Rattle.grammar.specs.Steps.{Steps}
use Rattle.c_tree.specs.declared.statement.Statement.{Statement}
use Rattle.c_cursor.specs.declared.cursor.Cursor.{Cursor}
use Rattle.c_reading.specs.Statements.{read_statement}

pub record NestsStatements (room : ℕ) (pre : Global → MutBor Cursor → ℕ → Type 0)
    (post : Global → MutBor Cursor → ℕ → Result Statement Fault → MutBor Cursor → Type 0) : Type 0 where
  pub callable : (alloc : Global) (old : MutBor Cursor) (r : ℕ) → r ≤ room → pre alloc old r
  pub reads : (alloc : Global) (old new : MutBor Cursor) (r : ℕ) (x : Result Statement Fault) → r ≤ room → post alloc old r x new
      → Steps (read_statement r old.now) x new.now
