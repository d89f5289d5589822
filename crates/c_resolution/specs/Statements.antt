-- Statements and blocks (C99 6.8).
use Rattle.std.specs.Prelude.{ℕ, ℤ, ◌+◌, ◌-◌, Bool, true, false, List, [], ◌∷◌, ◌++◌, Option, Some, None, min, pos}
use Rattle.hls_ints.specs.Types.{IntegerType, int_type, promoted, wrapped}
use Rattle.c_tree.specs.declared.expression.Expression.{Expression as ExpressionTree, out-Expression}
use Rattle.c_tree.specs.declared.declaration.Declaration.{Declaration}
use Rattle.c_tree.specs.declared.statement.SimpleStatement.{SimpleStatement}
use Rattle.c_tree.specs.declared.statement.ForStart.{ForStart}
use Rattle.c_tree.specs.declared.statement.ForStart.TheVariants as start
use Rattle.c_tree.specs.declared.statement.CaseLabel.{CaseLabel}
use Rattle.c_tree.specs.declared.statement.Block.{Block}
use Rattle.c_tree.specs.declared.statement.BlockItem.{BlockItem}
use Rattle.c_tree.specs.declared.statement.BlockItem.TheOpen.{Block-F, BlockItem-F, Group-F, Statement-F}
use Rattle.c_tree.specs.declared.statement.BlockItem.TheFolds.{fold-Block, fold-BlockItem, fold-Group, fold-Statement}
use Rattle.c_tree.specs.declared.statement.Group.{Group}
use Rattle.c_tree.specs.declared.statement.Statement.{Statement as StatementTree}
use Rattle.c_program.specs.Tree.{Expression, Statement}
use Rattle.c_program.specs.Types.{type_of}
use Rattle.c_rules.specs.declared.fault.Rule.TheVariants as rule
use Rattle.c_rules.specs.declared.constants.Constancy.{Constancy}
use Rattle.c_rules.specs.declared.constants.Constancy.TheVariants as is
use Rattle.c_rules.specs.declared.names.Scope.{Scope}
use Rattle.c_rules.specs.Cases.{stands, noted}
use Rattle.c_rules.specs.Constants.{constancy, operator_count}
use Rattle.c_rules.specs.Names.{opened, closed}
use Rattle.c_rules.specs.Walks.{Finds, pure, finds, finds_if, through, place_in_tree, ◌>>=◌, ◌>>◌}
use Rattle.c_calls.specs.Expressions.{condition, looked, value}
use Rattle.c_calls.specs.Cuts.{Cut, free_from}
use Rattle.c_calls.specs.Sequences.{sequence, behind_cuts}
use Rattle.c_resolution.specs.Simple.{simple, returned, check_break, check_continue}
use Rattle.c_resolution.specs.Locals.{declaration}
use Rattle.c_resolution.specs.States.{Goes, finding, scoping}

-- ---- statements by their parts

abbrev pub block_of : Statement → Statement
block_of body = Statement.Block body

abbrev pub if_of : Statement → Statement → Statement → Statement
if_of c a b = Statement.If c a b

abbrev pub while_of : Statement → Statement → Statement
while_of c b = Statement.While c b

abbrev pub do_while_of : Statement → Statement → Statement
do_while_of b c = Statement.DoWhile b c

-- what a for has but its body
abbrev pub Head : Type 0
Head = Statement × Statement × Statement

abbrev pub for_of : Head → Statement → Statement
for_of head b = Statement.For head.0 head.1 head.2 b

-- ---- loops and switches

-- the body of a loop, which break and continue may leave
abbrev pub deeper : Scope → Scope
deeper s = record s { loops = min (s.loops + 1) 0xffff_ffff_ffff_ffff; exits = min (s.exits + 1) 0xffff_ffff_ffff_ffff }

abbrev pub shallower : Scope → Scope
shallower s = record s { loops = s.loops - 1; exits = s.exits - 1 }

-- that of a switch, which break alone may leave
abbrev pub switched : Scope → Scope
switched s = record s { exits = min (s.exits + 1) 0xffff_ffff_ffff_ffff }

abbrev pub unswitched : Scope → Scope
unswitched s = record s { exits = s.exits - 1 }

unfoldable pub loop_body : Goes Statement → Goes Statement
loop_body body = do
  scoping deeper
  b ← body
  scoping shallower
  pure b

abbrev pub declared_start : Declaration → Goes Statement
declared_start d = do
  steps ← declaration [] d
  pure (sequence steps)

-- what the head of a for begins with
abbrev pub for_start : ForStart → Goes Statement
for_start start.Nothing = pure Statement.Done
for_start (start.Declaration d) = declared_start d
for_start (start.Simple x) = finding (λ s. simple s x)

-- a missing condition of a for is the constant 1
abbrev pub int_one : Statement
int_one = Statement.Test 0 (Expression.Constant int_type (pos 1))

abbrev pub for_condition : Option ExpressionTree → Scope → Finds Statement
for_condition None s = pure int_one
for_condition (Some test) s = condition s test s.kept_from

abbrev pub for_step : Option SimpleStatement → Scope → Finds Statement
for_step None s = pure Statement.Done
for_step (Some x) s = simple s x

unfoldable pub for_head : ForStart → Option ExpressionTree → Option SimpleStatement → Goes Head
for_head begin test step = do
  first ← for_start begin
  c ← finding (for_condition test)
  last ← finding (for_step step)
  pure (first, c, last)

-- ---- blocks

-- the head of a for has a scope of its own (6.8.5)
unfoldable pub for_loop : ForStart → Option ExpressionTree → Option SimpleStatement → Goes Statement → Goes Statement
for_loop begin test step body = do
  scoping opened
  head ← for_head begin test step
  b ← loop_body body
  scoping closed
  pure (for_of head b)

-- ---- statements with statements in them

-- an item of a block puts its steps behind others
abbrev pub Adds : Type 0
Adds = List Statement → Goes (List Statement)

abbrev pub with_step : Goes Statement → Adds
with_step statement steps = do
  step ← statement
  pure (steps ++ step ∷ [])

abbrev pub missing_is_done : Option (Goes Statement) → Goes Statement
missing_is_done None = pure Statement.Done
missing_is_done (Some statement) = statement

abbrev pub break_at : ℕ → Goes Statement
break_at at = do
  finding (λ s. check_break s at)
  pure Statement.Break

abbrev pub continue_at : ℕ → Goes Statement
continue_at at = do
  finding (λ s. check_continue s at)
  pure Statement.Continue

abbrev pub block_statement : Goes Statement → Goes Statement
block_statement items = do
  scoping opened
  body ← items
  scoping closed
  pure (block_of body)

abbrev pub branch : ExpressionTree → Goes Statement → Option (Goes Statement) → Goes Statement
branch test consequent alternative = do
  c ← finding (λ s. condition s test s.kept_from)
  a ← consequent
  b ← missing_is_done alternative
  pure (if_of c a b)

abbrev pub while_loop : ExpressionTree → Goes Statement → Goes Statement
while_loop test body = do
  c ← finding (λ s. condition s test s.kept_from)
  b ← loop_body body
  pure (while_of c b)

abbrev pub do_while : Goes Statement → ExpressionTree → Goes Statement
do_while body test = do
  b ← loop_body body
  c ← finding (λ s. condition s test s.kept_from)
  pure (do_while_of b c)

-- ---- labels of a switch (6.8.1, 6.8.4.2)

-- what stands in the body of a switch so far: its steps, the values of its cases, and whether it has a default
pub record Cases : Type 0 where
  pub steps : List Statement
  pub values : List ℤ
  pub has_default : Bool

abbrev pub no_cases : Cases
no_cases = record { steps = []; values = []; has_default = false }

-- one more label
abbrev pub labelled : Option ℤ → ℕ → Cases → Cases
labelled value operators x = record x { steps = x.steps ++ Statement.Label value operators ∷ [] }

-- the value of a case, converted to the type of the switch; 0 where a rule is broken
abbrev pub case_value : IntegerType → Constancy → ℤ
case_value ty (is.Constant x) = wrapped ty x.number
case_value ty is.Unknown = pos 0
case_value ty is.NotConstant = pos 0

-- a value that stands twice in one switch, and an expression that is no constant, are broken at the place
unfoldable pub noted_case : IntegerType → Constancy → ℕ → Cases → Finds Cases
noted_case ty (is.Constant x) at c = do
  finds_if (stands c.values (wrapped ty x.number)) rule.Twice at
  pure (record c { values = noted c.values (wrapped ty x.number) })
noted_case ty is.Unknown at c = pure c
noted_case ty is.NotConstant at c = do
  finds rule.Constant at
  pure c

unfoldable pub case_label : IntegerType → ExpressionTree → Cases → Scope → Finds Cases
case_label ty e c s = do
  looked s e
  x ← noted_case ty (constancy e) (out-Expression e).offset c
  pure (labelled (Some (case_value ty (constancy e))) (operator_count e) x)

-- a default whose word stands at the place
unfoldable pub default_label : ℕ → Cases → Finds Cases
default_label at c = do
  finds_if c.has_default rule.Twice at
  pure (labelled None 0 (record c { has_default = true }))

abbrev pub label_of : IntegerType → Option ExpressionTree → ℕ → Cases → Scope → Finds Cases
label_of ty (Some e) at c s = case_label ty e c s
label_of ty None at c s = default_label at c

abbrev pub label : IntegerType → CaseLabel → Cases → Scope → Finds Cases
label ty x c s = label_of ty x.value x.offset c s

-- one more statement
abbrev pub next_statement : Cases → Goes Statement → Goes Cases
next_statement c statement = do
  step ← statement
  pure (record c { steps = c.steps ++ step ∷ [] })

-- a group puts its label and its statements behind others, in a switch over the type
abbrev pub Groups : Type 0
Groups = IntegerType → Cases → Goes Cases

abbrev pub group_step : Group-F Adds (Goes Statement) (Goes Statement) Groups → Groups
group_step g ty c = do
  x ← finding (label ty g.label c)
  through next_statement x g.statements

abbrev pub next_group : IntegerType → Cases → Groups → Goes Cases
next_group ty c g = g ty c

-- the body of a switch over the type
unfoldable pub switch_body : IntegerType → List Groups → Goes Statement
switch_body ty groups = do
  scoping switched
  c ← through (next_group ty) no_cases groups
  scoping unswitched
  pure (sequence c.steps)

abbrev pub switch_of : ℕ → Cut Expression → Statement → Statement
switch_of at x body = behind_cuts x.cuts.before (Statement.Switch at (promoted (type_of x.rest)) x.rest body)

-- a switch at the place, over a value of its promoted type
unfoldable pub switch : ExpressionTree → List Groups → ℕ → Goes Statement
switch e groups at = do
  x ← finding (λ s. value s e at (free_from s.kept_from))
  body ← switch_body (promoted (type_of x.rest)) groups
  pure (switch_of at x body)

-- ---- each layer of the tree

abbrev pub statement_step : Statement-F Adds (Goes Statement) (Goes Statement) Groups → Goes Statement
statement_step (Statement-F.Block items) = block_statement items
statement_step Statement-F.Empty = pure Statement.Empty
statement_step (Statement-F.Simple x) = finding (λ s. simple s x)
statement_step (Statement-F.Break at) = break_at at
statement_step (Statement-F.Continue at) = continue_at at
statement_step (Statement-F.If test consequent alternative) = branch test consequent alternative
statement_step (Statement-F.While test body) = while_loop test body
statement_step (Statement-F.DoWhile body test) = do_while body test
statement_step (Statement-F.For begin test step body) = for_loop begin test step body
statement_step (Statement-F.Return x at) = finding (λ s. returned s x at)
statement_step (Statement-F.Switch e groups at) = switch e groups (place_in_tree at)

abbrev pub item_step : BlockItem-F Adds (Goes Statement) (Goes Statement) Groups → Adds
item_step (BlockItem-F.Declaration d) = λ steps. declaration steps d
item_step (BlockItem-F.Statement statement) = with_step statement

-- the items of a block in the scope at hand
abbrev pub block_items : List Adds → Goes (List Statement)
block_items list = through (λ steps add. add steps) [] list

abbrev pub block_step : Block-F Adds (Goes Statement) (Goes Statement) Groups → Goes Statement
block_step b = do
  steps ← block_items b.items
  pure (sequence steps)

abbrev pub statement : StatementTree → Goes Statement
statement = fold-Statement Adds (Goes Statement) (Goes Statement) Groups item_step statement_step block_step group_step

abbrev pub item : BlockItem → Adds
item = fold-BlockItem Adds (Goes Statement) (Goes Statement) Groups item_step statement_step block_step group_step

abbrev pub items : Block → Goes Statement
items = fold-Block Adds (Goes Statement) (Goes Statement) Groups item_step statement_step block_step group_step

abbrev pub group : Group → Groups
group = fold-Group Adds (Goes Statement) (Goes Statement) Groups item_step statement_step block_step group_step
