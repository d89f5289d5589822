-- The grammar of statements.
--
--     block  = "{" { decl | stmt } "}"
--     decl   = spec ld {"," ld} ";"       ld = name [dims] ["=" expr]
--     stmt   = block | ";" | simple ";" | "break" ";" | "continue" ";"
--            | "if" "(" expr ")" stmt ["else" stmt] | "while" "(" expr ")" stmt
--            | "do" stmt "while" "(" expr ")" ";"
--            | "for" "(" (decl | [simple] ";") [expr] ";" [simple] ")" stmt
--            | "return" [ expr | pointer ] ";"
--            | "switch" "(" expr ")" "{" { group } "}"
--     group  = label {stmt}               label = ("case" expr | "default") ":"
--     simple = place asg expr | place ("++"|"--") | ("++"|"--") place | call
--
-- Nesting: brackets with what they enclose; the bodies of control statements (of a switch its braces), and what stands
-- behind `else`.
use Rattle.std.specs.Prelude.{ℕ, zero, suc, Bool, true, false, List, [], ◌∷◌, Option, Some, None}
use Rattle.c_token.specs.declared.keyword.Keyword.TheVariants as k
use Rattle.c_token.specs.declared.punctuator.Punctuator.TheVariants as p
use Rattle.grammar.specs.Rules.{pure, one, ◌>>=◌, ◌>>◌, ◌<|>◌, none, nested, many, optional}
use Rattle.c_tree.specs.declared.sign.Sign.TheVariants.{Word, Mark}
use Rattle.c_tree.specs.declared.expression.Expression.{Expression}
use Rattle.c_tree.specs.declared.statement.SimpleStatement.{SimpleStatement}
use Rattle.c_tree.specs.declared.statement.SimpleForm.TheVariants as simple_form
use Rattle.c_tree.specs.declared.statement.Returned.{Returned}
use Rattle.c_tree.specs.declared.statement.Returned.TheVariants as returned_as
use Rattle.c_tree.specs.declared.statement.ForStart.{ForStart}
use Rattle.c_tree.specs.declared.statement.ForStart.TheVariants as start
use Rattle.c_tree.specs.declared.statement.Block.{Block}
use Rattle.c_tree.specs.declared.statement.BlockItem.{BlockItem}
use Rattle.c_tree.specs.declared.statement.BlockItem.TheVariants as block_item
use Rattle.c_tree.specs.declared.statement.BlockItem.TheOpen.{Block-F, BlockItem-F, Statement-F}
use Rattle.c_tree.specs.declared.statement.BlockItem.TheFolds.{fold-Statement}
use Rattle.c_tree.specs.declared.statement.Statement.{Statement}
use Rattle.c_tree.specs.declared.statement.Statement.TheVariants as st
use Rattle.c_tree.specs.declared.statement.CaseLabel.{CaseLabel}
use Rattle.c_tree.specs.declared.statement.Group.{Group}
use Rattle.c_tree.specs.declared.declaration.Declaration.{Declaration}
use Rattle.c_tree.specs.declared.declaration.Declarator.{Declarator}
use Rattle.c_tree.specs.Tokens.{assignment_at, direction_of, direction_at}
use Rattle.c_tree.specs.Trees as tree
use Rattle.c_tree.specs.Expressions.{cast, expr, Phrase, sign, name, specifiers, listed, indices, place, arguments, null, converted_pointer}

-- ---- which statements an else may stand behind

-- Whether a statement does not end in an if without else, where that is known of the statements in it.
abbrev pub closed_step : Statement-F Bool Bool Bool Bool → Bool
closed_step (Statement-F.If c body None) = false
closed_step (Statement-F.If c body (Some other)) = other
closed_step (Statement-F.While c body) = body
closed_step (Statement-F.For start c step body) = body
closed_step _ = true

abbrev pub closed : Statement → Bool
closed = fold-Statement Bool Bool Bool Bool (λ i. true) closed_step (λ b. true) (λ g. true)

module _ (cast expr : Phrase Expression) where
  -- ---- simple statements

  abbrev pub assignment : Phrase SimpleStatement
  assignment = do
    x ← name
    found ← indices cast expr
    op ← one assignment_at
    value ← expr
    pure (record { form = simple_form.Assign (tree.place x found) op value; offset = x.offset })

  abbrev pub step_behind : Phrase SimpleStatement
  step_behind = do
    x ← name
    found ← indices cast expr
    way ← one direction_of
    pure (record { form = simple_form.Step (tree.place x found) way; offset = x.offset })

  abbrev pub step_before : Phrase SimpleStatement
  step_before = do
    way ← one direction_at
    x ← place cast expr
    pure (record { form = simple_form.Step x way.0; offset = way.1 })

  abbrev pub called : Phrase SimpleStatement
  called = do
    f ← name
    found ← arguments cast expr
    pure (record { form = simple_form.Call (tree.call f found); offset = f.offset })

  abbrev pub simple : Phrase SimpleStatement
  simple = (assignment <|> step_behind) <|> (step_before <|> called)

  -- ---- declarations in a block

  abbrev pub value : Phrase Expression
  value = do
    sign (Mark p.Assign)
    x ← expr
    pure x

  abbrev pub declarator : Phrase Declarator
  declarator = do
    x ← name
    lengths ← indices cast expr
    initial ← optional value
    pure (record { name = x; lengths = lengths; initializer = initial })

  abbrev pub declaration : Phrase Declaration
  declaration = do
    s ← specifiers
    found ← listed declarator
    sign (Mark p.Semicolon)
    pure (record { specifiers = s; declarators = found })

  -- ---- statements with no statement in them

  abbrev pub empty : Phrase Statement
  empty = do
    sign (Mark p.Semicolon)
    pure st.Empty

  abbrev pub simple_statement : Phrase Statement
  simple_statement = do
    x ← simple
    sign (Mark p.Semicolon)
    pure (st.Simple x)

  abbrev pub break_out : Phrase Statement
  break_out = do
    at ← sign (Word k.Break)
    sign (Mark p.Semicolon)
    pure (st.Break at)

  abbrev pub continue_on : Phrase Statement
  continue_on = do
    at ← sign (Word k.Continue)
    sign (Mark p.Semicolon)
    pure (st.Continue at)

  abbrev pub returned_value : Phrase Returned
  returned_value = do
    x ← expr
    pure (returned_as.Value x)

  abbrev pub returned_null : Phrase Returned
  returned_null = do
    x ← null cast expr
    pure (returned_as.Pointer x)

  abbrev pub returned_pointer : Phrase Returned
  returned_pointer = do
    x ← converted_pointer cast expr
    pure (returned_as.Pointer x)

  abbrev pub returned : Phrase Returned
  returned = returned_null <|> (returned_pointer <|> (returned_value <|> pure returned_as.Nothing))

  abbrev pub return_back : Phrase Statement
  return_back = do
    at ← sign (Word k.Return)
    x ← returned
    sign (Mark p.Semicolon)
    pure (st.Return x at)

  abbrev pub plain_statement : Phrase Statement
  plain_statement = empty <|> (break_out <|> (continue_on <|> (return_back <|> simple_statement)))

  -- ---- the heads of control statements

  abbrev pub condition : Phrase Expression
  condition = nested (do
    sign (Mark p.OpenRound)
    x ← expr
    sign (Mark p.CloseRound)
    pure x)

  abbrev pub declared_start : Phrase ForStart
  declared_start = do
    x ← declaration
    pure (start.Declaration x)

  abbrev pub simple_start : Phrase ForStart
  simple_start = do
    x ← simple
    sign (Mark p.Semicolon)
    pure (start.Simple x)

  abbrev pub no_start : Phrase ForStart
  no_start = do
    sign (Mark p.Semicolon)
    pure start.Nothing

  abbrev pub for_start : Phrase ForStart
  for_start = declared_start <|> (simple_start <|> no_start)

  abbrev pub for_head : Phrase (ForStart × Option Expression × Option SimpleStatement)
  for_head = nested (do
    sign (Mark p.OpenRound)
    first ← for_start
    c ← optional expr
    sign (Mark p.Semicolon)
    step ← optional simple
    sign (Mark p.CloseRound)
    pure (first, c, step))

  -- ---- labels (C99 6.8.1)

  abbrev pub case_label : Phrase CaseLabel
  case_label = do
    at ← sign (Word k.Case)
    x ← expr
    sign (Mark p.Colon)
    pure (record { value = Some x; offset = at })

  abbrev pub default_label : Phrase CaseLabel
  default_label = do
    at ← sign (Word k.Default)
    sign (Mark p.Colon)
    pure (record { value = None; offset = at })

  abbrev pub label : Phrase CaseLabel
  label = case_label <|> default_label

  -- ---- statements with statements in them

  module _ (statement : Phrase Statement) where
    abbrev pub item : Phrase BlockItem
    item = (do
      x ← declaration
      pure (block_item.Declaration x)) <|> (do
        x ← statement
        pure (block_item.Statement x))

    abbrev pub block : Phrase Block
    block = nested (do
      sign (Mark p.OpenCurly)
      items ← many item
      close ← sign (Mark p.CloseCurly)
      pure (tree.block items close))

    abbrev pub block_statement : Phrase Statement
    block_statement = do
      x ← block
      pure (st.Block x)

    -- an else belongs to the nearest if, so none stands behind a statement that ends in an if without else
    abbrev pub else_part : Bool → Phrase (Option Statement)
    else_part true = optional (sign (Word k.Else) >> nested statement)
    else_part false = pure None

    abbrev pub branch : Phrase Statement
    branch = do
      sign (Word k.If)
      c ← condition
      body ← nested statement
      other ← else_part (closed body)
      pure (st.If c body other)

    abbrev pub while_loop : Phrase Statement
    while_loop = do
      sign (Word k.While)
      c ← condition
      body ← nested statement
      pure (st.While c body)

    abbrev pub do_loop : Phrase Statement
    do_loop = do
      sign (Word k.Do)
      body ← nested statement
      sign (Word k.While)
      c ← condition
      sign (Mark p.Semicolon)
      pure (st.DoWhile body c)

    abbrev pub for_loop : Phrase Statement
    for_loop = do
      sign (Word k.For)
      head ← for_head
      body ← nested statement
      pure (st.For head.0 head.1 head.2 body)

    -- a label of a switch with what stands behind it up to the next one (C99 6.8.4.2)
    abbrev pub group : Phrase Group
    group = do
      x ← label
      statements ← many statement
      pure (tree.group x statements)

    -- the groups of a switch, with their braces
    abbrev pub groups : Phrase (List Group)
    groups = nested (do
      sign (Mark p.OpenCurly)
      found ← many group
      sign (Mark p.CloseCurly)
      pure found)

    abbrev pub switch : Phrase Statement
    switch = do
      at ← sign (Word k.Switch)
      x ← condition
      found ← nested groups
      pure (st.Switch x found at)

    abbrev pub compound : Phrase Statement
    compound = block_statement <|> (branch <|> (while_loop <|> (do_loop <|> (for_loop <|> switch))))

    abbrev pub any_statement : Phrase Statement
    any_statement = compound <|> plain_statement

-- by how often the rule is entered within itself
abbrev pub statement : ℕ → Phrase Statement
statement zero = none
statement (suc depth) = any_statement (cast depth) (expr depth) (statement depth)
