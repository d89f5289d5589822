-- How statements are read. The number `level` is how many levels of nesting are left, that of the phrase among them, and
-- `inside` how many are left inside of it.
use Rattle.std.specs.Prelude.{ℕ, zero, suc, List, Option, Some, None}
use Rattle.c_token.specs.declared.keyword.Keyword.TheVariants as k
use Rattle.c_token.specs.declared.punctuator.Punctuator.TheVariants as p
use Rattle.grammar.specs.Readers.{reads_pure, reads_many, reads_when, reads_either, reads_optional, sees_all, too_deep_or, reads_within, ◌>>=◌, ◌>>◌}
use Rattle.c_tree.specs.declared.sign.Sign.TheVariants.{Word, Mark}
use Rattle.c_tree.specs.declared.expression.Name.{Name}
use Rattle.c_tree.specs.declared.expression.Expression.{Expression}
use Rattle.c_tree.specs.declared.statement.SimpleStatement.{SimpleStatement}
use Rattle.c_tree.specs.declared.statement.SimpleForm.TheVariants as simple_form
use Rattle.c_tree.specs.declared.statement.Returned.{Returned}
use Rattle.c_tree.specs.declared.statement.Returned.TheVariants as returned_as
use Rattle.c_tree.specs.declared.statement.ForStart.{ForStart}
use Rattle.c_tree.specs.declared.statement.ForStart.TheVariants as start
use Rattle.c_tree.specs.declared.statement.Block.{Block}
use Rattle.c_tree.specs.declared.statement.BlockItem.{BlockItem}
use Rattle.c_tree.specs.declared.statement.BlockItem.TheVariants as block_item
use Rattle.c_tree.specs.declared.statement.Statement.{Statement}
use Rattle.c_tree.specs.declared.statement.Statement.TheVariants as st
use Rattle.c_tree.specs.declared.statement.CaseLabel.{CaseLabel}
use Rattle.c_tree.specs.declared.statement.Group.{Group}
use Rattle.c_tree.specs.declared.declaration.Declaration.{Declaration}
use Rattle.c_tree.specs.declared.declaration.Declarator.{Declarator}
use Rattle.c_tree.specs.Tokens.{is, is_type_word, is_direction}
use Rattle.c_tree.specs.Trees as tree
use Rattle.c_reading.specs.Tokens.{Reads, expect, read_name, read_specifiers, read_assignment_operator, read_direction, read_way, read_listed, begins_cast}
use Rattle.c_reading.specs.Tokens.{begins_simple, begins_compound, begins_statement, begins_item, begins_label}
use Rattle.c_reading.specs.Expressions.{read_expr, read_cast, read_argument, read_arguments, read_place, read_indices, read_null, read_converted_pointer, conversion_to_pointer_ahead}

-- one level less
abbrev pub below : ℕ → ℕ
below zero = zero
below (suc n) = n

-- ---- simple statements

module _ (level inside : ℕ) where
  unfoldable pub read_step_before : Reads SimpleStatement
  read_step_before = do
    way ← read_direction
    x ← read_place (read_expr inside) inside
    reads_pure (record { form = simple_form.Step x way.0; offset = way.1 })

  unfoldable pub read_called : Name → Reads SimpleStatement
  read_called f = do
    found ← read_arguments (read_argument inside) inside
    reads_pure (record { form = simple_form.Call (tree.call f found); offset = f.offset })

  unfoldable pub read_step_behind : Name → List Expression → Reads SimpleStatement
  read_step_behind x indices = do
    way ← read_way
    reads_pure (record { form = simple_form.Step (tree.place x indices) way; offset = x.offset })

  unfoldable pub read_assigned : Name → List Expression → Reads SimpleStatement
  read_assigned x indices = do
    op ← read_assignment_operator
    value ← read_expr level
    reads_pure (record { form = simple_form.Assign (tree.place x indices) op value; offset = x.offset })

  unfoldable pub read_changed : Name → Reads SimpleStatement
  read_changed x = do
    indices ← read_indices (read_expr inside) inside
    reads_either is_direction (read_step_behind x indices) (read_assigned x indices)

  unfoldable pub read_on_name : Reads SimpleStatement
  read_on_name = do
    x ← read_name
    reads_either (is (Mark p.OpenRound)) (read_called x) (read_changed x)

  unfoldable pub read_simple : Reads SimpleStatement
  read_simple = reads_either is_direction read_step_before read_on_name

  -- ---- declarations in a block

  unfoldable pub read_value : Reads Expression
  read_value = do
    expect (Mark p.Assign)
    x ← read_expr level
    reads_pure x

  unfoldable pub read_optional_value : Reads (Option Expression)
  read_optional_value = reads_optional (is (Mark p.Assign)) read_value

  unfoldable pub read_declarator : Reads Declarator
  read_declarator = do
    x ← read_name
    lengths ← read_indices (read_expr inside) inside
    initial ← read_optional_value
    reads_pure (record { name = x; lengths = lengths; initializer = initial })

  unfoldable pub read_declaration : Reads Declaration
  read_declaration = do
    s ← read_specifiers
    found ← read_listed read_declarator
    expect (Mark p.Semicolon)
    reads_pure (record { specifiers = s; declarators = found })

  -- ---- statements with no statement in them

  unfoldable pub read_simple_statement : Reads Statement
  read_simple_statement = do
    x ← read_simple
    expect (Mark p.Semicolon)
    reads_pure (st.Simple x)

  unfoldable pub read_returned_null : Reads Returned
  read_returned_null = do
    x ← read_null
    reads_pure (returned_as.Pointer x)

  unfoldable pub read_returned_pointer : Reads Returned
  read_returned_pointer = do
    x ← read_converted_pointer (read_cast inside) inside
    reads_pure (returned_as.Pointer x)

  unfoldable pub read_returned_value : Reads Returned
  read_returned_value = do
    x ← read_expr level
    reads_pure (returned_as.Value x)

  unfoldable pub read_returned : Reads Returned
  read_returned =
      reads_either (is (Word k.Null)) read_returned_null
      (reads_when (sees_all conversion_to_pointer_ahead) read_returned_pointer
      (reads_either begins_cast read_returned_value (reads_pure returned_as.Nothing)))

  unfoldable pub read_return : Reads Statement
  read_return = do
    at ← expect (Word k.Return)
    x ← read_returned
    expect (Mark p.Semicolon)
    reads_pure (st.Return x at)

unfoldable pub read_empty : Reads Statement
read_empty = do
  expect (Mark p.Semicolon)
  reads_pure st.Empty

unfoldable pub read_break : Reads Statement
read_break = do
  at ← expect (Word k.Break)
  expect (Mark p.Semicolon)
  reads_pure (st.Break at)

unfoldable pub read_continue : Reads Statement
read_continue = do
  at ← expect (Word k.Continue)
  expect (Mark p.Semicolon)
  reads_pure (st.Continue at)

unfoldable pub read_plain : ℕ → ℕ → Reads Statement
read_plain level inside =
    reads_either (is (Mark p.Semicolon)) read_empty
    (reads_either (is (Word k.Break)) read_break
    (reads_either (is (Word k.Continue)) read_continue
    (reads_either (is (Word k.Return)) (read_return level inside) (read_simple_statement level inside))))

-- ---- the heads of control statements

unfoldable pub read_condition : ℕ → Reads Expression
read_condition level = reads_within (is (Mark p.OpenRound)) level (do
  expect (Mark p.OpenRound)
  x ← read_expr level
  expect (Mark p.CloseRound)
  reads_pure x)

module _ (level inside : ℕ) where
  unfoldable pub read_declared_start : Reads ForStart
  read_declared_start = do
    x ← read_declaration level inside
    reads_pure (start.Declaration x)

  unfoldable pub read_simple_start : Reads ForStart
  read_simple_start = do
    x ← read_simple level inside
    expect (Mark p.Semicolon)
    reads_pure (start.Simple x)

  unfoldable pub read_no_start : Reads ForStart
  read_no_start = do
    expect (Mark p.Semicolon)
    reads_pure start.Nothing

  unfoldable pub read_for_start : Reads ForStart
  read_for_start = reads_either is_type_word read_declared_start (reads_either begins_simple read_simple_start read_no_start)

  unfoldable pub read_optional_expr : Reads (Option Expression)
  read_optional_expr = reads_optional begins_cast (read_expr level)

  unfoldable pub read_optional_simple : Reads (Option SimpleStatement)
  read_optional_simple = reads_optional begins_simple (read_simple level inside)

module _ (level : ℕ) where
  unfoldable pub read_for_step : {S C : Type 0} → S → C → Reads (S × C × Option SimpleStatement)
  read_for_step first c = do
    step ← read_optional_simple level (below level)
    expect (Mark p.CloseRound)
    reads_pure (first, c, step)

  unfoldable pub read_for_condition : {S : Type 0} → S → Reads (S × Option Expression × Option SimpleStatement)
  read_for_condition first = do
    c ← read_optional_expr level (below level)
    expect (Mark p.Semicolon)
    read_for_step first c

  unfoldable pub read_for_head : Reads (ForStart × Option Expression × Option SimpleStatement)
  read_for_head = reads_within (is (Mark p.OpenRound)) level (do
    expect (Mark p.OpenRound)
    first ← read_for_start level (below level)
    read_for_condition first)

-- ---- labels

module _ (level : ℕ) where
  unfoldable pub read_case : Reads CaseLabel
  read_case = do
    at ← expect (Word k.Case)
    x ← read_expr level
    expect (Mark p.Colon)
    reads_pure (record { value = Some x; offset = at })

  unfoldable pub read_default : Reads CaseLabel
  read_default = do
    at ← expect (Word k.Default)
    expect (Mark p.Colon)
    reads_pure (record { value = None; offset = at })

  unfoldable pub read_label : Reads CaseLabel
  read_label = reads_either (is (Word k.Case)) read_case read_default

-- ---- statements with statements in them

-- the reader of statements where so many levels are left, and the number
module _ (statement : Reads Statement) (level : ℕ) where
  unfoldable pub read_declared_item : Reads BlockItem
  read_declared_item = do
    x ← read_declaration level (below level)
    reads_pure (block_item.Declaration x)

  unfoldable pub read_statement_item : Reads BlockItem
  read_statement_item = do
    x ← statement
    reads_pure (block_item.Statement x)

  unfoldable pub read_item : Reads BlockItem
  read_item = reads_either is_type_word read_declared_item read_statement_item

  unfoldable pub read_block : Reads Block
  read_block = reads_within (is (Mark p.OpenCurly)) level (do
    expect (Mark p.OpenCurly)
    items ← reads_many begins_item read_item
    close ← expect (Mark p.CloseCurly)
    reads_pure (tree.block items close))

  unfoldable pub read_block_statement : Reads Statement
  read_block_statement = do
    x ← read_block
    reads_pure (st.Block x)

  unfoldable pub read_other : Reads (Option Statement)
  read_other = reads_optional (is (Word k.Else)) (expect (Word k.Else) >> statement)

  unfoldable pub read_branch : Reads Statement
  read_branch = do
    expect (Word k.If)
    c ← read_condition level
    body ← statement
    other ← read_other
    reads_pure (st.If c body other)

  unfoldable pub read_while : Reads Statement
  read_while = do
    expect (Word k.While)
    c ← read_condition level
    body ← statement
    reads_pure (st.While c body)

  unfoldable pub read_do : Reads Statement
  read_do = do
    expect (Word k.Do)
    body ← statement
    expect (Word k.While)
    c ← read_condition level
    expect (Mark p.Semicolon)
    reads_pure (st.DoWhile body c)

  -- the body, with what stands before it
  unfoldable pub read_with_body : {H : Type 0} → H → Reads (H × Statement)
  read_with_body head = do
    body ← statement
    reads_pure (head, body)

  unfoldable pub read_for : Reads Statement
  read_for = do
    expect (Word k.For)
    head ← read_for_head level
    x ← read_with_body head
    reads_pure (st.For x.0.0 x.0.1 x.0.2 x.1)

  unfoldable pub read_group : Reads Group
  read_group = do
    x ← read_label level
    statements ← reads_many begins_statement statement
    reads_pure (tree.group x statements)

  unfoldable pub read_groups : Reads (List Group)
  read_groups = reads_within (is (Mark p.OpenCurly)) level (do
    expect (Mark p.OpenCurly)
    found ← reads_many begins_label read_group
    expect (Mark p.CloseCurly)
    reads_pure found)

-- the readers of the statements inside and of the braces of a switch, where so many levels are left
module _ (statement : Reads Statement) (groups : Reads (List Group)) (level : ℕ) where
  unfoldable pub read_switch : Reads Statement
  read_switch = do
    at ← expect (Word k.Switch)
    x ← read_condition level
    found ← groups
    reads_pure (st.Switch x found at)

  unfoldable pub read_compound : Reads Statement
  read_compound =
      reads_either (is (Mark p.OpenCurly)) (read_block_statement statement level)
      (reads_either (is (Word k.If)) (read_branch statement level)
      (reads_either (is (Word k.While)) (read_while statement level)
      (reads_either (is (Word k.Do)) (read_do statement level)
      (reads_either (is (Word k.For)) (read_for statement level) read_switch))))

unfoldable pub read_any_statement : Reads Statement → Reads (List Group) → ℕ → ℕ → Reads Statement
read_any_statement statement groups level inside = reads_either begins_compound (read_compound statement groups inside) (read_plain level inside)

unfoldable mutual
  pub read_statement : ℕ → Reads Statement
  read_statement zero = too_deep_or (is (Mark p.OpenCurly)) begins_statement
  read_statement (suc room) = read_any_statement (read_statement room) (read_switch_body room) (suc room) room

  -- the braces of a switch, which are the body of a control statement
  pub read_switch_body : ℕ → Reads (List Group)
  read_switch_body zero = too_deep_or (is (Mark p.OpenCurly)) (is (Mark p.OpenCurly))
  read_switch_body (suc room) = read_groups (read_statement room) room
