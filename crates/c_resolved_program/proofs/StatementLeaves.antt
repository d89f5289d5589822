-- The leaves of statements are among what their tokens are, and a statement has no more declarators than tokens.
use Rattle.std.proofs.Common.{◌≡◌, sym, subst, ℕ, ◌≤◌, List, [], ◌∷◌, ◌++◌, map, length, Option, Some, None, le_trans, arith}
use Rattle.std.specs.Prelude.{◌+◌, fold, ⊤}
use Rattle.std.specs.List.{AllByRecursion}
use Rattle.c_tree.specs.declared.expression.Expression.{Expression}
use Rattle.c_tree.specs.declared.declaration.Declaration.{Declaration}
use Rattle.c_tree.specs.declared.statement.SimpleStatement.{SimpleStatement}
use Rattle.c_tree.specs.declared.statement.Returned.{Returned}
use Rattle.c_tree.specs.declared.statement.ForStart.{ForStart}
use Rattle.c_tree.specs.declared.statement.Block.{Block as BlockTree}
use Rattle.c_tree.specs.declared.statement.BlockItem.{BlockItem as BlockItemTree}
use Rattle.c_tree.specs.declared.statement.BlockItem.TheVariants as block_item
use Rattle.c_tree.specs.declared.statement.CaseLabel.{CaseLabel}
use Rattle.c_tree.specs.declared.statement.Group.{Group as GroupTree}
use Rattle.c_tree.specs.declared.statement.Statement.{Statement as StatementTree, roll-Statement}
use Rattle.c_tree.specs.declared.statement.Statement.TheVariants as st
use Rattle.c_tree.specs.declared.statement.BlockItem.TheOpen.{BlockItem-F, Statement-F}
use Rattle.c_tree.specs.declared.statement.BlockItem.TheFolds.{map-Statement, fold-roll-BlockItem, fold-roll-Statement, fold-roll-Block, fold-roll-Group}
use Rattle.c_tree.specs.Trees as tree
use Rattle.c_rules.specs.Constants.{plus}
use Rattle.c_rules.specs.Walks.{place_in_tree}
use Rattle.c_resolution.specs.Declarators.{in_start, in_item, in_statement, in_block, in_group, block_declarators, statement_declarators, item_declarators, group_declarators}
use Rattle.c_resolved_program.specs.Leaves.{Leaves, AreValid, IsValidLeaf, all_of, of_any, expression_leaves, simple_leaves}
use Rattle.c_resolved_program.specs.Leaves.{start_leaves, label_leaves, item_layer, statement_layer, block_layer, group_layer, block_leaves}
use Rattle.c_resolved_program.proofs.Lists.{all_both}
use Rattle.c_resolved_program.proofs.Walks.{IfAny}
use Rattle.c_resolved_program.proofs.Statements.{item_leaves, statement_leaves, group_leaves}
use Rattle.c_resolved_program.proofs.ExpressionGrammar.{IsExpression, all_parts}
use Rattle.c_resolved_program.proofs.SimpleLeaves.{any_part, IsSimple, IsReturned, IsDeclaration}

abbrev pub IsStatement : ℕ → StatementTree → Type 0
IsStatement n x = AreValid (statement_leaves x) × (statement_declarators x ≤ n)

abbrev pub IsItem : ℕ → BlockItemTree → Type 0
IsItem n x = AreValid (item_leaves x) × (item_declarators x ≤ n)

abbrev pub IsBlock : ℕ → BlockTree → Type 0
IsBlock n x = AreValid (block_leaves x) × (block_declarators x ≤ n)

abbrev pub IsStart : ℕ → ForStart → Type 0
IsStart n x = AreValid (start_leaves x) × (in_start x ≤ n)

plus_most : (a b m n k : ℕ) → a ≤ m → b ≤ n → m + n ≤ k → plus a b ≤ k
plus_most a b m n k h g le = grind arith

pub none_most : (n : ℕ) → 0 ≤ n
none_most n = omega arith

from_nothing : (k n : ℕ) → k ≤ 0 + n → k ≤ n
from_nothing k n h = omega arith

one_more : (x p k m n : ℕ) → x ≤ p + n → p ≤ k + m → x ≤ k + (m + n)
one_more x p k m n h g = omega arith

pub place_most : (n : ℕ) → place_in_tree n ≤ n
place_most n = grind arith

-- ---- statements by their parts

abbrev leaves_in : Statement-F BlockItemTree StatementTree BlockTree GroupTree → Statement-F Leaves Leaves Leaves Leaves
leaves_in x = map-Statement BlockItemTree StatementTree BlockTree GroupTree Leaves Leaves Leaves Leaves item_leaves statement_leaves block_leaves group_leaves x

abbrev counts_in : Statement-F BlockItemTree StatementTree BlockTree GroupTree → Statement-F ℕ ℕ ℕ ℕ
counts_in x = map-Statement BlockItemTree StatementTree BlockTree GroupTree ℕ ℕ ℕ ℕ item_declarators statement_declarators block_declarators group_declarators x

statement_is : (n : ℕ) (x : Statement-F BlockItemTree StatementTree BlockTree GroupTree) (s : StatementTree) → roll-Statement x ≡ s → AreValid (statement_layer (leaves_in x)) →
    in_statement (counts_in x) ≤ n → IsStatement n s
statement_is n x s e valid few =
    subst (IsStatement n) e (
      subst AreValid (sym (fold-roll-Statement Leaves Leaves Leaves Leaves item_layer statement_layer block_layer group_layer x)) valid,
      subst (λ k. k ≤ n) (sym (fold-roll-Statement ℕ ℕ ℕ ℕ in_item in_statement in_block in_group x)) few,
    )

-- ---- blocks

-- the items have so many declarators at most
abbrev pub CountItems : ℕ → List BlockItemTree → Type 0
CountItems n list = (k : ℕ) → fold plus k (map item_declarators list) ≤ k + n

abbrev pub AreItems : ℕ → List BlockItemTree → Type 0
AreItems n list = AllByRecursion (λ i. AreValid (item_leaves i)) list × CountItems n list

pub item_counts : (m n : ℕ) (i : BlockItemTree) (list : List BlockItemTree) → item_declarators i ≤ m → CountItems n list → CountItems (m + n) (i ∷ list)
item_counts m n i list one more k =
    let p = plus k (item_declarators i) in
    one_more (fold plus p (map item_declarators list)) p k m n (more p) (plus_most k (item_declarators i) k m (k + m) (omega arith) one (omega arith))

pub block_is : (n : ℕ) (list : List BlockItemTree) (close : ℕ) → AreItems n list → IsBlock n (tree.block list close)
block_is n list close is = (
  subst AreValid (sym (fold-roll-Block Leaves Leaves Leaves Leaves item_layer statement_layer block_layer group_layer (record { items = list; close = close }))) (all_parts item_leaves list is.0),
  subst (λ k. k ≤ n) (sym (fold-roll-Block ℕ ℕ ℕ ℕ in_item in_statement in_block in_group (record { items = list; close = close })))
      (from_nothing (fold plus 0 (map item_declarators list)) n (is.1 0)),
)

pub declaration_item : (n : ℕ) (d : Declaration) → IsDeclaration n d → IsItem n (block_item.Declaration d)
declaration_item n d is =
    subst (IsItem n) (block_item.rolls-Declaration d) (
      subst AreValid (sym (fold-roll-BlockItem Leaves Leaves Leaves Leaves item_layer statement_layer block_layer group_layer (BlockItem-F.Declaration d))) is.0,
      subst (λ k. k ≤ n) (sym (fold-roll-BlockItem ℕ ℕ ℕ ℕ in_item in_statement in_block in_group (BlockItem-F.Declaration d)))
          (le_trans (place_most (length d.declarators)) is.1),
    )

pub statement_item : (n : ℕ) (s : StatementTree) → IsStatement n s → IsItem n (block_item.Statement s)
statement_item n s is =
    subst (IsItem n) (block_item.rolls-Statement s) (
      subst AreValid (sym (fold-roll-BlockItem Leaves Leaves Leaves Leaves item_layer statement_layer block_layer group_layer (BlockItem-F.Statement s))) is.0,
      subst (λ k. k ≤ n) (sym (fold-roll-BlockItem ℕ ℕ ℕ ℕ in_item in_statement in_block in_group (BlockItem-F.Statement s))) is.1,
    )

-- ---- statements

pub empty_is : (n : ℕ) → IsStatement n st.Empty
empty_is n = statement_is n Statement-F.Empty st.Empty st.rolls-Empty tt (none_most n)

pub simple_is : (n : ℕ) (x : SimpleStatement) → IsSimple x → IsStatement n (st.Simple x)
simple_is n x is =
    statement_is n (Statement-F.Simple x) (st.Simple x) (st.rolls-Simple x) is (none_most n)

pub break_is : (n at : ℕ) → IsStatement n (st.Break at)
break_is n at = statement_is n (Statement-F.Break at) (st.Break at) (st.rolls-Break at) tt (none_most n)

pub continue_is : (n at : ℕ) → IsStatement n (st.Continue at)
continue_is n at =
    statement_is n (Statement-F.Continue at) (st.Continue at) (st.rolls-Continue at) tt (none_most n)

pub return_is : (n : ℕ) (x : Returned) (at : ℕ) → IsReturned x → IsStatement n (st.Return x at)
return_is n x at is =
    statement_is n (Statement-F.Return x at) (st.Return x at) (st.rolls-Return x at) is (none_most n)

pub block_statement_is : (n m : ℕ) (b : BlockTree) → m ≤ n → IsBlock m b → IsStatement n (st.Block b)
block_statement_is n m b le is =
    statement_is n (Statement-F.Block b) (st.Block b) (st.rolls-Block b) is.0 (le_trans is.1 le)

-- what stands behind an else, if it is there
abbrev pub IsElse : ℕ → Option StatementTree → Type 0
IsElse n None = ⊤
IsElse n (Some s) = IsStatement n s

pub if_is : (n m k : ℕ) (c : Expression) (body : StatementTree) (other : Option StatementTree) → m + k ≤ n → IsExpression c → IsStatement m body → IsElse k other →
    IsStatement n (st.If c body other)
if_is n m k c body None le test is else_is =
    statement_is n (Statement-F.If c body None) (st.If c body None) (st.rolls-If c body None)
    (all_both IsValidLeaf (expression_leaves c) (statement_leaves body ++ []) test (all_both IsValidLeaf (statement_leaves body) [] is.0 tt))
    (plus_most (statement_declarators body) 0 m k n is.1 (none_most k) le)
if_is n m k c body (Some other) le test is else_is =
    statement_is n (Statement-F.If c body (Some other)) (st.If c body (Some other)) (st.rolls-If c body (Some other))
    (all_both IsValidLeaf (expression_leaves c) (statement_leaves body ++ statement_leaves other) test (all_both IsValidLeaf (statement_leaves body) (statement_leaves other) is.0 else_is.0))
    (plus_most (statement_declarators body) (statement_declarators other) m k n is.1 else_is.1 le)

pub while_is : (n m : ℕ) (c : Expression) (body : StatementTree) → m ≤ n → IsExpression c → IsStatement m body → IsStatement n (st.While c body)
while_is n m c body le test is =
    statement_is n (Statement-F.While c body) (st.While c body) (st.rolls-While c body) (all_both IsValidLeaf (expression_leaves c) (statement_leaves body) test is.0)
    (le_trans is.1 le)

pub do_is : (n m : ℕ) (body : StatementTree) (c : Expression) → m ≤ n → IsStatement m body → IsExpression c → IsStatement n (st.DoWhile body c)
do_is n m body c le is test =
    statement_is n (Statement-F.DoWhile body c) (st.DoWhile body c) (st.rolls-DoWhile body c) (all_both IsValidLeaf (statement_leaves body) (expression_leaves c) is.0 test)
    (le_trans is.1 le)

pub for_is : (n m k : ℕ) (begin : ForStart) (c : Option Expression) (step : Option SimpleStatement) (body : StatementTree) → m + k ≤ n → IsStart m begin → IfAny IsExpression c →
    IfAny IsSimple step → IsStatement k body → IsStatement n (st.For begin c step body)
for_is n m k begin c step body le first test last is =
    let tail = of_any simple_leaves step ++ statement_leaves body in
    statement_is n (Statement-F.For begin c step body) (st.For begin c step body) (st.rolls-For begin c step body)
    (all_both IsValidLeaf (start_leaves begin) (of_any expression_leaves c ++ tail) first.0
    (all_both IsValidLeaf (of_any expression_leaves c) tail (any_part expression_leaves c test)
    (all_both IsValidLeaf (of_any simple_leaves step) (statement_leaves body) (any_part simple_leaves step last) is.0)))
    (plus_most (in_start begin) (statement_declarators body) m k n first.1 is.1 le)

-- ---- switches

abbrev pub IsLabel : CaseLabel → Type 0
IsLabel x = AreValid (label_leaves x)

abbrev pub IsGroup : ℕ → GroupTree → Type 0
IsGroup n x = AreValid (group_leaves x) × (group_declarators x ≤ n)

-- parts with so many declarators at most
abbrev Counts : {A : Type 0} → (A → ℕ) → ℕ → List A → Type 0
Counts count n list = (k : ℕ) → fold plus k (map count list) ≤ k + n

counts_more : {A : Type 0} (count : A → ℕ) (m n : ℕ) (a : A) (list : List A) → count a ≤ m → Counts count n list → Counts count (m + n) (a ∷ list)
counts_more count m n a list one more k =
    let p = plus k (count a) in
    one_more (fold plus p (map count list)) p k m n (more p) (plus_most k (count a) k m (k + m) (omega arith) one (omega arith))

abbrev pub AreStatements : ℕ → List StatementTree → Type 0
AreStatements n list = AllByRecursion (λ i. AreValid (statement_leaves i)) list × Counts statement_declarators n list

pub statements_more : (m n : ℕ) (x : StatementTree) (list : List StatementTree) → IsStatement m x → AreStatements n list → AreStatements (m + n) (x ∷ list)
statements_more m n x list one more = ((one.0, more.0), counts_more statement_declarators m n x list one.1 more.1)

abbrev pub AreGroups : ℕ → List GroupTree → Type 0
AreGroups n list = AllByRecursion (λ i. AreValid (group_leaves i)) list × Counts group_declarators n list

pub groups_more : (m n : ℕ) (x : GroupTree) (list : List GroupTree) → IsGroup m x → AreGroups n list → AreGroups (m + n) (x ∷ list)
groups_more m n x list one more = ((one.0, more.0), counts_more group_declarators m n x list one.1 more.1)

pub group_is : (n : ℕ) (label : CaseLabel) (list : List StatementTree) → IsLabel label → AreStatements n list → IsGroup n (tree.group label list)
group_is n label list is all = (
  subst AreValid (sym (fold-roll-Group Leaves Leaves Leaves Leaves item_layer statement_layer block_layer group_layer (record { label = label; statements = list })))
      (all_both IsValidLeaf (label_leaves label) (all_of (map statement_leaves list)) is (all_parts statement_leaves list all.0)),
  subst (λ k. k ≤ n) (sym (fold-roll-Group ℕ ℕ ℕ ℕ in_item in_statement in_block in_group (record { label = label; statements = list })))
      (from_nothing (fold plus 0 (map statement_declarators list)) n (all.1 0)),
)

pub switch_is : (n m : ℕ) (c : Expression) (list : List GroupTree) (at : ℕ) → m ≤ n → IsExpression c → AreGroups m list → IsStatement n (st.Switch c list at)
switch_is n m c list at le test all =
    statement_is n (Statement-F.Switch c list at) (st.Switch c list at) (st.rolls-Switch c list at)
    (all_both IsValidLeaf (expression_leaves c) (all_of (map group_leaves list)) test (all_parts group_leaves list all.0))
    (le_trans (from_nothing (fold plus 0 (map group_declarators list)) m (all.1 0)) le)
