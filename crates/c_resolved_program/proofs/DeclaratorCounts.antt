-- A body declares at most as many locals as it has declarators, where these can be counted.
use Rattle.std.proofs.Common.{◌≡◌, sym, subst, ℕ, ◌<◌, ◌≤◌, List, [], ◌∷◌, map, length, Some, None, le_trans, arith}
use Rattle.std.specs.Prelude.{◌+◌, fold}
use denote.Hole.Holds.{Such}
use Rattle.c_tree.specs.declared.statement.ForStart.{ForStart}
use Rattle.c_tree.specs.declared.statement.ForStart.TheVariants as start
use Rattle.c_tree.specs.declared.statement.Block.{Block as BlockTree, roll-Block}
use Rattle.c_tree.specs.declared.statement.BlockItem.{BlockItem as BlockItemTree, roll-BlockItem}
use Rattle.c_tree.specs.declared.statement.Group.{Group as GroupTree, roll-Group}
use Rattle.c_tree.specs.declared.statement.Statement.{Statement as StatementTree, roll-Statement}
use Rattle.hls_ints.specs.Types.{IntegerType}
use Rattle.c_tree.specs.declared.statement.BlockItem.TheOpen.{Block-F, BlockItem-F, Group-F, Statement-F}
use Rattle.c_tree.specs.declared.statement.BlockItem.TheBlock.{the_family, member-BlockItem, member-Statement, member-Block, member-Group}
use Rattle.c_tree.specs.declared.statement.BlockItem.TheFolds.{claims, map-BlockItem, map-Statement, map-Block, map-Group}
use Rattle.c_tree.specs.declared.statement.BlockItem.TheFolds.{fold-roll-BlockItem, fold-roll-Statement, fold-roll-Block, fold-roll-Group, ind-Block}
use Rattle.c_program.specs.Tree.{Statement}
use Rattle.c_rules.specs.Constants.{plus}
use Rattle.c_rules.specs.Walks.{Outcome, pure, and_then, through, place_in_tree}
use Rattle.c_resolution.specs.Declarators.{in_start, in_item, in_statement, in_block, in_group, block_declarators, statement_declarators, item_declarators, group_declarators}
use Rattle.c_resolution.specs.Locals.{declaration}
use Rattle.c_expressions.specs.Sequences.{sequence}
use Rattle.c_resolution.specs.Simple.{simple, returned}
use Rattle.c_resolution.specs.States.{State, Goes, finding}
use Rattle.c_resolution.specs.Statements as y
use Rattle.c_resolution.specs.Statements.{Adds, Groups, item_step, statement_step, block_step, group_step, item, statement, items, group}
use Rattle.c_resolved_program.proofs.LocalCounts.{Grows, grows_pure, grows_finding, declaration_grows, locals_behind}
use Rattle.c_resolved_program.proofs.StatementCounts as w
use Rattle.c_resolved_program.proofs.Maxima.{below_of}

abbrev most : ℕ
most = 0xffff_ffff

-- ---- counts that do not reach the most

pub record IsSum (a b : ℕ) : Type 0 where
  pub first : a < most
  pub second : b < most
  pub sum : plus a b ≡ a + b

pub counted : (a b : ℕ) → plus a b < most → IsSum a b
counted a b lt = record { first = grind arith; second = grind arith; sum = grind arith }

placed : (n : ℕ) → place_in_tree n < most → place_in_tree n ≡ n
placed n lt = grind arith

plus_least : (a b : ℕ) → a ≤ most → a ≤ plus a b
plus_least a b le = grind arith

plus_top : (a b : ℕ) → plus a b ≤ most
plus_top a b = grind arith

fold_least : (list : List ℕ) (k : ℕ) → k ≤ most → k ≤ fold plus k list
fold_least [] k le = omega arith
fold_least (n ∷ list) k le =
    le_trans (plus_least k n le) (fold_least list (plus k n) (plus_top k n))

from_sum : (p a b : ℕ) → p ≡ a + b → a + b ≤ p
from_sum p a b is = omega arith

one_more : (a l l' f p k n : ℕ) → a + p ≤ l + f → l ≤ l' + n → p ≡ k + n → a + k ≤ l' + f
one_more a l l' f p k n next first sum = omega arith

from_nothing : (a l f : ℕ) → a + 0 ≤ l + f → a ≤ l + f
from_nothing a l f h = omega arith

-- ---- the head of a for

start_grows : (x : ForStart) → in_start x < most → Grows (in_start x) (y.for_start x)
start_grows start.Nothing lt = grows_pure Statement.Done
start_grows (start.Simple x) lt = grows_finding (λ s. simple s x)
start_grows (start.Declaration d) lt =
    subst (λ n. Grows n (y.declared_start d)) (sym (placed (length d.declarators) lt)) (w.declared_start_grows d)

-- ---- each tree

abbrev ClaimBlockItem : BlockItemTree → Type 0
ClaimBlockItem x = item_declarators x < most → (steps : List Statement) → Grows (item_declarators x) (item x steps)

abbrev ClaimStatement : StatementTree → Type 0
ClaimStatement x = statement_declarators x < most → Grows (statement_declarators x) (statement x)

abbrev ClaimBlock : BlockTree → Type 0
ClaimBlock x = block_declarators x < most → Grows (block_declarators x) (items x)

abbrev ClaimGroup : GroupTree → Type 0
ClaimGroup x = group_declarators x < most → (ty : IntegerType) (c : y.Cases) → Grows (group_declarators x) (group x ty c)

abbrev SomeBlockItem : Type 0
SomeBlockItem = Such the_family (claims ClaimBlockItem ClaimStatement ClaimBlock ClaimGroup) member-BlockItem

abbrev SomeStatement : Type 0
SomeStatement = Such the_family (claims ClaimBlockItem ClaimStatement ClaimBlock ClaimGroup) member-Statement

abbrev SomeBlock : Type 0
SomeBlock = Such the_family (claims ClaimBlockItem ClaimStatement ClaimBlock ClaimGroup) member-Block

abbrev SomeGroup : Type 0
SomeGroup = Such the_family (claims ClaimBlockItem ClaimStatement ClaimBlock ClaimGroup) member-Group

abbrev seen_group : Group-F SomeBlockItem SomeStatement SomeBlock SomeGroup → Group-F BlockItemTree StatementTree BlockTree GroupTree
seen_group x = map-Group SomeBlockItem SomeStatement SomeBlock SomeGroup BlockItemTree StatementTree BlockTree GroupTree (λ e. e.0) (λ e. e.0) (λ e. e.0) (λ e. e.0) x

abbrev parts_in_group : Group-F BlockItemTree StatementTree BlockTree GroupTree → Group-F Adds (Goes Statement) (Goes Statement) Groups
parts_in_group x = map-Group BlockItemTree StatementTree BlockTree GroupTree Adds (Goes Statement) (Goes Statement) Groups item statement items group x

abbrev counts_in_group : Group-F BlockItemTree StatementTree BlockTree GroupTree → Group-F ℕ ℕ ℕ ℕ
counts_in_group x = map-Group BlockItemTree StatementTree BlockTree GroupTree ℕ ℕ ℕ ℕ item_declarators statement_declarators block_declarators group_declarators x

abbrev seen_item : BlockItem-F SomeBlockItem SomeStatement SomeBlock SomeGroup → BlockItem-F BlockItemTree StatementTree BlockTree GroupTree
seen_item x = map-BlockItem SomeBlockItem SomeStatement SomeBlock SomeGroup BlockItemTree StatementTree BlockTree GroupTree (λ e. e.0) (λ e. e.0) (λ e. e.0) (λ e. e.0) x

abbrev parts_in_item : BlockItem-F BlockItemTree StatementTree BlockTree GroupTree → BlockItem-F Adds (Goes Statement) (Goes Statement) Groups
parts_in_item x = map-BlockItem BlockItemTree StatementTree BlockTree GroupTree Adds (Goes Statement) (Goes Statement) Groups item statement items group x

abbrev counts_in_item : BlockItem-F BlockItemTree StatementTree BlockTree GroupTree → BlockItem-F ℕ ℕ ℕ ℕ
counts_in_item x = map-BlockItem BlockItemTree StatementTree BlockTree GroupTree ℕ ℕ ℕ ℕ item_declarators statement_declarators block_declarators group_declarators x

abbrev seen_statement : Statement-F SomeBlockItem SomeStatement SomeBlock SomeGroup → Statement-F BlockItemTree StatementTree BlockTree GroupTree
seen_statement x = map-Statement SomeBlockItem SomeStatement SomeBlock SomeGroup BlockItemTree StatementTree BlockTree GroupTree (λ e. e.0) (λ e. e.0) (λ e. e.0) (λ e. e.0) x

abbrev parts_in_statement : Statement-F BlockItemTree StatementTree BlockTree GroupTree → Statement-F Adds (Goes Statement) (Goes Statement) Groups
parts_in_statement x = map-Statement BlockItemTree StatementTree BlockTree GroupTree Adds (Goes Statement) (Goes Statement) Groups item statement items group x

abbrev counts_in_statement : Statement-F BlockItemTree StatementTree BlockTree GroupTree → Statement-F ℕ ℕ ℕ ℕ
counts_in_statement x = map-Statement BlockItemTree StatementTree BlockTree GroupTree ℕ ℕ ℕ ℕ item_declarators statement_declarators block_declarators group_declarators x

abbrev seen_block : Block-F SomeBlockItem SomeStatement SomeBlock SomeGroup → Block-F BlockItemTree StatementTree BlockTree GroupTree
seen_block x = map-Block SomeBlockItem SomeStatement SomeBlock SomeGroup BlockItemTree StatementTree BlockTree GroupTree (λ e. e.0) (λ e. e.0) (λ e. e.0) (λ e. e.0) x

abbrev parts_in_block : Block-F BlockItemTree StatementTree BlockTree GroupTree → Block-F Adds (Goes Statement) (Goes Statement) Groups
parts_in_block x = map-Block BlockItemTree StatementTree BlockTree GroupTree Adds (Goes Statement) (Goes Statement) Groups item statement items group x

abbrev counts_in_block : Block-F BlockItemTree StatementTree BlockTree GroupTree → Block-F ℕ ℕ ℕ ℕ
counts_in_block x = map-Block BlockItemTree StatementTree BlockTree GroupTree ℕ ℕ ℕ ℕ item_declarators statement_declarators block_declarators group_declarators x

item_case : (x : BlockItem-F SomeBlockItem SomeStatement SomeBlock SomeGroup) → in_item (counts_in_item (seen_item x)) < most → (steps : List Statement) →
    Grows (in_item (counts_in_item (seen_item x))) (item_step (parts_in_item (seen_item x)) steps)
item_case (BlockItem-F.Declaration d) lt steps = subst (λ n. Grows n (declaration steps d)) (sym (placed (length d.declarators) lt)) (declaration_grows steps d)
item_case (BlockItem-F.Statement x) lt steps = w.with_step_grows (statement_declarators x.0) (statement x.0) steps (x.1 lt)

-- the items of a block, with a count from k on
items_grow : (list : List SomeBlockItem) (k : ℕ) (o : Outcome State (List Statement)) → fold plus k (map item_declarators (map (λ e. e.0) list)) < most →
    locals_behind (fold (λ o add. and_then o (λ steps. add steps)) o (map item (map (λ e. e.0) list))) + k
    ≤ locals_behind o + fold plus k (map item_declarators (map (λ e. e.0) list))
items_grow [] k o lt = omega arith
items_grow (x ∷ list) k (Outcome.Gives steps s) lt =
    let n = item_declarators x.0 in
    let counts = map item_declarators (map (λ e. e.0) list) in
    let o = item x.0 steps s in
    let behind = fold (λ o add. and_then o (λ steps. add steps)) o (map item (map (λ e. e.0) list)) in
    let is = counted k n (below_of (plus k n) (fold plus (plus k n) counts) most (fold_least counts (plus k n) (plus_top k n)) lt) in
    one_more (locals_behind behind) (locals_behind o) (length s.scope.locals) (fold plus (plus k n) counts) (plus k n) k n
    (items_grow list (plus k n) o lt) (x.1 is.second steps s) is.sum

block_case : (x : Block-F SomeBlockItem SomeStatement SomeBlock SomeGroup) → in_block (counts_in_block (seen_block x)) < most →
    Grows (in_block (counts_in_block (seen_block x))) (block_step (parts_in_block (seen_block x)))
block_case x lt =
    let n = in_block (counts_in_block (seen_block x)) in
    w.in_turn n n 0 (y.block_items (map item (map (λ e. e.0) x.items))) (λ steps. pure (sequence steps)) (omega arith)
    (λ s. from_nothing (locals_behind (y.block_items (map item (map (λ e. e.0) x.items)) s)) (length s.scope.locals) n (items_grow x.items 0 (Outcome.Gives [] s) lt))
    (λ steps. grows_pure (sequence steps))

-- the groups of a switch, with a count from k on
groups_grow : (ty : IntegerType) (list : List SomeGroup) (k : ℕ) (o : Outcome State y.Cases) → fold plus k (map group_declarators (map (λ g. g.0) list)) < most →
    locals_behind (fold (λ o (g : Groups). and_then o (λ c. g ty c)) o (map group (map (λ g. g.0) list))) + k
    ≤ locals_behind o + fold plus k (map group_declarators (map (λ g. g.0) list))
groups_grow ty [] k o lt = omega arith
groups_grow ty (x ∷ list) k (Outcome.Gives c s) lt =
    let n = group_declarators x.0 in
    let counts = map group_declarators (map (λ g. g.0) list) in
    let o = group x.0 ty c s in
    let behind = fold (λ o (g : Groups). and_then o (λ c. g ty c)) o (map group (map (λ g. g.0) list)) in
    let is = counted k n (below_of (plus k n) (fold plus (plus k n) counts) most (fold_least counts (plus k n) (plus_top k n)) lt) in
    one_more (locals_behind behind) (locals_behind o) (length s.scope.locals) (fold plus (plus k n) counts) (plus k n) k n
    (groups_grow ty list (plus k n) o lt) (x.1 is.second ty c s) is.sum

statement_case : (x : Statement-F SomeBlockItem SomeStatement SomeBlock SomeGroup) → in_statement (counts_in_statement (seen_statement x)) < most →
    Grows (in_statement (counts_in_statement (seen_statement x))) (statement_step (parts_in_statement (seen_statement x)))
statement_case (Statement-F.Block body) lt = w.block_statement_grows (block_declarators body.0) (items body.0) (body.1 lt)
statement_case Statement-F.Empty lt = grows_pure Statement.Empty
statement_case (Statement-F.Simple x) lt = grows_finding (λ s. simple s x)
statement_case (Statement-F.Break at) lt = w.break_grows at
statement_case (Statement-F.Continue at) lt = w.continue_grows at
statement_case (Statement-F.If test consequent None) lt =
    let n = statement_declarators consequent.0 in
    let is = counted n 0 lt in
    w.branch_grows (plus n 0) n 0 test (statement consequent.0) None (from_sum (plus n 0) n 0 is.sum) (consequent.1 is.first) (grows_pure Statement.Done)
statement_case (Statement-F.If test consequent (Some alternative)) lt =
    let n = statement_declarators consequent.0 in
    let k = statement_declarators alternative.0 in
    let is = counted n k lt in
    w.branch_grows (plus n k) n k test (statement consequent.0) (Some (statement alternative.0)) (from_sum (plus n k) n k is.sum) (consequent.1 is.first)
    (alternative.1 is.second)
statement_case (Statement-F.While test body) lt = w.while_loop_grows (statement_declarators body.0) test (statement body.0) (body.1 lt)
statement_case (Statement-F.DoWhile body test) lt = w.do_while_grows (statement_declarators body.0) (statement body.0) test (body.1 lt)
statement_case (Statement-F.For begin test step body) lt =
    let n = in_start begin in
    let k = statement_declarators body.0 in
    let is = counted n k lt in
    w.for_loop_grows (plus n k) n k begin test step (statement body.0) (from_sum (plus n k) n k is.sum) (start_grows begin is.first) (body.1 is.second)
statement_case (Statement-F.Return x at) lt = grows_finding (λ s. returned s x at)
statement_case (Statement-F.Switch e groups at) lt =
    let n = fold plus 0 (map group_declarators (map (λ g. g.0) groups)) in
    w.switch_grows n e (map group (map (λ g. g.0) groups)) (place_in_tree at)
    (λ ty s. from_nothing (locals_behind (through (λ c (g : Groups). g ty c) y.no_cases (map group (map (λ g. g.0) groups)) s)) (length s.scope.locals) n
    (groups_grow ty groups 0 (Outcome.Gives y.no_cases s) lt))

-- the statements of a group, with a count from k on
statements_grow : (list : List SomeStatement) (k : ℕ) (o : Outcome State y.Cases) → fold plus k (map statement_declarators (map (λ e. e.0) list)) < most →
    locals_behind (fold (λ o w. and_then o (λ c. y.next_statement c w)) o (map statement (map (λ e. e.0) list))) + k
    ≤ locals_behind o + fold plus k (map statement_declarators (map (λ e. e.0) list))
statements_grow [] k o lt = omega arith
statements_grow (x ∷ list) k (Outcome.Gives c s) lt =
    let n = statement_declarators x.0 in
    let counts = map statement_declarators (map (λ e. e.0) list) in
    let o = y.next_statement c (statement x.0) s in
    let behind = fold (λ o w. and_then o (λ c. y.next_statement c w)) o (map statement (map (λ e. e.0) list)) in
    let is = counted k n (below_of (plus k n) (fold plus (plus k n) counts) most (fold_least counts (plus k n) (plus_top k n)) lt) in
    one_more (locals_behind behind) (locals_behind o) (length s.scope.locals) (fold plus (plus k n) counts) (plus k n) k n
    (statements_grow list (plus k n) o lt) (w.next_statement_grows n c (statement x.0) (x.1 is.second) s) is.sum

group_case : (x : Group-F SomeBlockItem SomeStatement SomeBlock SomeGroup) → in_group (counts_in_group (seen_group x)) < most → (ty : IntegerType) (c : y.Cases) →
    Grows (in_group (counts_in_group (seen_group x))) (group_step (parts_in_group (seen_group x)) ty c)
group_case x lt ty c =
    let n = in_group (counts_in_group (seen_group x)) in
    let list = map statement (map (λ e. e.0) x.statements) in
    w.in_turn n 0 n (finding (y.label ty x.label c)) (λ d. through y.next_statement d list) (omega arith) (grows_finding (y.label ty x.label c))
    (λ d s. from_nothing (locals_behind (through y.next_statement d list s)) (length s.scope.locals) n (statements_grow x.statements 0 (Outcome.Gives d s) lt))

item_induct : (x : BlockItem-F BlockItemTree StatementTree BlockTree GroupTree) (t : BlockItem-F SomeBlockItem SomeStatement SomeBlock SomeGroup) → seen_item t ≡ x → ClaimBlockItem (roll-BlockItem x)
item_induct x t e = subst (λ k. ClaimBlockItem (roll-BlockItem k)) e
    (subst (λ (n : ℕ). n < most → (steps : List Statement) → Grows n (item (roll-BlockItem (seen_item t)) steps))
    (sym (fold-roll-BlockItem ℕ ℕ ℕ ℕ in_item in_statement in_block in_group (seen_item t)))
    (subst (λ (v : Adds). in_item (counts_in_item (seen_item t)) < most → (steps : List Statement) → Grows (in_item (counts_in_item (seen_item t))) (v steps))
    (sym (fold-roll-BlockItem Adds (Goes Statement) (Goes Statement) Groups item_step statement_step block_step group_step (seen_item t))) (item_case t)))

statement_induct : (x : Statement-F BlockItemTree StatementTree BlockTree GroupTree) (t : Statement-F SomeBlockItem SomeStatement SomeBlock SomeGroup) → seen_statement t ≡ x → ClaimStatement
    (roll-Statement x)
statement_induct x t e = subst (λ k. ClaimStatement (roll-Statement k)) e
    (subst (λ (n : ℕ). n < most → Grows n (statement (roll-Statement (seen_statement t)))) (sym (fold-roll-Statement ℕ ℕ ℕ ℕ in_item in_statement in_block in_group (seen_statement t)))
    (subst (λ (v : Goes Statement). in_statement (counts_in_statement (seen_statement t)) < most → Grows (in_statement (counts_in_statement (seen_statement t))) v)
    (sym (fold-roll-Statement Adds (Goes Statement) (Goes Statement) Groups item_step statement_step block_step group_step (seen_statement t))) (statement_case t)))

block_induct : (x : Block-F BlockItemTree StatementTree BlockTree GroupTree) (t : Block-F SomeBlockItem SomeStatement SomeBlock SomeGroup) → seen_block t ≡ x → ClaimBlock (roll-Block x)
block_induct x t e = subst (λ k. ClaimBlock (roll-Block k)) e
    (subst (λ (n : ℕ). n < most → Grows n (items (roll-Block (seen_block t)))) (sym (fold-roll-Block ℕ ℕ ℕ ℕ in_item in_statement in_block in_group (seen_block t)))
    (subst (λ (v : Goes Statement). in_block (counts_in_block (seen_block t)) < most → Grows (in_block (counts_in_block (seen_block t))) v)
    (sym (fold-roll-Block Adds (Goes Statement) (Goes Statement) Groups item_step statement_step block_step group_step (seen_block t))) (block_case t)))

group_induct : (x : Group-F BlockItemTree StatementTree BlockTree GroupTree) (t : Group-F SomeBlockItem SomeStatement SomeBlock SomeGroup) → seen_group t ≡ x → ClaimGroup (roll-Group x)
group_induct x t e = subst (λ k. ClaimGroup (roll-Group k)) e
    (subst (λ (n : ℕ). n < most → (ty : IntegerType) (c : y.Cases) → Grows n (group (roll-Group (seen_group t)) ty c))
    (sym (fold-roll-Group ℕ ℕ ℕ ℕ in_item in_statement in_block in_group (seen_group t)))
    (subst (λ (v : Groups). in_group (counts_in_group (seen_group t)) < most → (ty : IntegerType) (c : y.Cases) → Grows (in_group (counts_in_group (seen_group t))) (v ty c))
    (sym (fold-roll-Group Adds (Goes Statement) (Goes Statement) Groups item_step statement_step block_step group_step (seen_group t))) (group_case t)))

pub body_grows : (x : BlockTree) → block_declarators x < most → Grows (block_declarators x) (items x)
body_grows = ind-Block ClaimBlockItem ClaimStatement ClaimBlock ClaimGroup item_induct statement_induct block_induct group_induct
