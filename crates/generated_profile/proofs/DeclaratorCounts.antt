-- How many declarators the bodies of a generated text have: those of the opening of the worker, and that of main's counter.
use Rattle.std.proofs.Common.{◌≡◌, ℕ, List, [], ◌∷◌, ◌++◌, map, length, None, refl, ap, sym, ◌∙◌}
use Rattle.std.specs.Prelude.{fold, Option}
use Rattle.c_tree.specs.declared.declaration.Declaration.{Declaration}
use Rattle.c_tree.specs.declared.expression.Expression.{Expression as ExpressionTree}
use Rattle.c_tree.specs.declared.statement.SimpleStatement.{SimpleStatement}
use Rattle.c_tree.specs.declared.statement.Returned.{Returned}
use Rattle.c_tree.specs.declared.statement.ForStart.TheVariants as start
use Rattle.c_tree.specs.declared.statement.Block.{Block}
use Rattle.c_tree.specs.declared.statement.BlockItem.{BlockItem}
use Rattle.c_tree.specs.declared.statement.BlockItem.TheVariants as block_item
use Rattle.c_tree.specs.declared.statement.BlockItem.TheOpen.{BlockItem-F, Statement-F}
use Rattle.c_tree.specs.declared.statement.BlockItem.TheFolds.{fold-roll-BlockItem, fold-roll-Statement, fold-roll-Block}
use Rattle.c_tree.specs.declared.statement.Statement.{Statement as StatementTree}
use Rattle.c_tree.specs.declared.statement.Statement.TheVariants as st
use Rattle.c_tree.specs.Trees as tree
use Rattle.c_rules.specs.Constants.{plus}
use Rattle.c_rules.specs.Walks.{place_in_tree}
use Rattle.c_resolution.specs.Declarators.{in_item, in_statement, in_block, in_group, block_declarators, statement_declarators, item_declarators}
use Rattle.generated_text.specs.declared.draws.Letter.{Letter}
use Rattle.generated_text.specs.declared.draws.Kind.{Kind as LineKind}
use Rattle.generated_text.specs.declared.draws.Kind.TheVariants.{Sum, Difference, Product, ExclusiveOr, Quotient, Raise, Publish, Add}
use Rattle.generated_text.specs.declared.draws.Line.{Line}
use Rattle.c_lexer.specs.Texts.{tokens}
use Rattle.generated_profile.proofs.LineReading.{items_of}
use Rattle.generated_profile.proofs.Pieces as ps
use Rattle.generated_profile.proofs.Placed.{place_in}
use Rattle.generated_profile.proofs.Splitting.{behind}
use Rattle.generated_profile.proofs.Trees as tr

-- ---- the parts of a body

statement_count : (x : StatementTree) → item_declarators (block_item.Statement x) ≡ statement_declarators x
statement_count x =
    ap item_declarators (sym (block_item.rolls-Statement x))
    ∙ fold-roll-BlockItem ℕ ℕ ℕ ℕ in_item in_statement in_block in_group (BlockItem-F.Statement x)

declaration_count : (d : Declaration) → item_declarators (block_item.Declaration d) ≡ place_in_tree (length d.declarators)
declaration_count d =
    ap item_declarators (sym (block_item.rolls-Declaration d))
    ∙ fold-roll-BlockItem ℕ ℕ ℕ ℕ in_item in_statement in_block in_group (BlockItem-F.Declaration d)

simple_count : (x : SimpleStatement) → item_declarators (block_item.Statement (st.Simple x)) ≡ 0
simple_count x =
    statement_count (st.Simple x)
    ∙ ap statement_declarators (sym (st.rolls-Simple x))
    ∙ fold-roll-Statement ℕ ℕ ℕ ℕ in_item in_statement in_block in_group (Statement-F.Simple x)

return_count : (x : Returned) (at : ℕ) → item_declarators (block_item.Statement (st.Return x at)) ≡ 0
return_count x at =
    statement_count (st.Return x at)
    ∙ ap statement_declarators (sym (st.rolls-Return x at))
    ∙ fold-roll-Statement ℕ ℕ ℕ ℕ in_item in_statement in_block in_group (Statement-F.Return x at)

inner_count : (b : Block) → statement_declarators (st.Block b) ≡ block_declarators b
inner_count b =
    ap statement_declarators (sym (st.rolls-Block b))
    ∙ fold-roll-Statement ℕ ℕ ℕ ℕ in_item in_statement in_block in_group (Statement-F.Block b)

block_count : (list : List BlockItem) (close : ℕ) → block_declarators (tree.block list close) ≡ fold plus 0 (map item_declarators list)
block_count list close = fold-roll-Block ℕ ℕ ℕ ℕ in_item in_statement in_block in_group (record { items = list; close = close })

-- a block of one simple statement
one_count : (x : SimpleStatement) (close : ℕ) → statement_declarators (st.Block (tree.block (block_item.Statement (st.Simple x) ∷ []) close)) ≡ 0
one_count x close =
    inner_count (tree.block (block_item.Statement (st.Simple x) ∷ []) close)
    ∙ block_count (block_item.Statement (st.Simple x) ∷ []) close
    ∙ ap (plus 0) (simple_count x)

if_count : (test : ExpressionTree) (x : SimpleStatement) (close : ℕ) →
    item_declarators (block_item.Statement (st.If test (st.Block (tree.block (block_item.Statement (st.Simple x) ∷ []) close)) None)) ≡ 0
if_count test x close =
    let body : StatementTree = st.Block (tree.block (block_item.Statement (st.Simple x) ∷ []) close) in
    statement_count (st.If test body None)
    ∙ ap statement_declarators (sym (st.rolls-If test body None))
    ∙ fold-roll-Statement ℕ ℕ ℕ ℕ in_item in_statement in_block in_group (Statement-F.If test body None)
    ∙ ap (λ (n : ℕ). plus n 0) (one_count x close)

loop_count : (first : SimpleStatement) (test : Option ExpressionTree) (last : Option SimpleStatement) (x : SimpleStatement) (close : ℕ) →
    item_declarators (block_item.Statement (st.For (start.Simple first) test last (st.Block (tree.block (block_item.Statement (st.Simple x) ∷ []) close)))) ≡ 0
loop_count first test last x close =
    let body : StatementTree = st.Block (tree.block (block_item.Statement (st.Simple x) ∷ []) close) in
    statement_count (st.For (start.Simple first) test last body)
    ∙ ap statement_declarators (sym (st.rolls-For (start.Simple first) test last body))
    ∙ fold-roll-Statement ℕ ℕ ℕ ℕ in_item in_statement in_block in_group (Statement-F.For (start.Simple first) test last body)
    ∙ ap (plus 0) (one_count x close)

-- ---- the lines, behind the 5 declarators of the opening

abbrev behind_items : ℕ → List BlockItem → ℕ
behind_items n list = fold plus n (map item_declarators list)

append_items : (xs ys : List BlockItem) (n : ℕ) → behind_items n (xs ++ ys) ≡ behind_items (behind_items n xs) ys
append_items [] ys n = refl
append_items (x ∷ xs) ys n = append_items xs ys (plus n (item_declarators x))

next_none : (x : BlockItem) (more : List BlockItem) → item_declarators x ≡ 0 → behind_items 5 (x ∷ more) ≡ behind_items 5 more
next_none x more none = ap (λ (n : ℕ). behind_items (plus 5 n) more) none

line_count : (k : LineKind) (at : ℕ → ℕ) (x y z : Letter) → behind_items 5 (tr.line_items k at x y z) ≡ 5
line_count Sum at x y z = next_none _ [] (simple_count _)
line_count Difference at x y z = next_none _ [] (simple_count _)
line_count Product at x y z = next_none _ [] (simple_count _)
line_count ExclusiveOr at x y z = next_none _ [] (simple_count _)
line_count Quotient at x y z = next_none _ [] (simple_count _)
line_count Raise at x y z = next_none _ [] (if_count _ _ (at 13))
line_count Publish at x y z = next_none _ [] (simple_count _)
line_count Add at x y z =
    next_none _ (tr.add_item at x ∷ tr.unlock_item at ∷ []) (simple_count _) ∙ next_none _ (tr.unlock_item at ∷ []) (simple_count _) ∙ next_none _ [] (simple_count _)

lines_count : (o : ℕ) (lines : List Line) → behind_items 5 (items_of o lines) ≡ 5
lines_count o [] = refl
lines_count o (line ∷ lines) =
    let at : ℕ → ℕ = place_in (tokens o (ps.line_pieces line)) in
    let here : List BlockItem = tr.line_items line.kind at line.target line.left line.right in
    let rest : List BlockItem = items_of (behind o (ps.line_pieces line)) lines in
    append_items here rest 5
    ∙ ap (λ (n : ℕ). behind_items n rest) (line_count line.kind at line.target line.left line.right)
    ∙ lines_count (behind o (ps.line_pieces line)) lines

-- ---- the bodies

opening_count : (at : ℕ → ℕ) → behind_items 0 (tr.opening_items at) ≡ 5
opening_count at =
    ap (λ (n : ℕ). behind_items (plus 0 n) (tr.letters_item at ∷ [])) (declaration_count _)
    ∙ ap (plus 1) (declaration_count _)

closing_count : (at : ℕ → ℕ) → behind_items 5 (tr.closing_items at) ≡ 5
closing_count at =
    next_none _ (tr.last_lock_item at ∷ tr.last_add_item at ∷ tr.last_unlock_item at ∷ tr.null_item at ∷ []) (simple_count _)
    ∙ next_none _ (tr.last_add_item at ∷ tr.last_unlock_item at ∷ tr.null_item at ∷ []) (simple_count _)
    ∙ next_none _ (tr.last_unlock_item at ∷ tr.null_item at ∷ []) (simple_count _)
    ∙ next_none _ (tr.null_item at ∷ []) (simple_count _)
    ∙ next_none _ [] (return_count _ _)

pub worker_count : (before after : ℕ → ℕ) (o close : ℕ) (lines : List Line) →
    block_declarators (tree.block (tr.opening_items before ++ items_of o lines ++ tr.closing_items after) close) ≡ 5
worker_count before after o close lines =
    block_count (tr.opening_items before ++ items_of o lines ++ tr.closing_items after) close
    ∙ append_items (tr.opening_items before ++ items_of o lines) (tr.closing_items after) 0
    ∙ ap (λ (n : ℕ). behind_items n (tr.closing_items after))
    (append_items (tr.opening_items before) (items_of o lines) 0 ∙ ap (λ (n : ℕ). behind_items n (items_of o lines)) (opening_count before) ∙ lines_count o lines)
    ∙ closing_count after

later_none : (x : BlockItem) (more : List BlockItem) → item_declarators x ≡ 0 → behind_items 1 (x ∷ more) ≡ behind_items 1 more
later_none x more none = ap (λ (n : ℕ). behind_items (plus 1 n) more) none

pub main_count : (threads : ℕ) (at : ℕ → ℕ) (close : ℕ) → block_declarators (tree.block (tr.main_items threads at) close) ≡ 1
main_count t at close =
    let last : List BlockItem = tr.sum_item at ∷ tr.destroy_item at ∷ tr.zero_item at ∷ [] in
    block_count (tr.main_items t at) close
    ∙ ap (λ (n : ℕ). behind_items (plus 0 n) (tr.init_item at ∷ tr.create_item t at ∷ tr.join_item t at ∷ tr.print_item t at ∷ last)) (declaration_count _)
    ∙ later_none _ (tr.create_item t at ∷ tr.join_item t at ∷ tr.print_item t at ∷ last) (simple_count _)
    ∙ later_none _ (tr.join_item t at ∷ tr.print_item t at ∷ last) (loop_count _ _ _ _ (at 53))
    ∙ later_none _ (tr.print_item t at ∷ last) (loop_count _ _ _ _ (at 78))
    ∙ later_none _ last (loop_count _ _ _ _ (at 103))
    ∙ later_none _ (tr.destroy_item at ∷ tr.zero_item at ∷ []) (simple_count _)
    ∙ later_none _ (tr.zero_item at ∷ []) (simple_count _)
    ∙ later_none _ [] (return_count _ _)
