-- How many declarators the body of a function has (C99 6.7.5, 6.8.2).
use Rattle.std.specs.Prelude.{ℕ, length, fold, unwrap_or}
use Rattle.c_tree.specs.declared.statement.ForStart.{ForStart}
use Rattle.c_tree.specs.declared.statement.ForStart.TheVariants as start
use Rattle.c_tree.specs.declared.statement.Block.{Block}
use Rattle.c_tree.specs.declared.statement.BlockItem.{BlockItem}
use Rattle.c_tree.specs.declared.statement.BlockItem.TheOpen.{Block-F, BlockItem-F, Group-F, Statement-F}
use Rattle.c_tree.specs.declared.statement.BlockItem.TheFolds.{fold-Block, fold-BlockItem, fold-Group, fold-Statement}
use Rattle.c_tree.specs.declared.statement.Statement.{Statement}
use Rattle.c_tree.specs.declared.statement.Group.{Group}
use Rattle.c_rules.specs.Constants.{plus}
use Rattle.c_rules.specs.Walks.{place_in_tree}

abbrev pub in_start : ForStart → ℕ
in_start (start.Declaration d) = place_in_tree (length d.declarators)
in_start other = 0

abbrev pub in_item : BlockItem-F ℕ ℕ ℕ ℕ → ℕ
in_item (BlockItem-F.Declaration d) = place_in_tree (length d.declarators)
in_item (BlockItem-F.Statement count) = count

abbrev pub in_statement : Statement-F ℕ ℕ ℕ ℕ → ℕ
in_statement (Statement-F.Block count) = count
in_statement (Statement-F.If test consequent alternative) = plus consequent (unwrap_or alternative 0)
in_statement (Statement-F.While test body) = body
in_statement (Statement-F.DoWhile body test) = body
in_statement (Statement-F.For begin test step body) = plus (in_start begin) body
in_statement (Statement-F.Switch value groups at) = fold plus 0 groups
in_statement other = 0

abbrev pub in_block : Block-F ℕ ℕ ℕ ℕ → ℕ
in_block b = fold plus 0 b.items

abbrev pub in_group : Group-F ℕ ℕ ℕ ℕ → ℕ
in_group g = fold plus 0 g.statements

-- the declarators of a block and of all that stands in it; the count stops at 2^32 - 1
abbrev pub block_declarators : Block → ℕ
block_declarators = fold-Block ℕ ℕ ℕ ℕ in_item in_statement in_block in_group

abbrev pub statement_declarators : Statement → ℕ
statement_declarators = fold-Statement ℕ ℕ ℕ ℕ in_item in_statement in_block in_group

abbrev pub item_declarators : BlockItem → ℕ
item_declarators = fold-BlockItem ℕ ℕ ℕ ℕ in_item in_statement in_block in_group

abbrev pub group_declarators : Group → ℕ
group_declarators = fold-Group ℕ ℕ ℕ ℕ in_item in_statement in_block in_group
