use Rattle.std.proofs.Common.{◌≡◌, fold, take, map}
use Rattle.c_tree.specs.declared.statement.Block.{out-Block}
use Rattle.c_tree.specs.declared.statement.Group.{out-Group}
use Rattle.c_rules.specs.Constants.{plus}
use Rattle.c_resolution.specs.Declarators.{group_declarators, item_declarators, statement_declarators}
use Rattle.c_statements.proofs.declarators.+declarators.Given as goal

abbrev pub invariant-block_declarators-loop-item : goal.invariant-block_declarators-loop-item
invariant-block_declarators-loop-item l = l.count ≡ fold plus 0 (map item_declarators (take l.item-index (out-Block l.block).items))

abbrev pub invariant-in_group-loop-statement : goal.invariant-in_group-loop-statement
invariant-in_group-loop-statement l = l.count ≡ fold plus 0 (map statement_declarators (take l.statement-index (out-Group l.group).statements))

abbrev pub invariant-in_groups-loop-group : goal.invariant-in_groups-loop-group
invariant-in_groups-loop-group l = l.count ≡ fold plus 0 (map group_declarators (take l.group-index l.groups))
