use Rattle.std.proofs.Common.{◌≡◌, map, take}
use Rattle.c_tree.specs.declared.statement.Block.{out-Block}
use Rattle.c_tree.specs.declared.statement.Group.{out-Group}
use Rattle.c_program.specs.Plain.{boxed_statement_of}
use Rattle.c_rules.specs.Walks.{Outcome, through}
use Rattle.c_resolution.specs.States.{state}
use Rattle.c_resolution.specs.Statements.{block_items, group, item, next_group, next_statement, no_cases, statement}
use Rattle.c_statements.specs.Labelled.{cases_of}
use Rattle.c_statements.proofs.statements.+statements.Given as goal

abbrev pub invariant-items-loop-next : goal.invariant-items-loop-next
invariant-items-loop-next l =
    block_items (map item (take l.next-index (out-Block l.block).items)) (state l.initial.scope l.initial.found)
    ≡ Outcome.Gives (map boxed_statement_of l.steps.items) (state l.scope l.found)

abbrev pub invariant-group-loop-next : goal.invariant-group-loop-next
invariant-group-loop-next l =
    through next_statement (cases_of l.initial.cases) (map statement (take l.next-index (out-Group l.group).statements)) (state l.initial.scope l.initial.found)
    ≡ Outcome.Gives (cases_of l.cases) (state l.scope l.found)

abbrev pub invariant-switch_body-loop-next : goal.invariant-switch_body-loop-next
invariant-switch_body-loop-next l =
    through (next_group l.ty) no_cases (map group (take l.next-index l.groups)) (state l.initial.scope l.initial.found)
    ≡ Outcome.Gives (cases_of l.cases) (state l.scope l.found)
