use Rattle.std.proofs.Common.{rules, arith}
use Rattle.std.proofs.lemmas.Grind.{common_steps}
use Rattle.c_statement_parser.proofs.Below.{statement_none, statement_above}
use Rattle.c_statement_parser.proofs.statements.+statement.Goals as goal

pub returns-then-room-eq0 : goal.returns-then-room-eq0
returns-then-room-eq0 t c =
    let e = statement_none c.args.room (omega arith) c.args.cursor.now in
    first_of (search rules, grind (arith, common_steps))

pub returns-then-begins_compound : goal.returns-then-begins_compound
returns-then-begins_compound t c =
    let e = statement_above c.args.room (omega arith) c.args.cursor.now in
    first_of (search rules, grind (arith, common_steps))

pub returns-else-begins_compound : goal.returns-else-begins_compound
returns-else-begins_compound t c =
    let e = statement_above c.args.room (omega arith) c.args.cursor.now in
    first_of (search rules, grind (arith, common_steps))
