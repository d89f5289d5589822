use Rattle.std.proofs.Common.{rules, arith}
use Rattle.std.proofs.lemmas.Grind.{common_steps}
use Rattle.c_expression_parser.proofs.Rooms.{part_none, cast_above, expr_above}
use Rattle.c_expression_parser.proofs.expressions.+expression.Goals as goal

pub returns-then-room-eq0 : goal.returns-then-room-eq0
returns-then-room-eq0 t c =
    let e = part_none c.args.part c.args.room (omega arith) c.args.cursor.now in
    first_of (search rules, grind (arith, common_steps))

pub returns-in-Operand : goal.returns-in-Operand
returns-in-Operand t c =
    let e = cast_above c.args.room (omega arith) c.args.cursor.now in
    first_of (search rules, grind (arith, common_steps))

pub returns-in-Whole : goal.returns-in-Whole
returns-in-Whole t c =
    let e = expr_above c.args.room (omega arith) c.args.cursor.now in
    first_of (search rules, grind (arith, common_steps))
