use Rattle.std.proofs.Common.{rules, arith, subst, sym}
use Rattle.std.proofs.lemmas.Grind.{common_steps}
use Rattle.grammar.specs.Steps.{Steps}
use Rattle.c_statement_parser.proofs.Below.{body_none, body_above}
use Rattle.c_statement_parser.proofs.statements.Bodies.switch_body.Goals as goal

pub returns-then-room-eq0 : goal.returns-then-room-eq0
returns-then-room-eq0 g c =
    let e = body_none c.args.room (omega arith) c.args.cursor.now in
    first_of (search rules, grind (arith, common_steps))

pub returns : goal.returns
returns g c =
    subst (λ r. Steps r c.braced_groups.result c.braced_groups.new.cursor) (sym (body_above c.args.room (omega arith) c.args.cursor.now)) c.braced_groups.ensures
