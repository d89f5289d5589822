use Rattle.std.proofs.Common.{rules, arith, subst, sym}
use Rattle.grammar.specs.Steps.{Steps}
use Rattle.std.proofs.lemmas.Grind.{common_steps}
use Rattle.c_reading.specs.Expressions.{read_argument}
use Rattle.c_expression_parser.proofs.Rooms.{argument_above}
use Rattle.c_expression_parser.proofs.expressions.Rules.argument.Goals as goal

pub returns-then-room-eq0 : goal.returns-then-room-eq0
unfolding read_argument
returns-then-room-eq0 g c = first_of (search rules, grind (arith, common_steps))

pub returns : goal.returns
returns g c =
    subst (λ r. Steps r c.any_argument.result c.any_argument.new.cursor) (sym (argument_above c.args.room (omega arith) c.args.cursor.now)) c.any_argument.ensures
