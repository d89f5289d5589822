use Rattle.std.proofs.Common.{arith, subst, sym}
use Rattle.grammar.specs.Steps.{Steps}
use Rattle.grammar.proofs.Turns.{deeper}
use Rattle.c_reading.specs.Expressions.{read_target}
use Rattle.c_expression_parser.proofs.expressions.Rules.target.Goals as goal

pub returns : goal.returns
unfolding read_target
returns g c =
    let e = deeper (λ r. read_target r c.args.cursor.now) c.args.room (omega arith) in
    subst (λ r. Steps r c.place.result c.place.new.cursor) (sym e) c.place.ensures
