use Rattle.std.proofs.Common.{rules, arith, ◌≡◌, ◌∙◌, subst, sym, []}
use Rattle.std.proofs.lemmas.Grind.{common_steps}
use Rattle.grammar.specs.Steps.{Steps}
use Rattle.c_reading.specs.Expressions.{read_cast, read_expr, read_argument}
use Rattle.c_expression_parser.proofs.Rooms.{choices_more, choices_none}
use Rattle.c_expression_parser.proofs.expressions.Rules.choices.Goals as goal

pub returns-in_err-found : goal.returns-in_err-found
returns-in_err-found g c =
    let e = choices_more (read_cast c.args.room) (read_expr c.args.room)
    (read_argument c.args.room) c.args.room c.args.outermost c.loop-asked.conditions c.pop.new.self c.in-Some.asked c.loop-asked.found c.loop-asked.cursor c.in-Some.ensures in
    grind (arith, common_steps)

pub loop-asked-preserved : goal.loop-asked-preserved
loop-asked-preserved g c =
    let e = choices_more (read_cast c.args.room) (read_expr c.args.room)
    (read_argument c.args.room) c.args.room c.args.outermost c.loop-asked.conditions c.pop.new.self c.in-Some.asked c.loop-asked.found c.loop-asked.cursor c.in-Some.ensures in
    grind (arith, common_steps)

pub returns : goal.returns
returns g c =
    let none : c.loop-asked.conditions ≡ [] = first_of (search rules, grind (arith, common_steps)) in
    let e = choices_none (read_cast c.args.room) (read_expr c.args.room)
    (read_argument c.args.room) c.args.room c.args.outermost c.loop-asked.conditions c.loop-asked.found c.loop-asked.cursor none in
    subst (λ r. Steps r c.with_choice-2.result c.with_choice-2.new.cursor) (sym (c.loop-asked.invariant ∙ e)) c.with_choice-2.ensures
