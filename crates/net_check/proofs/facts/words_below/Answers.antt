use Rattle.std.proofs.Common.{sym, ◌∙◌}
use Rattle.net_check.proofs.Distinct.{words_fail}
use Rattle.net_check.proofs.facts.words_below.Goals as goal

pub returns-then-not-contains : goal.returns-then-not-contains
returns-then-not-contains c =
    sym (words_fail c.args.given.now c.args.name.now c.loop-word.word c.args.count c.loop-word-test.true (sym c.contains.ensures ∙ c.if-not-contains.true))
