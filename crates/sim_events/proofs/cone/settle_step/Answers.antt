use Rattle.std.proofs.Common.{sym, ap, ◌∙◌, slice_set}
use Rattle.std.proofs.lemmas.List.{set-get_or}
use Rattle.sim_events.proofs.cone.settle_step.Goals as goal

pub returns-else-is_other-clause-numbers : goal.returns-else-is_other-clause-numbers
returns-else-is_other-clause-numbers c =
    let numbers = c.args.numbers.now in
    let target = c.args.step.now.target in
    sym (ap (slice_set numbers target) (sym (c.is_other.ensures c.if-is_other.false ∙ c.feed_number-given.ensures)) ∙ set-get_or numbers target 0)
