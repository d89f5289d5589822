use Rattle.std.proofs.Common.{List, ℕ, true, length, subst, ◌∙◌}
use Rattle.std.specs.Prelude.{IfOk}
use Rattle.thread_slots.specs.Bits.{MakesAny, AddsAny}
use Rattle.thread_requests.proofs.early.any_needed.Goals as goal

pub returns-clause-shows : goal.returns-clause-shows
returns-clause-shows c =
    subst (λ (z : List ℕ). IfOk c.any_of.result (MakesAny c.args.wires.now.signals c.any_of.new.wires.signals c.args.first z (λ k. true) (length z)))
    (c.as_slice.ensures ∙ c.in_ok-asked.ensures) c.any_of.ensures.shows

pub returns-clause-wired : goal.returns-clause-wired
returns-clause-wired c =
    subst (λ (z : List ℕ). IfOk c.any_of.result (AddsAny c.args.wires.now.signals c.any_of.new.wires.signals c.args.first z))
    (c.as_slice.ensures ∙ c.in_ok-asked.ensures) c.any_of.ensures.wired
