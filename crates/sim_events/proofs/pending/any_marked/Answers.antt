use Rattle.std.proofs.Common.{◌≡◌, ap, sym, ◌∙◌, ⊎_elim, arith, false}
use Rattle.std.specs.Prelude.{slice_index_or}
use Rattle.sim_layout.proofs.LeadSearch.{below_next}
use Rattle.sim_events.proofs.pending.any_marked.Goals as goal

pub loop-number-preserved : goal.loop-number-preserved
loop-number-preserved c = λ k from to. ⊎_elim
    (λ less. c.loop-number.invariant k from less)
    (λ (e : k ≡ c.loop-number.number). ap (λ z. slice_index_or c.args.marks.now z false) e ∙ sym c.is_marked.ensures ∙ c.if-is_marked.false)
    (below_next k c.loop-number.number to)

pub returns : goal.returns
returns c = λ no k from to. c.loop-number.invariant k from (omega (arith, to))
