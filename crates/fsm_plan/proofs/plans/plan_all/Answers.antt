use Rattle.std.proofs.Common.{◌∙◌, sym, arith}
use Rattle.std.proofs.lemmas.Result.{IfOk-weaker}
use Rattle.fsm_plan.proofs.Parts.{shares_planned}
use Rattle.fsm_plan.proofs.plans.plan_all.Goals as goal

pub returns : goal.returns
returns g c =
    IfOk-weaker c.joined.result _ _
    (λ plans j.
    shares_planned c.in_ok-shares.shares.items c.in_ok-parts.parts.items c.args.codes.now plans c.in_ok-shares.ensures.whole
    (sym c.in_ok-parts.parts.ok.0 ∙ c.in_ok-parts.ensures.len ∙ c.in_ok-shares.shares.ok.0)
    (λ i d l. let made = (c.in_ok-parts.ensures.each i d l).1 in (made.job, made.job_is, (let met = made.call.met in grind arith))) j)
    c.joined.ensures
