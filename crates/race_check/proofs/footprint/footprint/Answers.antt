use Rattle.std.proofs.Common.{rules, ◌≡◌, ◌∷◌, ◌∙◌, true, false, sym, ap, subst}
use Rattle.c_program.specs.Plain.{program_of}
use Rattle.thread_semantics.specs.Move.{move}
use Rattle.c_state.specs.View.{state_of}
use Rattle.c_step_parts.specs.Planned.{IsPlan}
use Rattle.race_check.specs.Access.{touches_of}
use Rattle.race_check.specs.Reads.{MoveAdds}
use Rattle.race_check.proofs.StepTouches.{footprint_idle, footprint_taken}
use Rattle.race_check.proofs.footprint.footprint.Goals as goal

pub returns-then-not-may_touch : goal.returns-then-not-may_touch
returns-then-not-may_touch c =
    let P = program_of c.args.program.now in
    let s = state_of c.args.state.now in
    let p : IsPlan P s c.args.thread c.in-Ok.plan = rw c.in-Ok.is at c.in_ok-plan.ensures in
    let off : c.may_touch.result ≡ false = search rules in
    ap touches_of c.new-list.ensures
    ∙ footprint_idle P s c.args.thread c.in-Ok.plan p (sym (c.may_touch.ensures p.call p.callers p.running) ∙ off)

pub returns : goal.returns
returns c =
    let P = program_of c.args.program.now in
    let s = state_of c.args.state.now in
    let p : IsPlan P s c.args.thread c.in-Ok.plan = rw c.in-Ok.is at c.in_ok-plan.ensures in
    let on : c.may_touch.result ≡ true = search rules in
    let reads = touches_of c.push_reads.new.list in
    let adds = subst (λ xs. MoveAdds (move P s.globals (p.call ∷ p.callers)) (touches_of xs) reads) c.new-list.ensures (c.in_ok-push_reads.ensures P p.call p.callers p.running) in
    footprint_taken P s c.args.thread c.in-Ok.plan p reads (touches_of c.push_write.new.list)
    (sym (c.may_touch.ensures p.call p.callers p.running) ∙ on) adds c.in_ok-push_write.ensures
