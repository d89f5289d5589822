use Rattle.std.proofs.Common.{◌≡◌, suc, ◌+◌, ◌++◌, [], ◌∷◌, take, sym, ap, ◌∙◌, subst, arith}
use Rattle.std.proofs.Math.Seq.{take-suc}
use Rattle.code_storage.specs.Locals.{AllHomed}
use Rattle.code_storage.proofs.LocalHomes.{homed_more}
use Rattle.std.proofs.lemmas.Result.{err_from_is_err_and}
use Rattle.code_storage.proofs.RoomsFull.{homes_full}
use Rattle.code_storage.proofs.rooms.Rooms.place_all.Goals as goal

pub loop-local-preserved : goal.loop-local-preserved
loop-local-preserved c = λ before houses.
    let locals = c.args.locals.now in
    let i = c.loop-local.local-index in
    let l = c.local-item.result in
    let next : i + 1 ≡ suc i = omega arith in
    let front : take (i + 1) locals ≡ take i locals ++ l ∷ [] = ap (λ n. take n locals) next ∙ take-suc locals i l c.loop-local-test.true
    ∙ ap (λ z. take i locals ++ z ∷ []) (sym c.local-item.is) in
    subst (λ ls. AllHomed before ls c.push.new.self c.args.self.now c.place.new.self) (sym front)
    (homed_more before (take i locals) l c.loop-local.homes c.push.new.self c.in_ok-home.home c.args.self.now c.loop-local.self c.place.new.self (c.loop-local.invariant before houses)
    (λ h. c.in_ok-home.ensures.homed (before ++ take i locals) h) c.in_ok-push.ensures.ok)

pub returns-in_err-home-clause-full : goal.returns-in_err-home-clause-full
returns-in_err-home-clause-full c =
    let p = err_from_is_err_and c.from_residual.result c.from_residual.ensures.1 in
    rw (p.1, p.2) (λ before houses.
    homes_full c.args.locals.now before c.loop-local.local-index c.loop-local.self _ c.loop-local-test.true (c.loop-local.invariant before houses).houses c.in_err-home.ensures.full)
