use Rattle.std.proofs.Common.{◌≡◌, ◌<◌, ◌++◌, ◌∷◌, [], length, arith, rules}
use Rattle.schedule_sdc.specs.History.{at}
use Rattle.schedule_sdc.proofs.Back.{given_at, behind_before, further, closed, begun}
use Rattle.schedule_sdc.proofs.cycle.places_between.Goals as goal

pub bounds-steps-here-in-loop-here-2 : goal.bounds-steps-here-in-loop-here-2
bounds-steps-here-in-loop-here-2 c =
    let b = c.loop-here.invariant.behind in
    let h = c.requires.history in
    let gv = given_at h.0 h.1 c.args.steps.now h.2 _ c.loop-here.invariant.within c.args.ends.earlier c.loop-here-test.true b.0 b.1 in
    omega (arith, gv.earlier, c.loop-here.invariant.within)

pub loop-here-preserved : goal.loop-here-preserved
loop-here-preserved c =
    let b = c.loop-here.invariant.behind in
    let list = c.requires.history.0 in
    let n = c.requires.history.1 in
    let history = c.requires.history.2 in
    let gv = given_at list n c.args.steps.now history _ c.loop-here.invariant.within c.args.ends.earlier c.loop-here-test.true b.0 b.1 in
    let items : c.push-in-loop-here.new.self.items ≡ c.loop-here.walk.items ++ (at c.args.steps.now (at c.args.steps.now c.loop-here.here).before).place ∷ [] = c.in_ok-push-2.ensures.items in
    record {
      within = omega (arith, gv.earlier, c.loop-here.invariant.within);
      behind = behind_before list n c.args.steps.now history _ c.loop-here.invariant.within c.args.ends.earlier c.loop-here-test.true b.0 b.1;
      walk = λ other m h. further other c.args.steps.now _ _ _
          (given_at other m c.args.steps.now h _ c.loop-here.invariant.within c.args.ends.earlier c.loop-here-test.true b.0 b.1) (c.loop-here.invariant.walk other m h) _ items;
    }

pub returns : goal.returns
returns c = λ list n h. rw c.reverse.ensures.items (closed list n c.args.steps.now h _ _ _ _ c.requires.ends c.loop-here-test.false (c.loop-here.invariant.walk list n h))

pub loop-here-init : goal.loop-here-init
loop-here-init c =
    let n = c.requires.history.1 in
    let r = c.requires.ends in
    let items : c.push.new.self.items ≡ (at c.args.steps.now c.args.ends.later).place ∷ [] = rw c.new-walk.ensures.items at c.in_ok-push.ensures.items in
    record { within = r.within; behind = (r.count, r.behind); walk = λ other m h. begun other c.args.steps.now c.args.ends.later _ items }

pub loop-here-smaller : goal.loop-here-smaller
loop-here-smaller c =
    let b = c.loop-here.invariant.behind in
    let h = c.requires.history in
    (given_at h.0 h.1 c.args.steps.now h.2 _ c.loop-here.invariant.within c.args.ends.earlier c.loop-here-test.true b.0 b.1).earlier

pub bounds-steps-here : goal.bounds-steps-here
bounds-steps-here c = c.requires.ends.within

pub bounds-steps-here-in-loop-here : goal.bounds-steps-here-in-loop-here
bounds-steps-here-in-loop-here c = c.loop-here.invariant.within

pub offset_bounds-steps-here : goal.offset_bounds-steps-here
offset_bounds-steps-here c = search (rules, c.requires.ends.within)

pub offset_bounds-steps-here-in-loop-here : goal.offset_bounds-steps-here-in-loop-here
offset_bounds-steps-here-in-loop-here c = search (rules, c.loop-here.invariant.within)

pub offset_bounds-steps-here-in-loop-here-2 : goal.offset_bounds-steps-here-in-loop-here-2
offset_bounds-steps-here-in-loop-here-2 c =
    let b = c.loop-here.invariant.behind in
    let h = c.requires.history in
    let gv = given_at h.0 h.1 c.args.steps.now h.2 _ c.loop-here.invariant.within c.args.ends.earlier c.loop-here-test.true b.0 b.1 in
    let l : (at c.args.steps.now c.loop-here.here).before < length c.args.steps.now = omega (arith, gv.earlier, c.loop-here.invariant.within) in
    search (rules, l)
