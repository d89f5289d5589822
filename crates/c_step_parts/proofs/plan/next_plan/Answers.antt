use Rattle.std.proofs.Common.{◌≡◌, ◌∙◌, ap, sym, false, map, drop, Some}
use Rattle.std.specs.List.{list_any}
use Rattle.thread_semantics.specs.State.{Running}
use Rattle.thread_semantics.specs.Step.{is_waiter}
use Rattle.c_state.specs.View.{frame_of, barrier_of}
use Rattle.c_step_parts.proofs.plan.next_plan.Goals as goal

pub returns-in_ok-plan-in-Some-innermost : goal.returns-in_ok-plan-in-Some-innermost
returns-in_ok-plan-in-Some-innermost c =
    let seen = rw c.deref.ensures.value at c.in-Some.ensures in
    let waits = rw c.deref-2.ensures.value at c.waits.ensures in
    let calm : list_any (is_waiter c.args.i) (map barrier_of c.args.s.now.barriers.items) ≡ false = sym waits ∙ c.if-waits.false in
    let own = rw c.deref-in-Some-innermost.ensures.value at c.in_ok-plan-in-Some-innermost.ensures in
    record {
      call = frame_of c.in-Some-innermost.frame.now;
      callers = map frame_of (drop 1 c.in-Some.frames.now.items);
      running = seen ∙ ap (λ l. Some (Running (map frame_of l))) c.in-Some-innermost.ensures;
      calm = calm;
      planned = own (map frame_of (drop 1 c.in-Some.frames.now.items));
    }
