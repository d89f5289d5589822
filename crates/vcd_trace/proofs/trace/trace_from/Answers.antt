use Rattle.std.proofs.Common.{◌≡◌, ◌∙◌, ◌+◌, ◌++◌, ap, subst, true, false, [], arith}
use Rattle.verilog_meaning.specs.Threads.{all_enabled}
use Rattle.sim_layout.specs.Running.{TellsDone}
use Rattle.sim_layout.specs.Rounds.{threads_of}
use Rattle.vcd_text.specs.Dump.{first_frame, frame}
use Rattle.vcd_trace.specs.Trace.{IsTraced}
use Rattle.vcd_trace.proofs.Steps.{tracing_none, tracing_told, tracing_more, traced}
use Rattle.vcd_trace.proofs.trace.trace_from.Goals as goal

pub loop-number-init : goal.loop-number-init
loop-number-init c =
    let first = c.in_ok-numbers in
    tracing_none c.args.sim.now c.args.listing c.begin.new.text first.numbers c.parts.ensures.stands c.requires.listing first.ensures.numbers first.ensures.fit
    (first.ensures.text ∙ ap (λ t. t ++ first_frame c.args.listing.widths c.in_ok-numbers.numbers) (c.in_ok-text.ensures ∙ c.as_slice.ensures))

pub returns-then-done : goal.returns-then-done
returns-then-done c =
    let first = c.args.sim.now in
    let now = c.loop-number.sim in
    let asked = c.done.new.self in
    let l = c.args.listing in
    let n = c.loop-number.number in
    let tells = subst (λ b. TellsDone (all_enabled (threads_of now.modules) []) now b) c.if-done.true c.done.ensures.done in
    let told_it = tracing_told first now l n c.loop-number.text c.loop-number.numbers c.loop-number.invariant asked true c.done.ensures.net tells c.done.ensures.state in
    let lt = c.loop-number-test.true in
    traced first now asked l c.args.cycles n c.loop-number.text c.loop-number.numbers c.requires.begun c.parts.ensures.stands c.loop-number.invariant (omega (arith, lt))
    (omega arith) c.count.ensures.few
    true told_it (λ e. absurd cc)

pub loop-number-preserved : goal.loop-number-preserved
loop-number-preserved c =
    let first = c.args.sim.now in
    let now = c.loop-number.sim in
    let asked = c.done.new.self in
    let l = c.args.listing in
    let n = c.loop-number.number in
    let tells = subst (λ b. TellsDone (all_enabled (threads_of now.modules) []) now b) c.if-done.false c.done.ensures.done in
    let told_it = tracing_told first now l n c.loop-number.text c.loop-number.numbers c.loop-number.invariant asked false c.done.ensures.net tells c.done.ensures.state in
    let more = c.in_ok-numbers-2.ensures in
    tracing_more first now asked c.add_cycle.new.sim l n c.loop-number.text c.add_cycle.new.text c.loop-number.numbers c.in_ok-numbers-2.numbers c.loop-number.invariant told_it
    more.cycle.0 more.net
    more.cycle.1 more.numbers more.fit (more.text ∙ ap (λ b. c.loop-number.text ++ frame (c.loop-number.number + 1) c.args.listing.widths b c.in_ok-numbers-2.numbers) c.as_slice-before.ensures)

pub returns : goal.returns
returns c =
    let first = c.args.sim.now in
    let now = c.loop-number.sim in
    let asked = c.done-is_done.new.self in
    let l = c.args.listing in
    let n = c.loop-number.number in
    let shown = c.done-is_done.result in
    let told_it = tracing_told first now l n c.loop-number.text c.loop-number.numbers c.loop-number.invariant asked shown c.done-is_done.ensures.net c.done-is_done.ensures.done
    c.done-is_done.ensures.state in
    let over = c.loop-number-test.false in
    let end = c.loop-number.auto.number-end in
    let same : c.loop-number.number ≡ c.args.cycles = omega (arith, over, end) in
    subst (λ k. IsTraced first.modules (threads_of first.modules) c.args.cycles k shown c.loop-number.text) same
    (traced first now asked l c.args.cycles n c.loop-number.text c.loop-number.numbers c.requires.begun c.parts.ensures.stands c.loop-number.invariant (omega (arith, same))
    (omega arith) c.count.ensures.few
    shown told_it (λ e. same))
