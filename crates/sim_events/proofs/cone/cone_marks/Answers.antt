use Rattle.std.proofs.Common.{◌≡◌, ◌<◌, ◌∙◌, Bool, List, Some, false, true, length, slice_get, ap, subst, arith}
use Rattle.std.specs.Prelude.{◌+◌, ◌-◌, slice_index_or}
use Rattle.std.proofs.lemmas.List.{get_or-set_same, length-replicate}
use Rattle.std.proofs.lemmas.Option.{slice_get_within}
use Rattle.std.proofs.Math.ListN.{length-set}
use Rattle.sim_values.specs.Stands.{IsFree}
use Rattle.sim_events.proofs.ConeMarks.{AreClosedFrom, closed_both}
use Rattle.sim_events.proofs.cone.cone_marks.Goals as goal

pub loop-behind-init : goal.loop-behind-init
loop-behind-init c =
    let set = c.set_mark.ensures in
    let made : length c.in_ok-marks.marks.items ≡ c.args.words = ap length (c.in_ok-marks.ensures.items_if_clones_equal (λ y e. e)) ∙ length-replicate c.args.words false in
    record {
      long = ap length set ∙ length-set c.in_ok-marks.marks.items c.args.word true ∙ made;
      closed = λ k s l at. let within = slice_get_within c.args.steps.now k s at in absurd (omega (arith, within, l));
      has = λ l. ap (λ (m : List Bool). slice_index_or m c.args.word false) set ∙ get_or-set_same c.in_ok-marks.marks.items c.args.word true false (omega (arith, l, made));
    }

pub loop-behind-preserved : goal.loop-behind-preserved
loop-behind-preserved c =
    let modules = c.args.modules.now in
    let steps = c.args.steps.now in
    let old = c.loop-behind.marks.items in
    let new = c.mark_operands.new.marks.items in
    let step = c.step_at-step.result.now in
    let less : c.loop-behind.behind < length steps = omega arith in
    let i = length steps - (c.loop-behind.behind + 1) in
    let here : slice_get steps i ≡ Some step = ap (slice_get steps) (omega arith) ∙ c.step_at-step.ensures in
    let before : AreClosedFrom modules steps old (i + 1) = subst (AreClosedFrom modules steps old) (omega (arith, less)) c.loop-behind.invariant.closed in
    let done = c.in_ok-mark_operands.ensures in
    record {
      long = done.long ∙ c.loop-behind.invariant.long;
      closed = closed_both modules steps (IsFree c.requires.free) old new i step c.requires.ordered here before done.long done.closed done.keeps done.only done.stays;
      has = λ l. done.keeps c.args.word (c.loop-behind.invariant.has l);
    }

pub returns-clause-closed : goal.returns-clause-closed
returns-clause-closed c =
    let last = c.loop-behind-test.false in
    λ k s at. c.loop-behind.invariant.closed k s (omega (arith, last)) at
