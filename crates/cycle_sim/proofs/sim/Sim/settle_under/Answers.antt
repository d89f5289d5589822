use Rattle.std.proofs.Common.{◌≡◌, ℕ, List, ◌++◌, length, take, drop, ap, sym, ◌∙◌, subst, arith}
use Rattle.std.proofs.lemmas.List.{take_at}
use Rattle.verilog_meaning.specs.Cycles.{Choice}
use Rattle.sim_values.specs.Flat.{settled}
use Rattle.sim_layout.specs.Running.{Running, running, Stands, Fits, flat, choice_of, settled_run}
use Rattle.cycle_sim.proofs.Cycles.{settled_stands}
use Rattle.sim_events.specs.Cones.{IsCone}
use Rattle.cycle_sim.proofs.Events.{ordered_at, rows_at, keeping_at}
use Rattle.sim_values.proofs.Settles.{settled-length}
use Rattle.cycle_sim.proofs.sim.Sim.settle_under.Goals as goal

pub settle_again-requires-clause-ordered : goal.settle_again-requires-clause-ordered
settle_again-requires-clause-ordered c =
    let i = c.self.inside in
    ordered_at (running i.modules.now i.parts.items i.steps.items i.numbers.items i.words.items i.starts.items i.prefs i.done) c.as_slice.result.now c.as_mut_slice.result.now
    c.self.invariant.0 c.as_slice.ensures.value c.as_mut_slice.ensures.value

pub settle_again-requires-clause-rows : goal.settle_again-requires-clause-rows
settle_again-requires-clause-rows c =
    let i = c.self.inside in
    rows_at i.modules.now i.steps.items c.as_slice.result.now i.starts.items c.as_slice-4.result.now i.rows.items c.as_slice-2.result.now c.as_slice.ensures.value c.as_slice-4.ensures.value
    c.as_slice-2.ensures.value c.self.invariant.5

pub settle_again-requires-clause-keeping : goal.settle_again-requires-clause-keeping
settle_again-requires-clause-keeping c =
    let i = c.self.inside in
    keeping_at i.modules.now i.steps.items c.as_slice.result.now i.fanout.starts.items i.fanout.steps.items i.numbers.items c.as_mut_slice.result.now i.pending.steps.items
    c.as_slice.ensures.value c.as_mut_slice.ensures.value c.self.invariant.3

pub invariant_of-self : goal.invariant_of-self
invariant_of-self c =
    let i = c.self.inside in
    let r = running i.modules.now i.parts.items i.steps.items i.numbers.items i.words.items i.starts.items i.prefs i.done in
    let choice : Choice = choice_of c.args.choice.now in
    let view : c.args.self.now ≡ r = (let h = c.self.view_is in cc) in
    let fits : Fits r choice = subst (λ (t : Running). Fits t choice) view c.requires in
    let new = c.settle_again.new.numbers in
    let given : new ≡ settled r.modules choice (flat r) r.steps =
    (let a = c.settle_again.ensures.numbers in let b = c.as_slice.ensures.value in let d = c.as_mut_slice.ensures.value in let e = c.as_slice-3.ensures.value in let f = c.as_slice-4.ensures.value in cc) in
    let long : length new ≡ length i.numbers.items = ap length given ∙ settled-length r.modules choice r.steps (flat r) in
    let left = take i.numbers.len (new ++ drop (length new) i.numbers.items) in
    let whole : left ≡ new = take_at new (drop (length new) i.numbers.items) i.numbers.len (omega (arith, i.numbers.ok.0)) in
    let stands : Stands (settled_run choice r) = settled_stands r c.self.invariant.0 choice fits in (
      subst (λ (ns : List ℕ). Stands (running r.modules r.parts r.steps ns r.words r.starts r.prefs r.done)) (sym (whole ∙ given)) stands,
      c.self.invariant.1 ∙ sym (ap length whole ∙ long),
      c.self.invariant.2,
      keeping_at r.modules c.as_slice.result.now i.steps.items i.fanout.starts.items i.fanout.steps.items new left c.settle_again.new.pending.steps.items (sym c.as_slice.ensures.value) whole
          c.settle_again.ensures.keeping,
      c.settle_again.ensures.flagged,
      c.self.invariant.5,
      c.self.invariant.6,
      subst (λ n. IsCone r.modules r.steps n r.done i.cone.items) (sym (ap length whole ∙ long)) c.self.invariant.7,
    )

pub settle_again-requires-clause-flagged : goal.settle_again-requires-clause-flagged
settle_again-requires-clause-flagged c = c.self.invariant.4
