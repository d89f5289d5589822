use Rattle.std.proofs.Common.{◌≡◌, ℕ, List, ◌++◌, length, take, drop, ap, sym, ◌∙◌, subst, arith}
use Rattle.std.specs.Prelude.{refl}
use Rattle.std.proofs.lemmas.List.{take_at}
use Rattle.verilog_meaning.specs.Cycles.{Choice}
use Rattle.sim_values.specs.Flat.{settled}
use Rattle.sim_layout.specs.Running.{running, Stands, flat, choice_of}
use Rattle.sim_events.specs.Cones.{IsCone}
use Rattle.cycle_sim.specs.DoneRun.{cone_run}
use Rattle.cycle_sim.proofs.DoneCone.{cone_stands}
use Rattle.cycle_sim.proofs.Events.{keeping_at}
use Rattle.sim_values.proofs.Settles.{settled-length}
use Rattle.cycle_sim.proofs.sim.Sim.settle_done.Goals as goal

pub settle_cone-requires-clause-flagged : goal.settle_cone-requires-clause-flagged
settle_cone-requires-clause-flagged c = c.self.invariant.4

pub invariant_of-self : goal.invariant_of-self
invariant_of-self c =
    let i = c.self.inside in
    let r = running i.modules.now i.parts.items i.steps.items i.numbers.items i.words.items i.starts.items i.prefs i.done in
    let choice : Choice = choice_of c.args.choice.now in
    let new = c.settle_cone.new.numbers in
    let given : new ≡ settled r.modules choice (flat r) i.cone.items =
    (let a = c.settle_cone.ensures.numbers in let b = c.as_slice.ensures.value in let d = c.as_mut_slice.ensures.value in let e = c.as_slice-2.ensures.value in let f = c.as_slice-3.ensures.value in cc) in
    let long : length new ≡ length i.numbers.items = ap length given ∙ settled-length r.modules choice i.cone.items (flat r) in
    let left = take i.numbers.len (new ++ drop (length new) i.numbers.items) in
    let whole : left ≡ new = take_at new (drop (length new) i.numbers.items) i.numbers.len (omega (arith, i.numbers.ok.0)) in
    let stands : Stands (cone_run choice i.cone.items r) = cone_stands r c.self.invariant.0 choice i.cone.items c.self.invariant.7 in
    let before = keeping_at r.modules r.steps r.steps i.fanout.starts.items i.fanout.steps.items i.numbers.items c.as_mut_slice.result.now i.pending.steps.items refl c.as_mut_slice.ensures.value c.self.invariant.3 in (
      subst (λ (ns : List ℕ). Stands (running r.modules r.parts r.steps ns r.words r.starts r.prefs r.done)) (sym (whole ∙ given)) stands,
      c.self.invariant.1 ∙ sym (ap length whole ∙ long),
      c.self.invariant.2,
      keeping_at r.modules r.steps r.steps i.fanout.starts.items i.fanout.steps.items new left c.settle_cone.new.pending.steps.items refl whole (c.settle_cone.ensures.keeping r.modules r.steps before),
      c.settle_cone.ensures.flagged,
      c.self.invariant.5,
      c.self.invariant.6,
      subst (λ n. IsCone r.modules r.steps n r.done i.cone.items) (sym (ap length whole ∙ long)) c.self.invariant.7,
    )
