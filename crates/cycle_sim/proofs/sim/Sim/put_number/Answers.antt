use Rattle.std.proofs.Common.{◌≡◌, ℕ, List, ◌++◌, length, take, drop, slice_set, ap, sym, ◌∙◌, subst, arith}
use Rattle.std.proofs.Math.ListN.{length-set}
use Rattle.std.proofs.lemmas.List.{take_at}
use Rattle.sim_layout.specs.Running.{Running, running, Stands}
use Rattle.cycle_sim.specs.Putting.{FitsAt, with_number}
use Rattle.sim_events.specs.Cones.{IsCone}
use Rattle.cycle_sim.proofs.Events.{keeping_at}
use Rattle.cycle_sim.proofs.PutNumbers.{put_stands}
use Rattle.cycle_sim.proofs.sim.Sim.put_number.Goals as goal
use Rattle.std.specs.Prelude.{refl}

pub invariant_of-self : goal.invariant_of-self
invariant_of-self c =
    let i = c.self.inside in
    let r = running i.modules.now i.parts.items i.steps.items i.numbers.items i.words.items i.starts.items i.prefs i.done in
    let view : c.args.self.now ≡ r = (let h = c.self.view_is in cc) in
    let fits : FitsAt r c.args.place c.args.number = subst (λ (t : Running). FitsAt t c.args.place c.args.number) view c.requires in
    let new = c.put.new.numbers in
    let given : new ≡ slice_set r.numbers c.args.place c.args.number = (let a = c.put.ensures.numbers in let d = c.as_mut_slice.ensures.value in cc) in
    let long : length new ≡ length i.numbers.items = ap length given ∙ length-set r.numbers c.args.place c.args.number in
    let left = take i.numbers.len (new ++ drop (length new) i.numbers.items) in
    let whole : left ≡ new = take_at new (drop (length new) i.numbers.items) i.numbers.len (omega (arith, i.numbers.ok.0)) in
    let stands : Stands (with_number r c.args.place c.args.number) = put_stands r c.self.invariant.0 c.args.place c.args.number fits in
    let before = keeping_at r.modules r.steps r.steps i.fanout.starts.items i.fanout.steps.items i.numbers.items c.as_mut_slice.result.now i.pending.steps.items refl c.as_mut_slice.ensures.value c.self.invariant.3 in (
      subst (λ (ns : List ℕ). Stands (running r.modules r.parts r.steps ns r.words r.starts r.prefs r.done)) (sym (whole ∙ given)) stands,
      c.self.invariant.1 ∙ sym (ap length whole ∙ long),
      c.self.invariant.2,
      keeping_at r.modules r.steps r.steps i.fanout.starts.items i.fanout.steps.items new left c.put.new.pending.steps.items refl whole (c.put.ensures.keeping r.modules r.steps before),
      c.put.ensures.flagged,
      c.self.invariant.5,
      c.self.invariant.6,
      subst (λ n. IsCone r.modules r.steps n r.done i.cone.items) (sym (ap length whole ∙ long)) c.self.invariant.7,
    )

pub put-requires : goal.put-requires
put-requires c = c.self.invariant.4
