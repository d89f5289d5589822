use Rattle.std.proofs.Common.{length, take, replicate, ap, ◌∙◌, arith, length-append}
use Rattle.std.proofs.lemmas.List.{get_or_default}
use Rattle.top_parts.specs.declared.layout.Group.{Group}
use Rattle.top_parts.specs.Parts.{group_widths}
use Rattle.top_parts.proofs.GrownLists.{flat_onto}
use Rattle.top_wiring.proofs.Steps.{asks_grow, flat_fewer}
use Rattle.top_wiring.proofs.places.Places.push_asks.Goals as goal

pub push_group-requires-clause-low : goal.push_group-requires-clause-low
push_group-requires-clause-low c =
    let a = c.len.ensures in
    let b = ap length c.loop-group.invariant.1 in
    let d = length-append c.args.asked.now (group_widths (take c.loop-group.group-index c.args.groups.now)) in
    let e = flat_fewer (λ (g : Group). replicate g.count g.width) c.args.groups.now c.loop-group.group-index in
    let f = c.requires.room in
    omega arith

pub loop-group-preserved : goal.loop-group-preserved
loop-group-preserved c =
    let i = c.loop-group.group-index in
    let groups = c.args.groups.now in (
      asks_grow c.args.self.now.starts c.args.self.now.threads c.args.self.now.cores (length c.args.asked.now) groups c.args.inputs.now c.loop-group.inputs c.push_group.new.inputs i _ c.len.result
          c.loop-group.invariant.0 c.in_ok-push_group.ensures
          (c.len.ensures ∙ ap length c.loop-group.invariant.1 ∙ length-append c.args.asked.now (group_widths (take i groups)))
          (get_or_default groups i _ _ c.loop-group-test.true) c.loop-group-test.true,
      flat_onto (λ (g : Group). replicate g.count g.width) c.args.asked.now c.loop-group.asked c.push_copies.new.widths groups i _ c.loop-group.invariant.1
          c.in_ok-push_copies.ensures (get_or_default groups i _ _ c.loop-group-test.true) c.loop-group-test.true,
    )
