use Rattle.std.proofs.Common.{ℕ, [], ◌∷◌, ◌++◌, length, take, ap, ◌∙◌, arith}
use Rattle.netlist.specs.declared.netlist.Instance.{Instance}
use Rattle.top_parts.specs.declared.layout.Core.{Core}
use Rattle.top_parts.specs.Parts.{group_widths, ask_widths}
use Rattle.top_wiring.specs.Top.{core_instance}
use Rattle.top_parts.proofs.GrownLists.{each_onto, flat_more}
use Rattle.top_wiring.proofs.Steps.{flat_room}
use Rattle.top_wiring.proofs.places.Places.push_cores.Goals as goal

pub core_instance-requires-clause-room : goal.core_instance-requires-clause-room
core_instance-requires-clause-room c =
    let a = ap length c.loop-number.invariant.1 in
    let b = flat_room (λ (x : Core). group_widths x.groups) c.args.cores.now c.loop-number.number c.index-cores-number.result c.index-cores-number.is c.loop-number-test.true in
    let d = c.requires.few_asks in
    omega arith

pub loop-number-preserved : goal.loop-number-preserved
loop-number-preserved c =
    let s = c.args.self.now in
    let i = c.loop-number.number in
    let cores = c.args.cores.now in
    let x = c.index-cores-number.result in (
      each_onto (λ k (y : Core). core_instance s.starts s.threads s.cores s.parts (length (ask_widths (take k cores))) k y) c.args.instances.now c.loop-number.instances c.push.new.self cores i x
          c.loop-number.invariant.0
          (c.in_ok-push.ensures.ok
          ∙ ap (λ (z : Instance). c.loop-number.instances ++ z ∷ [])
          (c.in_ok-instance.ensures.instance ∙ ap (λ (z : ℕ). core_instance s.starts s.threads s.cores s.parts z i x) (ap length c.loop-number.invariant.1)))
          c.index-cores-number.is c.loop-number-test.true,
      flat_more (λ (y : Core). group_widths y.groups) c.loop-number.asked c.core_instance.new.asked cores i x c.loop-number.invariant.1 c.in_ok-instance.ensures.asked
          c.index-cores-number.is c.loop-number-test.true,
    )
