use Rattle.std.proofs.Common.{◌≡◌, ℕ, ◌+◌, ◌^◌, ◌<◌, List, Some, length, slice_get, sym, subst}
use Rattle.netlist.specs.declared.netlist.Signal.{Signal}
use Rattle.slot_sim.proofs.Rooms.{part_places}
use Rattle.slot_sim.proofs.same.same_part.Goals as goal

pub same_registers-requires : goal.same_registers-requires
same_registers-requires c =
    let part = c.in-Some.part.now in
    let listed : slice_get c.args.left.now.parts c.args.place ≡ Some part = (let e = c.in-Some.ensures in let p = c.parts.ensures.parts in cc) in
    let kind : slice_get c.args.left.now.modules part.module ≡ Some c.in-Some-at.module.now = (let e = c.in-Some-at.ensures in let p = c.modules.ensures in cc) in
    subst (λ (ss : List Signal). (x : ℕ) → x < length ss → part.spot.base + x < 2 ^ 64) (sym c.as_slice.ensures)
    (part_places c.args.left.now c.args.place part c.in-Some-at.module.now c.parts.ensures.stands c.parts.ensures.room listed kind)
