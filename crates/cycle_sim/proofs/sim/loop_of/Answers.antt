use Rattle.std.proofs.Common.{◌≡◌, List, length, subst, arith}
use Rattle.sim_values.specs.declared.edge.Part.{Part}
use Rattle.sim_layout.specs.Leads.{AreInRoom, AreLoopless, IsFirstFound}
use Rattle.cycle_sim.proofs.Stuck.{wires_in_room, no_loop, first_is}
use Rattle.cycle_sim.proofs.sim.loop_of.Goals as goal

pub first_loop-requires-clause-room : goal.first_loop-requires-clause-room
first_loop-requires-clause-room c =
    let e : length c.args.placed.now.numbers.items ≡ c.len-words.result = (let a = c.len-words.ensures in omega (arith, a)) in
    subst (AreInRoom c.args.modules.now c.args.wires.now) e (wires_in_room c.requires.laid.2)

pub unreachable-requires : goal.unreachable-requires
unreachable-requires c =
    let modules = c.args.modules.now in
    let wires = c.args.wires.now in
    let given : AreLoopless modules wires c.as_slice.result.now (length c.as_slice.result.now) = rw c.in-None.is at c.in-Ok.ensures in
    no_loop c.requires.laid.2 (subst (λ (ps : List Part). AreLoopless modules wires ps (length ps)) c.as_slice.ensures.value given) c.requires.stuck

pub returns : goal.returns
returns c =
    let modules = c.args.modules.now in
    let wires = c.args.wires.now in
    let given : IsFirstFound modules wires c.as_slice.result.now c.in-Some.found = rw c.in-Some.is at c.in-Ok.ensures in
    first_is c.requires.laid.2 c.in-Some.found (subst (λ (ps : List Part). IsFirstFound modules wires ps c.in-Some.found) c.as_slice.ensures.value given)
