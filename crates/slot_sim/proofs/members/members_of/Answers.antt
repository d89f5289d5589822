use Rattle.std.proofs.Common.{List, length, subst}
use Rattle.netlist.specs.declared.netlist.Module.{Module}
use Rattle.sim_values.specs.declared.edge.Part.{Part}
use Rattle.slot_sim.specs.Members.{AreCollected}
use Rattle.slot_sim.proofs.CollectedParts.{members_are, if_ok_of}
use Rattle.slot_sim.proofs.members.members_of.Goals as goal

pub returns : goal.returns
returns c =
    let r = c.args.sim.now in
    record {
      members = if_ok_of c.collected.result
          (λ places a.
          members_are r c.args.first places.items c.parts.ensures.stands
          (subst (λ (ms : List Module). AreCollected ms r.parts c.args.first (length places.items) places.items) c.modules.ensures
          (subst (λ (ps : List Part). AreCollected c.modules.result.now ps c.args.first (length places.items) places.items) c.parts.ensures.parts a)))
          c.collected.ensures;
    }
