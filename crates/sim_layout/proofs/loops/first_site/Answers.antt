use Rattle.std.proofs.Common.{◌≡◌, length, sym, ◌∙◌, ap, subst}
use Rattle.sim_layout.specs.Leads.{AreInRoom}
use Rattle.sim_layout.proofs.loops.first_site.Goals as goal

pub first_suspect-requires-clause-room : goal.first_suspect-requires-clause-room
first_suspect-requires-clause-room c =
    let long : c.args.words ≡ length c.as_slice.result.now = sym (ap length c.as_slice.ensures.value ∙ c.in_ok-suspects.ensures.long) in
    subst (AreInRoom c.args.modules.now c.args.wires.now) long c.requires.room
