use Rattle.std.proofs.Common.{Some, ap, sym, ◌∙◌}
use Rattle.std.proofs.lemmas.Option.{slice_get-get_or}
use Rattle.cycle_sim.proofs.sim.choice_at.Goals as goal

pub returns : goal.returns
returns c = slice_get-get_or c.args.choices.now c.args.number c.index-choices-number.result c.requires ∙ ap Some (sym c.index-choices-number.is)
