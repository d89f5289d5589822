use Rattle.std.proofs.Common.{Some, None, sym, ◌∙◌}
use Rattle.net_check.proofs.Found.{answers, breaks_none}
use Rattle.net_check.proofs.check.check_net.Goals as goal

pub returns-in-None-clause-well_formed : goal.returns-in-None-clause-well_formed
returns-in-None-clause-well_formed c = answers c.args.net.now None (sym c.in_ok-first_of.ensures ∙ c.in-None.is)

pub returns-in-Some-clause-bad : goal.returns-in-Some-clause-bad
returns-in-Some-clause-bad c =
    λ formed. breaks_none c.args.net.now formed c.in-Some.part (answers c.args.net.now (Some c.in-Some.part) (sym c.in_ok-first_of.ensures ∙ c.in-Some.is)).breaks

pub returns-in-Some-clause-first : goal.returns-in-Some-clause-first
returns-in-Some-clause-first c = answers c.args.net.now (Some c.in-Some.part) (sym c.in_ok-first_of.ensures ∙ c.in-Some.is)
