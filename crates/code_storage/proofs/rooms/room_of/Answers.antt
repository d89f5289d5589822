use Rattle.std.proofs.Common.{sym, ap, ◌∙◌}
use Rattle.std.specs.Option.{option_copied}
use Rattle.code_storage.specs.Housing.{homes_there, site_there}
use Rattle.code_storage.proofs.rooms.room_of.Goals as goal

pub returns-in_default-clause-homes : goal.returns-in_default-clause-homes
returns-in_default-clause-homes c = c.new.ensures ∙ ap homes_there (sym (ap option_copied c.in_default.is) ∙ c.at.ensures)

pub returns-in_default-clause-site : goal.returns-in_default-clause-site
returns-in_default-clause-site c = ap site_there (sym (ap option_copied c.in_default.is) ∙ c.at.ensures)

pub returns-clause-homes : goal.returns-clause-homes
returns-clause-homes c =
    c.in_ok-homes.ensures ∙ c.as_slice.ensures ∙ ap homes_there (sym (ap option_copied c.in-Some.is) ∙ c.at.ensures)

pub returns-clause-site : goal.returns-clause-site
returns-clause-site c = ap site_there (sym (ap option_copied c.in-Some.is) ∙ c.at.ensures)
