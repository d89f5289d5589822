use Rattle.std.proofs.Common.{sym, ap, ◌∙◌}
use Rattle.std.specs.Option.{option_copied}
use Rattle.code_storage.specs.Objects.{number_there}
use Rattle.code_storage.proofs.objects.first_of.Goals as goal

pub returns-in-None : goal.returns-in-None
returns-in-None c = ap number_there (sym (ap option_copied c.in-None.is) ∙ c.at.ensures)

pub returns-in-Some : goal.returns-in-Some
returns-in-Some c = ap number_there (sym (ap option_copied c.in-Some.is) ∙ c.at.ensures)
