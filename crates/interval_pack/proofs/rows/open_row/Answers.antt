use Rattle.std.proofs.Common.{refl}
use Rattle.interval_pack.proofs.Vacated.{one_opened}
use Rattle.interval_pack.proofs.rows.open_row.Goals as goal

pub returns-clause-opened : goal.returns-clause-opened
returns-clause-opened c = λ ends are. one_opened ends _ _ _ _ _ are refl refl c.in_ok-insert.ensures.keys c.in_ok-insert.ensures.updates refl
