use Rattle.std.proofs.lemmas.Result.{IfOk-weaker}
use Rattle.race_check.proofs.reads.read_statement.Goals as goal

pub returns-in-Return : goal.returns-in-Return
returns-in-Return c =
    IfOk-weaker c.read_return.result _ _
    (λ r h. λ P fs k. rw c.in-Return.is (h P c.in-Return.field-0 fs k))
    c.read_return.ensures
