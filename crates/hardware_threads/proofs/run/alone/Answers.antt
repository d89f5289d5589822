use Rattle.hardware_threads.proofs.RunEnd.{ran_at}
use Rattle.hardware_threads.proofs.run.alone.Goals as goal

pub returns-in-Some : goal.returns-in-Some
returns-in-Some g c =
    ran_at g.J.Case.modules g.J.Case.threads g.J.Case.most _ _ _ _ _ c.in-Some.verdict c.in-Some.is c.in_ok-verdict.ensures.ended c.finish-output.ensures.journal
    c.finish-output.ensures.finished
