use Rattle.grant_journal.proofs.LoneTurns.{runs_on}
use Rattle.hardware_threads.proofs.run.work.Goals as goal

pub commit-requires-clause-thread : goal.commit-requires-clause-thread
commit-requires-clause-thread g c = c.in-Some-take.ensures.0

pub commit-requires-clause-run : goal.commit-requires-clause-run
commit-requires-clause-run g c =
    runs_on g.J.Case.modules g.J.Case.threads g.J.Case.most g.J.Case.layout c.requires.frame _ c.in-Some-take.thread c.closed-closed.result c.take.new.start
    c.set.new.self c.closed-closed.new.self c.in-Some-take.ensures.1 c.set.ensures c.closed-closed.ensures.run
