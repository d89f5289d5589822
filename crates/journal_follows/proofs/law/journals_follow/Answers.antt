use Rattle.journal_follows.proofs.Verdicts.{journals_follow, runs_follow, replays_follow}
use Rattle.journal_follows.proofs.law.journals_follow.Goals as goal

pub returns-clause-journals : goal.returns-clause-journals
returns-clause-journals c = journals_follow

pub returns-clause-runs : goal.returns-clause-runs
returns-clause-runs c = runs_follow

pub returns-clause-replays : goal.returns-clause-replays
returns-clause-replays c = replays_follow
