use Rattle.std.proofs.Common.{subst}
use Rattle.slot_sim.specs.Slots.{IsThreadedIn}
use Rattle.journal_replay.proofs.replay.replay.Goals as goal

pub replay_on-requires-clause-threaded : goal.replay_on-requires-clause-threaded
replay_on-requires-clause-threaded c = subst (IsThreadedIn c.args.modules.now) c.requires.threads c.requires.threaded
