use Rattle.generated_profile.proofs.Accepted.{generated_is_accepted}
use Rattle.generated_profile.proofs.generated_is_accepted.Goals as goal

pub returns : goal.returns
returns c = generated_is_accepted
