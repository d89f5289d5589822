use Rattle.generated_good.proofs.GeneratedGood.{generated_is_good}
use Rattle.generated_good.proofs.generated_is_good.Goals as goal

pub returns : goal.returns
returns c = generated_is_good
