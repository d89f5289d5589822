use Rattle.generated_profile.proofs.Parsed.{generated_has_tree}
use Rattle.generated_profile.proofs.generated_has_tree.Goals as goal

pub returns : goal.returns
returns c = generated_has_tree
