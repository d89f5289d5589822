use Rattle.global_naming.proofs.Few.{no_more_than_threads}
use Rattle.global_naming.proofs.no_more_than_threads.Goals as goal

pub returns : goal.returns
returns c = no_more_than_threads
