use Rattle.std.proofs.Common.{length}
use Rattle.code_storage.proofs.prints.+all_values.Given as goal

abbrev pub decreases-all_values : goal.decreases-all_values
decreases-all_values l = length l.functions.now
