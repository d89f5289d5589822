use Rattle.std.proofs.Common.{◌+◌, ◌*◌}
use Rattle.c_program.specs.Plain.{statement_of}
use Rattle.c_evaluation.specs.View.{loop_of}
use Rattle.c_evaluation.proofs.Sizes.{opening_size}
use Rattle.c_evaluation.proofs.work.+opening.Given as goal

abbrev pub decreases-open : goal.decreases-open
decreases-open l = 3 * opening_size (statement_of l.statement.now)

abbrev pub decreases-open_before : goal.decreases-open_before
decreases-open_before l = 3 * opening_size (statement_of l.part.now) + 1

abbrev pub decreases-open_both : goal.decreases-open_both
decreases-open_both l = 3 * (opening_size (statement_of l.first.now) + opening_size (statement_of l.next.now)) + 2

abbrev pub decreases-open_for : goal.decreases-open_for
decreases-open_for l = 3 * (opening_size (statement_of l.first.now) + opening_size (loop_of l.looping).condition) + 3

abbrev pub decreases-open_do : goal.decreases-open_do
decreases-open_do l = 3 * (opening_size (loop_of l.looping).body + opening_size (loop_of l.looping).condition) + 2
