use Rattle.std.proofs.Common.{◌≡◌, [], length}
use Rattle.std.specs.Prelude.{reverse}
use Rattle.c_reading.specs.Expressions.{read_cast, read_expr, read_argument, read_choices}
use Rattle.c_expression_parser.proofs.expressions.Rules.choices.Given as goal

abbrev pub invariant-loop-asked : goal.invariant-loop-asked
invariant-loop-asked g l =
    read_choices (read_cast l.room) (read_expr l.room) (read_argument l.room) l.room l.fn.outermost (reverse l.fn.conditions) [] l.fn.cursor
    ≡ read_choices (read_cast l.room) (read_expr l.room) (read_argument l.room) l.room l.fn.outermost (reverse l.conditions) l.found l.cursor

abbrev pub decreases-loop-asked : goal.decreases-loop-asked
decreases-loop-asked g l = length l.conditions
