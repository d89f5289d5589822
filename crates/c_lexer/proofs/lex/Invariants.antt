use Rattle.std.proofs.Common.{length}
use Rattle.c_lexer.specs.Contexts.{state_of}
use Rattle.c_lexer.proofs.Whole.{Done}
use Rattle.c_lexer.proofs.lex.Given as goal

abbrev pub invariant-pieces : goal.invariant-pieces
invariant-pieces l = Done l.text l.tokens (state_of l.context) l.rest

abbrev pub decreases-pieces : goal.decreases-pieces
decreases-pieces l = length l.rest
