use Rattle.std.proofs.Common.{sym, ◌∙◌, rules}
use Rattle.c_lexer.specs.Contexts.{state_of}
use Rattle.c_lexer.specs.Stepping.{piece_of, next_piece}
use Rattle.c_lexer.proofs.Fresh.{effect_fresh}
use Rattle.c_lexer.proofs.Steps.{fails}
use Rattle.c_lexer.proofs.step.step.Goals as goal

pub take-requires : goal.take-requires
take-requires c = effect_fresh _ _ _ _ _ (sym c.in_ok-effect.ensures ∙ c.in-Some-2.is)

pub returns-in-Err-clause-fails : goal.returns-in-Err-clause-fails
unfolding next_piece
returns-in-Err-clause-fails c =
    fails c.args.at c.args.rest.now (state_of c.args.context.now) c.args.tokens.now (piece_of c.in-Some.class c.front-word.result.now c.in-Some-2.effect) c.in-Err.fault
    (search rules) c.in-Err.ensures.fails
