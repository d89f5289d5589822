use Rattle.std.proofs.Common.{◌≡◌, ◌-◌}
use Rattle.grammar.specs.Readers.{reads_while, sees, appended}
use Rattle.c_token.specs.declared.punctuator.Punctuator.TheVariants.{Comma}
use Rattle.c_tree.specs.declared.sign.Sign.TheVariants.{Mark}
use Rattle.c_tree.specs.Tokens.{is, is_type_word}
use Rattle.c_reading.specs.Tokens.{read_any, read_next}
use Rattle.c_reading.specs.Declarations.{read_parameter}
use Rattle.c_parser.proofs.declarations.any_parameters.Given as goal

abbrev pub invariant-loop-turn : goal.invariant-loop-turn
invariant-loop-turn l = read_any is_type_word read_parameter l.fn.cursor ≡ reads_while (sees (is (Mark Comma))) appended (read_next read_parameter)
    (l._turn-end - l._turn) l.found l.cursor
