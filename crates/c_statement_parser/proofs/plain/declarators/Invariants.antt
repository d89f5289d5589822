use Rattle.std.proofs.Common.{◌≡◌, ◌-◌}
use Rattle.grammar.specs.Readers.{reads_while, sees, appended}
use Rattle.c_token.specs.declared.punctuator.Punctuator.TheVariants.{Comma}
use Rattle.c_tree.specs.declared.sign.Sign.TheVariants.{Mark}
use Rattle.c_tree.specs.Tokens.{is}
use Rattle.c_reading.specs.Tokens.{read_listed, read_next}
use Rattle.c_reading.specs.Statements.{read_declarator, below}
use Rattle.c_statement_parser.proofs.plain.declarators.Given as goal

abbrev pub invariant-loop-turn : goal.invariant-loop-turn
invariant-loop-turn l = read_listed (read_declarator l.room (below l.room)) l.fn.cursor ≡ reads_while (sees (is (Mark Comma))) appended
    (read_next (read_declarator l.room (below l.room))) (l._turn-end - l._turn) l.found l.cursor
