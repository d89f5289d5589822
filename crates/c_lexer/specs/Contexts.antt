-- The state that the lexer's context stands for.
use Rattle.c_lexer.specs.declared.meaning.Context.{Context}
use Rattle.c_lexer.specs.Meaning.{State}

abbrev pub state_of : Context → State
state_of x = record { mode = x.mode; names = x.names; values = x.values }
