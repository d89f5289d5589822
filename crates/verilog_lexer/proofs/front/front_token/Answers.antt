use Rattle.verilog_lexer.proofs.FrontToken.{no_front}
use Rattle.verilog_lexer.proofs.front.front_token.Goals as goal

pub returns-in_default : goal.returns-in_default
returns-in_default c = no_front c.args.text.now c.in_default.len_below
