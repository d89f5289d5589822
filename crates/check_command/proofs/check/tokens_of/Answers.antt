use Rattle.std.proofs.Common.{◌∙◌, sym, Ok}
use Rattle.check_command.proofs.ToldVerdict.{faultless}
use Rattle.check_command.proofs.check.tokens_of.Goals as goal

pub unreachable-requires : goal.unreachable-requires
unreachable-requires c =
    let e = sym c.in-Err-Bad.field-0-is ∙ faultless c.requires.0 c.in-Err-Bad.field-0 (c.in-Err-Bad.ensures.every (Ok c.requires.0) c.requires.1) in cc

pub unreachable-requires-in-Err-Limit : goal.unreachable-requires-in-Err-Limit
unreachable-requires-in-Err-Limit c =
    let e = sym c.in-Err-Limit.field-0-is ∙ faultless c.requires.0 c.in-Err-Limit.field-0 (c.in-Err-Limit.ensures.every (Ok c.requires.0) c.requires.1) in cc
