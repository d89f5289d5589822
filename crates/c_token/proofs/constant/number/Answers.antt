use Rattle.std.proofs.Common.{sym, ◌∙◌, ap}
use Rattle.c_token.specs.Constants.{below_two_to_64}
use Rattle.c_token.proofs.Numbers.{too_large}
use Rattle.c_token.proofs.constant.number.Goals as goal

pub returns-in_default-with_digit : goal.returns-in_default-with_digit
returns-in_default-with_digit c =
    sym (sym (ap below_two_to_64 c.loop-digits.invariant.0)
    ∙ too_large c.args.base c.loop-digits.n c.loop-digits.digits.now c.in-len1-up.len_at_least (sym c.with_digit.ensures ∙ c.in_default-with_digit.is))
