use Rattle.std.proofs.Common.{arith, refl}
use Rattle.std.proofs.lemmas.Grind.{common_steps}
use Rattle.journal_text.proofs.ReadNumbers.{too_large}
use Rattle.journal_text.proofs.number.value_of.Goals as goal

pub returns-in-None : goal.returns-in-None
returns-in-None c =
    too_large c.args.text.now c.loop-number.value c.loop-number.number _ c.loop-number-test.true refl c.loop-number.invariant c.in-None.ensures

pub loop-number-preserved : goal.loop-number-preserved
loop-number-preserved c = grind (arith, common_steps)
