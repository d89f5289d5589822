use Rattle.std.proofs.Common.{◌∙◌}
use Rattle.turns.proofs.Numbers.{reads}
use Rattle.turns.proofs.read_number.Goals as goal

pub returns : goal.returns
returns c = c.ok.ensures.value ∙ reads c.args.text.now c.parse.result c.parse.ensures.value.0
