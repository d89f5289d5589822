use Rattle.generated_text.proofs.Texts.{three_on}
use Rattle.generated_text.proofs.text.put_loops.Goals as goal

pub returns : goal.returns
returns c = three_on c.put_sized-3.result _ _ _ _ _ _ _ c.in_ok-put_sized.ensures c.in_ok-put_sized-2.ensures c.put_sized-3.ensures
