use Rattle.generated_text.proofs.Texts.{last_of_three}
use Rattle.generated_text.proofs.text.put_head.Goals as goal

pub returns : goal.returns
returns c = last_of_three c.put.result _ _ _ _ _ _ _ c.in_ok-put_sized.ensures c.in_ok-put_sized-2.ensures c.put.ensures
