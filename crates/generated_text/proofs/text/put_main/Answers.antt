use Rattle.generated_text.proofs.Texts.{last_of_three}
use Rattle.generated_text.proofs.text.put_main.Goals as goal

pub returns : goal.returns
returns c = last_of_three c.put-2.result _ _ _ _ _ _ _ c.in_ok-put.ensures c.in_ok-put_loops.ensures c.put-2.ensures
