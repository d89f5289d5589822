use Rattle.generated_text.proofs.Texts.{four_alone}
use Rattle.generated_text.proofs.text.program_text.Goals as goal

pub returns : goal.returns
returns c =
    four_alone _ _ _ _ _ _ _ _ _ c.new-text.ensures c.in_ok-put_head.ensures c.in_ok-put_lines.ensures c.in_ok-put.ensures c.in_ok-put_main.ensures
