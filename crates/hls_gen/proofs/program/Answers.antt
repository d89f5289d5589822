use Rattle.std.proofs.Common.{◌≡◌}
use Rattle.std.proofs.lemmas.Result.{IfOk-weaker}
use Rattle.generated_text.specs.Draws.{lines_of}
use Rattle.generated_text.specs.Text.{text_of}
use Rattle.hls_gen.specs.Good.{IsAcceptedAsGood}
use Rattle.hls_gen.proofs.GoodTexts.{seed_is_good}
use Rattle.hls_gen.proofs.program.Goals as goal

pub returns-clause-good : goal.returns-clause-good
returns-clause-good c =
    IfOk-weaker c.program_text.result (λ text. text ≡ text_of c.args.threads (lines_of c.args.seed c.args.size)) (IsAcceptedAsGood c.args.threads)
    (λ text is. seed_is_good c.args.seed c.args.threads c.args.size text c.requires.some c.requires.most c.requires.few is) c.program_text.ensures
