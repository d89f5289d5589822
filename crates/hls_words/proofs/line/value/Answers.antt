use Rattle.std.proofs.Common.{◌∙◌, ap}
use Rattle.std.specs.Prelude.{option_and_then}
use Rattle.clap.specs.Words.{found_of, one_text}
use Rattle.clap.proofs.WalkLemmas.{one_text-rows}
use Rattle.hls_words.proofs.NumberLemmas.{reads_option}
use Rattle.hls_words.specs.Line.{number_of}
use Rattle.hls_words.proofs.line.value.Goals as goal

pub returns : goal.returns
returns c =
    let text = one_text (found_of c.args.matches.now) c.args.id.now in
    reads_option text c.get_one.result c.get_one.ensures.none c.get_one.ensures.value
    ∙ ap (option_and_then number_of) (one_text-rows (found_of c.args.matches.now) c.args.id.now)
