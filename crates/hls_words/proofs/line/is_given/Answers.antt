use Rattle.std.proofs.Common.{◌∙◌, sym, ap}
use Rattle.std.specs.Prelude.{is_some}
use Rattle.clap.specs.Words.{found_of}
use Rattle.clap.proofs.WalkLemmas.{one_text-rows}
use Rattle.hls_words.proofs.NumberLemmas.{is_some-map, same_presence}
use Rattle.hls_words.proofs.line.is_given.Goals as goal

pub returns : goal.returns
returns c =
    c.is_some.ensures ∙ sym (is_some-map _ _) ∙ ap is_some c.get_str.ensures
    ∙ same_presence (found_of c.args.matches.now) c.args.id.now ∙ ap is_some (one_text-rows (found_of c.args.matches.now) c.args.id.now)
