-- A generated text is one of the grammar, within the limits of texts.
use Rattle.std.proofs.Common.{length}
use Rattle.generated_text.specs.Text.{text_of}
use Rattle.generated_profile.specs.Laws.{GeneratedHasTree}
use Rattle.generated_profile.proofs.Texts.{text_length, text_tokens, text_lexes}
use Rattle.generated_profile.proofs.Reading.{tree_of, text_is_sentence}

pub generated_has_tree : GeneratedHasTree
generated_has_tree threads lines most few = (
  tree_of threads lines,
  record {
    short = text_length threads most lines few;
    tokens = text_tokens threads lines;
    lexed = text_lexes threads most lines few;
    sentence = text_is_sentence threads lines (length (text_of threads lines));
  },
)
