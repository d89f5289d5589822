use Rattle.std.proofs.Common.{subst}
use Rattle.c_tree.specs.Declarations.{unit}
use Rattle.grammar.specs.Sentences.{SentenceWithin}
use Rattle.c_profile.proofs.text.tree_of.Goals as goal

pub returns-in-Ok-clause-ok : goal.returns-in-Ok-clause-ok
returns-in-Ok-clause-ok c = record {
  short = c.requires;
  tokens = c.in_ok-tokens.tokens;
  lexed = c.in_ok-tokens.ensures.ok;
  sentence = subst (λ ts. SentenceWithin unit 64 ts c.in-Ok.tree) c.as_slice.ensures c.in-Ok.ensures.answer;
}
