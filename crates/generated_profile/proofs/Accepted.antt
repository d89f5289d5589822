-- A generated text is accepted.
use Rattle.std.proofs.Common.{ℕ, zero, suc, length, refl, arith}
use Rattle.c_program.specs.Tree.{Program}
use Rattle.c_program.specs.Weight.{weight}
use Rattle.c_program.specs.Counting.{capped}
use Rattle.generated_text.specs.Text.{text_of}
use Rattle.generated_profile.specs.Laws.{GeneratedIsAccepted}
use Rattle.generated_profile.proofs.Splitting.{behind}
use Rattle.generated_profile.proofs.Texts.{text_length, text_tokens, text_lexes}
use Rattle.generated_profile.proofs.Reading as read
use Rattle.generated_profile.proofs.Whole as whole
use Rattle.generated_profile.proofs.Limits as limits
use Rattle.generated_profile.proofs.Generated.{is_generated}

pub generated_is_accepted : GeneratedIsAccepted
generated_is_accepted zero lines some most few = absurd (omega (arith, some))
generated_is_accepted (suc k) lines some most few =
    let o : ℕ = behind 0 (read.h (suc k) lines) in
    let P : Program = whole.program k (read.before (suc k) lines) (read.last (suc k) lines) (read.at (suc k) lines) o lines in (
      P,
      capped (weight P),
      record {
        tree = read.tree_of (suc k) lines;
        is = record {
          short = text_length (suc k) most lines few;
          tokens = text_tokens (suc k) lines;
          lexed = text_lexes (suc k) most lines few;
          sentence = read.text_is_sentence (suc k) lines (length (text_of (suc k) lines));
        };
        spelled = whole.spells k (read.before (suc k) lines) (read.last (suc k) lines) (read.at (suc k) lines) o lines;
        within = record {
          limits = limits.limits k most (read.before (suc k) lines) (read.last (suc k) lines) (read.at (suc k) lines) o lines few;
          weighs = refl;
        };
      },
      is_generated k most (read.before (suc k) lines) (read.last (suc k) lines) (read.at (suc k) lines) o lines,
      limits.threads_are k most (read.before (suc k) lines) (read.last (suc k) lines) (read.at (suc k) lines) o lines few,
    )
