-- Variables for words, as operands of an act.
use Rattle.std.proofs.Common.{◌≡◌, ℕ, zero, suc, ◌+◌, List, [], ◌∷◌, ◌++◌, length, ℤ, ap, ◌∙◌, arith}
use Rattle.hls_ints.specs.Types.{long_int}
use Rattle.block_ir.specs.declared.code.ActOperand.TheVariants.{Variable}
use Rattle.code_blocks.specs.Printing.{HoldWords, word_operands}
use Rattle.code_following.specs.Following.{AreValues}

last_word : (n count : ℕ) → word_operands n (suc count) ≡ word_operands n count ++ Variable (n + count) long_int ∷ []
last_word n zero = ap (λ k. Variable k long_int ∷ []) (omega arith)
last_word n (suc count) =
    ap (λ os. Variable n long_int ∷ os)
    (last_word (suc n) count ∙ ap (λ k. word_operands (suc n) count ++ Variable k long_int ∷ []) (omega arith))

pub word_operands_more : (n count : ℕ) → word_operands n (count + 1) ≡ word_operands n count ++ Variable (n + count) long_int ∷ []
word_operands_more n count = ap (word_operands n) (let e : count + 1 ≡ suc count = omega arith in e) ∙ last_word n count

-- what holds words, as operands
pub words_are_values : (variables : ℕ → ℤ) (n count : ℕ) (ws : List ℤ) → count ≡ length ws → HoldWords variables n ws → AreValues variables (word_operands n count) ws
words_are_values variables n zero [] e h = tt
words_are_values variables n zero (w ∷ ws) e h = absurd (omega arith)
words_are_values variables n (suc count) [] e h = absurd (omega arith)
words_are_values variables n (suc count) (w ∷ ws) e h = (h.0, words_are_values variables (suc n) count ws (omega arith) h.1)
