-- What the acts of the code of a thread are to the program: the steps of the thread that are no moves.
use Rattle.std.specs.Prelude.{◌≡◌, ◌≢◌, ℕ, List, [], ◌∷◌, ◌++◌, length, ℤ, decimal, true, false, if◌then◌else◌}
use Rattle.std.specs.Fmt.{signed_decimal}
use Rattle.hls_ints.specs.Words.{signed_word}
use Rattle.c_program.specs.Tree.{Piece, Program}
use Rattle.thread_semantics.specs.State.{State}
use Rattle.thread_semantics.specs.Step.{printed, is_live}
use Rattle.block_ir.specs.declared.code.ActOperand.{ActOperand}
use Rattle.interleaving.specs.Source.{Undefined}
use Rattle.race_model.specs.Source.{local_of, c_source}
use Rattle.block_ir.specs.Asked.{operand_words}
use Rattle.code_following.specs.Following.{AreValues, conversions_of, converted_values}

-- the next step of thread i, if it lives, is not undefined
abbrev pub IsDefined : Program → State → ℕ → Type 0
IsDefined P s i = s.ended ≡ false → is_live s i ≡ true → (c_source P).step s i ≢ Undefined

-- t is s but for thread i, the output and the end of the program
pub record KeepsOthers (s : State) (i : ℕ) (t : State) : Type 0 where
  pub globals : t.globals ≡ s.globals
  pub mutexes : t.mutexes ≡ s.mutexes
  pub barriers : t.barriers ≡ s.barriers
  pub threads : length t.slots ≡ length s.slots
  pub others : (j : ℕ) → j ≢ i → local_of t j ≡ local_of s j

-- ---- a printf

-- what the format prints of words of 64 bits: the number that a word spells in two's complement where the conversion is
-- signed, and the word itself where it is not
abbrev pub printed_words : List Piece → List ℕ → List ℕ
printed_words [] ws = []
printed_words (Piece.Text bytes ∷ pieces) ws = bytes ++ printed_words pieces ws
printed_words (Piece.Conversion ty ∷ pieces) [] = printed_words pieces []
printed_words (Piece.Conversion ty ∷ pieces) (w ∷ ws) = (if ty.signed then signed_decimal (signed_word 64 w) else decimal w) ++ printed_words pieces ws

-- WORDS PRINT: what printf prints of its operands the format prints of the words of the code's operands
abbrev pub WordsPrint : Type 0
WordsPrint =
    (variables : ℕ → ℤ) (values : List ActOperand) (format : List Piece) (operands : List ℤ) →
    AreValues variables values (converted_values (conversions_of format) operands) → printed format operands ≡ printed_words format (operand_words variables values)
