-- What a printf prints, by the words of the code's operands.
use Rattle.std.proofs.Common.{◌≡◌, ℕ, ◌-◌, ◌^◌, ◌<◌, ◌≤◌, List, [], ◌∷◌, ◌++◌, refl, ap, ap₂, sym, ◌∙◌, arith}
use Rattle.std.proofs.Common.{Bool, true, false, ℤ, pos, negsuc, IsTrue, decimal, if◌then◌else◌}
use Rattle.std.specs.Fmt.{signed_decimal}
use Rattle.std.proofs.Math.Nat.{mod-eq_of_lt}
use Rattle.std.proofs.Math.Pow.{pow_mono}
use Rattle.hls_ints.specs.Residues.{residue_of, signed_value_of}
use Rattle.hls_ints.specs.Words.{signed_word}
use Rattle.hls_ints.specs.Types.{IntegerType, HasType, width_of, in_signed_range, in_unsigned_range, long_int, wrapped}
use Rattle.hls_ints.proofs.Ranges.{bits-at_most}
use Rattle.hls_ints.proofs.Conversions.{wrapped-range, wrapped-same, residue_of-wrapped, residue_of-below}
use Rattle.c_program.specs.Tree.{Piece}
use Rattle.thread_semantics.specs.Step.{printed}
use Rattle.block_ir.specs.Asked.{act_value}
use Rattle.block_refine.specs.Acts.{printed_words, WordsPrint}

-- the text of a word
abbrev text_of : Bool → ℕ → List ℕ
text_of signed w = if signed then signed_decimal (signed_word 64 w) else decimal w

wider : (h k : ℕ) (z : ℤ) → h ≤ k → IsTrue (in_signed_range h z) → IsTrue (in_signed_range k z)
wider h k (pos n) le t = grind arith
wider h k (negsuc n) le t = grind arith

-- a value of a signed type is the number that its word spells
signed_text : (w : ℕ) (x : ℤ) → w ≤ 64 → IsTrue (in_signed_range (2 ^ (w - 1)) x) → signed_word 64 (residue_of 64 x) ≡ x
unfolding wrapped
signed_text w x le range =
    let long : HasType long_int x = wider (2 ^ (w - 1)) (2 ^ 63) x (pow_mono {i = w - 1} {j = 63} (omega arith)) range in
    ap (signed_value_of 64) (mod-eq_of_lt (residue_of-below 64 x)) ∙ wrapped-same long_int x long

-- a value of an unsigned type is its word
unsigned_text : (w : ℕ) (x : ℤ) → w ≤ 64 → IsTrue (in_unsigned_range (2 ^ w) x) → signed_decimal x ≡ decimal (residue_of 64 x)
unfolding residue_of
unsigned_text w (pos n) le range =
    let within : 2 ^ w ≤ 2 ^ 64 = pow_mono {i = w} {j = 64} le in
    let below : n < 2 ^ w = grind arith in
    ap decimal (sym (mod-eq_of_lt (omega arith)))
unsigned_text w (negsuc n) le range = absurd cc

value_text : (signed : Bool) (ty : IntegerType) (x : ℤ) → ty.signed ≡ signed → HasType ty x → signed_decimal x ≡ text_of ty.signed (residue_of 64 x)
value_text true ty x s range =
    rw s (ap signed_decimal (sym (signed_text (width_of ty) x (bits-at_most ty.width) (rw s at range))))
value_text false ty x s range = rw s (unsigned_text (width_of ty) x (bits-at_most ty.width) (rw s at range))

-- the word of an operand is that of its value
same_word : (x z : ℤ) → wrapped long_int z ≡ wrapped long_int x → residue_of 64 x ≡ residue_of 64 z
same_word x z e = sym (residue_of-wrapped long_int x) ∙ ap (residue_of 64) (sym e) ∙ residue_of-wrapped long_int z

no_operands : (format : List Piece) → printed format [] ≡ printed_words format []
no_operands [] = refl
no_operands (Piece.Text bytes ∷ pieces) = ap (λ (rest : List ℕ). bytes ++ rest) (no_operands pieces)
no_operands (Piece.Conversion ty ∷ pieces) = no_operands pieces

pub words_print : WordsPrint
words_print variables values [] operands are = refl
words_print variables values (Piece.Text bytes ∷ pieces) operands are = ap (λ (rest : List ℕ). bytes ++ rest) (words_print variables values pieces operands are)
words_print variables [] (Piece.Conversion ty ∷ pieces) [] are = no_operands pieces
words_print variables (o ∷ os) (Piece.Conversion ty ∷ pieces) [] are = absurd are
words_print variables [] (Piece.Conversion ty ∷ pieces) (v ∷ vs) are = absurd are
words_print variables (o ∷ os) (Piece.Conversion ty ∷ pieces) (v ∷ vs) are =
    ap₂ (λ (text rest : List ℕ). text ++ rest)
    (value_text ty.signed ty (wrapped ty v) refl (wrapped-range ty v) ∙ ap (text_of ty.signed) (same_word (wrapped ty v) (act_value variables o) are.0))
    (words_print variables os pieces vs are.1)
