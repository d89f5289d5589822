-- What the printer writes for a printf is what the program prints.
use Rattle.std.specs.Prelude.{Bool, true, false, Option, Some, None, slice_get, map, decimal, if◌then◌else◌}
use Rattle.std.proofs.Common.{◌≡◌, ℕ, zero, suc, ◌+◌, ◌≤◌, List, [], ◌∷◌, ◌++◌, length, refl, ap, ◌∙◌, arith}
use Rattle.std.specs.Option.{option_map}
use Rattle.std.specs.Fmt.{signed_decimal}
use Rattle.std.proofs.lemmas.Option.{slice_get-map}
use Rattle.hls_ints.specs.Words.{signed_word}
use Rattle.c_program.specs.Tree.{Piece, Program}
use Rattle.circuit.specs.Rows.{spread}
use Rattle.code_following.specs.Following.{print_formats, conversions_of}
use Rattle.printer_cores.specs.declared.format.Part.{Part}
use Rattle.printer_cores.specs.Machine.{site_bytes, bytes_of_site}
use Rattle.law_threads.specs.Cores.{printed_words, text_at}
use Rattle.law_cycle.specs.Built.{conversion_part, part_of}

-- numbers that begin with these words
begins : (f : ℕ → ℕ) (ws : List ℕ) (i n : ℕ) → length ws ≤ n → ((j w : ℕ) → slice_get ws j ≡ Some w → f (i + j) ≡ w) → (rest : List ℕ) × (spread f i n ≡ ws ++ rest)
begins f [] i n le each = (spread f i n, refl)
begins f (w ∷ ws) i zero le each = absurd (omega arith)
begins f (w ∷ ws) i (suc n) le each =
    let after = begins f ws (i + 1) n (omega arith) (λ j u e. ap f (let t : i + 1 + j ≡ i + suc j = omega arith in t) ∙ each (suc j) u e) in
    let first : f i ≡ w = ap f (let t : i ≡ i + 0 = omega arith in t) ∙ each 0 w refl in
    (after.0, ap (λ x. x ∷ spread f (i + 1) n) first ∙ ap (λ xs. w ∷ xs) after.1)

-- one value
one_value : (b : Bool) (parts : List Part) (w : ℕ) (ws : List ℕ) →
    site_bytes (conversion_part b ∷ parts) (w ∷ ws) ≡ (if b then signed_decimal (signed_word 64 w) else decimal w) ++ site_bytes parts ws
one_value true parts w ws = refl
one_value false parts w ws = refl

-- what follows the values of a format is not written
site_same : (format : List Piece) (ws rest : List ℕ) → length ws ≡ length (conversions_of format) → site_bytes (map part_of format) (ws ++ rest) ≡ printed_words format ws
site_same [] ws rest e = refl
site_same (Piece.Text bytes ∷ pieces) ws rest e = ap (λ (text : List ℕ). bytes ++ text) (site_same pieces ws rest e)
site_same (Piece.Conversion ty ∷ pieces) [] rest e = absurd (omega arith)
site_same (Piece.Conversion ty ∷ pieces) (w ∷ ws) rest e =
    one_value ty.signed (map part_of pieces) w (ws ++ rest)
    ∙ ap (λ (text : List ℕ). (if ty.signed then signed_decimal (signed_word 64 w) else decimal w) ++ text) (site_same pieces ws rest (omega arith))

-- PRINTED: with these words first, a site writes what the program prints
pub site_prints : (P : Program) (sites : List (List Part)) (site n : ℕ) (ws : List ℕ) (f : ℕ → ℕ) → sites ≡ map (λ format. map part_of format) (print_formats P) → length ws ≤ n →
    ((format : List Piece) → slice_get (print_formats P) site ≡ Some format → length ws ≡ length (conversions_of format)) →
    ((j w : ℕ) → slice_get ws j ≡ Some w → f j ≡ w) →
    bytes_of_site (slice_get sites site) (spread f 0 n) ≡ text_at (slice_get (print_formats P) site) ws
site_prints P sites site n ws f e le count each =
    ap (λ (xs : List (List Part)). bytes_of_site (slice_get xs site) (spread f 0 n)) e
    ∙ ap (λ (o : Option (List Part)). bytes_of_site o (spread f 0 n)) (slice_get-map (λ format. map part_of format) (print_formats P) site)
    ∙ go (slice_get (print_formats P) site) refl
  where
    go : (o : Option (List Piece)) → slice_get (print_formats P) site ≡ o → bytes_of_site (option_map (λ format. map part_of format) o) (spread f 0 n) ≡ text_at o ws
    go None q = refl
    go (Some format) q =
        let all = begins f ws 0 n le (λ j w t. ap f (let z : 0 + j ≡ j = omega arith in z) ∙ each j w t) in
        ap (λ xs. site_bytes (map part_of format) xs) all.1 ∙ site_same format ws all.0 (count format q)
