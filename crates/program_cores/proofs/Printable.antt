-- The printer can write the sites of a resolved program that has few.
use Rattle.std.proofs.Common.{◌≡◌, ℕ, suc, ◌+◌, ◌<◌, ◌≤◌, ◌^◌, Bool, true, false, List, [], ◌∷◌, length, map, refl, sym, ap, ◌∙◌, subst, arith}
use Rattle.std.specs.Prelude.{◌&&◌, ◌||◌, nat_eq, nat_le, IsTrue}
use Rattle.std.specs.List.{AllByRecursion}
use Rattle.std.proofs.lemmas.List.{length-map}
use Rattle.c_program.specs.Tree.{Piece, Program}
use Rattle.c_program.specs.Limits.{print_sites}
use Rattle.c_program.specs.Resolved.{is_text_byte, IsPiece, IsResolved}
use Rattle.code_following.specs.Following.{conversions_of, print_formats}
use Rattle.code_storage.specs.Formats.{IsPrinted}
use Rattle.code_storage.proofs.Formats.{program_prints, formats_listed}
use Rattle.circuit.specs.Rows.{EachOf}
use Rattle.printer_cores.specs.Format.{is_printable, all_printable, values_of, IsPart, IsSite}
use Rattle.printer_cores.specs.Printer.{IsShape}
use Rattle.printer_cores.specs.declared.format.Part.{Part}
use Rattle.law_cycle.specs.Built.{conversion_part, part_of}
use Rattle.program_cores.specs.Sites.{site_of, sites_of}

swapped : (x y z : Bool) → IsTrue (x || y || z) → (z || (y || x)) ≡ true
swapped x y true h = refl
swapped x true false h = refl
swapped true false false h = refl
swapped false false false h = absurd cc

byte_printable : (byte : ℕ) → IsTrue (is_text_byte byte) → is_printable byte ≡ true
byte_printable byte h = swapped (nat_eq byte 9) (nat_eq byte 10) (nat_le 32 byte && nat_le byte 126) h

bytes_printable : (bytes : List ℕ) → AllByRecursion (λ byte. IsTrue (is_text_byte byte)) bytes → all_printable bytes ≡ true
bytes_printable [] all = refl
bytes_printable (b ∷ bytes) all = ap (λ t. t && all_printable bytes) (byte_printable b all.0) ∙ bytes_printable bytes all.1

conversion_is : (signed : Bool) → IsPart (conversion_part signed)
conversion_is true = tt
conversion_is false = tt

piece_is : (p : Piece) → IsPiece p → IsPart (part_of p)
piece_is (Piece.Text bytes) is = bytes_printable bytes is
piece_is (Piece.Conversion ty) is = conversion_is ty.signed

pieces_are : (format : List Piece) → AllByRecursion IsPiece format → EachOf IsPart (site_of format)
pieces_are [] all = tt
pieces_are (p ∷ format) all = (piece_is p all.0, pieces_are format all.1)

conversion_counts : (signed : Bool) (parts : List Part) → values_of (conversion_part signed ∷ parts) ≡ 1 + values_of parts
conversion_counts true parts = refl
conversion_counts false parts = refl

one_more : (n : ℕ) → 1 + n ≡ suc n
one_more n = omega arith

values_are : (format : List Piece) → values_of (site_of format) ≡ length (conversions_of format)
values_are [] = refl
values_are (Piece.Text bytes ∷ format) = values_are format
values_are (Piece.Conversion ty ∷ format) = conversion_counts ty.signed (site_of format) ∙ one_more (values_of (site_of format)) ∙ ap suc (values_are format)

format_is : (format : List Piece) → IsPrinted format → IsSite 4 (site_of format)
format_is format is = (pieces_are format is.pieces, let n = values_are format in let few = is.few in omega (arith, n, few))

formats_are : (formats : List (List Piece)) → AllByRecursion IsPrinted formats → EachOf (IsSite 4) (map site_of formats)
formats_are [] all = tt
formats_are (f ∷ formats) all = (format_is f all.0, formats_are formats all.1)

sites_listed : (P : Program) → length (sites_of P) ≡ print_sites P
sites_listed P = length-map (print_formats P) site_of ∙ formats_listed P

pub shape_is : (P : Program) (threads : ℕ) (sites : List (List Part)) → threads ≤ 64 → sites ≡ sites_of P → IsResolved P → print_sites P < 2 ^ 16 →
    IsShape (record { threads = threads; values = 4; sites = sites })
shape_is P threads sites low is resolved few = record {
  few = low;
  few_values = (let low : 4 < 256 = omega arith in low);
  few_sites = (let long = sites_listed P in let same = ap length is in omega (arith, long, same, few));
  sites = subst (EachOf (IsSite 4)) (sym is) (formats_are (print_formats P) (program_prints P resolved));
}
