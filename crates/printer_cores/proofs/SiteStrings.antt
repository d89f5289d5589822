-- Strings of sites, part by part, can stand between quotes.
use Rattle.std.proofs.Common.{◌≡◌, ℕ, zero, suc, ◌+◌, ◌≤◌, List, [], ◌∷◌, ◌++◌, length, take, slice_get, Some, Bool, true, false, nat_eq, refl, sym, ap, ◌∙◌, append_assoc, add-one}
use Rattle.std.specs.Prelude.{not, ◌||◌, ◌==◌, if◌then◌else◌}
use Rattle.std.proofs.lemmas.List.{append-nil, take_all}
use Rattle.std.proofs.lemmas.Bool.{and_parts}
use Rattle.lists.proofs.Places.{take_next}
use Rattle.verilog_tree.specs.Spelling.{is_quoted, is_plain}
use Rattle.verilog_tree.proofs.Tests.{and_both}
use Rattle.circuit.specs.Rows.{EachOf}
use Rattle.printer_cores.specs.declared.format.Part.{Part}
use Rattle.printer_cores.specs.declared.format.Part.TheVariants.{Text, Unsigned, Signed}
use Rattle.printer_cores.specs.Format.{is_printable, all_printable, IsPart, spelled_byte, spelled_bytes, spelled_part, spelled}

-- ---- one byte or part longer

spelled_bytes-append : (x y : List ℕ) → spelled_bytes (x ++ y) ≡ spelled_bytes x ++ spelled_bytes y
spelled_bytes-append [] y = refl
spelled_bytes-append (b ∷ x) y = ap (λ l. spelled_byte b ++ l) (spelled_bytes-append x y) ∙ sym (append_assoc (spelled_byte b) (spelled_bytes x) (spelled_bytes y))

spelled-append : (x y : List Part) → spelled (x ++ y) ≡ spelled x ++ spelled y
spelled-append [] y = refl
spelled-append (p ∷ x) y = ap (λ l. spelled_part p ++ l) (spelled-append x y) ∙ sym (append_assoc (spelled_part p) (spelled x) (spelled y))

pub bytes_grow : (a t u bytes : List ℕ) (i b : ℕ) → slice_get bytes i ≡ Some b → t ≡ a ++ spelled_bytes (take i bytes) → u ≡ t ++ spelled_byte b → u ≡ a ++ spelled_bytes (take (i + 1) bytes)
bytes_grow a t u bytes i b e f g =
    g ∙ ap (λ l. l ++ spelled_byte b) f ∙ append_assoc a (spelled_bytes (take i bytes)) (spelled_byte b)
    ∙ ap (λ l. a ++ (spelled_bytes (take i bytes) ++ l)) (sym (append-nil (spelled_byte b)))
    ∙ ap (λ l. a ++ l) (sym (spelled_bytes-append (take i bytes) (b ∷ [])))
    ∙ ap (λ l. a ++ spelled_bytes l) (sym (ap (λ n. take n bytes) (add-one i) ∙ take_next bytes i b e))

pub parts_grow : (t u : List ℕ) (parts : List Part) (i : ℕ) (p : Part) → slice_get parts i ≡ Some p → t ≡ spelled (take i parts) → u ≡ t ++ spelled_part p → u ≡ spelled (take (i + 1) parts)
parts_grow t u parts i p e f g =
    g ∙ ap (λ l. l ++ spelled_part p) f
    ∙ ap (λ l. spelled (take i parts) ++ l) (sym (append-nil (spelled_part p)))
    ∙ sym (spelled-append (take i parts) (p ∷ []))
    ∙ ap spelled (sym (ap (λ n. take n parts) (add-one i) ∙ take_next parts i p e))

-- ---- quotes

quoted-append : (escaped : Bool) (x y : List ℕ) → is_quoted escaped x ≡ true → is_quoted false y ≡ true → is_quoted escaped (x ++ y) ≡ true
quoted-append true [] y h k = cc
quoted-append false [] y h k = k
quoted-append true (b ∷ x) y h k = and_both (is_plain b) _ (and_parts _ _ h).0 (quoted-append false x y (and_parts (is_plain b) _ h).1 k)
quoted-append false (b ∷ x) y h k =
    let inner = (and_parts (not (b == 34)) _ h).1 in
    and_both (not (b == 34)) _ (and_parts _ _ h).0
    (and_both (is_plain b) _ (and_parts _ _ inner).0 (quoted-append (b == 92) x y (and_parts (is_plain b) _ inner).1 k))

or_left : (b : Bool) → (b || false) ≡ true → b ≡ true
or_left true h = refl
or_left false h = h

other_byte : (b : ℕ) → is_printable b ≡ true → nat_eq b 10 ≡ false → nat_eq b 9 ≡ false → is_plain b ≡ true
other_byte b h ten nine = or_left (is_plain b) (sym (ap (λ c. is_plain b || c) (ap (λ c. c || nat_eq b 9) ten ∙ nine)) ∙ h)

byte_quoted : (b : ℕ) (feed tab slash quote percent : Bool) → nat_eq b 10 ≡ feed → nat_eq b 9 ≡ tab → nat_eq b 92 ≡ slash → nat_eq b 34 ≡ quote → is_printable b ≡ true
    → is_quoted false (if feed then 92 ∷ 110 ∷ [] else (if tab then 92 ∷ 116 ∷ [] else (if slash then 92 ∷ 92 ∷ [] else (if quote then 92 ∷ 34 ∷ [] else
    (if percent then 37 ∷ 37 ∷ [] else b ∷ []))))) ≡ true
byte_quoted b true tab slash quote percent e f g i h = refl
byte_quoted b false true slash quote percent e f g i h = refl
byte_quoted b false false true quote percent e f g i h = refl
byte_quoted b false false false true percent e f g i h = refl
byte_quoted b false false false false true e f g i h = refl
byte_quoted b false false false false false e f g i h = and_both (not (b == 34)) _ (ap not i) (and_both (is_plain b) _ (other_byte b h e f) (ap not g))

bytes_quoted : (bytes : List ℕ) → all_printable bytes ≡ true → is_quoted false (spelled_bytes bytes) ≡ true
bytes_quoted [] h = refl
bytes_quoted (b ∷ bytes) h =
    quoted-append false (spelled_byte b) (spelled_bytes bytes)
    (byte_quoted b (nat_eq b 10) (nat_eq b 9) (nat_eq b 92) (nat_eq b 34) (nat_eq b 37) refl refl refl refl (and_parts _ _ h).0)
    (bytes_quoted bytes (and_parts (is_printable b) _ h).1)

part_quoted : (p : Part) → IsPart p → is_quoted false (spelled_part p) ≡ true
part_quoted (Text bytes) h = bytes_quoted bytes h
part_quoted Unsigned h = refl
part_quoted Signed h = refl

pub spelled-quoted : (parts : List Part) → EachOf IsPart parts → is_quoted false (spelled parts) ≡ true
spelled-quoted [] h = refl
spelled-quoted (p ∷ parts) h = quoted-append false (spelled_part p) (spelled parts) (part_quoted p h.0) (spelled-quoted parts h.1)

pub all-quoted : (text : List ℕ) (parts : List Part) (i : ℕ) → EachOf IsPart parts → text ≡ spelled (take i parts) → length parts ≤ i → is_quoted false text ≡ true
all-quoted text parts i h e l = ap (is_quoted false) (e ∙ ap spelled (take_all i parts l)) ∙ spelled-quoted parts h

pub printable_at : (bytes : List ℕ) (i b : ℕ) → all_printable bytes ≡ true → slice_get bytes i ≡ Some b → is_printable b ≡ true
printable_at [] i b h e = absurd cc
printable_at (c ∷ bytes) zero b h e = let same : c ≡ b = cc in sym (ap is_printable same) ∙ (and_parts _ _ h).0
printable_at (c ∷ bytes) (suc i) b h e = printable_at bytes i b (and_parts (is_printable c) _ h).1 e
