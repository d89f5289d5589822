-- The formats of printf, as they are read and as they are.
use Rattle.std.proofs.Common.{◌≡◌, refl, sym, subst, ap, ◌∙◌, inl, inr, ℕ, zero, suc, ◌≤◌, ◌+◌, Bool, true, false, List, [], ◌∷◌, ◌++◌, length}
use Rattle.std.proofs.lemmas.Bool.{true≢false, eqb-true, eqb-false, ne_eqb}
use Rattle.std.proofs.Common.{Option, Some, None, add-zero, zero-add, add_assoc, cond, arith}
use Rattle.std.specs.Prelude.{nat_eq, count_by, fold, if◌then◌else◌, option_and_then, option_map}
use Rattle.std.proofs.lemmas.Option.{same_Some, none-some}
use Rattle.std.proofs.lemmas.List.Sums.{fold-append}
use Rattle.c_program.specs.Tree.{Piece}
use Rattle.c_program.specs.Resolved.{is_conversion}
use Rattle.c_rules.specs.declared.specifiers.BasicType.{BasicType}
use Rattle.c_rules.specs.declared.specifiers.BasicType.TheVariants.{Int, UnsignedInt, Long, UnsignedLong}
use Rattle.c_rules.specs.declared.format.Part.{Part}
use Rattle.c_rules.specs.declared.format.Part.TheVariants.{Byte, Conversion}
use Rattle.c_rules.specs.Formats as f
use Rattle.c_rules.specs.Specifiers.{c_type}
use Rattle.c_broken_rules.specs.Formats.{IsFormat, IsEscaped, IsConverted}

-- ---- one more part

abbrev grown : Part → ℕ → ℕ
grown (Byte byte) n = n
grown (Conversion ty) n = suc n

-- what is read first, with a format behind it, is a format
abbrev Grows : List ℕ → f.Reading → Type 0
Grows text None = Unit {0}
Grows text (Some r) = (n : ℕ) → IsFormat r.1 n → IsFormat text (grown r.0 n)

letter_by : (whole : List ℕ → List ℕ) → ((letter : ℕ) (rest : List ℕ) (n : ℕ) → IsConverted letter → IsFormat rest n → IsFormat (whole (letter ∷ rest)) (suc n)) →
    (signed unsigned : BasicType) (letter : ℕ) (rest : List ℕ) (b c : Bool) → nat_eq letter 100 ≡ b → nat_eq letter 117 ≡ c →
    Grows (whole (letter ∷ rest)) (if b then Some (Conversion signed, rest) else (if c then Some (Conversion unsigned, rest) else None))
letter_by whole make signed unsigned letter rest true c d u = λ n h. make letter rest n (inl (eqb-true letter 100 d)) h
letter_by whole make signed unsigned letter rest false true d u = λ n h. make letter rest n (inr (eqb-true letter 117 u)) h
letter_by whole make signed unsigned letter rest false false d u = tt

lettered : (whole : List ℕ → List ℕ) → ((letter : ℕ) (rest : List ℕ) (n : ℕ) → IsConverted letter → IsFormat rest n → IsFormat (whole (letter ∷ rest)) (suc n)) →
    (signed unsigned : BasicType) (text : List ℕ) → Grows (whole text) (f.lettered signed unsigned text)
lettered whole make signed unsigned [] = tt
lettered whole make signed unsigned (letter ∷ rest) = letter_by whole make signed unsigned letter rest (nat_eq letter 100) (nat_eq letter 117) refl refl

long_by : (byte : ℕ) (rest : List ℕ) (b : Bool) → nat_eq byte 108 ≡ b →
    Grows (37 ∷ 108 ∷ byte ∷ rest) (if b then f.lettered Long UnsignedLong rest else f.lettered Long UnsignedLong (byte ∷ rest))
long_by byte rest true e =
    subst (λ k. Grows (37 ∷ 108 ∷ k ∷ rest) (f.lettered Long UnsignedLong rest)) (sym (eqb-true byte 108 e))
    (lettered (λ text. 37 ∷ 108 ∷ 108 ∷ text) (λ letter rest n h m. IsFormat.LongLong letter rest n h m) Long UnsignedLong rest)
long_by byte rest false e = lettered (λ text. 37 ∷ 108 ∷ text) (λ letter rest n h m. IsFormat.Long letter rest n h m) Long UnsignedLong (byte ∷ rest)

long : (text : List ℕ) → Grows (37 ∷ 108 ∷ text) (f.long text)
long [] = tt
long (byte ∷ rest) = long_by byte rest (nat_eq byte 108) refl

conversion_by : (byte : ℕ) (rest : List ℕ) (b c : Bool) → nat_eq byte 37 ≡ b → nat_eq byte 108 ≡ c →
    Grows (37 ∷ byte ∷ rest) (if b then Some (Byte 37, rest) else (if c then f.long rest else f.lettered Int UnsignedInt (byte ∷ rest)))
conversion_by byte rest true c e l = λ n h. subst (λ k. IsFormat (37 ∷ k ∷ rest) n) (sym (eqb-true byte 37 e)) (IsFormat.Percent rest n h)
conversion_by byte rest false true e l = subst (λ k. Grows (37 ∷ k ∷ rest) (f.long rest)) (sym (eqb-true byte 108 l)) (long rest)
conversion_by byte rest false false e l = lettered (λ text. 37 ∷ text) (λ letter rest n h m. IsFormat.Conversion letter rest n h m) Int UnsignedInt (byte ∷ rest)

conversion : (text : List ℕ) → Grows (37 ∷ text) (f.conversion text)
conversion [] = tt
conversion (byte ∷ rest) = conversion_by byte rest (nat_eq byte 37) (nat_eq byte 108) refl refl

escape_by : (byte : ℕ) (rest : List ℕ) (a b c d : Bool) → nat_eq byte 110 ≡ a → nat_eq byte 116 ≡ b → nat_eq byte 92 ≡ c → nat_eq byte 34 ≡ d →
    Grows (92 ∷ byte ∷ rest) (option_map (λ (x : ℕ). (Byte x, rest))
    (if a then Some 10 else (if b then Some 9 else (if c then Some 92 else (if d then Some 34 else None)))))
escape_by byte rest true b c d e g h k = λ n m. IsFormat.Escape byte rest n (inl (eqb-true byte 110 e)) m
escape_by byte rest false true c d e g h k = λ n m. IsFormat.Escape byte rest n (inr (inl (eqb-true byte 116 g))) m
escape_by byte rest false false true d e g h k = λ n m. IsFormat.Escape byte rest n (inr (inr (inl (eqb-true byte 92 h)))) m
escape_by byte rest false false false true e g h k = λ n m. IsFormat.Escape byte rest n (inr (inr (inr (eqb-true byte 34 k)))) m
escape_by byte rest false false false false e g h k = tt

escape : (text : List ℕ) → Grows (92 ∷ text) (f.escape text)
escape [] = tt
escape (byte ∷ rest) = escape_by byte rest (nat_eq byte 110) (nat_eq byte 116) (nat_eq byte 92) (nat_eq byte 34) refl refl refl refl

first_by : (byte : ℕ) (rest : List ℕ) (b c : Bool) → nat_eq byte 92 ≡ b → nat_eq byte 37 ≡ c →
    Grows (byte ∷ rest) (if b then f.escape rest else (if c then f.conversion rest else Some (Byte byte, rest)))
first_by byte rest true c e p = subst (λ k. Grows (k ∷ rest) (f.escape rest)) (sym (eqb-true byte 92 e)) (escape rest)
first_by byte rest false true e p = subst (λ k. Grows (k ∷ rest) (f.conversion rest)) (sym (eqb-true byte 37 p)) (conversion rest)
first_by byte rest false false e p = λ n h. IsFormat.Byte byte rest n (eqb-false byte 92 e) (eqb-false byte 37 p) h

first_grows : (byte : ℕ) (rest : List ℕ) → Grows (byte ∷ rest) (f.first_part (byte ∷ rest))
first_grows byte rest = first_by byte rest (nat_eq byte 92) (nat_eq byte 37) refl refl

-- ---- how many conversions pieces have

abbrev conversions : List Piece → ℕ
conversions list = count_by is_conversion list

abbrev counted : ℕ → Piece → ℕ
counted n x = n + cond (is_conversion x) 1 0

counted_from : (n : ℕ) (xs : List Piece) → fold counted n xs ≡ n + fold counted 0 xs
counted_from n [] = sym (add-zero n)
counted_from n (x ∷ xs) =
    let c = cond (is_conversion x) 1 0 in
    counted_from (n + c) xs ∙ add_assoc n c (fold counted 0 xs) ∙ ap (λ k. n + k) (sym (counted_from (0 + c) xs ∙ ap (λ k. k + fold counted 0 xs) (zero-add c)))

count_append : (xs ys : List Piece) → conversions (xs ++ ys) ≡ conversions xs + conversions ys
count_append xs ys = fold-append counted 0 xs ys ∙ counted_from (conversions xs) ys

flushed_count : (pieces : List Piece) (text : List ℕ) → conversions (f.flushed pieces text) ≡ conversions pieces
flushed_count pieces [] = refl
flushed_count pieces (byte ∷ more) =
    let none : conversions (Piece.Text (byte ∷ more) ∷ []) ≡ 0 = refl in
    omega (arith, count_append pieces (Piece.Text (byte ∷ more) ∷ []))

part_count : (pieces : List Piece) (text : List ℕ) (p : Part) (n : ℕ) → conversions (f.with_part pieces text p).0 + n ≡ conversions pieces + grown p n
part_count pieces text (Byte byte) n = refl
part_count pieces text (Conversion ty) n =
    let one : conversions (Piece.Conversion (c_type ty) ∷ []) ≡ 1 = refl in
    omega (arith, count_append (f.flushed pieces text) (Piece.Conversion (c_type ty) ∷ []), flushed_count pieces text)

-- ---- what is read is a format

abbrev IsRead : List ℕ → List Piece → List Piece → Type 0
IsRead text before pieces = (n : ℕ) × IsFormat text n × (conversions pieces ≡ conversions before + n)

next_read : (k : ℕ) (draft : f.Draft) (text : List ℕ) (pieces : List Piece) (o : f.Reading) → Grows text o →
    ((draft : f.Draft) (text : List ℕ) (pieces : List Piece) → f.pieces_from k draft text ≡ Some pieces → IsRead text draft.0 pieces) →
    option_and_then (λ (p : Part × List ℕ). f.pieces_from k (f.with_part draft.0 draft.1 p.0) p.1) o ≡ Some pieces → IsRead text draft.0 pieces
next_read k draft text pieces None grows more h = absurd (none-some pieces h)
next_read k draft text pieces (Some r) grows more h =
    let m = more (f.with_part draft.0 draft.1 r.0) r.1 pieces h in
    (grown r.0 m.0, grows m.0 m.1, m.2 ∙ part_count draft.0 draft.1 r.0 m.0)

read_is : (k : ℕ) (draft : f.Draft) (text : List ℕ) (pieces : List Piece) → f.pieces_from k draft text ≡ Some pieces → IsRead text draft.0 pieces
unfolding f.pieces_from
read_is k draft [] pieces h =
    (0, IsFormat.End, ap conversions (sym (same_Some _ _ h)) ∙ flushed_count draft.0 draft.1 ∙ sym (add-zero (conversions draft.0)))
read_is zero draft (byte ∷ rest) pieces h = absurd (none-some pieces h)
read_is (suc k) draft (byte ∷ rest) pieces h = next_read k draft (byte ∷ rest) pieces (f.first_part (byte ∷ rest)) (first_grows byte rest) (read_is k) h

-- ---- a format is read

byte_first : (byte : ℕ) (rest : List ℕ) (b c : Bool) → b ≡ false → c ≡ false →
    (if b then f.escape rest else (if c then f.conversion rest else Some (Byte byte, rest))) ≡ Some (Byte byte, rest)
byte_first byte rest false false e p = refl
byte_first byte rest true c e p = absurd (true≢false e)
byte_first byte rest false true e p = absurd (true≢false p)

escaped_first : (byte : ℕ) (rest : List ℕ) → IsEscaped byte → (p : Part) × (f.first_part (92 ∷ byte ∷ rest) ≡ Some (p, rest)) × ((n : ℕ) → grown p n ≡ n)
escaped_first byte rest (inl e) = (Byte 10, ap (λ k. f.first_part (92 ∷ k ∷ rest)) e, λ n. refl)
escaped_first byte rest (inr (inl e)) = (Byte 9, ap (λ k. f.first_part (92 ∷ k ∷ rest)) e, λ n. refl)
escaped_first byte rest (inr (inr (inl e))) = (Byte 92, ap (λ k. f.first_part (92 ∷ k ∷ rest)) e, λ n. refl)
escaped_first byte rest (inr (inr (inr e))) = (Byte 34, ap (λ k. f.first_part (92 ∷ k ∷ rest)) e, λ n. refl)

converted_first : (before : List ℕ → List ℕ) (signed unsigned : BasicType) → ((rest : List ℕ) → f.first_part (before (100 ∷ rest)) ≡ Some (Conversion signed, rest)) →
    ((rest : List ℕ) → f.first_part (before (117 ∷ rest)) ≡ Some (Conversion unsigned, rest)) → (letter : ℕ) (rest : List ℕ) → IsConverted letter →
    (p : Part) × (f.first_part (before (letter ∷ rest)) ≡ Some (p, rest)) × ((n : ℕ) → grown p n ≡ suc n)
converted_first before signed unsigned d u letter rest (inl e) = (Conversion signed, ap (λ k. f.first_part (before (k ∷ rest))) e ∙ d rest, λ n. refl)
converted_first before signed unsigned d u letter rest (inr e) = (Conversion unsigned, ap (λ k. f.first_part (before (k ∷ rest))) e ∙ u rest, λ n. refl)

-- what a text gives behind a draft, in so many steps at most
abbrev IsFound : List ℕ → ℕ → Type 0
IsFound text n = (k : ℕ) → length text ≤ k → (draft : f.Draft) → (pieces : List Piece) × (f.pieces_from k draft text ≡ Some pieces) × (conversions pieces ≡ conversions draft.0 + n)

then_same : {A B : Type 0} (g : A → Option B) (o : Option A) (a : A) → o ≡ Some a → option_and_then g o ≡ g a
then_same g o a e = ap (option_and_then g) e

step : (byte : ℕ) (tail rest : List ℕ) (p : Part) (n m : ℕ) → f.first_part (byte ∷ tail) ≡ Some (p, rest) → length rest ≤ length tail → grown p n ≡ m → IsFound rest n →
    IsFound (byte ∷ tail) m
unfolding f.pieces_from
step byte tail rest p n m e le g more zero lt draft = absurd (omega arith)
step byte tail rest p n m e le g more (suc k) lt draft =
    let next = more k (omega arith) (f.with_part draft.0 draft.1 p) in
    let same = then_same (λ (q : Part × List ℕ). f.pieces_from k (f.with_part draft.0 draft.1 q.0) q.1) (f.first_part (byte ∷ tail)) (p, rest) e in
    (next.0, same ∙ next.1, next.2 ∙ part_count draft.0 draft.1 p n ∙ ap (λ j. conversions draft.0 + j) g)

pub found : (text : List ℕ) (n : ℕ) → IsFormat text n → IsFound text n
unfolding f.pieces_from
found text n IsFormat.End = λ k lt draft. (f.flushed draft.0 draft.1, refl, flushed_count draft.0 draft.1 ∙ sym (add-zero (conversions draft.0)))
found text n (IsFormat.Byte byte rest m no_escape no_conversion more) =
    step byte rest rest (Byte byte) m m (byte_first byte rest (nat_eq byte 92) (nat_eq byte 37) (ne_eqb byte 92 no_escape) (ne_eqb byte 37 no_conversion)) (omega arith) refl
    (found rest m more)
found text n (IsFormat.Escape byte rest m escaped more) =
    let e = escaped_first byte rest escaped in
    step 92 (byte ∷ rest) rest e.0 m m e.1 (omega arith) (e.2 m) (found rest m more)
found text n (IsFormat.Percent rest m more) = step 37 (37 ∷ rest) rest (Byte 37) m m refl (omega arith) refl (found rest m more)
found text n (IsFormat.Conversion letter rest m converted more) =
    let e = converted_first (λ t. 37 ∷ t) Int UnsignedInt (λ r. refl) (λ r. refl) letter rest converted in
    step 37 (letter ∷ rest) rest e.0 m (suc m) e.1 (omega arith) (e.2 m) (found rest m more)
found text n (IsFormat.Long letter rest m converted more) =
    let e = converted_first (λ t. 37 ∷ 108 ∷ t) Long UnsignedLong (λ r. refl) (λ r. refl) letter rest converted in
    step 37 (108 ∷ letter ∷ rest) rest e.0 m (suc m) e.1 (omega arith) (e.2 m) (found rest m more)
found text n (IsFormat.LongLong letter rest m converted more) =
    let e = converted_first (λ t. 37 ∷ 108 ∷ 108 ∷ t) Long UnsignedLong (λ r. refl) (λ r. refl) letter rest converted in
    step 37 (108 ∷ 108 ∷ letter ∷ rest) rest e.0 m (suc m) e.1 (omega arith) (e.2 m) (found rest m more)

pub read : (text : List ℕ) (pieces : List Piece) → f.pieces_in text ≡ Some pieces → IsFormat text (conversions pieces)
read text pieces h =
    let r = read_is (length text) ([], []) text pieces h in
    subst (IsFormat text) (sym (r.2 ∙ zero-add r.0)) r.1

pub is_read : (text : List ℕ) (n : ℕ) → IsFormat text n → (pieces : List Piece) × (f.pieces_in text ≡ Some pieces) × (conversions pieces ≡ n)
is_read text n h =
    let r = found text n h (length text) (omega arith) ([], []) in
    (r.0, r.1, r.2 ∙ zero-add n)
