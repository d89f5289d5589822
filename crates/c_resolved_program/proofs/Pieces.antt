-- What a printf's format gives, where its string literal is one of the lexer's.
use Rattle.std.proofs.Common.{refl, ℕ, zero, suc, Bool, true, false, List, [], ◌∷◌, length, Option, Some, None}
use Rattle.std.specs.Prelude.{nat_eq, if◌then◌else◌, option_and_then, option_map, IsTrue, ⊤}
use Rattle.std.specs.List.{AllByRecursion}
use Rattle.c_program.specs.Tree.{Piece}
use Rattle.c_program.specs.Resolved.{IsPiece, is_text_byte}
use Rattle.c_rules.specs.declared.specifiers.BasicType.{BasicType}
use Rattle.c_rules.specs.declared.specifiers.BasicType.TheVariants.{Int, UnsignedInt, Long, UnsignedLong}
use Rattle.c_rules.specs.declared.format.Part.{Part}
use Rattle.c_rules.specs.declared.format.Part.TheVariants.{Byte, Conversion}
use Rattle.c_rules.specs.Specifiers.{c_type}
use Rattle.c_rules.specs.Formats as r
use Rattle.c_resolved_program.proofs.Walks.{IfAny, all_more}

abbrev pub AreText : List ℕ → Type 0
AreText bytes = AllByRecursion (λ byte. IsTrue (is_text_byte byte)) bytes

abbrev pub ArePieces : List Piece → Type 0
ArePieces pieces = AllByRecursion IsPiece pieces

abbrev IsPart : Part → Type 0
IsPart (Byte byte) = IsTrue (is_text_byte byte)
IsPart (Conversion ty) = ⊤

abbrev IsRead : Part × List ℕ → Type 0
IsRead p = IsPart p.0 × AreText p.1

either : {A : Type 0} (Is : A → Type 0) (b : Bool) (o p : Option A) → IfAny Is o → IfAny Is p → IfAny Is (if b then o else p)
either Is true o p h k = h
either Is false o p h k = k

and_then_is : {A B : Type 0} (Is : A → Type 0) (Next : B → Type 0) (o : Option A) (k : A → Option B) → IfAny Is o → ((a : A) → Is a → IfAny Next (k a)) →
    IfAny Next (option_and_then k o)
and_then_is Is Next None k h step = tt
and_then_is Is Next (Some a) k h step = step a h

after_front_is : (text : List ℕ) (reads : ℕ → List ℕ → r.Reading) → AreText text →
    ((byte : ℕ) (rest : List ℕ) → IsTrue (is_text_byte byte) → AreText rest → IfAny IsRead (reads byte rest)) → IfAny IsRead (r.after_front text reads)
after_front_is [] reads all step = tt
after_front_is (byte ∷ rest) reads all step = step byte rest all.0 all.1

escaped_is : (byte : ℕ) → IfAny (λ b. IsTrue (is_text_byte b)) (r.escaped byte)
escaped_is byte =
    let Is : ℕ → Type 0 = λ b. IsTrue (is_text_byte b) in
    let quote : Option ℕ = if nat_eq byte 34 then Some 34 else None in
    let slash : Option ℕ = if nat_eq byte 92 then Some 92 else quote in
    let tab : Option ℕ = if nat_eq byte 116 then Some 9 else slash in
    either Is (nat_eq byte 110) (Some 10) tab refl
    (either Is (nat_eq byte 116) (Some 9) slash refl
    (either Is (nat_eq byte 92) (Some 92) quote refl
    (either Is (nat_eq byte 34) (Some 34) None refl tt)))

with_rest : (rest : List ℕ) (o : Option ℕ) → AreText rest → IfAny (λ b. IsTrue (is_text_byte b)) o → IfAny IsRead (option_map (λ b. (Byte b, rest)) o)
with_rest rest None all h = tt
with_rest rest (Some b) all h = (h, all)

escape_is : (text : List ℕ) → AreText text → IfAny IsRead (r.escape text)
escape_is text all =
    after_front_is text (λ byte rest. option_map (λ b. (Byte b, rest)) (r.escaped byte)) all
    (λ byte rest _ behind. with_rest rest (r.escaped byte) behind (escaped_is byte))

lettered_is : (signed unsigned : BasicType) (text : List ℕ) → AreText text → IfAny IsRead (r.lettered signed unsigned text)
lettered_is signed unsigned text all =
    after_front_is text (λ byte rest. if nat_eq byte 100 then Some (Conversion signed, rest) else (if nat_eq byte 117 then Some (Conversion unsigned, rest) else None)) all
    (λ byte rest _ behind.
    either IsRead (nat_eq byte 100) (Some (Conversion signed, rest)) (if nat_eq byte 117 then Some (Conversion unsigned, rest) else None) (tt, behind)
    (either IsRead (nat_eq byte 117) (Some (Conversion unsigned, rest)) None (tt, behind) tt))

long_is : (text : List ℕ) → AreText text → IfAny IsRead (r.long text)
long_is text all =
    after_front_is text (λ byte rest. if nat_eq byte 108 then r.lettered Long UnsignedLong rest else r.lettered Long UnsignedLong text) all
    (λ byte rest _ behind.
    either IsRead (nat_eq byte 108) (r.lettered Long UnsignedLong rest) (r.lettered Long UnsignedLong text)
    (lettered_is Long UnsignedLong rest behind) (lettered_is Long UnsignedLong text all))

conversion_is : (text : List ℕ) → AreText text → IfAny IsRead (r.conversion text)
conversion_is text all =
    after_front_is text (λ byte rest. if nat_eq byte 37 then Some (Byte 37, rest) else (if nat_eq byte 108 then r.long rest else r.lettered Int UnsignedInt text)) all
    (λ byte rest _ behind.
    either IsRead (nat_eq byte 37) (Some (Byte 37, rest)) (if nat_eq byte 108 then r.long rest else r.lettered Int UnsignedInt text) (refl, behind)
    (either IsRead (nat_eq byte 108) (r.long rest) (r.lettered Int UnsignedInt text) (long_is rest behind) (lettered_is Int UnsignedInt text all)))

first_part_is : (text : List ℕ) → AreText text → IfAny IsRead (r.first_part text)
first_part_is text all =
    after_front_is text (λ byte rest. if nat_eq byte 92 then r.escape rest else (if nat_eq byte 37 then r.conversion rest else Some (Byte byte, rest))) all
    (λ byte rest here behind.
    either IsRead (nat_eq byte 92) (r.escape rest) (if nat_eq byte 37 then r.conversion rest else Some (Byte byte, rest)) (escape_is rest behind)
    (either IsRead (nat_eq byte 37) (r.conversion rest) (Some (Byte byte, rest)) (conversion_is rest behind) (here, behind)))

-- ---- pieces

flushed_is : (pieces : List Piece) (text : List ℕ) → ArePieces pieces → AreText text → ArePieces (r.flushed pieces text)
flushed_is pieces [] all text = all
flushed_is pieces (byte ∷ more) all text = all_more IsPiece pieces (Piece.Text (byte ∷ more)) all text

abbrev IsDraft : r.Draft → Type 0
IsDraft d = ArePieces d.0 × AreText d.1

with_part_is : (pieces : List Piece) (text : List ℕ) (p : Part) → ArePieces pieces → AreText text → IsPart p → IsDraft (r.with_part pieces text p)
with_part_is pieces text (Byte byte) all are is = (all, all_more (λ byte. IsTrue (is_text_byte byte)) text byte are is)
with_part_is pieces text (Conversion ty) all are is =
    (all_more IsPiece (r.flushed pieces text) (Piece.Conversion (c_type ty)) (flushed_is pieces text all are) tt, tt)

pieces_from_are : (n : ℕ) (d : r.Draft) (left : List ℕ) → IsDraft d → AreText left → IfAny ArePieces (r.pieces_from n d left)
unfolding r.pieces_from
pieces_from_are n d [] draft all = flushed_is d.0 d.1 draft.0 draft.1
pieces_from_are zero d (byte ∷ rest) draft all = tt
pieces_from_are (suc n) d (byte ∷ rest) draft all =
    and_then_is IsRead ArePieces (r.first_part (byte ∷ rest)) (λ (p : Part × List ℕ). r.pieces_from n (r.with_part d.0 d.1 p.0) p.1)
    (first_part_is (byte ∷ rest) all)
    (λ p read. pieces_from_are n (r.with_part d.0 d.1 p.0) p.1 (with_part_is d.0 d.1 p.0 draft.0 draft.1 read.0) read.1)

pub pieces_are : (format : List ℕ) → AreText format → IfAny ArePieces (r.pieces_in format)
pieces_are format all = pieces_from_are (length format) ([], []) format (tt, tt) all
