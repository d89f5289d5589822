-- The bytes of the lines of a dump.
use Rattle.std.proofs.Common.{◌≡◌, ℕ, zero, suc, ◌+◌, ◌/◌, ◌%◌, ◌^◌, ◌<◌, ◌≤◌, ◌++◌, ◌∷◌, [], List, Bool, true, false, refl, sym, ap, ◌∙◌, subst, append_assoc, arith, Option, Some, None, nat_eq}
use Rattle.std.specs.Prelude.{if◌then◌else◌, ◌==◌, decimal}
use Rattle.std.specs.Fmt.{digits}
use Rattle.std.specs.List.{All, AllByRecursion}
use Rattle.std.specs.Str.{bytes_eq}
use Rattle.std.specs.Str.Parse.{AllDigits, digits_value}
use Rattle.std.proofs.lemmas.Fmt.{digits_is_IsNumeral, decimal_is_IsNumeral, decimal_injective}
use Rattle.std.proofs.lemmas.Str.Parse.{digit_from_value}
use Rattle.std.proofs.lemmas.Bool.{false_from_ne_true, ne_eqb}
use Rattle.std.proofs.lemmas.List.Elements.{All-from_recursion}
use Rattle.std.proofs.lemmas.Slice.Eq.{bytes_eq-Decides}
use Rattle.vcd_text.proofs.Injective.{id_same}
use Rattle.vcd_text.specs.Dump.{id_digits, id_of, value}
use Rattle.vcd_text.specs.Recover.{before_blank, behind_blank, told, time_line}

-- no byte is a line feed
abbrev pub IsLine : List ℕ → Type 0
IsLine = All (λ b. (b == 10) ≡ false)

abbrev pub Plain : List ℕ → Type 0
Plain = AllByRecursion (λ b. (b == 10) ≡ false)

pub is_line : (bytes : List ℕ) → Plain bytes → IsLine bytes
is_line bytes plain = All-from_recursion (λ b. (b == 10) ≡ false) bytes plain

pub plain_append : (xs ys : List ℕ) → Plain xs → Plain ys → Plain (xs ++ ys)
plain_append [] ys p q = q
plain_append (x ∷ xs) ys p q = (p.0, plain_append xs ys p.1 q)

plain_if : (b : Bool) (bytes : List ℕ) → Plain bytes → Plain (if b then [] else bytes)
plain_if true bytes plain = tt
plain_if false bytes plain = plain

pub plain_id : (most number : ℕ) → Plain (id_digits most number)
plain_id zero number = tt
plain_id (suc most) number =
    (ne_eqb (33 + number % 94) 10 (λ e. omega (arith, e)), plain_if (number / 94 == 0) (id_digits most (number / 94)) (plain_id most (number / 94)))

pub plain_digits : (radix : ℕ) (ds : List ℕ) → radix ≤ 10 → AllDigits radix ds → Plain ds
plain_digits radix [] few h = tt
plain_digits radix (c ∷ ds) few h =
    let within = digit_from_value c (omega (arith, h.0)) in
    (ne_eqb c 10 (λ e. omega (arith, within.0, e)), plain_digits radix ds few h.1)

-- ---- what stands before and behind the blank

pub before_is : (ds rest : List ℕ) → AllDigits 2 ds → before_blank (ds ++ 32 ∷ rest) ≡ ds
before_is [] rest h = refl
before_is (c ∷ ds) rest h =
    let within = digit_from_value c (omega (arith, h.0)) in
    ap (λ (b : Bool). if b then [] else c ∷ before_blank (ds ++ 32 ∷ rest)) (ne_eqb c 32 (λ e. omega (arith, within.0, e)))
    ∙ ap (λ (l : List ℕ). c ∷ l) (before_is ds rest h.1)

pub behind_is : (ds rest : List ℕ) → AllDigits 2 ds → behind_blank (ds ++ 32 ∷ rest) ≡ rest
behind_is [] rest h = refl
behind_is (c ∷ ds) rest h =
    let within = digit_from_value c (omega (arith, h.0)) in
    ap (λ (b : Bool). if b then ds ++ 32 ∷ rest else behind_blank (ds ++ 32 ∷ rest)) (ne_eqb c 32 (λ e. omega (arith, within.0, e)))
    ∙ behind_is ds rest h.1

-- ---- identifiers and times

pub same_id : (k r : ℕ) → k < 94 ^ 10 → r < 94 ^ 10 → bytes_eq (id_of k) (id_of r) ≡ nat_eq k r
same_id k r p q = by (nat_eq k r) refl
  where
    by : (b : Bool) → nat_eq k r ≡ b → bytes_eq (id_of k) (id_of r) ≡ b
    by true e = let same : k ≡ r = grind (arith, e) in (bytes_eq-Decides (id_of k) (id_of r)).1 (ap id_of same)
    by false e = false_from_ne_true (bytes_eq (id_of k) (id_of r)) (λ h.
        let same : k ≡ r = id_same 10 k r p q ((bytes_eq-Decides (id_of k) (id_of r)).0 h) in
        grind (arith, e, same))

pub plain_time : (cycles : ℕ) → cycles < 2 ^ 64 → Plain (time_line cycles)
plain_time cycles small = (refl, plain_digits 10 (decimal cycles) (omega arith) (decimal_is_IsNumeral cycles small).0.1)

pub same_time : (cycles : ℕ) → bytes_eq (time_line cycles) (time_line cycles) ≡ true
same_time cycles = (bytes_eq-Decides (time_line cycles) (time_line cycles)).1 refl

pub other_time : (cycles other : ℕ) → cycles < 2 ^ 64 → other < 2 ^ 64 → (cycles ≡ other → ⊥) → bytes_eq (time_line cycles) (time_line other) ≡ false
other_time cycles other p q ne = false_from_ne_true (bytes_eq (time_line cycles) (time_line other)) (λ h.
    let same : time_line cycles ≡ time_line other = (bytes_eq-Decides (time_line cycles) (time_line other)).0 h in
    let tails : decimal cycles ≡ decimal other = cc in
    ne (decimal_injective cycles other p q tails))

-- ---- the line of a register

-- without its line feed
abbrev pub change_line : ℕ → ℕ → ℕ → List ℕ
change_line width v number = value width v ++ id_of number

abbrev pub told_of : ℕ → ℕ → ℕ → Option ℕ
told_of v k r = if nat_eq k r then Some v else None

-- a line without its line feed: it is not the one at which reading ends, and gives the register of an identifier what is told
pub record Says (stop id line : List ℕ) (o : Option ℕ) : Type 0 where
  pub one : IsLine line
  pub goes_on : bytes_eq line stop ≡ false
  pub tells : told id line ≡ o

module _ (stop : List ℕ) (v k r : ℕ) (few : k < 94 ^ 10) (low : r < 94 ^ 10) where
  bit_says : (w : ℕ) → w < 2 → Says (35 ∷ stop) (id_of r) ((48 + w) ∷ id_of k) (told_of w k r)
  bit_says zero l = record {
    one = is_line (48 ∷ id_of k) (refl, plain_id 10 k);
    goes_on = refl;
    tells = ap (λ (b : Bool). if b then Some 0 else None) (same_id k r few low);
  }
  bit_says (suc zero) l = record {
    one = is_line (49 ∷ id_of k) (refl, plain_id 10 k);
    goes_on = refl;
    tells = ap (λ (b : Bool). if b then Some 1 else None) (same_id k r few low);
  }
  bit_says (suc (suc w)) l = absurd (omega (arith, l))

  number_says : v < 2 ^ 64 → Says (35 ∷ stop) (id_of r) (98 ∷ (digits 2 false v ++ 32 ∷ id_of k)) (told_of v k r)
  number_says fits =
      let numeral = digits_is_IsNumeral 2 false (omega arith) (omega arith) v fits in
      let ds = digits 2 false v in
      record {
        one = is_line (98 ∷ (ds ++ 32 ∷ id_of k)) (refl, plain_append ds (32 ∷ id_of k) (plain_digits 2 ds (omega arith) numeral.0.1) (refl, plain_id 10 k));
        goes_on = refl;
        tells =
            ap (λ (l : List ℕ). if bytes_eq l (id_of r) then Some (digits_value 2 (before_blank (ds ++ 32 ∷ id_of k))) else None) (behind_is ds (id_of k) numeral.0.1)
            ∙ ap (λ (l : List ℕ). if bytes_eq (id_of k) (id_of r) then Some (digits_value 2 l) else None) (before_is ds (id_of k) numeral.0.1)
            ∙ ap (λ (n : ℕ). if bytes_eq (id_of k) (id_of r) then Some n else None) numeral.1
            ∙ ap (λ (b : Bool). if b then Some v else None) (same_id k r few low);
      }

  by_width : (width : ℕ) (b : Bool) → (width == 1) ≡ b → v < 2 ^ width → v < 2 ^ 64 →
      Says (35 ∷ stop) (id_of r) ((if b then (48 + v) ∷ [] else 98 ∷ digits 2 false v ++ 32 ∷ []) ++ id_of k) (told_of v k r)
  by_width width true e fits small =
      let one : width ≡ 1 = grind (arith, e) in
      bit_says v (subst (λ (w : ℕ). v < 2 ^ w) one fits)
  by_width width false e fits small =
      subst (λ (l : List ℕ). Says (35 ∷ stop) (id_of r) (98 ∷ l) (told_of v k r)) (sym (append_assoc (digits 2 false v) (32 ∷ []) (id_of k))) (number_says small)

  pub change_says : (width : ℕ) → v < 2 ^ width → v < 2 ^ 64 → Says (35 ∷ stop) (id_of r) (change_line width v k) (told_of v k r)
  change_says width fits small = by_width width (width == 1) refl fits small
