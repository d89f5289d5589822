-- Banks that are numbered from 0 on.
use Rattle.std.specs.Prelude.{◌≡◌, ℕ, zero, suc, ◌+◌, ◌^◌, ◌<◌, ◌≤◌, List, [], ◌∷◌, length, Some, slice_get, decimal, refl}
use Rattle.std.proofs.Common.{sym, ap, ◌∙◌, subst, arith, add-zero, zero-add}
use Rattle.std.proofs.lemmas.Fmt.{decimal_digit, decimal_is_IsNumeral, first_decimal, decimal_injective}
use Rattle.std.proofs.lemmas.Option.{same_Some, none-some, get_or_from_slice_get}
use Rattle.netlist.specs.declared.netlist.Module.{Module}
use Rattle.verilog_meaning.specs.Names.{IsMinimal}
use Rattle.verilog_meaning.specs.Follows.{BankOf, Bank, HasBanks}

-- ---- the digits of a number

leads : (k : ℕ) → k < 2 ^ 64 → slice_get (decimal k) 0 ≡ Some 48 → length (decimal k) ≡ 1
leads zero l e = ap length (decimal_digit 0 (omega arith))
leads (suc k) l e =
    let high = first_decimal (suc k) (omega arith) l in
    let zero_first = get_or_from_slice_get (decimal (suc k)) 0 48 0 e in
    absurd (omega (arith, high, zero_first))

pub decimal_minimal : (k : ℕ) → k < 2 ^ 64 → IsMinimal (decimal k)
decimal_minimal k l = ((decimal_is_IsNumeral k l).0, leads k l)

-- ---- the numbers from one on

abbrev pub decimals : ℕ → ℕ → List (List ℕ)
decimals i zero = []
decimals i (suc n) = decimal i ∷ decimals (i + 1) n

pub many : (i n : ℕ) → length (decimals i n) ≡ n
many i zero = refl
many i (suc n) = ap suc (many (i + 1) n)

pub decimal_at : (i n k : ℕ) → k < n → slice_get (decimals i n) k ≡ Some (decimal (i + k))
decimal_at i zero k l = absurd (omega arith)
decimal_at i (suc n) zero l = ap (λ z. Some (decimal z)) (sym (add-zero i))
decimal_at i (suc n) (suc k) l =
    let e : i + 1 + k ≡ i + suc k = omega arith in
    decimal_at (i + 1) n k (omega arith) ∙ ap (λ z. Some (decimal z)) e

pub at_decimal : (i n k : ℕ) (digits : List ℕ) → slice_get (decimals i n) k ≡ Some digits → (k < n) × (digits ≡ decimal (i + k))
at_decimal i zero k digits e = absurd (none-some digits e)
at_decimal i (suc n) zero digits e = (omega arith, sym (same_Some (decimal i) digits e) ∙ ap decimal (sym (add-zero i)))
at_decimal i (suc n) (suc k) digits e =
    let r = at_decimal (i + 1) n k digits e in
    let s : i + 1 + k ≡ i + suc k = omega arith in
    let l = r.0 in
    (omega (arith, l), r.1 ∙ ap decimal s)

-- ---- so many banks: those whose numbers are below

module _ (modules : List Module) (top : Module) (x : List ℕ) (count : ℕ) (few : count ≤ 2 ^ 64) (stand : (k : ℕ) → k < count → Bank modules top x k)
    (only : (digits : List ℕ) → IsMinimal digits → BankOf modules top x digits → (k : ℕ) × (k < count) × (digits ≡ decimal k)) where
  at : (a : ℕ) (digits : List ℕ) → slice_get (decimals 0 count) a ≡ Some digits → (a < count) × (digits ≡ decimal a)
  at a digits e = let r = at_decimal 0 count a digits e in (r.0, r.1 ∙ ap decimal (zero-add a))

  pub banks_below : HasBanks modules top x count
  banks_below = record {
    numbers = decimals 0 count;
    once = λ a b digits e f.
        let p = at a digits e in
        let q = at b digits f in
        let l = p.0 in
        let r = q.0 in
        decimal_injective a b (omega (arith, l, few)) (omega (arith, r, few)) (sym p.1 ∙ q.1);
    listed = λ digits minimal bank.
        let k = only digits minimal bank in
        (k.0, decimal_at 0 count k.0 k.1 ∙ ap (λ z. Some (decimal z)) (zero-add k.0) ∙ ap Some (sym k.2));
    are = λ a digits e.
        let p = at a digits e in
        let l = p.0 in
        (subst IsMinimal (sym p.1) (decimal_minimal a (omega (arith, l, few))), subst (BankOf modules top x) (sym p.1) (stand a l));
    count = many 0 count;
  }
