-- Two registers have two identifiers.
use Rattle.std.proofs.Common.{◌≡◌, ◌∷◌, [], ◌*◌, ◌/◌, ◌%◌, ◌^◌, ◌<◌, ℕ, zero, suc, List, ap, sym, ◌∙◌, subst, refl, Bool, arith}
use Rattle.std.proofs.Math.Nat.{pow-succ'}
use Rattle.std.specs.Prelude.{if◌then◌else◌, ◌==◌}
use Rattle.std.proofs.lemmas.Bool.{ne_eqb}
use Rattle.vcd_text.specs.Dump.{id_digits}

abbrev head : List ℕ → ℕ
head [] = 0
head (x ∷ xs) = x

abbrev tail : List ℕ → List ℕ
tail [] = []
tail (x ∷ xs) = xs

-- a number by its last digit and the others
by_digits : (m n : ℕ) → m % 94 ≡ n % 94 → m / 94 ≡ n / 94 → m ≡ n
by_digits m n r q = omega (arith, r, q)

less : (m k : ℕ) → m < 94 ^ suc k → m / 94 < 94 ^ k
less m k h = let l : m < 94 * 94 ^ k = subst (λ (p : ℕ). m < p) (pow-succ' 94 k) h in omega (arith, l)

nonempty : (k n : ℕ) → n < 94 ^ k → (n ≡ 0 → ⊥) → id_digits k n ≡ [] → ⊥
nonempty zero n p some e = some (omega (arith, p))
nonempty (suc k) n p some e = let h = ap head e in omega (arith, h)

-- the digits before the last one tell the number that they write
abbrev pub Tells : ℕ → Type 0
Tells most = (m n : ℕ) → m < 94 ^ most → n < 94 ^ most → id_digits most m ≡ id_digits most n → m ≡ n

opened : (most a : ℕ) → (if suc a == 0 then [] else id_digits most (suc a)) ≡ id_digits most (suc a)
opened most a = ap (λ (b : Bool). if b then [] else id_digits most (suc a)) (ne_eqb (suc a) 0 (λ z. omega (arith, z)))

others :
    (most : ℕ) → Tells most → (a b : ℕ) → a < 94 ^ most → b < 94 ^ most →
    (if a == 0 then [] else id_digits most a) ≡ (if b == 0 then [] else id_digits most b) → a ≡ b
others most tells zero zero p q e = refl
others most tells zero (suc b) p q e = absurd (nonempty most (suc b) q (λ z. omega (arith, z)) (sym (opened most b) ∙ sym e))
others most tells (suc a) zero p q e = absurd (nonempty most (suc a) p (λ z. omega (arith, z)) (sym (opened most a) ∙ e))
others most tells (suc a) (suc b) p q e = tells (suc a) (suc b) p q (sym (opened most a) ∙ e ∙ opened most b)

pub id_same : (most : ℕ) → Tells most
id_same zero m n p q e = omega (arith, p, q)
id_same (suc most) m n p q e =
    by_digits m n (let h = ap head e in omega (arith, h))
    (others most (id_same most) (m / 94) (n / 94) (less m most p) (less n most q) (ap tail e))
