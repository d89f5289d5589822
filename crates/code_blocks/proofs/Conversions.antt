-- A conversion makes earlier ones to as many bits or more superfluous.
use Rattle.std.proofs.Common.{◌≡◌, ℕ, ◌+◌, ◌-◌, ◌*◌, ◌/◌, ◌%◌, ◌^◌, ◌<◌, ◌≤◌, Bool, true, false, List, [], ◌∷◌, ◌++◌, ℤ, pos, negsuc, refl, sym, ap, ◌∙◌, subst, arith, nat_lt}
use Rattle.std.proofs.Common.{if◌then◌else◌}
use Rattle.std.specs.List.{filter}
use Rattle.std.proofs.Math.Nat.{div-add-mod', mod-lt, lt_of_mul-lt-mul_right, div-mul-le_self}
use Rattle.std.proofs.Math.Pow.{mod-mod-pow, pow-add}
use Rattle.std.proofs.lemmas.Nat.{mod-mul-add, pow_pos}
use Rattle.hls_ints.proofs.Ranges.{bits-at_most}
use Rattle.hls_ints.specs.Residues.{residue_of, signed_value_of}
use Rattle.hls_ints.specs.Types.{IntegerType, width_of, long_int, wrapped}
use Rattle.hls_ints.proofs.Conversions.{residue_of-wrapped}
use Rattle.block_ir.specs.Run.{converted}
use Rattle.block_ir.specs.declared.operand.Operand.{Operand}
use Rattle.code_following.specs.Typed.{source_type, last_type}
use Rattle.code_blocks.specs.Needs.{IsConverted, is_narrower}

-- the last number below a multiple of N, less m, is the same modulo N
back_mod : (N k m : ℕ) → 0 < N → m < k * N → (k * N - 1 - m) % N ≡ N - 1 - m % N
back_mod N k m positive below =
    let parts : m / N * N + m % N ≡ m = div-add-mod' m N in
    let small : m % N < N = mod-lt m positive in
    let less : m / N < k = lt_of_mul-lt-mul_right N (let h = div-mul-le_self m N in omega arith) in
    let split : k ≡ (k - 1 - m / N) + (1 + m / N) = omega arith in
    let whole : k * N ≡ (k - 1 - m / N) * N + (N + m / N * N) = (let e = ap (λ j. j * N) split in e ∙ distributed (k - 1 - m / N) (m / N) N) in
    let rest : k * N - 1 - m ≡ (k - 1 - m / N) * N + (N - 1 - m % N) = omega arith in
    rw rest (mod-mul-add (k - 1 - m / N) N (N - 1 - m % N) (omega arith))
  where
    distributed : (d q n : ℕ) → (d + (1 + q)) * n ≡ d * n + (n + q * n)
    distributed d q n = grind arith

-- the low bits of the low bits
residue_narrow : (w k : ℕ) (z : ℤ) → residue_of w z ≡ residue_of (k + w) z % 2 ^ w
unfolding residue_of
residue_narrow w k (pos n) = sym (mod-mod-pow n k w)
residue_narrow w k (negsuc n) =
    let all : 2 ^ (k + w) ≡ 2 ^ k * 2 ^ w = pow-add 2 k w in
    let within : n % 2 ^ (k + w) < 2 ^ (k + w) = mod-lt n (pow_pos (k + w)) in
    let back = back_mod (2 ^ w) (2 ^ k) (n % 2 ^ (k + w)) (pow_pos w) (rw (sym all) within) in
    let low : n % 2 ^ (k + w) % 2 ^ w ≡ n % 2 ^ w = mod-mod-pow n k w in
    sym (ap (λ a. (a - 1 - n % 2 ^ (k + w)) % 2 ^ w) all ∙ back ∙ ap (λ a. 2 ^ w - 1 - a) low)

narrow : (w u : ℕ) (a b : ℤ) → w ≤ u → residue_of u a ≡ residue_of u b → residue_of w a ≡ residue_of w b
narrow w u a b le e =
    let sum : u ≡ (u - w) + w = omega arith in
    let same : residue_of ((u - w) + w) a ≡ residue_of ((u - w) + w) b = subst (λ n. residue_of n a ≡ residue_of n b) sum e in
    residue_narrow w (u - w) a ∙ ap (λ n. n % 2 ^ w) same ∙ sym (residue_narrow w (u - w) b)

-- a conversion looks at the low bits alone
pub wrapped_by_bits : (ty : IntegerType) (a b : ℤ) → residue_of (width_of ty) a ≡ residue_of (width_of ty) b → wrapped ty a ≡ wrapped ty b
unfolding wrapped
wrapped_by_bits ty a b e = ap (λ n. if ty.signed then signed_value_of (width_of ty) n else pos n) e

-- each type has at most 64 bits
pub from_word : (ty : IntegerType) (x v : ℤ) → wrapped long_int x ≡ wrapped long_int v → wrapped ty x ≡ wrapped ty v
from_word ty x v e =
    wrapped_by_bits ty x v
    (narrow (width_of ty) 64 x v (bits-at_most ty.width) (sym (residue_of-wrapped long_int x) ∙ ap (residue_of 64) e ∙ residue_of-wrapped long_int v))

abbrev SameBits : IntegerType → List IntegerType → Type 0
SameBits ty cs =
    (a b : ℤ) → residue_of (width_of ty) a ≡ residue_of (width_of ty) b →
    residue_of (width_of ty) (converted (filter (is_narrower ty) cs) a) ≡ residue_of (width_of ty) (converted cs b)

one_more : (ty c : IntegerType) (cs : List IntegerType) (t : Bool) → nat_lt (width_of c) (width_of ty) ≡ t → SameBits ty cs → SameBits ty (c ∷ cs)
one_more ty c cs true h rest a b e =
    let below : width_of c ≤ width_of ty = grind arith in
    let same : wrapped c a ≡ wrapped c b = wrapped_by_bits c a b (narrow (width_of c) (width_of ty) a b below e) in
    rw h (rest (wrapped c a) (wrapped c b) (ap (residue_of (width_of ty)) same))
one_more ty c cs false h rest a b e =
    let above : width_of ty ≤ width_of c = grind arith in
    let same : residue_of (width_of ty) (wrapped c b) ≡ residue_of (width_of ty) b = narrow (width_of ty) (width_of c) (wrapped c b) b above (residue_of-wrapped c b) in
    rw h (rest a (wrapped c b) (e ∙ sym same))

kept_bits : (ty : IntegerType) (cs : List IntegerType) → SameBits ty cs
kept_bits ty [] a b e = e
kept_bits ty (c ∷ cs) a b e = one_more ty c cs (nat_lt (width_of c) (width_of ty)) refl (kept_bits ty cs) a b e

converted_last : (ty : IntegerType) (cs : List IntegerType) (v : ℤ) → converted (cs ++ ty ∷ []) v ≡ wrapped ty (converted cs v)
converted_last ty [] v = refl
converted_last ty (c ∷ cs) v = converted_last ty cs (wrapped c v)

last_is : (ty first : IntegerType) (cs : List IntegerType) → last_type first (cs ++ ty ∷ []) ≡ ty
last_is ty first [] = refl
last_is ty first (c ∷ cs) = last_is ty c cs

pub conversions_right : (ty : IntegerType) (before after : Operand) → after.source ≡ before.source →
    after.conversions ≡ filter (is_narrower ty) before.conversions ++ ty ∷ [] → IsConverted ty before after
conversions_right ty before after same is = record {
  source = same;
  type =
      ap (λ s. last_type (source_type s) after.conversions) same ∙ ap (last_type (source_type before.source)) is
      ∙ last_is ty (source_type before.source) (filter (is_narrower ty) before.conversions);
  value = λ v.
      ap (λ cs. converted cs v) is ∙ converted_last ty (filter (is_narrower ty) before.conversions) v
      ∙ wrapped_by_bits ty (converted (filter (is_narrower ty) before.conversions) v) (converted before.conversions v) (kept_bits ty before.conversions v v refl);
}

pub conversions_at : (ty : IntegerType) (before : Operand) (kept new : List IntegerType) → kept ≡ filter (is_narrower ty) before.conversions → new ≡ kept ++ ty ∷ [] →
    IsConverted ty before (record { source = before.source; conversions = new })
conversions_at ty before kept new is all =
    conversions_right ty before (record { source = before.source; conversions = new }) refl (all ∙ ap (λ cs. cs ++ ty ∷ []) is)
