-- What a granted request does to a word and to a kept word.
use Rattle.std.proofs.Common.{◌≡◌, ℕ, ◌<◌, List, [], length, Bool, true}
use Rattle.std.proofs.Common.{false, nat_eq, if◌then◌else◌, refl, sym, ap, ◌∙◌, ⊎_elim, arith, get_or-set_other}
use Rattle.std.specs.Prelude.{not, ◌&&◌, slice_index}
use Rattle.std.proofs.lemmas.Bool.Decides.{nat_tests}
use Rattle.std.proofs.lemmas.Grind.{get_or-set_at}
use Rattle.std.proofs.Math.ListN.{length-set}
use Rattle.std.proofs.lemmas.Bool.{cases_eq}
use Rattle.bank_cores.specs.Machine.{Words, written, read}

-- a request that writes or reads
abbrev pub after : Bool → Words → ℕ → ℕ → ℕ → Words
after b s thread address value = if b then written s address value else read s thread address

-- the word that is kept for thread i, where thread v is granted and thread i's own request reads or not
pub each_kept : (b reads : Bool) (s : Words) (i v address value old : ℕ) → v < length s.kept → (i ≡ v → reads ≡ not b) → old ≡ slice_index s.kept i
    → (if nat_eq v i && reads then slice_index s.words address else old) ≡ slice_index (after b s v address value).kept i
each_kept true reads s i v address value old l h e =
    ⊎_elim
    (λ (q : i ≡ v).
    let t : nat_eq v i ≡ true = grind (arith, nat_tests) in
    let u : (nat_eq v i && reads) ≡ false = ap (λ c. c && reads) t ∙ h q in
    ap (λ c. if c then slice_index s.words address else old) u ∙ e)
    (λ (q : i ≡ v → ⊥). let t : nat_eq v i ≡ false = grind (arith, nat_tests) in ap (λ c. if c && reads then slice_index s.words address else old) t ∙ e)
    (cases_eq i v)
each_kept false reads s i v address value old l h e =
    let x = slice_index s.words address in
    ⊎_elim
    (λ (q : i ≡ v).
    let t : nat_eq v i ≡ true = grind (arith, nat_tests) in
    let u : (nat_eq v i && reads) ≡ true = ap (λ c. c && reads) t ∙ h q in
    ap (λ c. if c then x else old) u ∙ sym (get_or-set_at s.kept v i x 0 q l))
    (λ (q : i ≡ v → ⊥).
    let t : nat_eq v i ≡ false = grind (arith, nat_tests) in
    ap (λ c. if c && reads then x else old) t ∙ e ∙ sym (get_or-set_other s.kept v i x 0 q))
    (cases_eq i v)

-- word k
pub each_word : (b : Bool) (s : Words) (k v address value old : ℕ) → k < length s.words → old ≡ slice_index s.words k
    → (if b && true then (if nat_eq address k then value else old) else old) ≡ slice_index (after b s v address value).words k
each_word false s k v address value old l e = e
each_word true s k v address value old l e =
    ⊎_elim
    (λ (q : k ≡ address). let u : nat_eq address k ≡ true = grind (arith, nat_tests) in ap (λ c. if c then value else old) u ∙ sym (get_or-set_at s.words address k value 0 q (omega arith)))
    (λ (q : k ≡ address → ⊥). let u : nat_eq address k ≡ false = grind (arith, nat_tests) in ap (λ c. if c then value else old) u ∙ e ∙ sym (get_or-set_other s.words address k value 0 q))
    (cases_eq k address)

pub sized_after : (b : Bool) (s : Words) (v address value : ℕ) → length (after b s v address value).words ≡ length s.words
sized_after true s v address value = length-set s.words address value
sized_after false s v address value = refl

pub each_after : (b : Bool) (s : Words) (v address value : ℕ) → length (after b s v address value).kept ≡ length s.kept
each_after true s v address value = refl
each_after false s v address value = length-set s.kept v (slice_index s.words address)

pub no_bytes : (b : Bool) (c : List ℕ) → ◌≡◌ {A = List ℕ} (if b then [] else []) []
no_bytes true c = refl
no_bytes false c = refl
