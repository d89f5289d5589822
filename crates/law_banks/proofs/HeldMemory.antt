-- The banks hold a memory and keep words, and what a cycle does to each of them keeps that.
use Rattle.std.proofs.Common.{◌≡◌, ◌≢◌, ℕ, suc, ◌+◌, ◌*◌, ◌/◌, ◌%◌, ◌<◌, ◌≤◌, ◌⊎◌, List, length, Some, slice_get, slice_index, ℤ, pos, refl, sym}
use Rattle.std.proofs.Common.{ap, ap₂, ◌∙◌, subst, ⊎_elim, arith}
use Rattle.std.proofs.Common.{get_or-set_other}
use Rattle.std.specs.Prelude.{slice_set}
use Rattle.std.proofs.lemmas.Nat.{div-add-mod'}
use Rattle.std.proofs.lemmas.List.{get_or_past}
use Rattle.std.proofs.lemmas.Grind.{get_or-set_at}
use Rattle.std.proofs.lemmas.Bool.{cases_lt, cases_eq}
use Rattle.std.proofs.Math.ListN.{length-set}
use Rattle.hls_ints.specs.Residues.{residue_of}
use Rattle.hls_ints.specs.Types.{IntegerType, HasType, width_of}
use Rattle.thread_promise.proofs.Typed.{residue_of-zero}
use Rattle.interleaving.specs.Memory.{Memory}
use Rattle.bank_partition.specs.declared.banks.Spread.{Spread}
use Rattle.bank_partition.specs.Counts.{words_of}
use Rattle.bank_partition.proofs.BankCount.{has_word}
use Rattle.bank_cores.specs.Machine.{Words}
use Rattle.thread_promise.specs.Globals.{IsAddress}
use Rattle.law_banks.specs.Memory.{place_at, IsReadPlace, IsWrittenPlace, Holds, Change, Quiet, Reads, Writes, HoldsAfter}
use Rattle.law_banks.proofs.Typed.{zero_typed}

module _ (spreads : List Spread) (globals : List IntegerType) (T : ℕ) where
  module _ (held next_held : ℕ → Words) (memory next_memory : Memory ℤ) (words next_words : ℕ → ℕ → ℤ) where
    abbrev Before : Type 0
    Before = Holds spreads globals T held memory words

    abbrev Changes : ℕ → ℕ → Spread → IntegerType → Type 0
    Changes = Change spreads globals T held next_held memory next_memory words next_words

    module _ (h : Before) (x : ℕ) (s : Spread) (ty : IntegerType) (e : slice_get spreads x ≡ Some s) (t : slice_get globals x ≡ Some ty) (some : 0 < s.count) where
      -- two elements of a bank with one address are one
      same_place : (i j : ℕ) → i % s.count ≡ j % s.count → i / s.count ≡ j / s.count → i ≡ j
      same_place i j a b = sym (div-add-mod' i s.count) ∙ ap₂ (λ u v. u * s.count + v) b a ∙ div-add-mod' j s.count

      -- an element has another address than another place of its bank
      elsewhere : (i j a : ℕ) → i < s.length → j % s.count ≡ i % s.count → i ≢ j → IsAddress s j a → i / s.count ≢ a
      elsewhere i j a l own other address q =
          ⊎_elim
          (λ (inside : j < s.length). other (same_place i j (sym own) (q ∙ address.inside inside)))
          (λ (le : s.length ≤ j).
          absurd (let past = address.outside le in
          let w : words_of s.count (j % s.count) s.length ≡ words_of s.count (i % s.count) s.length = ap (λ k. words_of s.count k s.length) own in
          let has = has_word s.count s.length i some l in
          omega (arith, past, w, has, q)))
          (cases_lt j s.length)

      module _ (j : ℕ) (l : j < s.length) where
        bank_words : length (held (s.first + j % s.count)).words ≡ words_of s.count (j % s.count) s.length
        bank_words = h.sized x (j % s.count) s e (let b : j % s.count < s.count = omega arith in b)

        written_word : (i a : ℕ) (v : ℤ) → IsAddress s i a → i % s.count ≡ j % s.count → next_memory (place_at x i) ≡ v →
            ((n : ℕ) → n % s.count ≡ j % s.count → n ≢ i → next_memory (place_at x n) ≡ memory (place_at x n)) → (j ≡ i) ⊎ (j ≢ i) →
            slice_index (slice_set (held (s.first + j % s.count)).words a (residue_of (width_of ty) v)) (j / s.count) ≡ residue_of (width_of ty) (next_memory (place_at x j))
        written_word i a v address own here others c =
            ⊎_elim
            (λ (same : j ≡ i).
            let at : j / s.count ≡ a = ap (λ n. n / s.count) same ∙ sym (address.inside (subst (λ n. n < s.length) same l)) in
            get_or-set_at (held (s.first + j % s.count)).words a (j / s.count) (residue_of (width_of ty) v) 0 at
            (let has = has_word s.count s.length j some l in let size = bank_words in omega (arith, has, size, at))
            ∙ ap (residue_of (width_of ty)) (sym (ap (λ n. next_memory (place_at x n)) same ∙ here)))
            (λ (ne : j ≢ i).
            get_or-set_other (held (s.first + j % s.count)).words a (j / s.count) (residue_of (width_of ty) v) 0 (elsewhere j i a l own ne address)
            ∙ h.elements x j s ty e t l
            ∙ ap (residue_of (width_of ty)) (sym (others j refl ne)))
            c

        element_after : Changes x (j % s.count) s ty →
            slice_index (next_held (s.first + j % s.count)).words (j / s.count) ≡ residue_of (width_of ty) (next_memory (place_at x j))
        element_after (Quiet bank same word) =
            ap (λ (z : Words). slice_index z.words (j / s.count)) bank ∙ h.elements x j s ty e t l ∙ ap (residue_of (width_of ty)) (sym (same j refl))
        element_after (Reads n i a thread bank address own place same word rest) =
            ap (λ (z : Words). slice_index z.words (j / s.count)) bank ∙ h.elements x j s ty e t l ∙ ap (residue_of (width_of ty)) (sym (same j refl))
        element_after (Writes i a v bank address own place right here others word) =
            ap (λ (z : Words). slice_index z.words (j / s.count)) bank ∙ written_word i a v address own here others (cases_eq j i)

        typed_after : Changes x (j % s.count) s ty → HasType ty (next_memory (place_at x j))
        typed_after (Quiet bank same word) = subst (HasType ty) (sym (same j refl)) (h.typed x j s ty e t l)
        typed_after (Reads n i a thread bank address own place same word rest) = subst (HasType ty) (sym (same j refl)) (h.typed x j s ty e t l)
        typed_after (Writes i a v bank address own place right here others word) =
            ⊎_elim
            (λ (same : j ≡ i). subst (HasType ty) (sym (ap (λ n. next_memory (place_at x n)) same ∙ here)) right)
            (λ (ne : j ≢ i). subst (HasType ty) (sym (others j refl ne)) (h.typed x j s ty e t l))
            (cases_eq j i)

      module _ (i : ℕ) (l : i < 8) where
        abbrev behind : ℕ
        behind = 16 * suc s.length + i

        outside_after : (k : ℕ) → behind % s.count ≡ k → Changes x k s ty → next_memory (place_at x behind) ≡ pos 0
        outside_after k at (Quiet bank same word) = same behind at ∙ h.outside x i s e l
        outside_after k at (Reads n j a thread bank address own place same word rest) = same behind at ∙ h.outside x i s e l
        outside_after k at (Writes j a v bank address own place right here others word) =
            others behind at (other j place) ∙ h.outside x i s e l
          where
            other : (j : ℕ) → IsWrittenPlace s.length j → 16 * suc s.length + i ≢ j
            other j place same =
                ⊎_elim (λ (inside : j < s.length). absurd (omega arith))
                (λ (p : (n : ℕ) × (n < 8) × (j ≡ 16 * suc s.length + 8 + n)). absurd (let lt = p.1 in let is = p.2 in omega arith)) place

      module _ (k : ℕ) (l : k < s.count) where
        sized_after : Changes x k s ty → length (next_held (s.first + k)).words ≡ words_of s.count k s.length
        sized_after (Quiet bank same word) = ap (λ (z : Words). length z.words) bank ∙ h.sized x k s e l
        sized_after (Reads n j a thread bank address own place same word rest) = ap (λ (z : Words). length z.words) bank ∙ h.sized x k s e l
        sized_after (Writes j a v bank address own place right here others word) =
            ap (λ (z : Words). length z.words) bank ∙ length-set (held (s.first + k)).words a (residue_of (width_of ty) v) ∙ h.sized x k s e l

        each_after : Changes x k s ty → length (next_held (s.first + k)).kept ≡ T
        each_after (Quiet bank same word) = ap (λ (z : Words). length z.kept) bank ∙ h.each x k s e l
        each_after (Reads n j a thread bank address own place same word rest) =
            ap (λ (z : Words). length z.kept) bank ∙ length-set (held (s.first + k)).kept n (slice_index (held (s.first + k)).words a) ∙ h.each x k s e l
        each_after (Writes j a v bank address own place right here others word) = ap (λ (z : Words). length z.kept) bank ∙ h.each x k s e l

        -- what is read
        word_read : (j a : ℕ) → IsAddress s j a → j % s.count ≡ k → IsReadPlace s.length j →
            slice_index (held (s.first + k)).words a ≡ residue_of (width_of ty) (memory (place_at x j))
        word_read j a address own place =
            ⊎_elim
            (λ (inside : j < s.length).
            ap (slice_index (held (s.first + k)).words) (address.inside inside)
            ∙ subst (λ n. slice_index (held (s.first + n)).words (j / s.count) ≡ residue_of (width_of ty) (memory (place_at x j))) own (h.elements x j s ty e t inside))
            (λ (p : (i : ℕ) × (i < 8) × (j ≡ 16 * suc s.length + i)).
            let is = p.2 in
            let past = address.outside (omega (arith, is)) in
            let size = h.sized x k s e l in
            let w : words_of s.count (j % s.count) s.length ≡ words_of s.count k s.length = ap (λ n. words_of s.count n s.length) own in
            get_or_past (held (s.first + k)).words a 0 (omega (arith, past, size, w))
            ∙ sym (ap (residue_of (width_of ty)) (ap (λ n. memory (place_at x n)) is ∙ h.outside x p.0 s e p.1) ∙ residue_of-zero (width_of ty)))
            place

        read_typed : (j : ℕ) → IsReadPlace s.length j → HasType ty (memory (place_at x j))
        read_typed j place =
            ⊎_elim
            (λ (inside : j < s.length). h.typed x j s ty e t inside)
            (λ (p : (i : ℕ) × (i < 8) × (j ≡ 16 * suc s.length + i)).
            subst (HasType ty) (sym (ap (λ n. memory (place_at x n)) p.2 ∙ h.outside x p.0 s e p.1)) (zero_typed ty))
            place

        kept_before : (i : ℕ) → i < T → next_words i (s.first + k) ≡ words i (s.first + k) →
            slice_index (held (s.first + k)).kept i ≡ residue_of (width_of ty) (next_words i (s.first + k))
        kept_before i lt word = h.kept i x k s ty lt e t l ∙ ap (residue_of (width_of ty)) (sym word)

        kept_after : (i : ℕ) → i < T → Changes x k s ty → slice_index (next_held (s.first + k)).kept i ≡ residue_of (width_of ty) (next_words i (s.first + k))
        kept_after i lt (Quiet bank same word) = ap (λ (z : Words). slice_index z.kept i) bank ∙ kept_before i lt (word i lt)
        kept_after i lt (Reads n j a thread bank address own place same word rest) =
            ap (λ (z : Words). slice_index z.kept i) bank
            ∙ ⊎_elim
            (λ (at : i ≡ n).
            get_or-set_at (held (s.first + k)).kept n i (slice_index (held (s.first + k)).words a) 0 at (let m = h.each x k s e l in omega (arith, m, thread))
            ∙ word_read j a address own place ∙ ap (residue_of (width_of ty)) (sym (ap (λ m. next_words m (s.first + k)) at ∙ word)))
            (λ (ne : i ≢ n).
            get_or-set_other (held (s.first + k)).kept n i (slice_index (held (s.first + k)).words a) 0 ne ∙ kept_before i lt (rest i lt ne))
            (cases_eq i n)
        kept_after i lt (Writes j a v bank address own place right here others word) = ap (λ (z : Words). slice_index z.kept i) bank ∙ kept_before i lt (word i lt)

        typed_before : (i : ℕ) → i < T → next_words i (s.first + k) ≡ words i (s.first + k) → HasType ty (next_words i (s.first + k))
        typed_before i lt word = subst (HasType ty) (sym word) (h.kept_typed i x k s ty lt e t l)

        kept_typed_after : (i : ℕ) → i < T → Changes x k s ty → HasType ty (next_words i (s.first + k))
        kept_typed_after i lt (Quiet bank same word) = typed_before i lt (word i lt)
        kept_typed_after i lt (Reads n j a thread bank address own place same word rest) =
            ⊎_elim
            (λ (at : i ≡ n). subst (HasType ty) (sym (ap (λ m. next_words m (s.first + k)) at ∙ word)) (read_typed j place))
            (λ (ne : i ≢ n). typed_before i lt (rest i lt ne))
            (cases_eq i n)
        kept_typed_after i lt (Writes j a v bank address own place right here others word) = typed_before i lt (word i lt)

pub holds_after : HoldsAfter
holds_after spreads globals T held next_held memory next_memory words next_words are h change = record {
  elements = λ x j s ty e t l. element_after spreads globals T held next_held memory next_memory words next_words h x s ty e t (are.some x s e) j l
      (change x (j % s.count) s ty e t (inside j s (are.some x s e)));
  typed = λ x j s ty e t l. typed_after spreads globals T held next_held memory next_memory words next_words h x s ty e t (are.some x s e) j l
      (change x (j % s.count) s ty e t (inside j s (are.some x s e)));
  outside = λ x i s e l.
      let ty = are.type x s e in
      outside_after spreads globals T held next_held memory next_memory words next_words h x s ty.0 e ty.1 (are.some x s e) i l ((16 * suc s.length + i) % s.count) refl
      (change x ((16 * suc s.length + i) % s.count) s ty.0 e ty.1 (inside (16 * suc s.length + i) s (are.some x s e)));
  sized = λ x k s e l.
      let ty = are.type x s e in
      sized_after spreads globals T held next_held memory next_memory words next_words h x s ty.0 e ty.1 (are.some x s e) k l (change x k s ty.0 e ty.1 l);
  each = λ x k s e l.
      let ty = are.type x s e in
      each_after spreads globals T held next_held memory next_memory words next_words h x s ty.0 e ty.1 (are.some x s e) k l (change x k s ty.0 e ty.1 l);
  kept = λ i x k s ty lt e t l.
      kept_after spreads globals T held next_held memory next_memory words next_words h x s ty e t (are.some x s e) k l i lt (change x k s ty e t l);
  kept_typed = λ i x k s ty lt e t l.
      kept_typed_after spreads globals T held next_held memory next_memory words next_words h x s ty e t (are.some x s e) k l i lt (change x k s ty e t l);
}
  where
    inside : (j : ℕ) (s : Spread) → 0 < s.count → j % s.count < s.count
    inside j s some = omega arith
