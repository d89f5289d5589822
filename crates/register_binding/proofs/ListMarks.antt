-- Marks of lists, one after another.
use Rattle.std.proofs.Common.{◌≡◌, ◌≢◌, ℕ, ◌+◌, ◌<◌, ◌≤◌, Bool, true, false, ◌||◌, List, [], ◌∷◌, ◌++◌, length, slice_get, get_or, set, take, replicate, Some}
use Rattle.std.proofs.Common.{nat_eq, refl, sym, ap, subst, ◌∙◌, ◌⊎◌, inl, inr, arith, add-one, get_or-set_other, get_or-set_same}
use Rattle.std.proofs.lemmas.Bool.{cases_eq}
use Rattle.std.proofs.lemmas.List.{length-set, get_or-replicate, length-replicate, take_all}
use mathlib.Core.Bool.{or-false, or-true, or_assoc}
use Rattle.lists.proofs.Places.{take_next}
use Rattle.block_ir.specs.declared.block.Final.{Final}
use Rattle.block_ir.specs.declared.block.Block.{Block}
use Rattle.register_binding.specs.Used.{is_value, any_final, next_uses, is_used_at_end, AreUsedAtEnd, IsMarked}

-- nothing is marked
pub no_marks : (f : ℕ → Bool) (a : List Bool) → ((k : ℕ) → k < length a → f k ≡ false) → IsMarked f a a
no_marks f a none = record {
  count = refl;
  each = λ k l. sym (ap (λ (b : Bool). get_or a k false || b) (none k l) ∙ or-false (get_or a k false));
}

-- place j is marked
pub mark_one : (f : ℕ → Bool) (a b : List Bool) (j : ℕ) → j < length a → b ≡ set a j true → ((k : ℕ) → f k ≡ nat_eq j k) → IsMarked f a b
mark_one f a b j within e is = rw e (record {
  count = length-set a j true;
  each = λ k l. each k l (cases_eq k j);
})
  where
    each : (k : ℕ) → k < length a → (k ≡ j) ⊎ (k ≡ j → ⊥) → get_or (set a j true) k false ≡ (get_or a k false || f k)
    each k l (inl same) =
        let here : get_or (set a j true) j false ≡ true = get_or-set_same a j true false within in
        let yes_it_is : nat_eq j k ≡ true = grind arith in
        subst (λ (z : ℕ). get_or (set a j true) z false ≡ true) (sym same) here ∙ sym (ap (λ (b : Bool). get_or a k false || b) (is k ∙ yes_it_is) ∙ or-true (get_or a k false))
    each k l (inr other) =
        let ne : k ≢ j = other in
        let not_it : nat_eq j k ≡ false = grind arith in
        get_or-set_other a j k true false ne ∙ sym (ap (λ (b : Bool). get_or a k false || b) (is k ∙ not_it) ∙ or-false (get_or a k false))

-- one after the other
pub marks_then : (f g : ℕ → Bool) (a b c : List Bool) → IsMarked f a b → IsMarked g b c → IsMarked (λ k. f k || g k) a c
marks_then f g a b c s t = record {
  count = t.count ∙ s.count;
  each = λ k l.
      let n = s.count in
      t.each k (omega arith) ∙ ap (λ (m : Bool). m || g k) (s.each k l) ∙ or_assoc (get_or a k false) (f k) (g k);
}

marks_alike : (f g : ℕ → Bool) (a b : List Bool) → IsMarked f a b → ((k : ℕ) → f k ≡ g k) → IsMarked g a b
marks_alike f g a b s same = record { count = s.count; each = λ k l. s.each k l ∙ ap (λ (m : Bool). get_or a k false || m) (same k) }

any_final-append : (fs : List Final) (g : Final) (k : ℕ) → any_final (fs ++ g ∷ []) k ≡ (any_final fs k || is_value g.value.source k)
any_final-append [] g k = or-false (is_value g.value.source k)
any_final-append (f ∷ fs) g k = ap (λ (m : Bool). is_value f.value.source k || m) (any_final-append fs g k) ∙ sym (or_assoc (is_value f.value.source k) (any_final fs k)
    (is_value g.value.source k))

-- one more final
pub finals_marked : (fs : List Final) (i : ℕ) (g : Final) (a b c : List Bool) → slice_get fs i ≡ Some g → IsMarked (any_final (take i fs)) a b →
    IsMarked (is_value g.value.source) b c →
    IsMarked (any_final (take (i + 1) fs)) a c
finals_marked fs i g a b c e s t =
    marks_alike (λ k. any_final (take i fs) k || is_value g.value.source k) (any_final (take (i + 1) fs)) a c (marks_then (any_final (take i fs))
    (is_value g.value.source) a b c s t)
    (λ k. sym (ap (λ (l : List Final). any_final l k) (ap (λ (n : ℕ). take n fs) (add-one i) ∙ take_next fs i g e) ∙ any_final-append (take i fs) g k))

pub all_finals : (fs : List Final) (i : ℕ) (a b : List Bool) → length fs ≤ i → IsMarked (any_final (take i fs)) a b → IsMarked (any_final fs) a b
all_finals fs i a b l s = subst (λ (r : List Final). IsMarked (any_final r) a b) (take_all i fs l) s

pub used_at_end : (b : Block) (n : ℕ) (a c d : List Bool) → n ≡ length b.operations → a ≡ replicate n false → IsMarked (any_final b.finals) a c →
    IsMarked (next_uses b.next) c d → AreUsedAtEnd b d
used_at_end b n a c d e none s t =
    let m = length-replicate {A = Bool} n false in
    let l : length a ≡ n = ap (λ (r : List Bool). length r) none ∙ m in
    record {
      count = t.count ∙ (s.count ∙ (l ∙ e));
      each = λ k h.
          let z : get_or a k false ≡ false = ap (λ (r : List Bool). get_or r k false) none ∙ get_or-replicate {A = Bool} n k false false (omega arith) in
          let u = marks_then (any_final b.finals) (next_uses b.next) a c d s t in
          u.each k (omega arith) ∙ ap (λ (m : Bool). m || is_used_at_end b k) z;
    }

pub nothing_used : (f : ℕ → Bool) (a : List Bool) → ((k : ℕ) → f k ≡ false) → IsMarked f a a
nothing_used f a none = no_marks f a (λ k l. none k)

pub past_marked : (f : ℕ → Bool) (a : List Bool) (j : ℕ) → length a ≤ j → ((k : ℕ) → f k ≡ nat_eq j k) → IsMarked f a a
past_marked f a j past is = no_marks f a (λ k l. is k ∙ (let e : nat_eq j k ≡ false = grind arith in e))
