-- What is gathered over a statement is gathered over those that stand side by side in it, however they are joined.
use Rattle.std.proofs.Common.{◌≡◌, ℕ, zero, suc, ◌+◌, ◌*◌, ◌≤◌, List, [], ◌∷◌, ◌++◌, length, length-append, Option, Some, None, Bool, true}
use Rattle.std.proofs.Common.{false, cond, refl, sym, ap, ◌∙◌, inl, inr, arith}
use Rattle.std.specs.Prelude.{◌⊎◌, fold}
use Rattle.std.proofs.lemmas.Bool.{leb-true, leb-false}
use Rattle.c_program.specs.Tree.{Statement}
use Rattle.c_resolution.specs.Sequences.{Joined, joined_to, with_next, with_last, all_joined, paired, only, is_short, halved, rounds, sequence}

-- ---- how many are left

-- an Option that is there counts for one
abbrev waiting : Option Statement → ℕ
waiting None = 0
waiting (Some x) = 1

abbrev joined_size : Joined → ℕ
joined_size j = 2 * length j.0 + waiting j.1

next_size : (done : List Statement) (w : Option Statement) (x : Statement) → joined_size (joined_to done w x) ≡ suc (2 * length done + waiting w)
next_size done None x = omega arith
next_size done (Some first) x = omega (arith, length-append done (Statement.Sequence first x ∷ []))

fold_size : (j : Joined) (list : List Statement) → joined_size (fold with_next j list) ≡ joined_size j + length list
fold_size j [] = omega arith
fold_size j (x ∷ list) = omega (arith, fold_size (with_next j x) list, next_size j.0 j.1 x)

last_length : (done : List Statement) (w : Option Statement) → length (with_last done w) ≡ length done + waiting w
last_length done None = omega arith
last_length done (Some x) = omega (arith, length-append done (x ∷ []))

waiting_small : (w : Option Statement) → waiting w ≤ 1
waiting_small None = omega arith
waiting_small (Some x) = omega arith

paired_length : (list : List Statement) → 2 * length (paired list) ≤ suc (length list)
paired_length list =
    let j : Joined = fold with_next ([], None) list in
    omega (arith, fold_size ([], None) list, last_length j.0 j.1, waiting_small j.1)

-- short, or one shorter than before
halved_by : (list : List Statement) (b : Bool) → is_short list ≡ b →
    (length (cond b list (paired list)) ≤ 1) ⊎ (suc (length (cond b list (paired list))) ≤ length list)
halved_by list true e = inl (leb-true (length list) 1 e)
halved_by list false e = inr (omega (arith, paired_length list, leb-false (length list) 1 e))

short_stays : (list : List Statement) → length list ≤ 1 → length (halved list) ≤ 1
short_stays list short = by (is_short list) refl
  where
    by : (b : Bool) → is_short list ≡ b → length (cond b list (paired list)) ≤ 1
    by true e = short
    by false e = omega (arith, short, leb-false (length list) 1 e)

rounds_length : (n : ℕ) (list : List Statement) → (length (rounds n list) ≤ 1) ⊎ (length (rounds n list) + n ≤ length list)
rounds_length zero list = inr (omega arith)
rounds_length (suc n) list = by (rounds_length n list) (halved_by (rounds n list) (is_short (rounds n list)) refl)
  where
    by : (length (rounds n list) ≤ 1) ⊎ (length (rounds n list) + n ≤ length list) →
        (length (halved (rounds n list)) ≤ 1) ⊎ (suc (length (halved (rounds n list))) ≤ length (rounds n list)) →
        (length (halved (rounds n list)) ≤ 1) ⊎ (length (halved (rounds n list)) + suc n ≤ length list)
    by (inl short) next = inl (short_stays (rounds n list) short)
    by (inr few) (inl short) = inl short
    by (inr few) (inr less) = inr (omega (arith, few, less))

one_left : (list : List Statement) → length (rounds (length list) list) ≤ 1
one_left list = by (rounds_length (length list) list)
  where
    by : (length (rounds (length list) list) ≤ 1) ⊎ (length (rounds (length list) list) + length list ≤ length list) → length (rounds (length list) list) ≤ 1
    by (inl short) = short
    by (inr few) = omega (arith, few)

-- ---- what is gathered

module _ {X : Type 0} (unit : X) (op : X → X → X)
    (assoc : (a b c : X) → op (op a b) c ≡ op a (op b c)) (left : (a : X) → op unit a ≡ a) (right : (a : X) → op a unit ≡ a)
    (f : Statement → X) (done_is : f Statement.Done ≡ unit) (sequence_is : (a b : Statement) → f (Statement.Sequence a b) ≡ op (f a) (f b)) where
  abbrev pub total : List Statement → X
  total [] = unit
  total (x ∷ xs) = op (f x) (total xs)

  pub total_append : (xs ys : List Statement) → total (xs ++ ys) ≡ op (total xs) (total ys)
  total_append [] ys = sym (left (total ys))
  total_append (x ∷ xs) ys = ap (op (f x)) (total_append xs ys) ∙ sym (assoc (f x) (total xs) (total ys))

  total_last : (xs : List Statement) (x : Statement) → total (xs ++ (x ∷ [])) ≡ op (total xs) (f x)
  total_last xs x = total_append xs (x ∷ []) ∙ ap (op (total xs)) (right (f x))

  total_next : (done : List Statement) (w : Option Statement) (x : Statement) →
      total (all_joined (joined_to done w x)) ≡ op (total (with_last done w)) (f x)
  total_next done None x = total_last done x
  total_next done (Some first) x =
      total_last done (Statement.Sequence first x)
      ∙ ap (op (total done)) (sequence_is first x)
      ∙ sym (assoc (total done) (f first) (f x))
      ∙ ap (λ y. op y (f x)) (sym (total_last done first))

  total_fold : (j : Joined) (list : List Statement) → total (all_joined (fold with_next j list)) ≡ op (total (all_joined j)) (total list)
  total_fold j [] = sym (right (total (all_joined j)))
  total_fold j (x ∷ list) =
      total_fold (with_next j x) list
      ∙ ap (λ y. op y (total list)) (total_next j.0 j.1 x)
      ∙ assoc (total (all_joined j)) (f x) (total list)

  total_halved : (list : List Statement) (b : Bool) → total (cond b list (paired list)) ≡ total list
  total_halved list true = refl
  total_halved list false = total_fold ([], None) list ∙ left (total list)

  total_rounds : (n : ℕ) (list : List Statement) → total (rounds n list) ≡ total list
  total_rounds zero list = refl
  total_rounds (suc n) list = total_halved (rounds n list) (is_short (rounds n list)) ∙ total_rounds n list

  of_only : (list : List Statement) → length list ≤ 1 → f (only list) ≡ total list
  of_only [] short = done_is
  of_only (x ∷ []) short = sym (right (f x))
  of_only (x ∷ y ∷ more) short = absurd (omega (arith, short))

  pub gathered : (list : List Statement) → f (sequence list) ≡ total list
  unfolding sequence
  gathered list = of_only (rounds (length list) list) (one_left list) ∙ total_rounds (length list) list
