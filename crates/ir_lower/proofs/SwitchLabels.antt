-- A switch goes on at the first label that its value compares equal with, else at default, else past it.
use Rattle.std.proofs.Common.{◌≡◌, ℕ, suc, Bool, true, false, List, [], ◌∷◌, ◌++◌, length, ℤ, Option, Some, None, refl, sym, ap, ◌∙◌, subst, arith, length-append}
use Rattle.std.specs.Prelude.{if◌then◌else◌}
use Rattle.c_program.specs.Tree.{Statement}
use Rattle.thread_semantics.specs.Work.{Work, Do, Past, Onward, settled, same_label, or_else, from_label, went, switched}
use Rattle.ir_lower.specs.Switching.{labels_of, compared, default_label, entries, Enter}

abbrev lookup : Option ℤ → List (Option ℤ) → List (List Work) → Option (List Work)
lookup label [] ws = None
lookup label (x ∷ xs) [] = None
lookup label (x ∷ xs) (w ∷ ws) = if same_label label x then Some w else lookup label xs ws

pub entries_length : (s : Statement) (k : List Work) → length (entries s k) ≡ length (labels_of s)
entries_length (Statement.Sequence a b) k =
    let e = entries_length a (Do b ∷ k) in
    let f = entries_length b k in
    let g = length-append (entries a (Do b ∷ k)) (entries b k) in
    let h = length-append (labels_of a) (labels_of b) in
    omega (arith, e, f, g, h)
entries_length (Statement.Label value operators) k = refl
entries_length s k = refl

lookup_append : (label : Option ℤ) (xs ys : List (Option ℤ)) (ws vs : List (List Work)) → length ws ≡ length xs →
    lookup label (xs ++ ys) (ws ++ vs) ≡ or_else (lookup label xs ws) (lookup label ys vs)
lookup_append label [] ys [] vs same = refl
lookup_append label [] ys (w ∷ ws) vs same = absurd (omega (arith, same))
lookup_append label (x ∷ xs) ys [] vs same = absurd (omega (arith, same))
lookup_append label (x ∷ xs) ys (w ∷ ws) vs same = by (same_label label x) (lookup_append label xs ys ws vs (omega (arith, same)))
  where
    by : (t : Bool) → lookup label (xs ++ ys) (ws ++ vs) ≡ or_else (lookup label xs ws) (lookup label ys vs) →
        (if t then Some w else lookup label (xs ++ ys) (ws ++ vs)) ≡ or_else (if t then Some w else lookup label xs ws) (lookup label ys vs)
    by true rest = refl
    by false rest = rest

found_is : (label : Option ℤ) (s : Statement) (k : List Work) → from_label label s k ≡ lookup label (labels_of s) (entries s k)
found_is label (Statement.Sequence a b) k =
    ap (λ o. or_else o (from_label label b k)) (found_is label a (Do b ∷ k))
    ∙ ap (λ o. or_else (lookup label (labels_of a) (entries a (Do b ∷ k))) o) (found_is label b k)
    ∙ sym (lookup_append label (labels_of a) (labels_of b) (entries a (Do b ∷ k)) (entries b k) (entries_length a (Do b ∷ k)))
found_is label (Statement.Label value operators) k = refl
found_is label s k = refl

module _ (At : ℕ → List Work → Type 0) where
  nothing : (n : ℕ) (w : List Work) → None ≡ Some w → At n (settled Onward w)
  nothing n w is = cc

  value_found : (v : ℤ) (xs : List (Option ℤ)) (ws : List (List Work)) (l other : ℕ) (w : List Work) → Enter At l ws → lookup (Some v) xs ws ≡ Some w → At (compared v xs l other) (settled Onward w)
  value_found v [] ws l other w at is = nothing other w is
  value_found v (x ∷ xs) [] l other w at is = nothing (compared v (x ∷ xs) l other) w is
  value_found v (x ∷ xs) (u ∷ ws) l other w at is = by (same_label (Some v) x) is (λ e. value_found v xs ws (suc l) other w at.1 e)
    where
      by : (t : Bool) → (if t then Some u else lookup (Some v) xs ws) ≡ Some w → (lookup (Some v) xs ws ≡ Some w → At (compared v xs (suc l) other) (settled Onward w)) →
          At (if t then l else compared v xs (suc l) other) (settled Onward w)
      by true e rest = subst (λ z. At l (settled Onward z)) (let same : u ≡ w = cc in same) at.0
      by false e rest = rest e

  value_missed : (v : ℤ) (xs : List (Option ℤ)) (ws : List (List Work)) (l other : ℕ) → length ws ≡ length xs → lookup (Some v) xs ws ≡ None → compared v xs l other ≡ other
  value_missed v [] ws l other same is = refl
  value_missed v (x ∷ xs) [] l other same is = absurd (omega (arith, same))
  value_missed v (x ∷ xs) (u ∷ ws) l other same is = by (same_label (Some v) x) is (λ e. value_missed v xs ws (suc l) other (omega (arith, same)) e)
    where
      by : (t : Bool) → (if t then Some u else lookup (Some v) xs ws) ≡ None → (lookup (Some v) xs ws ≡ None → compared v xs (suc l) other ≡ other) →
          (if t then l else compared v xs (suc l) other) ≡ other
      by true e rest = cc
      by false e rest = rest e

  default_found : (xs : List (Option ℤ)) (ws : List (List Work)) (l past : ℕ) (w : List Work) → Enter At l ws → lookup None xs ws ≡ Some w → At (default_label xs l past) (settled Onward w)
  default_found [] ws l past w at is = nothing (default_label [] l past) w is
  default_found (x ∷ xs) [] l past w at is = nothing (default_label (x ∷ xs) l past) w is
  default_found (None ∷ xs) (u ∷ ws) l past w at is = subst (λ z. At l (settled Onward z)) (let same : u ≡ w = cc in same) at.0
  default_found (Some c ∷ xs) (u ∷ ws) l past w at is = default_found xs ws (suc l) past w at.1 is

  default_missed : (xs : List (Option ℤ)) (ws : List (List Work)) (l past : ℕ) → length ws ≡ length xs → lookup None xs ws ≡ None → default_label xs l past ≡ past
  default_missed [] ws l past same is = refl
  default_missed (x ∷ xs) [] l past same is = absurd (omega (arith, same))
  default_missed (None ∷ xs) (u ∷ ws) l past same is = cc
  default_missed (Some c ∷ xs) (u ∷ ws) l past same is = default_missed xs ws (suc l) past (omega (arith, same)) is

  module _ (v : ℤ) (body : Statement) (k : List Work) (l past : ℕ) (at : Enter At l (entries body (Past ∷ k))) (behind : At past (settled Onward k)) where
    abbrev xs : List (Option ℤ)
    xs = labels_of body

    abbrev ws : List (List Work)
    ws = entries body (Past ∷ k)

    by_default : (o : Option (List Work)) → lookup None xs ws ≡ o → At (default_label xs l past) (went o k)
    by_default (Some w) e = default_found xs ws l past w at e
    by_default None e = subst (λ n. At n (settled Onward k)) (sym (default_missed xs ws l past (entries_length body (Past ∷ k)) e)) behind

    by_value : (o : Option (List Work)) → lookup (Some v) xs ws ≡ o → At (compared v xs l (default_label xs l past)) (went (or_else o (lookup None xs ws)) k)
    by_value (Some w) e = value_found v xs ws l (default_label xs l past) w at e
    by_value None e =
        subst (λ n. At n (went (lookup None xs ws) k)) (sym (value_missed v xs ws l (default_label xs l past) (entries_length body (Past ∷ k)) e)) (by_default (lookup None xs ws) refl)

    pub switch_enters : At (compared v xs l (default_label xs l past)) (switched v body k)
    switch_enters =
        subst (λ o. At (compared v xs l (default_label xs l past)) (went o k))
        (ap (λ o. or_else o (lookup None xs ws)) (sym (found_is (Some v) body (Past ∷ k))) ∙ ap (λ o. or_else (from_label (Some v) body (Past ∷ k)) o) (sym (found_is None body (Past ∷ k))))
        (by_value (lookup (Some v) xs ws) refl)
