-- A written element of rows.
use Rattle.std.proofs.Common.{◌≡◌, ℕ, zero, suc, ◌<◌, List, [], ◌∷◌, refl, ap, sym, ◌∙◌, length, get_or, Some, None, Option, arith, Vec, ℤ, replicate}
use Rattle.std.specs.Prelude.{slice_get, slice_set}
use Rattle.std.specs.declared.alloc.Global.{Global}
use Rattle.c_evaluation.specs.Outcome.{rows_of}
use Rattle.thread_semantics.specs.Memory.{with_element, with_row}
use Rattle.thread_semantics.specs.Move.{without_values, blank_row, keep_in}
use Rattle.c_state.specs.Change.{kept_long}

pub row_seen : {A : Type 0} (rows : List (Vec A Global)) (x : ℕ) (row : Vec A Global) → x < length rows → row ≡ get_or rows x row → slice_get (rows_of rows) x ≡ Some row.items
row_seen [] x row h e = absurd (omega arith)
row_seen (r ∷ rs) zero row h e = ap (λ v. Some v.items) (sym e)
row_seen (r ∷ rs) (suc x) row h e = row_seen rs x row (omega arith) e

pub rows_set : {A : Type 0} (rows : List (Vec A Global)) (x : ℕ) (new : Vec A Global) → rows_of (slice_set rows x new) ≡ slice_set (rows_of rows) x new.items
rows_set [] x new = refl
rows_set (r ∷ rs) zero new = refl
rows_set (r ∷ rs) (suc x) new = ap (λ l. r.items ∷ l) (rows_set rs x new)

pub put_row : {A : Type 0} (rows : List (Vec A Global)) (x j : ℕ) (v : A) (row new : Vec A Global) → x < length rows → row ≡ get_or rows x row →
    new.items ≡ slice_set row.items j v → rows_of (slice_set rows x new) ≡ with_element (rows_of rows) x j v
put_row rows x j v row new h e is =
    rows_set rows x new
    ∙ ap (slice_set (rows_of rows) x) is
    ∙ sym (ap (λ o. with_row (rows_of rows) x o j v) (row_seen rows x row h e))

pub blank_at : (rows : List (Vec (Option ℤ) Global)) (x : ℕ) (row new : Vec (Option ℤ) Global) → x < length rows → row ≡ get_or rows x row →
    new.items ≡ replicate (length row.items) None → rows_of (slice_set rows x new) ≡ without_values (rows_of rows) x
blank_at rows x row new h e is =
    rows_set rows x new
    ∙ ap (slice_set (rows_of rows) x) is
    ∙ sym (ap (λ o. slice_set (rows_of rows) x (blank_row o)) (row_seen rows x row h e))

pub kept_is : (slot : ℕ) (v : Option ℤ) (rows : List (List (Option ℤ))) → keep_in (Some slot) v rows ≡ with_element rows slot 0 (kept_long v)
kept_is slot None rows = refl
kept_is slot (Some v) rows = refl
