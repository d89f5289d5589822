-- The locals of a call, one after another.
use Rattle.std.proofs.Common.{◌≡◌, ℕ, zero, suc, ◌<◌, List, [], ◌∷◌, refl, ap, sym, length, get_or, drop, arith, ℤ, ◌++◌, ◌∙◌, append_assoc, Vec, Option}
use Rattle.std.specs.declared.alloc.Global.{Global}
use Rattle.c_evaluation.specs.Outcome.{rows_of}
use Rattle.std.specs.Prelude.{slice_get}
use Rattle.c_program.specs.declared.tree.LocalVariable.{LocalVariable}
use Rattle.thread_semantics.specs.State.{fresh_locals}
use Rattle.c_state.specs.Fresh.{fresh_row}

drop_nothing : (k : ℕ) → drop {A = ℤ} k [] ≡ []
drop_nothing zero = refl
drop_nothing (suc k) = refl

pub fresh_next : (ls : List LocalVariable) (vs : List ℤ) (k : ℕ) (l : LocalVariable) → l ≡ get_or ls k l → k < length ls →
    fresh_locals (drop k ls) (drop k vs) ≡ fresh_row l (slice_get vs k) ∷ fresh_locals (drop (suc k) ls) (drop (suc k) vs)
fresh_next [] vs k l e h = absurd (omega arith)
fresh_next (m ∷ ls) [] zero l e h = ap (λ x. fresh_row x (slice_get [] zero) ∷ fresh_locals ls []) (sym e)
fresh_next (m ∷ ls) (v ∷ vs) zero l e h = ap (λ x. fresh_row x (slice_get (v ∷ vs) zero) ∷ fresh_locals ls vs) (sym e)
fresh_next (m ∷ ls) [] (suc k) l e h =
    ap (fresh_locals (drop k ls)) (sym (drop_nothing k)) ∙ fresh_next ls [] k l e (omega arith)
fresh_next (m ∷ ls) (v ∷ vs) (suc k) l e h = fresh_next ls vs k l e (omega arith)

rows_more : (rows : List (Vec (Option ℤ) Global)) (row : Vec (Option ℤ) Global) → rows_of (rows ++ row ∷ []) ≡ rows_of rows ++ row.items ∷ []
rows_more [] row = refl
rows_more (r ∷ rs) row = ap (λ l. r.items ∷ l) (rows_more rs row)

pub fresh_more : (ls : List LocalVariable) (vs : List ℤ) (k : ℕ) (l : LocalVariable) (rows : List (Vec (Option ℤ) Global)) (row : Vec (Option ℤ) Global) → l ≡ get_or ls k l →
    k < length ls → row.items ≡ fresh_row l (slice_get vs k) → fresh_locals ls vs ≡ rows_of rows ++ fresh_locals (drop k ls) (drop k vs) →
    fresh_locals ls vs ≡ rows_of (rows ++ row ∷ []) ++ fresh_locals (drop (suc k) ls) (drop (suc k) vs)
fresh_more ls vs k l rows row is there made before =
    let rest = fresh_locals (drop (suc k) ls) (drop (suc k) vs) in
    before
    ∙ ap (λ x. rows_of rows ++ x) (fresh_next ls vs k l is there ∙ ap (λ x. x ∷ rest) (sym made))
    ∙ sym (append_assoc (rows_of rows) (row.items ∷ []) rest)
    ∙ sym (ap (λ x. x ++ rest) (rows_more rows row))
