-- The outcome of one part after another.
use Rattle.std.proofs.Common.{◌≡◌, List, [], ◌∷◌, ◌++◌, drop, suc, ℕ, ◌<◌, length, get_or, ℤ, Result, Ok, Err, refl, ap, sym, ◌∙◌, drop-cons, append_assoc}
use Rattle.thread_semantics.specs.declared.cause.UndefinedCause.{UndefinedCause}
use Rattle.c_program.specs.Tree.{Expression}
use Rattle.thread_semantics.specs.Memory.{Location, Memory, Evaluation, Gives, Fails, after_reads, and_then}
use Rattle.thread_semantics.specs.Value.{value, values, checked_index, row_number}
use Rattle.c_evaluation.specs.Outcome.{outcome, after_values}

outcome-after_reads : {A : Type 0} (reads : List Location) (a : Evaluation A) → outcome (after_reads reads a) ≡ outcome a
outcome-after_reads reads (Gives v more) = refl
outcome-after_reads reads (Fails cause) = refl

pub outcome_ok : {A B : Type 0} (a : Evaluation A) (f : A → Evaluation B) (v : A) → outcome a ≡ Ok v → outcome (and_then a f) ≡ outcome (f v)
outcome_ok (Gives x reads) f v e =
    outcome-after_reads reads (f x) ∙ ap (λ y. outcome (f y)) (let h : x ≡ v = cc in h)
outcome_ok (Fails cause) f v e = cc

pub outcome_err : {A B : Type 0} (a : Evaluation A) (f : A → Evaluation B) (cause : UndefinedCause) → outcome a ≡ Err cause → outcome (and_then a f) ≡ Err cause
outcome_err (Gives x reads) f cause e = cc
outcome_err (Fails other) f cause e = cc

-- the number of an element, once both numbers are there and within their lengths
pub row_ok : (outer inner : Expression) (n k : ℕ) (m : Memory) (a b : ℤ) (i j : ℕ) → outcome (value outer m) ≡ Ok a → outcome (checked_index n a) ≡ Ok i →
    outcome (value inner m) ≡ Ok b → outcome (checked_index k b) ≡ Ok j → outcome (value (Expression.Row outer n inner k) m) ≡ outcome (row_number k i j)
row_ok outer inner n k m a b i j first within second inside =
    outcome_ok (value outer m) _ a first
    ∙ outcome_ok (checked_index n a) _ i within
    ∙ outcome_ok (value inner m) _ b second
    ∙ outcome_ok (checked_index k b) (λ x. row_number k i x) j inside

pub values_err : (e : Expression) (es : List Expression) (m : Memory) (cause : UndefinedCause) → outcome (value e m) ≡ Err cause → outcome (values (e ∷ es) m) ≡ Err cause
values_err e es m cause h = outcome_err (value e m) _ cause h

one_more : (a : Evaluation (List ℤ)) (v : ℤ) → outcome (and_then a (λ vs. Gives (v ∷ vs) [])) ≡ after_values (v ∷ []) (outcome a)
one_more (Gives vs reads) v = refl
one_more (Fails cause) v = refl

pub values_ok : (e : Expression) (es : List Expression) (m : Memory) (v : ℤ) → outcome (value e m) ≡ Ok v →
    outcome (values (e ∷ es) m) ≡ after_values (v ∷ []) (outcome (values es m))
values_ok e es m v h = outcome_ok (value e m) _ v h ∙ one_more (values es m) v

pub after_values-append : (xs : List ℤ) (v : ℤ) (r : Result (List ℤ) UndefinedCause) → after_values (xs ++ v ∷ []) r ≡ after_values xs (after_values (v ∷ []) r)
after_values-append xs v (Ok vs) = ap Ok (append_assoc xs (v ∷ []) vs)
after_values-append xs v (Err cause) = refl

pub drop-item : {A : Type 0} (s : List A) (i : ℕ) (x : A) → x ≡ get_or s i x → i < length s → drop i s ≡ x ∷ drop (suc i) s
drop-item s i x is h = drop-cons s i x h ∙ ap (λ y. y ∷ drop (suc i) s) (sym is)
