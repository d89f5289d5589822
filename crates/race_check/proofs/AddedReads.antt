-- The reads of one part after another.
use Rattle.std.proofs.Common.{◌≡◌, ℕ, List, [], ◌∷◌, ◌++◌, map, refl, ap, sym, subst, ◌∙◌, append_assoc, append-nil, Bool, true, false, ℤ, Result, Ok, Err}
use Rattle.std.specs.Prelude.{pos, negsuc, if◌then◌else◌, nat_lt}
use Rattle.std.proofs.lemmas.List.{map-append}
use Rattle.hls_ints.specs.declared.fault.ArithmeticFault.{ArithmeticFault}
use Rattle.hls_ints.specs.Types.{IntegerType, unsigned_long, wrapped}
use Rattle.c_program.specs.declared.tree.BinaryOperator.TheVariants.{Multiply, Add}
use Rattle.c_program.specs.declared.tree.Storage.{Storage}
use Rattle.c_program.specs.Tree.{Expression}
use Rattle.thread_semantics.specs.declared.cause.UndefinedCause.{UndefinedCause}
use Rattle.thread_semantics.specs.declared.cause.UndefinedCause.TheVariants.{Index}
use Rattle.thread_semantics.specs.Memory.{Location, Memory, Evaluation, Gives, Fails, after_reads, and_then}
use Rattle.thread_semantics.specs.Value.{value, values, load, checked_index, calculated, binary_result, binary_value, right_operand, row_number}
use Rattle.thread_semantics.specs.Races.{Touch, read_of}
use Rattle.c_evaluation.specs.Outcome.{outcome, element_at}
use Rattle.c_evaluation.proofs.Outcomes.{outcome_ok}
use Rattle.race_check.specs.Reads.{index_in, Adds}

-- nothing is read
pub no_more : (before : List Touch) → before ≡ before ++ map read_of []
no_more before = sym (append-nil before)

after_adds : {B : Type 0} (reads : List Location) (e : Evaluation B) (before mid after : List Touch) → mid ≡ before ++ map read_of reads →
    Adds e mid after → Adds (after_reads reads e) before after
after_adds reads (Gives v more) before mid after h g =
    g
    ∙ ap (λ (xs : List Touch). xs ++ map read_of more) h
    ∙ append_assoc before (map read_of reads) (map read_of more)
    ∙ ap (λ (xs : List Touch). before ++ xs) (sym (map-append read_of reads more))
after_adds reads (Fails cause) before mid after h g = tt

-- a part and then the next
pub adds_and : {A B : Type 0} (e : Evaluation A) (next : A → Evaluation B) (before mid after : List Touch) → Adds e before mid → ((v : A) → Adds (next v) mid after) →
    Adds (and_then e next) before after
adds_and (Gives x reads) next before mid after h g = after_adds reads (next x) before mid after h (g x)
adds_and (Fails cause) next before mid after h g = tt

-- the next at the value that the part has
pub adds_ok : {A B : Type 0} (e : Evaluation A) (next : A → Evaluation B) (v : A) (before mid after : List Touch) → outcome e ≡ Ok v → Adds e before mid → Adds (next v) mid after →
    Adds (and_then e next) before after
adds_ok (Gives x reads) next v before mid after is h g =
    let same : v ≡ x = cc in
    after_adds reads (next x) before mid after h (subst (λ y. Adds (next y) mid after) same g)
adds_ok (Fails cause) next v before mid after is h g = tt

pub adds_err : {A B : Type 0} (e : Evaluation A) (next : A → Evaluation B) (cause : UndefinedCause) (before after : List Touch) → outcome e ≡ Err cause →
    Adds (and_then e next) before after
adds_err (Gives x reads) next cause before after is = absurd (let never : ⊥ = cc in never)
adds_err (Fails other) next cause before after is = tt

tested_adds : (b : Bool) (i : ℕ) (before : List Touch) → Adds (if b then Gives i [] else Fails Index) before before
tested_adds true i before = no_more before
tested_adds false i before = tt

checked_adds : (n : ℕ) (i : ℤ) (before : List Touch) → Adds (checked_index n i) before before
checked_adds n (pos i) before = tested_adds (nat_lt i n) i before
checked_adds n (negsuc i) before = tt

calculated_adds : (r : Result ℤ ArithmeticFault) (before : List Touch) → Adds (calculated r) before before
calculated_adds (Ok v) before = no_more before
calculated_adds (Err fault) before = tt

number_adds : (n i j : ℕ) (before : List Touch) → Adds (row_number n i j) before before
number_adds n i j before =
    adds_and (binary_value Multiply unsigned_long (pos i) (pos n)) (λ r. binary_value Add unsigned_long r (pos j)) before before before
    (calculated_adds (binary_result Multiply unsigned_long (wrapped unsigned_long (pos i)) (right_operand Multiply unsigned_long (pos n))) before)
    (λ r. calculated_adds (binary_result Add unsigned_long (wrapped unsigned_long r) (right_operand Add unsigned_long (pos j))) before)

pub element_adds : (m : Memory) (storage : Storage) (x n : ℕ) (i : ℤ) (j : ℕ) (before after : List Touch) → Ok j ≡ outcome (checked_index n i) →
    Adds (load m storage x j) before after → Adds (element_at m storage x n i) before after
element_adds m storage x n i j before after is h =
    adds_ok (checked_index n i) (λ k. load m storage x k) j before before after (sym is) (checked_adds n i before) h

pub element_err : (m : Memory) (storage : Storage) (x n : ℕ) (i : ℤ) (cause : UndefinedCause) (before after : List Touch) → Err cause ≡ outcome (checked_index n i) →
    Adds (element_at m storage x n i) before after
element_err m storage x n i cause before after is =
    adds_err (checked_index n i) (λ k. load m storage x k) cause before after (sym is)

-- Expressions.
located_adds : (m : Memory) (storage : Storage) (x n : ℕ) (e : Evaluation ℤ) (j : ℕ) (start before after : List Touch) → Ok j ≡ outcome (and_then e (λ i. checked_index n i)) →
    Adds e start before → Adds (load m storage x j) before after → Adds (and_then e (λ i. element_at m storage x n i)) start after
located_adds m storage x n (Gives i reads) j start before after is own h =
    after_adds reads (element_at m storage x n i) start before after own
    (element_adds m storage x n i j before after (is ∙ outcome_ok (Gives i reads) (λ k. checked_index n k) i refl) h)
located_adds m storage x n (Fails cause) j start before after is own h = tt

outside_adds : (m : Memory) (storage : Storage) (x n : ℕ) (e : Evaluation ℤ) (cause : UndefinedCause) (start before : List Touch) →
    Err cause ≡ outcome (and_then e (λ i. checked_index n i)) → Adds e start before → Adds (and_then e (λ i. element_at m storage x n i)) start before
outside_adds m storage x n (Gives i reads) cause start before is own =
    after_adds reads (element_at m storage x n i) start before before own
    (element_err m storage x n i cause before before (is ∙ outcome_ok (Gives i reads) (λ k. checked_index n k) i refl))
outside_adds m storage x n (Fails other) cause start before is own = tt

pub indexed_ok : (m : Memory) (storage : Storage) (x n : ℕ) (ty : IntegerType) (index : Expression) (j : ℕ) (start before after : List Touch) →
    Ok j ≡ outcome (index_in m n index) → Adds (value index m) start before → Adds (load m storage x j) before after →
    Adds (value (Expression.Element storage x n ty index) m) start after
indexed_ok m storage x n ty index j start before after is own h =
    located_adds m storage x n (value index m) j start before after is own h

pub indexed_err : (m : Memory) (storage : Storage) (x n : ℕ) (ty : IntegerType) (index : Expression) (cause : UndefinedCause) (start before : List Touch) →
    Err cause ≡ outcome (index_in m n index) → Adds (value index m) start before → Adds (value (Expression.Element storage x n ty index) m) start before
indexed_err m storage x n ty index cause start before is own =
    outside_adds m storage x n (value index m) cause start before is own

pub row_adds : (m : Memory) (outer inner : Expression) (n k : ℕ) (before mid after : List Touch) → Adds (value outer m) before mid → Adds (value inner m) mid after →
    Adds (value (Expression.Row outer n inner k) m) before after
row_adds m outer inner n k before mid after h g =
    adds_and (value outer m) _ before mid after h
    (λ a. adds_and (checked_index n a) _ mid mid after (checked_adds n a mid)
    (λ i. adds_and (value inner m) _ mid after after g
    (λ b. adds_and (checked_index k b) (λ j. row_number k i j) after after after (checked_adds k b after) (λ j. number_adds k i j after))))

pub values_adds : (m : Memory) (e : Expression) (es : List Expression) (before mid after : List Touch) → Adds (value e m) before mid → Adds (values es m) mid after →
    Adds (values (e ∷ es) m) before after
values_adds m e es before mid after h g =
    adds_and (value e m) (λ v. and_then (values es m) (λ vs. Gives (v ∷ vs) [])) before mid after h
    (λ v. adds_and (values es m) (λ vs. Gives (v ∷ vs) []) mid after after g (λ vs. no_more after))

pub adds_same : (e f : Evaluation ℤ) (before after : List Touch) → f ≡ e → Adds e before after → Adds f before after
adds_same e f before after same h = subst (λ x. Adds x before after) (sym same) h
