-- The program of a generated text is within all limits.
use Rattle.std.proofs.Common.{◌≡◌, ℕ, suc, ◌+◌, ◌*◌, ◌≤◌, List, [], ◌∷◌, ◌++◌, length, length-append, Option}
use Rattle.std.proofs.Common.{Some, None, Bool, true, false, cond, refl, ap, ◌∙◌, arith}
use Rattle.std.specs.Prelude.{nat_lt, sum_by}
use Rattle.std.specs.Option.{option_or}
use Rattle.std.proofs.lemmas.Bool.{ltb-true}
use Rattle.std.proofs.lemmas.List.{nil_from_length}
use Rattle.c_program.specs.Tree.{Statement, Program}
use Rattle.c_program.specs.Calls.{calls_of}
use Rattle.c_program.specs.Counting.{capped}
use Rattle.c_program.specs.Limits.{print_count, longest_array, local_elements, own_elements, print_sites, global_elements, thread_ids}
use Rattle.c_program.specs.Weight.{statement_weight, own_weight, function_weight, inlined, thread_count}
use Rattle.c_limits.specs.declared.limit.Limit.{Limit}
use Rattle.c_limits.specs.declared.limit.Limit.TheVariants as limit
use Rattle.c_limits.specs.declared.limit.Passed.{Passed}
use Rattle.c_limits.specs.Counts.{most, over, over_objects, over_data, over_inlined, first_passed}
use Rattle.c_resolution.specs.Sequences.{sequence}
use Rattle.c_rules.specs.Findings.{nothing}
use Rattle.generated_text.specs.declared.draws.Letter.{Letter}
use Rattle.generated_text.specs.declared.draws.Kind.{Kind as LineKind}
use Rattle.generated_text.specs.declared.draws.Kind.TheVariants.{Sum, Difference, Product, ExclusiveOr, Quotient, Raise, Publish, Add}
use Rattle.generated_text.specs.declared.draws.Line.{Line}
use Rattle.generated_profile.proofs.Pieces as ps
use Rattle.generated_profile.proofs.Placed.{place_in}
use Rattle.generated_profile.proofs.Splitting.{behind}
use Rattle.c_lexer.specs.Texts.{tokens}
use Rattle.generated_profile.proofs.Sequences as joined
use Rattle.generated_profile.proofs.Branches.{statements_in, statements_of}
use Rattle.generated_profile.proofs.WorkerBody.{opening_statements, closing_statements, body_statements}
use Rattle.generated_profile.proofs.Declaring.{size_of}
use Rattle.generated_profile.proofs.Whole as whole

-- ---- a count that is within its limit

not_less : (a b : ℕ) → b ≤ a → nat_lt a b ≡ false
not_less a b le = by (nat_lt a b) refl
  where
    by : (x : Bool) → nat_lt a b ≡ x → nat_lt a b ≡ false
    by true e = absurd (omega (arith, ltb-true a b e, le))
    by false e = e

over_none : (l : Limit) (count : ℕ) → count ≤ most l → over l count ≡ None
unfolding over
over_none l count le =
    let passed : Option Passed = Some (record { limit = l; count = count }) in
    ap (λ b. cond b passed None) (not_less (most l) count le)

both : (a b : Option Passed) → a ≡ None → b ≡ None → option_or a b ≡ None
both a b p q = ap (λ x. option_or x b) p ∙ q

-- ---- sums over statements

module _ (f : Statement → ℕ) (done : f Statement.Done ≡ 0) (sequence_is : (a b : Statement) → f (Statement.Sequence a b) ≡ f a + f b) where
  abbrev amount : List Statement → ℕ
  amount [] = 0
  amount (x ∷ xs) = f x + amount xs

  amount_append : (xs ys : List Statement) → amount (xs ++ ys) ≡ amount xs + amount ys
  amount_append [] ys = omega arith
  amount_append (x ∷ xs) ys = omega (arith, amount_append xs ys)

  amount_is : (list : List Statement) → joined.total 0 (λ a b. a + b) (λ a b c. omega arith) (λ a. omega arith) (λ a. omega arith) f done sequence_is list ≡ amount list
  amount_is [] = refl
  amount_is (x ∷ list) = ap (λ n. f x + n) (amount_is list)

  amount_of_sequence : (list : List Statement) → f (sequence list) ≡ amount list
  amount_of_sequence list =
      joined.gathered 0 (λ a b. a + b) (λ a b c. omega arith) (λ a. omega arith) (λ a. omega arith) f done sequence_is list ∙ amount_is list

-- ---- lines

abbrev weigh : List Statement → ℕ
weigh = amount statement_weight refl (λ a b. refl)

abbrev prints : List Statement → ℕ
prints = amount print_count refl (λ a b. refl)

kind_weight : (size : ℕ) (k : LineKind) (at : ℕ → ℕ) (x y z : Letter) → weigh (statements_in size k at x y z) ≤ 5
kind_weight size Sum at x y z = omega arith
kind_weight size Difference at x y z = omega arith
kind_weight size Product at x y z = omega arith
kind_weight size ExclusiveOr at x y z = omega arith
kind_weight size Quotient at x y z = omega arith
kind_weight size Raise at x y z = omega arith
kind_weight size Publish at x y z = omega arith
kind_weight size Add at x y z = omega arith

lines_weight : (size o : ℕ) (lines : List Line) → weigh (statements_of size o lines) ≤ 5 * length lines
lines_weight size o [] = omega arith
lines_weight size o (line ∷ lines) =
    let at : ℕ → ℕ = place_in (tokens o (ps.line_pieces line)) in
    let here : List Statement = statements_in size line.kind at line.target line.left line.right in
    let next : ℕ = behind o (ps.line_pieces line) in
    omega (
      arith,
      amount_append statement_weight refl (λ a b. refl) here (statements_of size next lines),
      kind_weight size line.kind at line.target line.left line.right,
      lines_weight size next lines,
    )

kind_prints : (size : ℕ) (k : LineKind) (at : ℕ → ℕ) (x y z : Letter) → prints (statements_in size k at x y z) ≡ 0
kind_prints size Sum at x y z = refl
kind_prints size Difference at x y z = refl
kind_prints size Product at x y z = refl
kind_prints size ExclusiveOr at x y z = refl
kind_prints size Quotient at x y z = refl
kind_prints size Raise at x y z = refl
kind_prints size Publish at x y z = refl
kind_prints size Add at x y z = refl

lines_prints : (size o : ℕ) (lines : List Line) → prints (statements_of size o lines) ≡ 0
lines_prints size o [] = refl
lines_prints size o (line ∷ lines) =
    let at : ℕ → ℕ = place_in (tokens o (ps.line_pieces line)) in
    let here : List Statement = statements_in size line.kind at line.target line.left line.right in
    let next : ℕ = behind o (ps.line_pieces line) in
    omega (
      arith,
      amount_append print_count refl (λ a b. refl) here (statements_of size next lines),
      kind_prints size line.kind at line.target line.left line.right,
      lines_prints size next lines,
    )

-- ---- the worker

module _ (size : ℕ) (at after : ℕ → ℕ) (o : ℕ) (lines : List Line) where
  abbrev list : List Statement
  list = body_statements size nothing at after o lines

  worker_weight : statement_weight (sequence list) ≤ 5 * length lines + 40
  worker_weight =
      omega (
        arith,
        amount_of_sequence statement_weight refl (λ a b. refl) list,
        amount_append statement_weight refl (λ a b. refl) (opening_statements at ++ statements_of size o lines) (closing_statements size after),
        amount_append statement_weight refl (λ a b. refl) (opening_statements at) (statements_of size o lines),
        lines_weight size o lines,
      )

  worker_prints : print_count (sequence list) ≡ 0
  worker_prints =
      omega (
        arith,
        amount_of_sequence print_count refl (λ a b. refl) list,
        amount_append print_count refl (λ a b. refl) (opening_statements at ++ statements_of size o lines) (closing_statements size after),
        amount_append print_count refl (λ a b. refl) (opening_statements at) (statements_of size o lines),
        lines_prints size o lines,
      )

-- ---- no calls

abbrev call_count : Statement → ℕ
call_count x = length (calls_of x)

both_calls : (a b : Statement) → call_count (Statement.Sequence a b) ≡ call_count a + call_count b
both_calls a b = length-append (calls_of a) (calls_of b)

abbrev callers : List Statement → ℕ
callers = amount call_count refl both_calls

kind_calls : (size : ℕ) (k : LineKind) (at : ℕ → ℕ) (x y z : Letter) → callers (statements_in size k at x y z) ≡ 0
kind_calls size Sum at x y z = refl
kind_calls size Difference at x y z = refl
kind_calls size Product at x y z = refl
kind_calls size ExclusiveOr at x y z = refl
kind_calls size Quotient at x y z = refl
kind_calls size Raise at x y z = refl
kind_calls size Publish at x y z = refl
kind_calls size Add at x y z = refl

lines_calls : (size o : ℕ) (lines : List Line) → callers (statements_of size o lines) ≡ 0
lines_calls size o [] = refl
lines_calls size o (line ∷ lines) =
    let at : ℕ → ℕ = place_in (tokens o (ps.line_pieces line)) in
    let here : List Statement = statements_in size line.kind at line.target line.left line.right in
    let next : ℕ = behind o (ps.line_pieces line) in
    omega (
      arith,
      amount_append call_count refl both_calls here (statements_of size next lines),
      kind_calls size line.kind at line.target line.left line.right,
      lines_calls size next lines,
    )

worker_calls : (size : ℕ) (at after : ℕ → ℕ) (o : ℕ) (lines : List Line) → calls_of (sequence (body_statements size nothing at after o lines)) ≡ []
worker_calls size at after o lines =
    let list : List Statement = body_statements size nothing at after o lines in
    nil_from_length (calls_of (sequence list))
    (omega (
      arith,
      amount_of_sequence call_count refl both_calls list,
      amount_append call_count refl both_calls (opening_statements at ++ statements_of size o lines) (closing_statements size after),
      amount_append call_count refl both_calls (opening_statements at) (statements_of size o lines),
      lines_calls size o lines,
    ))

-- ---- the program

pub size_is : (k : ℕ) → suc k ≤ 63 → size_of (suc k) ≡ suc k
size_is k fits = omega (arith, fits)

module _ (k : ℕ) (fits : suc k ≤ 63) (before behind_lines last : ℕ → ℕ) (o : ℕ) (lines : List Line) (few : length lines ≤ 1000) where
  abbrev P : Program
  P = whole.program k before behind_lines last o lines

  abbrev size : ℕ
  size = size_of (suc k)

  objects_within : over_objects P ≡ None
  objects_within =
      both _ _ (over_none limit.Functions 2 (omega arith))
      (both _ _ (over_none limit.ThreadIds (thread_ids P) (omega (arith, size_is k fits, fits)))
      (both _ _ (over_none limit.MutexElements 1 (omega arith)) (over_none limit.BarrierElements 0 (omega arith))))

  main_prints : print_count (whole.main_function_is k before behind_lines last o lines).body ≡ 2
  unfolding sequence
  main_prints = refl

  data_within : over_data P ≡ None
  data_within =
      both _ _ (over_none limit.OneArray (longest_array P) (omega (arith, size_is k fits, fits)))
      (both _ _ (over_none limit.GlobalElements (global_elements P) (omega (arith, size_is k fits, fits)))
      (over_none limit.PrintSites (capped (print_sites P)) (omega (arith, worker_prints size before behind_lines o lines, main_prints))))

  abbrev no_worker_calls : calls_of (whole.worker_is k before behind_lines last o lines).body ≡ []
  no_worker_calls = worker_calls size before behind_lines o lines

  worker_locals : local_elements P.functions 0 ≡ 6
  worker_locals = ap (λ l. 6 + sum_by (inlined own_elements P.functions 1) l) no_worker_calls

  worker_inlined : function_weight P.functions 0 ≡ own_weight (whole.worker_is k before behind_lines last o lines) + 0
  worker_inlined = ap (λ l. own_weight (whole.worker_is k before behind_lines last o lines) + sum_by (inlined own_weight P.functions 1) l) no_worker_calls

  main_locals : local_elements P.functions 1 ≡ 1
  unfolding sequence
  main_locals = refl

  main_inlined : function_weight P.functions 1 ≤ 100
  unfolding sequence
  main_inlined = omega arith

  inlined_within : over_inlined P ≡ None
  inlined_within =
      both _ _
      (both _ _ (over_none limit.LocalElements (capped (local_elements P.functions 0)) (omega (arith, worker_locals)))
      (both _ _ (over_none limit.LocalElements (capped (local_elements P.functions 1)) (omega (arith, main_locals))) refl))
      (both _ _ (over_none limit.Weight (capped (function_weight P.functions 0)) (omega (arith, worker_inlined, worker_weight size before behind_lines o lines, few)))
      (both _ _ (over_none limit.Weight (capped (function_weight P.functions 1)) (omega (arith, main_inlined))) refl))

  pub limits : first_passed P ≡ None
  limits = both _ _ objects_within (both _ _ data_within inlined_within)

  pub threads_are : thread_count P ≡ suc k + 1
  threads_are = omega (arith, size_is k fits)
