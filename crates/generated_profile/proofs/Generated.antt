-- The program of a generated text: statement by statement, the one that the text writes out.
use Rattle.std.proofs.Common.{◌≡◌, ℕ, suc, ◌≤◌, List, [], ◌∷◌, ◌++◌, append_assoc, append-nil, Some, refl, sym, ap, ◌∙◌, subst}
use Rattle.std.specs.Prelude.{codes, slice_index}
use Rattle.hls_ints.specs.Types.{unsigned_int}
use Rattle.c_lexer.specs.Texts.{tokens}
use Rattle.c_program.specs.declared.tree.ThreadObject.{ThreadObject}
use Rattle.c_program.specs.Tree.{Statement, GlobalVariable, Program}
use Rattle.c_rules.specs.Walks.{place_in_tree}
use Rattle.c_rules.specs.Findings.{nothing}
use Rattle.c_resolution.specs.Globals.{text}
use Rattle.c_resolution.specs.Sequences.{sequence}
use Rattle.generated_text.specs.declared.draws.Letter.{Letter}
use Rattle.generated_text.specs.declared.draws.Kind.{Kind}
use Rattle.generated_text.specs.declared.draws.Kind.TheVariants.{Sum, Difference, Product, ExclusiveOr, Quotient, Raise, Publish, Add}
use Rattle.generated_text.specs.declared.draws.Line.{Line}
use Rattle.generated_program.specs.Worker.{side_by_side, kind_statements, AreLines, IsWorker}
use Rattle.generated_program.specs.Main.{IsMain}
use Rattle.generated_program.specs.Main as written
use Rattle.generated_program.specs.Generated.{IsGenerated}
use Rattle.generated_profile.proofs.Pieces as ps
use Rattle.generated_profile.proofs.Placed.{place_in}
use Rattle.generated_profile.proofs.Splitting.{behind}
use Rattle.generated_profile.proofs.Sequences as joined
use Rattle.generated_profile.proofs.Branches.{statements_in, statements_of}
use Rattle.generated_profile.proofs.WorkerBody.{opening_statements, closing_statements, body_statements}
use Rattle.generated_profile.proofs.MainBody as body
use Rattle.generated_profile.proofs.Declaring.{size_of}
use Rattle.generated_profile.proofs.Whole as whole
use Rattle.generated_profile.proofs.Limits.{size_is}

-- ---- the statements that stand side by side in a sequence

abbrev flat : List Statement → List Statement
flat [] = []
flat (x ∷ xs) = side_by_side x ++ flat xs

flat_append : (xs ys : List Statement) → flat (xs ++ ys) ≡ flat xs ++ flat ys
flat_append [] ys = refl
flat_append (x ∷ xs) ys = ap (λ rest. side_by_side x ++ rest) (flat_append xs ys) ∙ sym (append_assoc (side_by_side x) (flat xs) (flat ys))

total_is : (list : List Statement) →
    joined.total [] (λ a b. a ++ b) append_assoc (λ a. refl) append-nil side_by_side refl (λ a b. refl) list ≡ flat list
total_is [] = refl
total_is (x ∷ list) = ap (λ rest. side_by_side x ++ rest) (total_is list)

flat_of_sequence : (list : List Statement) → side_by_side (sequence list) ≡ flat list
flat_of_sequence list =
    joined.gathered [] (λ a b. a ++ b) append_assoc (λ a. refl) append-nil side_by_side refl (λ a b. refl) list ∙ total_is list

-- ---- lines

kind_flat : (size : ℕ) (k : Kind) (at : ℕ → ℕ) (x y z : Letter) → flat (statements_in size k at x y z) ≡ statements_in size k at x y z
kind_flat size Sum at x y z = refl
kind_flat size Difference at x y z = refl
kind_flat size Product at x y z = refl
kind_flat size ExclusiveOr at x y z = refl
kind_flat size Quotient at x y z = refl
kind_flat size Raise at x y z = refl
kind_flat size Publish at x y z = refl
kind_flat size Add at x y z = refl

lines_flat : (size o : ℕ) (lines : List Line) → flat (statements_of size o lines) ≡ statements_of size o lines
lines_flat size o [] = refl
lines_flat size o (line ∷ lines) =
    let at : ℕ → ℕ = place_in (tokens o (ps.line_pieces line)) in
    let here : List Statement = statements_in size line.kind at line.target line.left line.right in
    let rest : List Statement = statements_of size (behind o (ps.line_pieces line)) lines in
    flat_append here rest
    ∙ ap (λ l. l ++ flat rest) (kind_flat size line.kind at line.target line.left line.right)
    ∙ ap (λ l. here ++ l) (lines_flat size (behind o (ps.line_pieces line)) lines)

-- the places of a line's statements, by the places of its tokens
abbrev line_places : Kind → (ℕ → ℕ) → ℕ → ℕ
line_places Raise at n = slice_index (place_in_tree (at 2) ∷ place_in_tree (at 7) ∷ []) n
line_places Add at n = slice_index (place_in_tree (at 0) ∷ place_in_tree (at 6) ∷ place_in_tree (at 10) ∷ []) n
line_places kind at n = place_in_tree (at 0)

kind_is : (size : ℕ) (k : Kind) (at : ℕ → ℕ) (x y z : Letter) → statements_in size k at x y z ≡ kind_statements size (line_places k at) k x y z
kind_is size Sum at x y z = refl
kind_is size Difference at x y z = refl
kind_is size Product at x y z = refl
kind_is size ExclusiveOr at x y z = refl
kind_is size Quotient at x y z = refl
kind_is size Raise at x y z = refl
kind_is size Publish at x y z = refl
kind_is size Add at x y z = refl

are_lines : (size o : ℕ) (lines : List Line) → AreLines size lines (statements_of size o lines)
are_lines size o [] = refl
are_lines size o (line ∷ lines) =
    let at : ℕ → ℕ = place_in (tokens o (ps.line_pieces line)) in
    let rest : List Statement = statements_of size (behind o (ps.line_pieces line)) lines in (
      line_places line.kind at,
      rest,
      ap (λ here. here ++ rest) (kind_is size line.kind at line.target line.left line.right),
      are_lines size (behind o (ps.line_pieces line)) lines,
    )

-- ---- the two functions

-- the places of the worker's other statements, by those of the tokens before its lines and behind them
abbrev worker_places : (ℕ → ℕ) → (ℕ → ℕ) → ℕ → ℕ
worker_places before behind_lines n =
    slice_index
    (place_in_tree (before 28) ∷ place_in_tree (before 36) ∷ place_in_tree (before 45) ∷ place_in_tree (before 49) ∷ place_in_tree (before 53)
    ∷ place_in_tree (behind_lines 0) ∷ place_in_tree (behind_lines 13) ∷ place_in_tree (behind_lines 19) ∷ place_in_tree (behind_lines 26)
    ∷ place_in_tree (behind_lines 32) ∷ []) n

-- the places of main's statements, by those of its tokens
abbrev main_places : (ℕ → ℕ) → ℕ → ℕ
main_places last n =
    slice_index
    (place_in_tree (last 7) ∷ place_in_tree (last 9)
    ∷ place_in_tree (last 19) ∷ place_in_tree (last 23) ∷ place_in_tree (last 27) ∷ place_in_tree (last 31)
    ∷ place_in_tree (last 56) ∷ place_in_tree (last 60) ∷ place_in_tree (last 64) ∷ place_in_tree (last 68)
    ∷ place_in_tree (last 81) ∷ place_in_tree (last 85) ∷ place_in_tree (last 89) ∷ place_in_tree (last 93)
    ∷ place_in_tree (last 104) ∷ place_in_tree (last 111) ∷ place_in_tree (last 117) ∷ []) n

worker_flat : (size : ℕ) (before behind_lines : ℕ → ℕ) (o : ℕ) (lines : List Line) →
    flat (body_statements size nothing before behind_lines o lines) ≡ body_statements size nothing before behind_lines o lines
worker_flat size before behind_lines o lines =
    let front : List Statement = opening_statements before in
    let middle : List Statement = statements_of size o lines in
    let end : List Statement = closing_statements size behind_lines in
    flat_append (front ++ middle) end ∙ ap (λ l. l ++ end) (flat_append front middle ∙ ap (λ l. front ++ l) (lines_flat size o lines))

module _ (k : ℕ) (fits : suc k ≤ 63) (before behind_lines last : ℕ → ℕ) (o : ℕ) (lines : List Line) where
  abbrev threads : ℕ
  threads = suc k

  abbrev size : ℕ
  size = size_of threads

  abbrev P : Program
  P = whole.program k before behind_lines last o lines

  is_worker : IsWorker size lines (whole.worker_is k before behind_lines last o lines)
  is_worker = record {
    returns = refl;
    parameters = refl;
    locals = refl;
    at = worker_places before behind_lines;
    middle = statements_of size o lines;
    of_lines = are_lines size o lines;
    body = flat_of_sequence (body_statements size nothing before behind_lines o lines) ∙ worker_flat size before behind_lines o lines;
  }

  main_is : body.main_statements size threads last ≡ written.main_statements threads (main_places last)
  main_is = ap (λ n. body.main_statements n threads last) (size_is k fits)

  is_main : IsMain threads (whole.main_function_is k before behind_lines last o lines)
  is_main = record {
    returns = refl;
    parameters = refl;
    locals = refl;
    at = main_places last;
    body = flat_of_sequence (body.main_statements size threads last) ∙ main_is;
  }

  abbrev sum : GlobalVariable
  sum = record { name = text (codes "s"); ty = unsigned_int; length = 1; initial = [] }

  abbrev elements : GlobalVariable
  elements = record { name = text (codes "g"); ty = unsigned_int; length = size; initial = [] }

  abbrev thread_ids : ℕ → List ThreadObject
  thread_ids n = record { length = n; routine = Some 0 } ∷ []

  pub is_generated : IsGenerated threads lines P
  is_generated = record {
    worker = whole.worker_is k before behind_lines last o lines;
    main = whole.main_function_is k before behind_lines last o lines;
    functions = refl;
    main_number = refl;
    is_worker =
        subst (λ n. IsWorker n lines (whole.worker_is k before behind_lines last o lines)) (size_is k fits) is_worker;
    is_main = is_main;
    sum = sum;
    elements = elements;
    globals = refl;
    is_sum = record { ty = refl; length_is = refl; initial = refl };
    are_elements = record { ty = refl; length_is = size_is k fits; initial = refl };
    thread_ids = ap thread_ids (size_is k fits);
    mutexes = refl;
    barriers = refl;
  }
