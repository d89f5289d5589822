-- The tokens of a generated text.
use Rattle.std.proofs.Common.{◌≡◌, ℕ, ◌+◌, ◌*◌, ◌≤◌, List, [], ◌∷◌, ◌++◌, length, length-append, append-nil, true, false, refl, sym}
use Rattle.std.proofs.Common.{subst, append_assoc, arith}
use Rattle.std.specs.Prelude.{codes, decimal, Ok}
use Rattle.std.specs.List.{list_all, flat_map}
use Rattle.c_token.specs.declared.token.Token.{Token}
use Rattle.c_token.specs.Spelling.{Bytes}
use Rattle.c_lexer.specs.Lexemes.{is_number_byte}
use Rattle.c_lexer.specs.Meaning.{State, start}
use Rattle.c_lexer.specs.Texts.{Piece, Splits, LexesAs, tokens, with_end, may_end, max_tokens}
use Rattle.generated_text.specs.declared.draws.Letter.{Letter}
use Rattle.generated_text.specs.declared.draws.Kind.{Kind}
use Rattle.generated_text.specs.declared.draws.Kind.TheVariants.{Sum, Difference, Product, ExclusiveOr, Quotient, Raise, Publish, Add}
use Rattle.generated_text.specs.declared.draws.Line.{Line}
use Rattle.generated_text.specs.Text.{byte_of, statement_text, line_text, sized, head, worker_end, loops, main_text, text_of}
use Rattle.generated_profile.proofs.Running.{Lexes, Begins}
use Rattle.generated_profile.proofs.Splitting.{in_turn, nothing, goes_on_with, fits, count, count_append, fit_append, within}
use Rattle.generated_profile.proofs.Numbers.{number_then, decimal_short}
use Rattle.generated_profile.proofs.Pieces as ps
use Rattle.generated_profile.proofs.Fragments as f

-- ---- how the text splits

module _ (t : ℕ) (most : t ≤ 63) where
  sized_lexes : {s u : State} (before : Bytes) (b : ℕ) (z : Bytes) {first_ps next_ps : List Piece} →
      Lexes s before first_ps ps.in_line → is_number_byte b ≡ false →
      Lexes ps.in_line (b ∷ z) next_ps u → Lexes s (sized before t (b ∷ z)) (ps.sized_pieces first_ps t next_ps) u
  sized_lexes {s = s} {u = u} before b z {first_ps = first_ps} {next_ps = next_ps} first ends next =
      subst (λ y. Lexes s y (ps.sized_pieces first_ps t next_ps) u) (sym (append_assoc before (decimal t) (b ∷ z)))
      (in_turn first (number_then t most b z ends next))

  sized_begins : {u : State} (before : Bytes) (b : ℕ) (z : Bytes) {first_ps next_ps : List Piece} →
      Begins before first_ps ps.in_line → is_number_byte b ≡ false →
      Lexes ps.in_line (b ∷ z) next_ps u → Begins (sized before t (b ∷ z)) (ps.sized_pieces first_ps t next_ps) u
  sized_begins {u = u} before b z {first_ps = first_ps} {next_ps = next_ps} first ends next =
      subst (λ y. Begins y (ps.sized_pieces first_ps t next_ps) u) (sym (append_assoc before (decimal t) (b ∷ z)))
      (goes_on_with first (number_then t most b z ends next))

  head_begins : Begins (head t) (ps.head_pieces t) ps.line_start
  head_begins =
      goes_on_with
      (goes_on_with
      (sized_begins (codes "#include <stdio.h>\n#include <pthread.h>\npthread_t t[") 93 (codes ";\n") f.begins refl f.sized_end_lexes)
      (sized_lexes (codes "pthread_mutex_t m;\nunsigned s;\nunsigned g[") 93 (codes ";\n") f.array_lexes refl f.sized_end_lexes))
      f.worker_head_lexes

  loop_lexes : (z : Bytes) {bs : List Piece} → Lexes ps.in_line (59 ∷ z) bs ps.line_start →
      Lexes ps.line_start (sized (codes "  for (i = 0; i < ") t (59 ∷ z)) (ps.sized_pieces ps.loop_head_pieces t bs) ps.line_start
  loop_lexes z body = sized_lexes (codes "  for (i = 0; i < ") 59 z f.loop_head_lexes refl body

  loops_lex : Lexes ps.line_start (loops t) (ps.loops_pieces t) ps.line_start
  loops_lex =
      in_turn
      (in_turn
      (loop_lexes (codes " i++) {\n    pthread_create(&t[i], NULL, worker, (void *)(long)i);\n  }\n") f.create_lexes)
      (loop_lexes (codes " i++) {\n    pthread_join(t[i], NULL);\n  }\n") f.join_lexes))
      (loop_lexes (codes " i++) {\n    printf(\"%u\\n\", g[i]);\n  }\n") f.print_lexes)

  main_lexes : Lexes ps.line_start (main_text t) (ps.main_pieces t) ps.line_start
  main_lexes = in_turn (in_turn f.main_head_lexes loops_lex) f.main_tail_lexes

statement_lexes : (k : Kind) (x y z : Letter) →
    Lexes ps.line_start (statement_text k (byte_of x) (byte_of y) (byte_of z)) (ps.statement_pieces k x y z) ps.in_line
statement_lexes Sum x y z = in_turn (in_turn (f.target_starts x) (f.before_plus y)) (f.last z)
statement_lexes Difference x y z = in_turn (in_turn (f.target_starts x) (f.before_minus y)) (f.last z)
statement_lexes Product x y z = in_turn (in_turn (f.target_starts x) (f.before_times y)) (f.last z)
statement_lexes ExclusiveOr x y z = in_turn (in_turn (f.target_starts x) (f.before_exclusive_or y)) (f.last z)
statement_lexes Quotient x y z = in_turn (in_turn (f.target_starts x) (f.dividend y)) (f.divisor z)
statement_lexes Raise x y z = in_turn (in_turn (in_turn (in_turn f.condition (f.before_less y)) (f.compared z)) (f.target x)) (f.raised_one x)
statement_lexes Publish x y z = in_turn f.own_element (f.last x)
statement_lexes Add x y z = in_turn f.locks_and_adds (f.before_unlock x)

line_lexes : (line : Line) → Lexes ps.line_start (line_text line) (ps.line_pieces line) ps.line_start
line_lexes line = in_turn (in_turn f.two_blanks (statement_lexes line.kind line.target line.left line.right)) f.line_end

lines_lex : (lines : List Line) → Lexes ps.line_start (flat_map line_text lines) (flat_map ps.line_pieces lines) ps.line_start
lines_lex [] = nothing ps.line_start
lines_lex (line ∷ lines) = in_turn (line_lexes line) (lines_lex lines)

text_begins : (t : ℕ) → t ≤ 63 → (lines : List Line) → Begins (text_of t lines) (ps.text_pieces t lines) ps.line_start
text_begins t most lines =
    goes_on_with (goes_on_with (goes_on_with (head_begins t most) (lines_lex lines)) f.worker_tail_lexes) (main_lexes t most)

-- ---- limits

statement_fits : (k : Kind) (x y z : Letter) → list_all fits ((ps.indent ∷ ps.indent ∷ []) ++ ps.statement_pieces k x y z ++ (ps.line_feed ∷ [])) ≡ true
statement_fits Sum x y z = refl
statement_fits Difference x y z = refl
statement_fits Product x y z = refl
statement_fits ExclusiveOr x y z = refl
statement_fits Quotient x y z = refl
statement_fits Raise x y z = refl
statement_fits Publish x y z = refl
statement_fits Add x y z = refl

lines_fit : (lines : List Line) → list_all fits (flat_map ps.line_pieces lines) ≡ true
lines_fit [] = refl
lines_fit (line ∷ lines) =
    fit_append (ps.line_pieces line) (flat_map ps.line_pieces lines) (statement_fits line.kind line.target line.left line.right) (lines_fit lines)

text_fits : (t : ℕ) (lines : List Line) → list_all fits (ps.text_pieces t lines) ≡ true
text_fits t lines =
    let before : list_all fits (ps.head_pieces t ++ flat_map ps.line_pieces lines) ≡ true =
    fit_append (ps.head_pieces t) (flat_map ps.line_pieces lines) refl (lines_fit lines) in
    fit_append (ps.head_pieces t ++ flat_map ps.line_pieces lines ++ ps.worker_tail_pieces) (ps.main_pieces t)
    (fit_append (ps.head_pieces t ++ flat_map ps.line_pieces lines) ps.worker_tail_pieces before refl) refl

statement_count : (k : Kind) (x y z : Letter) → count ((ps.indent ∷ ps.indent ∷ []) ++ ps.statement_pieces k x y z ++ (ps.line_feed ∷ [])) ≤ 16
statement_count Sum x y z = omega arith
statement_count Difference x y z = omega arith
statement_count Product x y z = omega arith
statement_count ExclusiveOr x y z = omega arith
statement_count Quotient x y z = omega arith
statement_count Raise x y z = omega arith
statement_count Publish x y z = omega arith
statement_count Add x y z = omega arith

lines_count : (lines : List Line) → count (flat_map ps.line_pieces lines) ≤ 16 * length lines
lines_count [] = omega arith
lines_count (line ∷ lines) =
    omega (
      arith,
      count_append (ps.line_pieces line) (flat_map ps.line_pieces lines),
      statement_count line.kind line.target line.left line.right,
      lines_count lines,
    )

head_count : (t : ℕ) → count (ps.head_pieces t) ≡ 57
head_count t = refl

tail_count : count ps.worker_tail_pieces ≡ 36
tail_count = refl

main_count : (t : ℕ) → count (ps.main_pieces t) ≡ 121
main_count t = refl

text_count : (t : ℕ) (lines : List Line) → length lines ≤ 1000 → count (ps.text_pieces t lines) ≤ max_tokens
text_count t lines few =
    omega (
      arith,
      count_append (ps.head_pieces t ++ flat_map ps.line_pieces lines ++ ps.worker_tail_pieces) (ps.main_pieces t),
      count_append (ps.head_pieces t ++ flat_map ps.line_pieces lines) ps.worker_tail_pieces,
      count_append (ps.head_pieces t) (flat_map ps.line_pieces lines),
      head_count t,
      tail_count,
      main_count t,
      lines_count lines,
      few,
    )

-- ---- the length of the text

statement_length : (k : Kind) (x y z : Letter) → length (codes "  " ++ statement_text k (byte_of x) (byte_of y) (byte_of z) ++ codes "\n") ≤ 60
statement_length Sum x y z = omega arith
statement_length Difference x y z = omega arith
statement_length Product x y z = omega arith
statement_length ExclusiveOr x y z = omega arith
statement_length Quotient x y z = omega arith
statement_length Raise x y z = omega arith
statement_length Publish x y z = omega arith
statement_length Add x y z = omega arith

lines_length : (lines : List Line) → length (flat_map line_text lines) ≤ 60 * length lines
lines_length [] = omega arith
lines_length (line ∷ lines) =
    omega (arith, length-append (line_text line) (flat_map line_text lines), statement_length line.kind line.target line.left line.right, lines_length lines)

sized_length : (a b : Bytes) (t : ℕ) → t ≤ 63 → length (sized a t b) ≤ length a + length b + 2
sized_length a b t most = omega (arith, length-append (a ++ decimal t) b, length-append a (decimal t), decimal_short t most)

head_length : (t : ℕ) → t ≤ 63 → length (head t) ≤ 207
head_length t most =
    let a : Bytes = sized (codes "#include <stdio.h>\n#include <pthread.h>\npthread_t t[") t (codes "];\n") in
    let b : Bytes = sized (codes "pthread_mutex_t m;\nunsigned s;\nunsigned g[") t (codes "];\n") in
    let c : Bytes = codes "void *worker(void *arg) {\n  long id = (long)arg;\n  unsigned a = (unsigned)id + 1, b = 2, c = 3, d = 4;\n" in
    let first : length a ≤ 57 = sized_length (codes "#include <stdio.h>\n#include <pthread.h>\npthread_t t[") (codes "];\n") t most in
    let second : length b ≤ 47 = sized_length (codes "pthread_mutex_t m;\nunsigned s;\nunsigned g[") (codes "];\n") t most in
    let third : length c ≡ 103 = refl in
    omega (arith, length-append (a ++ b) c, length-append a b, first, second, third)

loops_length : (t : ℕ) → t ≤ 63 → length (loops t) ≤ 213
loops_length t most =
    let for : Bytes = codes "  for (i = 0; i < " in
    let a : Bytes = codes "; i++) {\n    pthread_create(&t[i], NULL, worker, (void *)(long)i);\n  }\n" in
    let b : Bytes = codes "; i++) {\n    pthread_join(t[i], NULL);\n  }\n" in
    let c : Bytes = codes "; i++) {\n    printf(\"%u\\n\", g[i]);\n  }\n" in
    let first : length (sized for t a) ≤ 91 = sized_length for a t most in
    let second : length (sized for t b) ≤ 63 = sized_length for b t most in
    let third : length (sized for t c) ≤ 59 = sized_length for c t most in
    omega (arith, length-append (sized for t a ++ sized for t b) (sized for t c), length-append (sized for t a) (sized for t b), first, second, third)

main_length : (t : ℕ) → t ≤ 63 → length (main_text t) ≤ 335
main_length t most =
    let a : Bytes = codes "int main(void) {\n  int i;\n  pthread_mutex_init(&m, NULL);\n" in
    let b : Bytes = codes "  printf(\"%u\\n\", s);\n  pthread_mutex_destroy(&m);\n  return 0;\n}\n" in
    let first : length a ≡ 58 = refl in
    let last : length b ≡ 64 = refl in
    omega (arith, length-append (a ++ loops t) b, length-append a (loops t), loops_length t most, first, last)

pub text_length : (t : ℕ) → t ≤ 63 → (lines : List Line) → length lines ≤ 1000 → length (text_of t lines) ≤ 65536
text_length t most lines few =
    let tail : length worker_end ≡ 110 = refl in
    omega (
      arith,
      length-append (head t ++ flat_map line_text lines ++ worker_end) (main_text t),
      length-append (head t ++ flat_map line_text lines) worker_end,
      length-append (head t) (flat_map line_text lines),
      lines_length lines,
      head_length t most,
      main_length t most,
      tail,
      few,
    )

-- ---- tokens

abbrev pub text_tokens : ℕ → List Line → List Token
text_tokens t lines = with_end (text_of t lines) (tokens 0 (ps.text_pieces t lines))

pub text_lexes : (t : ℕ) → t ≤ 63 → (lines : List Line) → length lines ≤ 1000 → LexesAs (text_of t lines) (Ok (text_tokens t lines))
unfolding may_end
text_lexes t most lines few =
    let text : Bytes = text_of t lines in
    record {
      pieces = ps.text_pieces t lines;
      at = length text;
      state = ps.line_start;
      rest = [];
      reaches = record {
        split = subst (λ z. Splits 0 start z (ps.text_pieces t lines) ps.line_start []) (append-nil text) ((text_begins t most lines).splits []);
        place = omega arith;
        within = within 0 (ps.text_pieces t lines) (text_fits t lines) (omega (arith, text_count t lines few));
      };
      ends = (refl, refl, refl);
    }
