-- How the parts of a generated text split into lexemes.
use Rattle.std.proofs.Common.{[], ◌∷◌, refl}
use Rattle.std.specs.Prelude.{codes}
use Rattle.std.specs.Fmt.{digits}
use Rattle.c_token.specs.Spelling.{keyword_of, punctuator_at}
use Rattle.c_token.specs.Constants.{integer_of, integer_by, suffix_of, typed, number_from}
use Rattle.c_lexer.specs.Lexemes.{class_at, goes_on}
use Rattle.c_lexer.specs.Finding.{lexeme_at, run_len, text_len}
use Rattle.c_lexer.specs.Meaning.{start, effect_of, token_of}
use Rattle.c_lexer.specs.Stepping.{next_piece}
use Rattle.generated_text.specs.declared.draws.Letter.{Letter}
use Rattle.generated_text.specs.declared.draws.Letter.TheVariants.{A, B, C, D}
use Rattle.generated_text.specs.Text.{byte_of}
use Rattle.c_token.specs.declared.keyword.Keyword.TheVariants as k
use Rattle.c_token.specs.declared.punctuator.Punctuator.TheVariants as p
use Rattle.generated_profile.proofs.Running.{run_lexes, run_begins, Lexes, Begins}
use Rattle.generated_profile.proofs.Pieces.{line_start, in_line, indent, blank, line_feed, keyword, name, letter, number, mark}
use Rattle.generated_profile.proofs.Pieces.{begin_pieces, array_pieces, sized_end_pieces, worker_head_pieces, worker_tail_pieces}
use Rattle.generated_profile.proofs.Pieces.{main_head_pieces, loop_head_pieces, create_pieces, join_pieces, print_pieces, main_tail_pieces}

-- ---- parts without a drawn variable

pub begins : Begins (codes "#include <stdio.h>\n#include <pthread.h>\npthread_t t[") begin_pieces in_line
unfolding start next_piece lexeme_at class_at run_len goes_on text_len punctuator_at keyword_of token_of effect_of integer_of integer_by suffix_of
    typed number_from digits
begins = run_begins 14 (λ rest. refl)

pub array_lexes : Lexes line_start (codes "pthread_mutex_t m;\nunsigned s;\nunsigned g[") array_pieces in_line
unfolding next_piece lexeme_at class_at run_len goes_on text_len punctuator_at keyword_of token_of effect_of integer_of integer_by suffix_of typed
    number_from digits
array_lexes = run_lexes 14 (λ at rest. refl)

pub sized_end_lexes : Lexes in_line (codes "];\n") sized_end_pieces line_start
unfolding next_piece lexeme_at class_at run_len goes_on text_len punctuator_at keyword_of token_of effect_of integer_of integer_by suffix_of typed
    number_from digits
sized_end_lexes = run_lexes 3 (λ at rest. refl)

pub worker_head_lexes :
    Lexes line_start (codes "void *worker(void *arg) {\n  long id = (long)arg;\n  unsigned a = (unsigned)id + 1, b = 2, c = 3, d = 4;\n")
    worker_head_pieces line_start
unfolding next_piece lexeme_at class_at run_len goes_on text_len punctuator_at keyword_of token_of effect_of integer_of integer_by suffix_of typed
    number_from digits
worker_head_lexes = run_lexes 66 (λ at rest. refl)

pub worker_tail_lexes :
    Lexes line_start (codes "  g[id] = a ^ b ^ c ^ d;\n  pthread_mutex_lock(&m);\n  s += g[id];\n  pthread_mutex_unlock(&m);\n  return NULL;\n}\n")
    worker_tail_pieces line_start
unfolding next_piece lexeme_at class_at run_len goes_on text_len punctuator_at keyword_of token_of effect_of integer_of integer_by suffix_of typed
    number_from digits
worker_tail_lexes = run_lexes 63 (λ at rest. refl)

pub main_head_lexes : Lexes line_start (codes "int main(void) {\n  int i;\n  pthread_mutex_init(&m, NULL);\n") main_head_pieces line_start
unfolding next_piece lexeme_at class_at run_len goes_on text_len punctuator_at keyword_of token_of effect_of integer_of integer_by suffix_of typed
    number_from digits
main_head_lexes = run_lexes 28 (λ at rest. refl)

pub loop_head_lexes : Lexes line_start (codes "  for (i = 0; i < ") loop_head_pieces in_line
unfolding next_piece lexeme_at class_at run_len goes_on text_len punctuator_at keyword_of token_of effect_of integer_of integer_by suffix_of typed
    number_from digits
loop_head_lexes = run_lexes 16 (λ at rest. refl)

pub create_lexes : Lexes in_line (codes "; i++) {\n    pthread_create(&t[i], NULL, worker, (void *)(long)i);\n  }\n") create_pieces line_start
unfolding next_piece lexeme_at class_at run_len goes_on text_len punctuator_at keyword_of token_of effect_of integer_of integer_by suffix_of typed
    number_from digits
create_lexes = run_lexes 43 (λ at rest. refl)

pub join_lexes : Lexes in_line (codes "; i++) {\n    pthread_join(t[i], NULL);\n  }\n") join_pieces line_start
unfolding next_piece lexeme_at class_at run_len goes_on text_len punctuator_at keyword_of token_of effect_of integer_of integer_by suffix_of typed
    number_from digits
join_lexes = run_lexes 28 (λ at rest. refl)

pub print_lexes : Lexes in_line (codes "; i++) {\n    printf(\"%u\\n\", g[i]);\n  }\n") print_pieces line_start
unfolding next_piece lexeme_at class_at run_len goes_on text_len punctuator_at keyword_of token_of effect_of integer_of integer_by suffix_of typed
    number_from digits
print_lexes = run_lexes 28 (λ at rest. refl)

pub main_tail_lexes : Lexes line_start (codes "  printf(\"%u\\n\", s);\n  pthread_mutex_destroy(&m);\n  return 0;\n}\n") main_tail_pieces line_start
unfolding next_piece lexeme_at class_at run_len goes_on text_len punctuator_at keyword_of token_of effect_of integer_of integer_by suffix_of typed
    number_from digits
main_tail_lexes = run_lexes 29 (λ at rest. refl)

-- ---- parts of lines

pub two_blanks : Lexes line_start (codes "  ") (indent ∷ indent ∷ []) line_start
unfolding next_piece lexeme_at class_at run_len goes_on text_len punctuator_at keyword_of token_of effect_of integer_of integer_by suffix_of typed
    number_from digits
two_blanks = run_lexes 2 (λ at rest. refl)

pub condition : Lexes line_start (codes "if (") (keyword k.If ∷ blank ∷ mark p.OpenRound ∷ []) in_line
unfolding next_piece lexeme_at class_at run_len goes_on text_len punctuator_at keyword_of token_of effect_of integer_of integer_by suffix_of typed
    number_from digits
condition = run_lexes 3 (λ at rest. refl)

pub own_element :
    Lexes line_start (codes "g[id] = ")
    (name (codes "g") ∷ mark p.OpenSquare ∷ name (codes "id") ∷ mark p.CloseSquare ∷ blank ∷ mark p.Assign ∷ blank ∷ []) in_line
unfolding next_piece lexeme_at class_at run_len goes_on text_len punctuator_at keyword_of token_of effect_of integer_of integer_by suffix_of typed
    number_from digits
own_element = run_lexes 7 (λ at rest. refl)

pub locks_and_adds :
    Lexes line_start (codes "pthread_mutex_lock(&m); s += ")
    (name (codes "pthread_mutex_lock") ∷ mark p.OpenRound ∷ mark p.And ∷ name (codes "m") ∷ mark p.CloseRound ∷ mark p.Semicolon ∷ blank ∷
    name (codes "s") ∷ blank ∷ mark p.PlusAssign ∷ blank ∷ []) in_line
unfolding next_piece lexeme_at class_at run_len goes_on text_len punctuator_at keyword_of token_of effect_of integer_of integer_by suffix_of typed
    number_from digits
locks_and_adds = run_lexes 11 (λ at rest. refl)

pub line_end : Lexes in_line (codes "\n") (line_feed ∷ []) line_start
unfolding next_piece lexeme_at class_at run_len goes_on text_len punctuator_at keyword_of token_of effect_of integer_of integer_by suffix_of typed
    number_from digits
line_end = run_lexes 1 (λ at rest. refl)

pub target_starts : (x : Letter) → Lexes line_start (byte_of x ∷ codes " = ") (letter x ∷ blank ∷ mark p.Assign ∷ blank ∷ []) in_line
unfolding next_piece lexeme_at class_at run_len goes_on text_len punctuator_at keyword_of token_of effect_of
target_starts A = run_lexes 4 (λ at rest. refl)
target_starts B = run_lexes 4 (λ at rest. refl)
target_starts C = run_lexes 4 (λ at rest. refl)
target_starts D = run_lexes 4 (λ at rest. refl)

pub target : (x : Letter) → Lexes in_line (byte_of x ∷ codes " = ") (letter x ∷ blank ∷ mark p.Assign ∷ blank ∷ []) in_line
unfolding next_piece lexeme_at class_at run_len goes_on text_len punctuator_at keyword_of token_of effect_of
target A = run_lexes 4 (λ at rest. refl)
target B = run_lexes 4 (λ at rest. refl)
target C = run_lexes 4 (λ at rest. refl)
target D = run_lexes 4 (λ at rest. refl)

pub before_plus : (x : Letter) → Lexes in_line (byte_of x ∷ codes " + ") (letter x ∷ blank ∷ mark p.Plus ∷ blank ∷ []) in_line
unfolding next_piece lexeme_at class_at run_len goes_on text_len punctuator_at keyword_of token_of effect_of
before_plus A = run_lexes 4 (λ at rest. refl)
before_plus B = run_lexes 4 (λ at rest. refl)
before_plus C = run_lexes 4 (λ at rest. refl)
before_plus D = run_lexes 4 (λ at rest. refl)

pub before_minus : (x : Letter) → Lexes in_line (byte_of x ∷ codes " - ") (letter x ∷ blank ∷ mark p.Minus ∷ blank ∷ []) in_line
unfolding next_piece lexeme_at class_at run_len goes_on text_len punctuator_at keyword_of token_of effect_of
before_minus A = run_lexes 4 (λ at rest. refl)
before_minus B = run_lexes 4 (λ at rest. refl)
before_minus C = run_lexes 4 (λ at rest. refl)
before_minus D = run_lexes 4 (λ at rest. refl)

pub before_times : (x : Letter) → Lexes in_line (byte_of x ∷ codes " * ") (letter x ∷ blank ∷ mark p.Star ∷ blank ∷ []) in_line
unfolding next_piece lexeme_at class_at run_len goes_on text_len punctuator_at keyword_of token_of effect_of
before_times A = run_lexes 4 (λ at rest. refl)
before_times B = run_lexes 4 (λ at rest. refl)
before_times C = run_lexes 4 (λ at rest. refl)
before_times D = run_lexes 4 (λ at rest. refl)

pub before_exclusive_or : (x : Letter) → Lexes in_line (byte_of x ∷ codes " ^ ") (letter x ∷ blank ∷ mark p.Xor ∷ blank ∷ []) in_line
unfolding next_piece lexeme_at class_at run_len goes_on text_len punctuator_at keyword_of token_of effect_of
before_exclusive_or A = run_lexes 4 (λ at rest. refl)
before_exclusive_or B = run_lexes 4 (λ at rest. refl)
before_exclusive_or C = run_lexes 4 (λ at rest. refl)
before_exclusive_or D = run_lexes 4 (λ at rest. refl)

pub before_less : (x : Letter) → Lexes in_line (byte_of x ∷ codes " < ") (letter x ∷ blank ∷ mark p.Less ∷ blank ∷ []) in_line
unfolding next_piece lexeme_at class_at run_len goes_on text_len punctuator_at keyword_of token_of effect_of
before_less A = run_lexes 4 (λ at rest. refl)
before_less B = run_lexes 4 (λ at rest. refl)
before_less C = run_lexes 4 (λ at rest. refl)
before_less D = run_lexes 4 (λ at rest. refl)

pub dividend : (x : Letter) → Lexes in_line (byte_of x ∷ codes " / (") (letter x ∷ blank ∷ mark p.Slash ∷ blank ∷ mark p.OpenRound ∷ []) in_line
unfolding next_piece lexeme_at class_at run_len goes_on text_len punctuator_at keyword_of token_of effect_of
dividend A = run_lexes 5 (λ at rest. refl)
dividend B = run_lexes 5 (λ at rest. refl)
dividend C = run_lexes 5 (λ at rest. refl)
dividend D = run_lexes 5 (λ at rest. refl)

pub last : (x : Letter) → Lexes in_line (byte_of x ∷ codes ";") (letter x ∷ mark p.Semicolon ∷ []) in_line
unfolding next_piece lexeme_at class_at run_len goes_on text_len punctuator_at keyword_of token_of effect_of
last A = run_lexes 2 (λ at rest. refl)
last B = run_lexes 2 (λ at rest. refl)
last C = run_lexes 2 (λ at rest. refl)
last D = run_lexes 2 (λ at rest. refl)

pub divisor : (x : Letter) →
    Lexes in_line (byte_of x ∷ codes " | 1);")
    (letter x ∷ blank ∷ mark p.Or ∷ blank ∷ number 1 ∷ mark p.CloseRound ∷ mark p.Semicolon ∷ []) in_line
unfolding next_piece lexeme_at class_at run_len goes_on text_len punctuator_at keyword_of token_of effect_of integer_of integer_by suffix_of typed
    number_from digits
divisor A = run_lexes 7 (λ at rest. refl)
divisor B = run_lexes 7 (λ at rest. refl)
divisor C = run_lexes 7 (λ at rest. refl)
divisor D = run_lexes 7 (λ at rest. refl)

pub compared : (x : Letter) → Lexes in_line (byte_of x ∷ codes ") { ") (letter x ∷ mark p.CloseRound ∷ blank ∷ mark p.OpenCurly ∷ blank ∷ []) in_line
unfolding next_piece lexeme_at class_at run_len goes_on text_len punctuator_at keyword_of token_of effect_of
compared A = run_lexes 5 (λ at rest. refl)
compared B = run_lexes 5 (λ at rest. refl)
compared C = run_lexes 5 (λ at rest. refl)
compared D = run_lexes 5 (λ at rest. refl)

pub raised_one : (x : Letter) →
    Lexes in_line (byte_of x ∷ codes " + 1; }")
    (letter x ∷ blank ∷ mark p.Plus ∷ blank ∷ number 1 ∷ mark p.Semicolon ∷ blank ∷ mark p.CloseCurly ∷ []) in_line
unfolding next_piece lexeme_at class_at run_len goes_on text_len punctuator_at keyword_of token_of effect_of integer_of integer_by suffix_of typed
    number_from digits
raised_one A = run_lexes 8 (λ at rest. refl)
raised_one B = run_lexes 8 (λ at rest. refl)
raised_one C = run_lexes 8 (λ at rest. refl)
raised_one D = run_lexes 8 (λ at rest. refl)

pub before_unlock : (x : Letter) →
    Lexes in_line (byte_of x ∷ codes "; pthread_mutex_unlock(&m);")
    (letter x ∷ mark p.Semicolon ∷ blank ∷ name (codes "pthread_mutex_unlock") ∷ mark p.OpenRound ∷ mark p.And ∷ name (codes "m") ∷
    mark p.CloseRound ∷ mark p.Semicolon ∷ []) in_line
unfolding next_piece lexeme_at class_at run_len goes_on text_len punctuator_at keyword_of token_of effect_of
before_unlock A = run_lexes 9 (λ at rest. refl)
before_unlock B = run_lexes 9 (λ at rest. refl)
before_unlock C = run_lexes 9 (λ at rest. refl)
before_unlock D = run_lexes 9 (λ at rest. refl)
