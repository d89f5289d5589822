-- Texts of programs that numbers give, worked by hand.
use Rattle.std.proofs.Common.{◌≡◌, ◌++◌, refl}
use Rattle.std.specs.Prelude.{codes}
use Rattle.std.specs.Fmt.{digits}
use Rattle.generated_text.specs.declared.draws.Letter.TheVariants.{B, C, D}
use Rattle.generated_text.specs.declared.draws.Kind.{Kind}
use Rattle.generated_text.specs.declared.draws.Kind.TheVariants.{Sum, Difference, Product, ExclusiveOr, Quotient, Raise, Publish, Add}
use Rattle.generated_text.specs.declared.draws.Line.{Line}
use Rattle.generated_text.specs.Draws.{lines_of}
use Rattle.generated_text.specs.Text.{line_text, text_of}

-- from 0 the draws come to 1013904223 and 1196435762, whose upper halves are 15470 and 18256: kind 6 of 8, a of 4
from_zero : text_of 2 (lines_of 0 1) ≡
    codes "#include <stdio.h>\n#include <pthread.h>\npthread_t t[2];\n"
    ++ codes "pthread_mutex_t m;\nunsigned s;\nunsigned g[2];\n"
    ++ codes "void *worker(void *arg) {\n  long id = (long)arg;\n"
    ++ codes "  unsigned a = (unsigned)id + 1, b = 2, c = 3, d = 4;\n  g[id] = a;\n"
    ++ codes "  g[id] = a ^ b ^ c ^ d;\n  pthread_mutex_lock(&m);\n  s += g[id];\n"
    ++ codes "  pthread_mutex_unlock(&m);\n  return NULL;\n}\nint main(void) {\n"
    ++ codes "  int i;\n  pthread_mutex_init(&m, NULL);\n  for (i = 0; i < 2; i++) {\n"
    ++ codes "    pthread_create(&t[i], NULL, worker, (void *)(long)i);\n  }\n"
    ++ codes "  for (i = 0; i < 2; i++) {\n    pthread_join(t[i], NULL);\n  }\n"
    ++ codes "  for (i = 0; i < 2; i++) {\n    printf(\"%u\\n\", g[i]);\n  }\n"
    ++ codes "  printf(\"%u\\n\", s);\n  pthread_mutex_destroy(&m);\n  return 0;\n}\n"
unfolding digits
from_zero = refl

-- from 1 they come to 1015568748, 1586005467, 2165703038 and 3027450565, with 15496, 24200, 33046 and 46195: kind 0 of 8,
-- then a, c and d of 4
from_one : text_of 1 (lines_of 1 1) ≡
    codes "#include <stdio.h>\n#include <pthread.h>\npthread_t t[1];\n"
    ++ codes "pthread_mutex_t m;\nunsigned s;\nunsigned g[1];\n"
    ++ codes "void *worker(void *arg) {\n  long id = (long)arg;\n"
    ++ codes "  unsigned a = (unsigned)id + 1, b = 2, c = 3, d = 4;\n  a = c + d;\n"
    ++ codes "  g[id] = a ^ b ^ c ^ d;\n  pthread_mutex_lock(&m);\n  s += g[id];\n"
    ++ codes "  pthread_mutex_unlock(&m);\n  return NULL;\n}\nint main(void) {\n"
    ++ codes "  int i;\n  pthread_mutex_init(&m, NULL);\n  for (i = 0; i < 1; i++) {\n"
    ++ codes "    pthread_create(&t[i], NULL, worker, (void *)(long)i);\n  }\n"
    ++ codes "  for (i = 0; i < 1; i++) {\n    pthread_join(t[i], NULL);\n  }\n"
    ++ codes "  for (i = 0; i < 1; i++) {\n    printf(\"%u\\n\", g[i]);\n  }\n"
    ++ codes "  printf(\"%u\\n\", s);\n  pthread_mutex_destroy(&m);\n  return 0;\n}\n"
unfolding digits
from_one = refl

-- the target is b, the left operand c, the right one d
abbrev drawn_as : Kind → Line
drawn_as kind = record { kind = kind; target = B; left = C; right = D }

a_sum : line_text (drawn_as Sum) ≡ codes "  b = c + d;\n"
a_sum = refl

a_difference : line_text (drawn_as Difference) ≡ codes "  b = c - d;\n"
a_difference = refl

a_product : line_text (drawn_as Product) ≡ codes "  b = c * d;\n"
a_product = refl

an_exclusive_or : line_text (drawn_as ExclusiveOr) ≡ codes "  b = c ^ d;\n"
an_exclusive_or = refl

a_quotient : line_text (drawn_as Quotient) ≡ codes "  b = c / (d | 1);\n"
a_quotient = refl

a_raise : line_text (drawn_as Raise) ≡ codes "  if (c < d) { b = b + 1; }\n"
a_raise = refl

a_publication : line_text (drawn_as Publish) ≡ codes "  g[id] = b;\n"
a_publication = refl

an_addition : line_text (drawn_as Add) ≡ codes "  pthread_mutex_lock(&m); s += b; pthread_mutex_unlock(&m);\n"
an_addition = refl
