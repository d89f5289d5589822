-- The C text of a generated program, word for word.
use Rattle.std.specs.Prelude.{ℕ, List, ◌∷◌, ◌++◌, codes, decimal}
use Rattle.std.specs.List.{flat_map}
use Rattle.generated_text.specs.declared.draws.Letter.{Letter}
use Rattle.generated_text.specs.declared.draws.Letter.TheVariants.{A, B, C, D}
use Rattle.generated_text.specs.declared.draws.Kind.{Kind}
use Rattle.generated_text.specs.declared.draws.Kind.TheVariants.{Sum, Difference, Product, ExclusiveOr, Quotient, Raise, Publish, Add}
use Rattle.generated_text.specs.declared.draws.Line.{Line}

-- the byte of a variable's name
abbrev pub byte_of : Letter → ℕ
byte_of A = 97
byte_of B = 98
byte_of C = 99
byte_of D = 100

-- an assignment of an operator's value
abbrev pub assigned : ℕ → ℕ → List ℕ → ℕ → List ℕ
assigned x y operator z = x ∷ codes " = " ++ y ∷ operator ++ z ∷ codes ";"

-- an assignment of a quotient, whose divisor is odd
abbrev pub quotient : ℕ → ℕ → ℕ → List ℕ
quotient x y z = x ∷ codes " = " ++ y ∷ codes " / (" ++ z ∷ codes " | 1);"

-- an assignment under a condition
abbrev pub raised : ℕ → ℕ → ℕ → List ℕ
raised x y z = codes "if (" ++ y ∷ codes " < " ++ z ∷ codes ") { " ++ x ∷ codes " = " ++ x ∷ codes " + 1; }"

-- a text with one name in it
abbrev pub around : List ℕ → ℕ → List ℕ → List ℕ
around before x behind = before ++ x ∷ behind

abbrev pub statement_text : Kind → ℕ → ℕ → ℕ → List ℕ
statement_text Sum x y z = assigned x y (codes " + ") z
statement_text Difference x y z = assigned x y (codes " - ") z
statement_text Product x y z = assigned x y (codes " * ") z
statement_text ExclusiveOr x y z = assigned x y (codes " ^ ") z
statement_text Quotient x y z = quotient x y z
statement_text Raise x y z = raised x y z
statement_text Publish x y z = around (codes "g[id] = ") x (codes ";")
statement_text Add x y z = around (codes "pthread_mutex_lock(&m); s += ") x (codes "; pthread_mutex_unlock(&m);")

abbrev pub line_text : Line → List ℕ
line_text line =
    codes "  " ++ statement_text line.kind (byte_of line.target) (byte_of line.left) (byte_of line.right) ++ codes "\n"

-- a text with the number of threads in it
abbrev pub sized : List ℕ → ℕ → List ℕ → List ℕ
sized before threads behind = before ++ decimal threads ++ behind

-- what stands before the drawn lines, by the number of threads
abbrev pub head : ℕ → List ℕ
head threads =
    sized (codes "#include <stdio.h>\n#include <pthread.h>\npthread_t t[") threads (codes "];\n")
    ++ sized (codes "pthread_mutex_t m;\nunsigned s;\nunsigned g[") threads (codes "];\n")
    ++ codes "void *worker(void *arg) {\n  long id = (long)arg;\n  unsigned a = (unsigned)id + 1, b = 2, c = 3, d = 4;\n"

-- the rest of the worker
abbrev pub worker_end : List ℕ
worker_end = codes "  g[id] = a ^ b ^ c ^ d;\n  pthread_mutex_lock(&m);\n  s += g[id];\n  pthread_mutex_unlock(&m);\n  return NULL;\n}\n"

-- main's loops over the threads: it creates, joins and prints
abbrev pub loops : ℕ → List ℕ
loops threads =
    sized (codes "  for (i = 0; i < ") threads (codes "; i++) {\n    pthread_create(&t[i], NULL, worker, (void *)(long)i);\n  }\n")
    ++ sized (codes "  for (i = 0; i < ") threads (codes "; i++) {\n    pthread_join(t[i], NULL);\n  }\n")
    ++ sized (codes "  for (i = 0; i < ") threads (codes "; i++) {\n    printf(\"%u\\n\", g[i]);\n  }\n")

abbrev pub main_text : ℕ → List ℕ
main_text threads =
    codes "int main(void) {\n  int i;\n  pthread_mutex_init(&m, NULL);\n" ++ loops threads
    ++ codes "  printf(\"%u\\n\", s);\n  pthread_mutex_destroy(&m);\n  return 0;\n}\n"

-- the text of a program of that many threads beside main
abbrev pub text_of : ℕ → List Line → List ℕ
text_of threads lines = head threads ++ flat_map line_text lines ++ worker_end ++ main_text threads
