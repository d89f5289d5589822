-- Programs as plain data.
use Rattle.std.specs.Prelude.{ℕ, true, List, [], ◌∷◌, Some, pos, codes}
use Rattle.hls_ints.specs.Types.{int_type, long_int}
use Rattle.c_program.specs.declared.tree.Storage.TheVariants.{Automatic, Static}
use Rattle.c_program.specs.declared.tree.BinaryOperator.TheVariants.{Add, Multiply}
use Rattle.c_program.specs.declared.tree.ReturnType.TheVariants.{Integer, Pointer}
use Rattle.c_program.specs.Tree.{Expression, Place, ObjectPlace, ThreadCall, Piece, Statement, Function, Program}
use Rattle.c_program.specs.Resolved.{scalar}

abbrev number : ℕ → Expression
number n = Expression.Constant int_type (pos n)

abbrev x : Expression
x = Expression.Variable Automatic 0 int_type

abbrev assigned : Expression → Statement
assigned e = Statement.Assign 0 (Place.Scalar Automatic 0 int_type) e

-- int main(void) { int x = 6; x = x * 7; printf("%d\n", x); return 0; }
abbrev pub first : Program
first = record {
  functions = record {
    name = [];
    returns = Integer int_type;
    parameters = 0;
    declared_locals = 1;
    locals = scalar int_type ∷ [];
    local_names = (120 ∷ []) ∷ [];
    body =
        Statement.Sequence (assigned (number 6))
        (Statement.Sequence (assigned (Expression.Binary Multiply int_type x (number 7)))
        (Statement.Sequence (Statement.Print 0 (Piece.Conversion int_type ∷ Piece.Text (10 ∷ []) ∷ []) (x ∷ []))
        (Statement.Return 0 (Some (number 0)))));
    end = 0;
  } ∷ [];
  main = 0;
  globals = [];
  threads = [];
  mutexes = [];
  barriers = [];
}

-- Main, a thread that it creates and joins, a global int, a mutex that is initialised where it is declared, and a barrier.

abbrev list_of : List Statement → Statement
list_of [] = Statement.Done
list_of (s ∷ rest) = Statement.Sequence s (list_of rest)

abbrev null : Expression
null = Expression.Constant long_int (pos 0)

-- w(void *)
abbrev routine_of : List Statement → Function
routine_of body = record {
  name = 119 ∷ [];
  returns = Pointer;
  parameters = 1;
  declared_locals = 1;
  locals = scalar long_int ∷ [];
  local_names = (97 ∷ []) ∷ [];
  body = list_of body;
  end = 0;
}

-- main(void)
abbrev main_of : List Statement → Function
main_of body = record {
  name = codes "main";
  returns = Integer int_type;
  parameters = 0;
  declared_locals = 0;
  locals = [];
  local_names = [];
  body = list_of body;
  end = 0;
}

abbrev two_threads : List Statement → List Statement → Program
two_threads routine body = record {
  functions = routine_of routine ∷ main_of body ∷ [];
  main = 1;
  globals = record { name = 115 ∷ []; ty = int_type; length = 1; initial = [] } ∷ [];
  threads = record { length = 1; routine = Some 0 } ∷ [];
  mutexes = record { length = 1; initialised = true } ∷ [];
  barriers = record { length = 1 } ∷ [];
}

abbrev called : ThreadCall → Statement
called call = Statement.Thread 0 call

abbrev only : ObjectPlace
only = ObjectPlace.Single 0

-- s = s + 1;
abbrev raised : Statement
raised =
    Statement.Assign 0 (Place.Scalar Static 0 int_type)
    (Expression.Binary Add int_type (Expression.Variable Static 0 int_type) (number 1))

abbrev return_null : Statement
return_null = Statement.Return 0 (Some null)

abbrev return_zero : Statement
return_zero = Statement.Return 0 (Some (number 0))

abbrev create : Statement
create = called (ThreadCall.Create only 0 null)

abbrev join : Statement
join = called (ThreadCall.Join only)

abbrev lock : Statement
lock = called (ThreadCall.MutexLock only)

abbrev unlock : Statement
unlock = called (ThreadCall.MutexUnlock only)

abbrev wait : Statement
wait = called (ThreadCall.BarrierWait only)

-- both threads add 1 to the global, each under the mutex:
-- int s; pthread_t t; pthread_mutex_t m = PTHREAD_MUTEX_INITIALIZER;
-- void *w(void *a) { pthread_mutex_lock(&m); s = s + 1; pthread_mutex_unlock(&m); return NULL; }
-- int main(void) {
--   pthread_create(&t, NULL, w, NULL); pthread_mutex_lock(&m); s = s + 1; pthread_mutex_unlock(&m);
--   pthread_join(t, NULL); return 0;
-- }
abbrev pub guarded : Program
guarded =
    two_threads (lock ∷ raised ∷ unlock ∷ return_null ∷ [])
    (create ∷ lock ∷ raised ∷ unlock ∷ join ∷ return_zero ∷ [])

-- the thread adds 1 before the barrier, and main behind it:
-- void *w(void *a) { s = s + 1; pthread_barrier_wait(&b); return NULL; }
-- int main(void) {
--   pthread_barrier_init(&b, NULL, 2); pthread_create(&t, NULL, w, NULL); pthread_barrier_wait(&b); s = s + 1;
--   pthread_join(t, NULL); return 0;
-- }
abbrev pub phased : Program
phased =
    two_threads (raised ∷ wait ∷ return_null ∷ [])
    (called (ThreadCall.BarrierInit only (number 2)) ∷ create ∷ wait ∷ raised ∷ join ∷ return_zero ∷ [])

-- both threads add 1, and nothing parts them:
-- void *w(void *a) { s = s + 1; return NULL; }
-- int main(void) { pthread_create(&t, NULL, w, NULL); s = s + 1; pthread_join(t, NULL); return 0; }
abbrev pub racing : Program
racing = two_threads (raised ∷ return_null ∷ []) (create ∷ raised ∷ join ∷ return_zero ∷ [])
