-- The main function of a generated program, statement for statement (C99 6.8; POSIX pthread_create, pthread_join).
use Rattle.std.specs.Prelude.{◌≡◌, ℕ, List, [], ◌∷◌, Some}
use Rattle.hls_ints.specs.Types.{int_type, unsigned_int, long_int}
use Rattle.c_program.specs.declared.tree.Storage.TheVariants.{Automatic, Static}
use Rattle.c_program.specs.declared.tree.BinaryOperator.TheVariants.{Less, Add}
use Rattle.c_program.specs.declared.tree.ReturnType.TheVariants.{Integer}
use Rattle.c_program.specs.Tree.{Expression, Place, ObjectPlace, ThreadCall, Piece, Statement, Function}
use Rattle.c_program.specs.Resolved.{scalar}
use Rattle.generated_program.specs.Worker.{side_by_side, int_number}

abbrev pub counter : Expression
counter = Expression.Variable Automatic 0 int_type

abbrev pub counter_place : Place
counter_place = Place.Scalar Automatic 0 int_type

-- for (i = 0; i < threads; i++) { body }
abbrev pub counted : ℕ → ℕ → ℕ → ℕ → Statement → Statement
counted threads first test step body =
    Statement.For (Statement.Assign first counter_place (int_number 0))
    (Statement.Test test (Expression.Binary Less int_type counter (int_number threads)))
    (Statement.Update step counter_place Add int_type (int_number 1))
    (Statement.Block body)

-- t[i]
abbrev pub thread_place : ℕ → ObjectPlace
thread_place threads = ObjectPlace.Element 0 threads counter

-- pthread_create(&t[i], NULL, worker, (void *)(long)i);
abbrev pub created : ℕ → ℕ → Statement
created threads offset = Statement.Thread offset (ThreadCall.Create (thread_place threads) 0 (Expression.Cast long_int counter))

-- pthread_join(t[i], NULL);
abbrev pub joined : ℕ → ℕ → Statement
joined threads offset = Statement.Thread offset (ThreadCall.Join (thread_place threads))

-- printf("%u\n", e);
abbrev pub printed : ℕ → Expression → Statement
printed offset e = Statement.Print offset (Piece.Conversion unsigned_int ∷ Piece.Text (10 ∷ []) ∷ []) (e ∷ [])

abbrev pub main_statements : ℕ → (ℕ → ℕ) → List Statement
main_statements threads at =
    Statement.Declare (at 0) 0 0
    ∷ Statement.Thread (at 1) (ThreadCall.MutexInit (ObjectPlace.Single 0))
    ∷ counted threads (at 2) (at 3) (at 4) (created threads (at 5))
    ∷ counted threads (at 6) (at 7) (at 8) (joined threads (at 9))
    ∷ counted threads (at 10) (at 11) (at 12) (printed (at 13) (Expression.Element Static 1 threads unsigned_int counter))
    ∷ printed (at 14) (Expression.Variable Static 0 unsigned_int)
    ∷ Statement.Thread (at 15) (ThreadCall.MutexDestroy (ObjectPlace.Single 0))
    ∷ Statement.Return (at 16) (Some (int_number 0))
    ∷ []

pub record IsMain (threads : ℕ) (f : Function) : Type 0 where
  pub returns : f.returns ≡ Integer int_type
  pub parameters : f.parameters ≡ 0
  pub locals : f.locals ≡ scalar int_type ∷ []
  pub at : ℕ → ℕ
  pub body : side_by_side f.body ≡ main_statements threads at
