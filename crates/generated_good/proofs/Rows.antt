-- The program that the front end makes of a text with one line of each kind, for two threads, as its tree was printed: it
-- is one of such programs, and so it is good. The offsets are those of the text.
use Rattle.std.specs.Prelude.{ℕ, List, [], ◌∷◌, ◌++◌, false, Some, pos, codes, slice_index, refl}
use Rattle.std.proofs.Common.{arith}
use Rattle.hls_ints.specs.Types.{int_type, unsigned_int, long_int}
use Rattle.generated_text.specs.declared.draws.Letter.{Letter}
use Rattle.generated_text.specs.declared.draws.Letter.TheVariants.{A, B, C}
use Rattle.generated_text.specs.declared.draws.Kind.{Kind}
use Rattle.generated_text.specs.declared.draws.Kind.TheVariants.{Sum, Difference, Product, ExclusiveOr, Quotient, Raise, Publish, Add as AddLine}
use Rattle.generated_text.specs.declared.draws.Line.{Line}
use Rattle.c_program.specs.declared.tree.Storage.TheVariants.{Automatic, Static}
use Rattle.c_program.specs.declared.tree.BinaryOperator.TheVariants as operator
use Rattle.c_program.specs.declared.tree.ReturnType.TheVariants.{Integer, Pointer}
use Rattle.c_program.specs.Tree.{Expression, Place, ObjectPlace, ThreadCall, Piece, Statement, Function, GlobalVariable, Program}
use Rattle.c_program.specs.Resolved.{scalar}
use Rattle.thread_semantics.specs.Races.{IsGood}
use Rattle.generated_program.specs.Worker.{worker_locals, line_statements, AreLines, IsWorker}
use Rattle.generated_program.specs.Main.{IsMain}
use Rattle.generated_program.specs.Generated.{IsGenerated}
use Rattle.generated_good.proofs.GeneratedGood.{generated_is_good}

abbrev worker : Function
worker = record {
  name = codes "worker";
  returns = Pointer;
  parameters = 1;
  declared_locals = 6;
  locals = worker_locals;
  local_names = codes "arg" ∷ codes "id" ∷ codes "a" ∷ codes "b" ∷ codes "c" ∷ codes "d" ∷ [];
  body =
      (Statement.Sequence (Statement.Sequence (Statement.Sequence (Statement.Sequence (Statement.Sequence (Statement.Assign 135 (Place.Scalar
      Automatic 1 long_int) (Expression.Cast long_int (Expression.Variable Automatic 0 long_int))) (Statement.Assign 162
      (Place.Scalar Automatic 2 unsigned_int) (Expression.Binary operator.Add unsigned_int (Expression.Cast unsigned_int
      (Expression.Variable Automatic 1 long_int)) (Expression.Constant int_type (pos 1))))) (Statement.Sequence (Statement.Assign 184 (Place.Scalar
      Automatic 3 unsigned_int) (Expression.Constant int_type (pos 2))) (Statement.Assign 191 (Place.Scalar Automatic 4
      unsigned_int) (Expression.Constant int_type (pos 3))))) (Statement.Sequence (Statement.Sequence (Statement.Assign 198
      (Place.Scalar Automatic 5 unsigned_int) (Expression.Constant int_type (pos 4))) (Statement.Assign 207 (Place.Scalar Automatic
      2 unsigned_int) (Expression.Binary operator.Add unsigned_int (Expression.Variable Automatic 3 unsigned_int)
      (Expression.Variable Automatic 4 unsigned_int)))) (Statement.Sequence (Statement.Assign 220 (Place.Scalar Automatic 2 unsigned_int)
      (Expression.Binary operator.Subtract unsigned_int (Expression.Variable Automatic 3 unsigned_int) (Expression.Variable Automatic
      4 unsigned_int))) (Statement.Assign 233 (Place.Scalar Automatic 2 unsigned_int) (Expression.Binary operator.Multiply
      unsigned_int (Expression.Variable Automatic 3 unsigned_int) (Expression.Variable Automatic 4 unsigned_int)))))) (Statement.Sequence
      (Statement.Sequence (Statement.Sequence (Statement.Assign 246 (Place.Scalar Automatic 2 unsigned_int) (Expression.Binary
      operator.ExclusiveOr unsigned_int (Expression.Variable Automatic 3 unsigned_int) (Expression.Variable Automatic 4 unsigned_int)))
      (Statement.Assign 259 (Place.Scalar Automatic 2 unsigned_int) (Expression.Binary operator.Divide unsigned_int
      (Expression.Variable Automatic 3 unsigned_int) (Expression.Binary operator.InclusiveOr unsigned_int (Expression.Variable Automatic 4
      unsigned_int) (Expression.Constant int_type (pos 1)))))) (Statement.Sequence (Statement.If (Statement.Test 282 (Expression.Binary
      operator.Less unsigned_int (Expression.Variable Automatic 3 unsigned_int) (Expression.Variable Automatic 4 unsigned_int))) (Statement.Block
      (Statement.Assign 291 (Place.Scalar Automatic 2 unsigned_int) (Expression.Binary operator.Add unsigned_int (Expression.Variable
      Automatic 2 unsigned_int) (Expression.Constant int_type (pos 1))))) Statement.Done) (Statement.Assign 306 (Place.Element Static 1 2
      unsigned_int (Expression.Variable Automatic 1 long_int)) (Expression.Variable Automatic 2 unsigned_int)))) (Statement.Sequence
      (Statement.Sequence (Statement.Thread 319 (ThreadCall.MutexLock (ObjectPlace.Single 0))) (Statement.Update 343 (Place.Scalar Static 0
      unsigned_int) operator.Add unsigned_int (Expression.Variable Automatic 2 unsigned_int))) (Statement.Sequence (Statement.Thread 351
      (ThreadCall.MutexUnlock (ObjectPlace.Single 0))) (Statement.Assign 379 (Place.Element Static 1 2 unsigned_int (Expression.Variable Automatic 1
      long_int)) (Expression.Binary operator.ExclusiveOr unsigned_int (Expression.Binary operator.ExclusiveOr unsigned_int
      (Expression.Binary operator.ExclusiveOr unsigned_int (Expression.Variable Automatic 2 unsigned_int) (Expression.Variable Automatic 3
      unsigned_int)) (Expression.Variable Automatic 4 unsigned_int)) (Expression.Variable Automatic 5 unsigned_int))))))) (Statement.Sequence
      (Statement.Sequence (Statement.Thread 404 (ThreadCall.MutexLock (ObjectPlace.Single 0))) (Statement.Update 430 (Place.Scalar Static 0
      unsigned_int) operator.Add unsigned_int (Expression.Element Static 1 2 unsigned_int (Expression.Variable Automatic 1 long_int))))
      (Statement.Sequence (Statement.Thread 444 (ThreadCall.MutexUnlock (ObjectPlace.Single 0))) (Statement.Return 472 (Some (Expression.Constant
      long_int (pos 0)))))));
  end = 485;
}

abbrev main : Function
main = record {
  name = codes "main";
  returns = Integer int_type;
  parameters = 0;
  declared_locals = 1;
  locals = scalar int_type ∷ [];
  local_names = codes "i" ∷ [];
  body =
      (Statement.Sequence (Statement.Sequence (Statement.Sequence (Statement.Declare 510 0 0) (Statement.Thread 515 (ThreadCall.MutexInit
      (ObjectPlace.Single 0)))) (Statement.Sequence (Statement.For (Statement.Assign 552 (Place.Scalar Automatic 0 int_type) (Expression.Constant
      int_type (pos 0))) (Statement.Test 559 (Expression.Binary operator.Less int_type (Expression.Variable Automatic 0
      int_type) (Expression.Constant int_type (pos 2)))) (Statement.Update 566 (Place.Scalar Automatic 0 int_type) operator.Add int_type
      (Expression.Constant int_type (pos 1))) (Statement.Block (Statement.Thread 577 (ThreadCall.Create (ObjectPlace.Element 0 2 (Expression.Variable
      Automatic 0 int_type)) 0 (Expression.Cast long_int (Expression.Variable Automatic 0 int_type)))))) (Statement.For (Statement.Assign 642
      (Place.Scalar Automatic 0 int_type) (Expression.Constant int_type (pos 0))) (Statement.Test 649 (Expression.Binary
      operator.Less int_type (Expression.Variable Automatic 0 int_type) (Expression.Constant int_type (pos 2)))) (Statement.Update 656 (Place.Scalar
      Automatic 0 int_type) operator.Add int_type (Expression.Constant int_type (pos 1))) (Statement.Block (Statement.Thread 667 (ThreadCall.Join
      (ObjectPlace.Element 0 2 (Expression.Variable Automatic 0 int_type)))))))) (Statement.Sequence (Statement.Sequence (Statement.For
      (Statement.Assign 704 (Place.Scalar Automatic 0 int_type) (Expression.Constant int_type (pos 0))) (Statement.Test 711
      (Expression.Binary operator.Less int_type (Expression.Variable Automatic 0 int_type) (Expression.Constant int_type (pos 2)))) (Statement.Update
      718 (Place.Scalar Automatic 0 int_type) operator.Add int_type (Expression.Constant int_type (pos 1))) (Statement.Block (Statement.Print 729
      (Piece.Conversion unsigned_int ∷ Piece.Text (10 ∷ []) ∷ []) ((Expression.Element Static 1 2 unsigned_int (Expression.Variable Automatic 0
      int_type)) ∷ [])))) (Statement.Print 757 (Piece.Conversion unsigned_int ∷ Piece.Text (10 ∷ []) ∷ []) ((Expression.Variable Static 0
      unsigned_int) ∷ []))) (Statement.Sequence (Statement.Thread 778 (ThreadCall.MutexDestroy (ObjectPlace.Single 0))) (Statement.Return 807 (Some
      (Expression.Constant int_type (pos 0)))))));
  end = 817;
}

abbrev sum : GlobalVariable
sum = record { name = codes "s"; ty = unsigned_int; length = 1; initial = [] }

abbrev elements : GlobalVariable
elements = record { name = codes "g"; ty = unsigned_int; length = 2; initial = [] }

abbrev program : Program
program = record {
  functions = worker ∷ main ∷ [];
  main = 1;
  globals = sum ∷ elements ∷ [];
  threads = record { length = 2; routine = Some 0 } ∷ [];
  mutexes = record { length = 1; initialised = false } ∷ [];
  barriers = [];
}

-- the offset of each statement
abbrev at : List ℕ → ℕ → ℕ
at offsets n = slice_index offsets n

abbrev line : Kind → Letter → Letter → Letter → Line
line kind target left right = record { kind = kind; target = target; left = left; right = right }

abbrev lines : List Line
lines =
    line Sum A B C ∷
    line Difference A B C ∷
    line Product A B C ∷
    line ExclusiveOr A B C ∷
    line Quotient A B C ∷
    line Raise A B C ∷
    line Publish A A A ∷
    line AddLine A A A ∷
    []

-- the statements from each line on
abbrev rest_8 : List Statement
rest_8 = []

abbrev rest_7 : List Statement
rest_7 = line_statements 2 (at (319 ∷ 343 ∷ 351 ∷ [])) (line AddLine A A A) ++ rest_8

abbrev rest_6 : List Statement
rest_6 = line_statements 2 (at (306 ∷ [])) (line Publish A A A) ++ rest_7

abbrev rest_5 : List Statement
rest_5 = line_statements 2 (at (282 ∷ 291 ∷ [])) (line Raise A B C) ++ rest_6

abbrev rest_4 : List Statement
rest_4 = line_statements 2 (at (259 ∷ [])) (line Quotient A B C) ++ rest_5

abbrev rest_3 : List Statement
rest_3 = line_statements 2 (at (246 ∷ [])) (line ExclusiveOr A B C) ++ rest_4

abbrev rest_2 : List Statement
rest_2 = line_statements 2 (at (233 ∷ [])) (line Product A B C) ++ rest_3

abbrev rest_1 : List Statement
rest_1 = line_statements 2 (at (220 ∷ [])) (line Difference A B C) ++ rest_2

abbrev rest_0 : List Statement
rest_0 = line_statements 2 (at (207 ∷ [])) (line Sum A B C) ++ rest_1

are_lines : AreLines 2 lines rest_0
are_lines = (
  at (207 ∷ []),
  rest_1,
  refl,
  (
    at (220 ∷ []),
    rest_2,
    refl,
    (
      at (233 ∷ []),
      rest_3,
      refl,
      (
        at (246 ∷ []),
        rest_4,
        refl,
        (
          at (259 ∷ []),
          rest_5,
          refl,
          (at (282 ∷ 291 ∷ []), rest_6, refl, (at (306 ∷ []), rest_7, refl, (at (319 ∷ 343 ∷ 351 ∷ []), rest_8, refl, refl))),
        ),
      ),
    ),
  ),
)

is_worker : IsWorker 2 lines worker
is_worker = record {
  returns = refl;
  parameters = refl;
  locals = refl;
  at = at (135 ∷ 162 ∷ 184 ∷ 191 ∷ 198 ∷ 379 ∷ 404 ∷ 430 ∷ 444 ∷ 472 ∷ []);
  middle = rest_0;
  of_lines = are_lines;
  body = refl;
}

is_main : IsMain 2 main
is_main = record {
  returns = refl;
  parameters = refl;
  locals = refl;
  at = at (510 ∷ 515 ∷ 552 ∷ 559 ∷ 566 ∷ 577 ∷ 642 ∷ 649 ∷ 656 ∷ 667 ∷ 704 ∷ 711 ∷ 718 ∷ 729 ∷ 757 ∷ 778 ∷ 807 ∷ []);
  body = refl;
}

is_generated : IsGenerated 2 lines program
is_generated = record {
  worker = worker;
  main = main;
  functions = refl;
  main_number = refl;
  is_worker = is_worker;
  is_main = is_main;
  sum = sum;
  elements = elements;
  globals = refl;
  is_sum = record { ty = refl; length_is = refl; initial = refl };
  are_elements = record { ty = refl; length_is = refl; initial = refl };
  thread_ids = refl;
  mutexes = refl;
  barriers = refl;
}

is_good : IsGood program
is_good = generated_is_good 2 lines program (omega arith) (omega arith) is_generated
