-- Programs of a few statements, and how many of their hardware threads name a global.
use Rattle.std.specs.Prelude.{ℕ, List, [], ◌∷◌, Some, None, pos}
use Rattle.std.proofs.Common.{◌≡◌, refl}
use Rattle.hls_ints.specs.Types.{int_type, long_int}
use Rattle.c_program.specs.declared.tree.Storage.TheVariants.{Automatic, Static}
use Rattle.c_program.specs.declared.tree.ReturnType.TheVariants.{Pointer}
use Rattle.c_program.specs.declared.tree.ThreadObject.{ThreadObject}
use Rattle.c_program.specs.Tree.{Expression, Place, ObjectPlace, ThreadCall, Statement, Function, Program}
use Rattle.bank_partition.specs.Counts.{bank_count}
use Rattle.global_naming.specs.Naming.{naming_threads}

abbrev null : Expression
null = Expression.Constant long_int (pos 0)

-- x[0] = 0
abbrev names_x : Statement
names_x = Statement.Assign 0 (Place.Element Static 0 6 int_type null) null

-- a local of the same number
abbrev names_local : Statement
names_local = Statement.Assign 0 (Place.Scalar Automatic 0 int_type) null

abbrev creates : ℕ → Statement
creates routine = Statement.Thread 0 (ThreadCall.Create (ObjectPlace.Single 0) routine null)

abbrev function_of : Statement → Function
function_of body = record { name = []; returns = Pointer; parameters = 1; declared_locals = 0; locals = []; local_names = []; body = body; end = 0 }

abbrev program_of : List Function → List ThreadObject → Program
program_of functions threads = record {
  functions = functions;
  main = 0;
  globals = record { name = []; ty = int_type; length = 6; initial = [] } ∷ [];
  threads = threads;
  mutexes = [];
  barriers = [];
}

-- N = 6 named by five hardware threads: main, and the four of one routine; another object has no routine
of_five : Program
of_five =
    program_of (function_of (Statement.Sequence names_x (creates 1)) ∷ function_of names_x ∷ [])
    (record { length = 4; routine = Some 1 } ∷ record { length = 2; routine = None } ∷ [])

five : naming_threads of_five 0 ≡ 5
unfolding of_five
five = refl

four_banks : bank_count (naming_threads of_five 0) 6 ≡ 4
unfolding of_five
four_banks = refl

-- a global named only by a function that main and two threads call
of_three : Program
of_three =
    program_of (function_of (Statement.Call 0 None 1 []) ∷ function_of names_x ∷ function_of (Statement.Call 0 None 1 []) ∷ [])
    (record { length = 2; routine = Some 2 } ∷ [])

three : naming_threads of_three 0 ≡ 3
unfolding of_three
three = refl

-- a local is no global, and a create names nothing of its routine
of_none : Program
of_none = program_of (function_of (Statement.Sequence names_local (creates 1)) ∷ function_of names_x ∷ []) (record { length = 1; routine = Some 1 } ∷ [])

routine_alone : naming_threads of_none 0 ≡ 1
unfolding of_none
routine_alone = refl
