-- Calls of functions of the text, of printf and of POSIX threads, as statements (C99 6.5.2.2).
use Rattle.std.specs.Prelude.{ℕ, Bool, true, false, ◌&&◌, not, nat_eq, nat_le, List, [], ◌∷◌, length, count_by, Option, Some, None}
use Rattle.c_tree.specs.declared.expression.Call.{Call as CallTree, out-Call}
use Rattle.c_tree.specs.declared.expression.Argument.{Argument as ArgumentTree, out-Argument}
use Rattle.c_tree.specs.declared.expression.Argument.TheOpen.{Argument-F}
use Rattle.c_program.specs.Tree.{Expression, ObjectPlace, ThreadCall, Piece, Statement}
use Rattle.c_program.specs.Resolved.{is_conversion, object_of}
use Rattle.c_rules.specs.declared.fault.Rule.TheVariants as rule
use Rattle.c_rules.specs.declared.library.LibraryFunction.{LibraryFunction}
use Rattle.c_rules.specs.declared.library.LibraryFunction.TheVariants as library
use Rattle.c_rules.specs.declared.names.ObjectKind.{ObjectKind}
use Rattle.c_rules.specs.declared.names.ObjectKind.TheVariants.{Thread, Mutex, Barrier}
use Rattle.c_rules.specs.declared.names.Meaning.TheVariants as meaning
use Rattle.c_rules.specs.declared.names.Known.{Known}
use Rattle.c_rules.specs.declared.names.Known.TheVariants as known
use Rattle.c_rules.specs.declared.names.Scope.{Scope}
use Rattle.c_rules.specs.Formats.{pieces_in}
use Rattle.c_rules.specs.Names.{look_up}
use Rattle.c_rules.specs.Walks.{Finds, pure, finds, finds_if, creates, ◌>>=◌, ◌>>◌}
use Rattle.c_expressions.specs.Callees.{function_name, library_name, no_function}
use Rattle.c_expressions.specs.Cuts.{Cuts, Cut, free_from}
use Rattle.c_expressions.specs.Expressions.{argument_offset, arguments, looked_argument, all_passed}
use Rattle.c_expressions.specs.Lists.{front, one, two, three, four}
use Rattle.c_expressions.specs.Sequences.{behind_cuts}
use Rattle.c_calls.specs.Arguments.{ArgumentLayer, value_argument, null_argument, pointer_argument, address_argument, thread_argument, routine_argument}

-- ---- which calls have one object

abbrev pub object_kind : LibraryFunction → ObjectKind
object_kind library.BarrierDestroy = Barrier
object_kind library.BarrierWait = Barrier
object_kind function = Mutex

abbrev pub on_object : LibraryFunction → ObjectPlace → ThreadCall
on_object library.MutexDestroy place = ThreadCall.MutexDestroy place
on_object library.MutexLock place = ThreadCall.MutexLock place
on_object library.MutexUnlock place = ThreadCall.MutexUnlock place
on_object library.BarrierDestroy place = ThreadCall.BarrierDestroy place
on_object function place = ThreadCall.BarrierWait place

-- ---- the format of a printf

-- a string literal that is not empty
abbrev pub text_pieces : List ℕ → Option (List Piece)
text_pieces [] = None
text_pieces (byte ∷ more) = pieces_in (byte ∷ more)

abbrev pub format_in : ArgumentLayer → Option (List Piece)
format_in (Argument-F.Text bytes at) = text_pieces bytes
format_in other = None

abbrev pub format : ArgumentTree → Option (List Piece)
format a = format_in (out-Argument a)

-- as many values as conversions, at most 4
abbrev pub takes : Option (List Piece) → ℕ → Bool
takes None values = false
takes (Some pieces) values = nat_eq (count_by is_conversion pieces) values && nat_le values 4

-- ---- calls as statements at a place, behind the cuts of their arguments

-- a pthread call
abbrev pub thread_call : ℕ → Cuts → ThreadCall → Statement
thread_call at cuts call = behind_cuts cuts.before (Statement.Thread at call)

-- a create that names a routine
unfoldable pub created : ℕ → ObjectPlace → Cut Expression → Option (ℕ × ℕ) → Finds Statement
created at thread x None = pure Statement.Empty
created at thread x (Some r) = do
  creates (object_of thread) r.0 r.1
  pure (thread_call at x.cuts (ThreadCall.Create thread r.0 x.rest))

abbrev pub printed : ℕ → Option (List Piece) → Cut (List Expression) → Statement
printed at None values = Statement.Empty
printed at (Some pieces) values = behind_cuts values.cuts.before (Statement.Print at pieces values.rest)

abbrev pub called : ℕ → Option ℕ → Cut (List Expression) → Statement
called at None values = Statement.Empty
called at (Some function) values = behind_cuts values.cuts.before (Statement.Call at None function values.rest)

module _ (s : Scope) where
  -- no cut yet in a statement
  abbrev pub no_cuts : Cuts
  no_cuts = free_from s.kept_from

  -- a call with the wrong number of arguments
  unfoldable pub looked_call : List ArgumentTree → Finds Statement
  looked_call list = do
    arguments s list
    pure Statement.Empty

  unfoldable pub create : ℕ → ArgumentTree → ArgumentTree → ArgumentTree → ArgumentTree → Finds Statement
  create at thread attributes routine x = do
    t ← address_argument s Thread thread at no_cuts
    null_argument s attributes
    r ← routine_argument s routine
    v ← pointer_argument s x at t.cuts
    created at t.rest v r

  abbrev pub create_of : ℕ → List ArgumentTree → Option (ArgumentTree × ArgumentTree × ArgumentTree × ArgumentTree) → Finds Statement
  create_of at list (Some q) = create at q.0 q.1 q.2 q.3
  create_of at list None = looked_call list

  unfoldable pub create_call : ℕ → List ArgumentTree → Finds Statement
  create_call at list = create_of at list (four list)

  unfoldable pub join : ℕ → ArgumentTree → ArgumentTree → Finds Statement
  join at thread outcome = do
    t ← thread_argument s thread at no_cuts
    null_argument s outcome
    pure (thread_call at t.cuts (ThreadCall.Join t.rest))

  abbrev pub join_of : ℕ → List ArgumentTree → Option (ArgumentTree × ArgumentTree) → Finds Statement
  join_of at list (Some q) = join at q.0 q.1
  join_of at list None = looked_call list

  unfoldable pub join_call : ℕ → List ArgumentTree → Finds Statement
  join_call at list = join_of at list (two list)

  -- pthread_exit is a return
  unfoldable pub exit : ℕ → ArgumentTree → Finds Statement
  exit at x = do
    v ← pointer_argument s x at no_cuts
    pure (behind_cuts v.cuts.before (Statement.Return at (Some v.rest)))

  abbrev pub exit_of : ℕ → List ArgumentTree → Option ArgumentTree → Finds Statement
  exit_of at list (Some x) = exit at x
  exit_of at list None = looked_call list

  unfoldable pub exit_call : ℕ → List ArgumentTree → Finds Statement
  exit_call at list = exit_of at list (one list)

  unfoldable pub mutex_init : ℕ → ArgumentTree → ArgumentTree → Finds Statement
  mutex_init at mutex attributes = do
    m ← address_argument s Mutex mutex at no_cuts
    null_argument s attributes
    pure (thread_call at m.cuts (ThreadCall.MutexInit m.rest))

  abbrev pub mutex_init_of : ℕ → List ArgumentTree → Option (ArgumentTree × ArgumentTree) → Finds Statement
  mutex_init_of at list (Some q) = mutex_init at q.0 q.1
  mutex_init_of at list None = looked_call list

  unfoldable pub mutex_init_call : ℕ → List ArgumentTree → Finds Statement
  mutex_init_call at list = mutex_init_of at list (two list)

  unfoldable pub barrier_init : ℕ → ArgumentTree → ArgumentTree → ArgumentTree → Finds Statement
  barrier_init at barrier attributes count = do
    b ← address_argument s Barrier barrier at no_cuts
    null_argument s attributes
    n ← value_argument s count at b.cuts
    pure (thread_call at n.cuts (ThreadCall.BarrierInit b.rest n.rest))

  abbrev pub barrier_init_of : ℕ → List ArgumentTree → Option (ArgumentTree × ArgumentTree × ArgumentTree) → Finds Statement
  barrier_init_of at list (Some q) = barrier_init at q.0 q.1 q.2
  barrier_init_of at list None = looked_call list

  unfoldable pub barrier_init_call : ℕ → List ArgumentTree → Finds Statement
  barrier_init_call at list = barrier_init_of at list (three list)

  unfoldable pub object_statement : LibraryFunction → ℕ → ArgumentTree → Finds Statement
  object_statement function at object = do
    p ← address_argument s (object_kind function) object at no_cuts
    pure (thread_call at p.cuts (on_object function p.rest))

  abbrev pub object_call_of : LibraryFunction → ℕ → List ArgumentTree → Option ArgumentTree → Finds Statement
  object_call_of function at list (Some object) = object_statement function at object
  object_call_of function at list None = looked_call list

  unfoldable pub object_call : LibraryFunction → ℕ → List ArgumentTree → Finds Statement
  object_call function at list = object_call_of function at list (one list)

  unfoldable pub print_arguments : ℕ → ArgumentTree → List ArgumentTree → Finds Statement
  print_arguments at first values = do
    finds_if (not (takes (format first) (length values))) rule.Format (argument_offset first)
    looked_argument s first
    v ← all_passed s values at no_cuts
    pure (printed at (format first) v)

  abbrev pub print_of : ℕ → ℕ → Option (ArgumentTree × List ArgumentTree) → Finds Statement
  print_of at name_at (Some q) = print_arguments at q.0 q.1
  print_of at name_at None = finds rule.Format name_at >> pure Statement.Empty

  unfoldable pub print_call : ℕ → ℕ → List ArgumentTree → Finds Statement
  print_call at name_at list = print_of at name_at (front list)

  unfoldable pub library_statement : LibraryFunction → ℕ → ℕ → List ArgumentTree → Finds Statement
  library_statement library.Print at name_at list = print_call at name_at list
  library_statement library.Create at name_at list = create_call at list
  library_statement library.Join at name_at list = join_call at list
  library_statement library.Exit at name_at list = exit_call at list
  library_statement library.MutexInit at name_at list = mutex_init_call at list
  library_statement library.BarrierInit at name_at list = barrier_init_call at list
  library_statement library.MutexDestroy at name_at list = object_call library.MutexDestroy at list
  library_statement library.MutexLock at name_at list = object_call library.MutexLock at list
  library_statement library.MutexUnlock at name_at list = object_call library.MutexUnlock at list
  library_statement library.BarrierDestroy at name_at list = object_call library.BarrierDestroy at list
  library_statement library.BarrierWait at name_at list = object_call library.BarrierWait at list

  unfoldable pub library_call : LibraryFunction → ℕ → ℕ → List ArgumentTree → Finds Statement
  library_call function at name_at list = do
    library_name s function (length list) name_at
    library_statement function at name_at list

  -- a call of a function of the text by the number of its header, whose value, if it has one, is not used
  unfoldable pub function_statement : ℕ → ℕ → ℕ → List ArgumentTree → Finds Statement
  function_statement number at name_at list = do
    definition ← function_name s number (length list) false name_at
    values ← all_passed s list at no_cuts
    pure (called at definition values)

  -- a call of a name that stands for no function
  unfoldable pub other_call : Known → ℕ → List ArgumentTree → Finds Statement
  other_call known name_at list = do
    no_function known name_at
    looked_call list

  unfoldable pub call_of : Known → ℕ → ℕ → List ArgumentTree → Finds Statement
  call_of (known.Library function) at name_at list = library_call function at name_at list
  call_of (known.Declared (meaning.Function number)) at name_at list = function_statement number at name_at list
  call_of (known.Declared (meaning.Variable v)) at name_at list = other_call (known.Declared (meaning.Variable v)) name_at list
  call_of (known.Declared meaning.Argument) at name_at list = other_call (known.Declared meaning.Argument) name_at list
  call_of (known.Declared (meaning.Object o)) at name_at list = other_call (known.Declared (meaning.Object o)) name_at list
  call_of (known.Declared meaning.Unusable) at name_at list = other_call (known.Declared meaning.Unusable) name_at list
  call_of known.Unknown at name_at list = other_call known.Unknown name_at list

  -- a call as a statement at the place
  unfoldable pub call : ℕ → CallTree → Finds Statement
  call at c = call_of (look_up s (out-Call c).name.bytes) at (out-Call c).name.offset (out-Call c).arguments
