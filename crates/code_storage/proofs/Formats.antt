-- The formats of a resolved program: bytes that may stand in a text, and at most 4 values.
use Rattle.std.proofs.Common.{List, [], ◌∷◌, ◌++◌, arith}
use Rattle.std.specs.List.{AllByRecursion, flat_map}
use Rattle.c_program.specs.Tree.{Piece, Statement, Function, Program}
use Rattle.c_program.specs.Resolved.{Around, nowhere, in_loop, in_switch, within, IsStatement, IsFunction}
use Rattle.code_following.specs.Following.{formats_of}
use Rattle.code_storage.specs.Formats.{IsPrinted, FormatsArePrinted, FormatsAreListed}
use Rattle.code_storage.proofs.Sites.{conversions_length, formats_count}

all_append : (xs ys : List (List Piece)) → AllByRecursion IsPrinted xs → AllByRecursion IsPrinted ys → AllByRecursion IsPrinted (xs ++ ys)
all_append [] ys all more = more
all_append (x ∷ xs) ys all more = (all.0, all_append xs ys all.1 more)

statement_prints : (P : Program) (f : Function) (a : Around) (s : Statement) → IsStatement P f a s → AllByRecursion IsPrinted (formats_of s)
statement_prints P f l Statement.Done is = tt
statement_prints P f l (Statement.Sequence first rest) is =
    all_append (formats_of first) (formats_of rest) (statement_prints P f l first is.0) (statement_prints P f l rest is.1)
statement_prints P f l Statement.Empty is = tt
statement_prints P f l (Statement.Block body) is = statement_prints P f (within l) body is
statement_prints P f l (Statement.Declare offset local operators) is = tt
statement_prints P f l (Statement.Assign offset place right) is = tt
statement_prints P f l (Statement.Update offset place operator ty right) is = tt
statement_prints P f l (Statement.If condition consequent alternative) is =
    all_append (formats_of consequent) (formats_of alternative) (statement_prints P f (within l) consequent is.1) (statement_prints P f (within l) alternative is.2)
statement_prints P f l (Statement.While condition body) is = statement_prints P f in_loop body is.1
statement_prints P f l (Statement.DoWhile body condition) is = statement_prints P f in_loop body is.0
statement_prints P f l (Statement.For first condition last body) is =
    all_append (formats_of first) (formats_of last ++ formats_of body) (statement_prints P f nowhere first is.0)
    (all_append (formats_of last) (formats_of body) (statement_prints P f nowhere last is.2) (statement_prints P f in_loop body is.3))
statement_prints P f l Statement.Break is = tt
statement_prints P f l Statement.Continue is = tt
statement_prints P f l (Statement.Return offset right) is = tt
statement_prints P f l (Statement.Call offset into callee arguments) is = tt
statement_prints P f l (Statement.Keep offset slot ty operand) is = tt
statement_prints P f l (Statement.Truth slot condition) is = tt
statement_prints P f l (Statement.Test offset operand) is = absurd is
statement_prints P f l (Statement.Both first second) is = absurd is
statement_prints P f l (Statement.Either first second) is = absurd is
statement_prints P f l (Statement.Opposite inner) is = absurd is
statement_prints P f l (Statement.Switch offset ty operand body) is = statement_prints P f (in_switch ty l) body is.2
statement_prints P f l (Statement.Label value operators) is = tt
statement_prints P f l (Statement.Print offset format arguments) is =
    (record { pieces = is.pieces; few = (let long = conversions_length format in let count = is.count in let most = is.most in omega (arith, long, count, most)) }, tt)
statement_prints P f l (Statement.Thread offset call) is = tt

functions_print : (P : Program) (fs : List Function) → AllByRecursion (IsFunction P) fs → AllByRecursion IsPrinted (flat_map (λ (f : Function). formats_of f.body) fs)
functions_print P [] all = tt
functions_print P (f ∷ fs) all =
    all_append (formats_of f.body) (flat_map (λ (g : Function). formats_of g.body) fs) (statement_prints P f nowhere f.body all.0.body) (functions_print P fs all.1)

pub program_prints : FormatsArePrinted
program_prints P resolved = functions_print P P.functions resolved.functions

pub formats_listed : FormatsAreListed
formats_listed P = formats_count P.functions
