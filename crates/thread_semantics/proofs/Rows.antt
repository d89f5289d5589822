-- Lists of steps of sample programs, and what the definitions say that they lead to.
use Rattle.std.specs.Prelude.{◌≡◌, ℕ, Bool, true, false, List, [], ◌∷◌, ◌++◌, replicate, pos, Some, None, refl}
use Rattle.std.specs.Fmt.{digits}
use Rattle.hls_ints.specs.declared.fault.ArithmeticFault.TheVariants as fault
use Rattle.hls_ints.specs.Types.{int_type, long_int, wrapped}
use Rattle.hls_ints.specs.Residues.{residue_of, signed_value_of}
use Rattle.hls_ints.specs.Operators.{result_of}
use Rattle.c_program.specs.declared.tree.Storage.TheVariants.{Automatic, Static}
use Rattle.c_program.specs.declared.tree.UnaryOperator.TheVariants.{Not}
use Rattle.c_program.specs.declared.tree.BinaryOperator.TheVariants.{Multiply, Divide, Add, ShiftLeft, Less}
use Rattle.c_program.specs.declared.tree.ReturnType.TheVariants.{Integer}
use Rattle.c_program.specs.Tree.{Expression, Place, ObjectPlace, ThreadCall, Piece, Statement, Function, Program}
use Rattle.c_program.specs.Resolved.{scalar}
use Rattle.c_program.proofs.Samples.{number, local, local_set, local_raised, return_zero, list_of, main_of, alone, is_below, counted}
use Rattle.c_program.proofs.Samples.{print_int, null, return_null, global, global_raised, routine_of, shared_by, single, called, three_threads, racing_threads}
use Rattle.thread_semantics.specs.declared.cause.UndefinedCause.{UndefinedCause}
use Rattle.thread_semantics.specs.declared.cause.UndefinedCause.TheVariants as undefined
use Rattle.thread_semantics.specs.declared.cause.BlockedCause.{BlockedCause}
use Rattle.thread_semantics.specs.declared.cause.BlockedCause.TheVariants as blocked
use Rattle.thread_semantics.specs.Step.{Stepped, Steps, Blocks, Undefines, after}
use Rattle.thread_semantics.specs.Races.{Touch, footprint}

-- x = e; at a place, x being the local 0
abbrev local_set_at : ℕ → Expression → Statement
local_set_at offset e = Statement.Assign offset (Place.Scalar Automatic 0 int_type) e

-- main with one declared local, and so many that keep values
abbrev keeping : ℕ → List Statement → Function
keeping slots body = record (main_of body) { locals = scalar int_type ∷ replicate slots (scalar long_int) }

-- what can be seen of a step: the output and whether main has returned, or why it isn't taken
data Seen : Type 0 where
  Shows : (ended : Bool) (output : List ℕ) → Seen
  Waits : (cause : BlockedCause) → Seen
  Breaks : (offset : ℕ) (cause : UndefinedCause) → Seen

abbrev seen : Stepped → Seen
seen (Steps s) = Shows s.ended s.output
seen (Blocks cause) = Waits cause
seen (Undefines offset cause) = Breaks offset cause

abbrev footprint_in : Program → Stepped → ℕ → List Touch
footprint_in P (Steps s) i = footprint P s i
footprint_in P stepped i = []

-- n steps of thread i
abbrev steps : ℕ → ℕ → List ℕ
steps i n = replicate n i

abbrev ends_in : Program → List ℕ → List ℕ → Type 0
ends_in P list output = seen (after P list) ≡ Shows true output

-- int x = 6; x = x * 7; printf("%d\n", x); return 0;
first_run :
    ends_in (alone (local_set 0 (number 6) ∷ local_set 0 (Expression.Binary Multiply int_type (local 0) (number 7)) ∷ print_int (local 0) ∷
    return_zero ∷ [])) (steps 0 5) (52 ∷ 50 ∷ 10 ∷ [])
unfolding wrapped residue_of signed_value_of result_of digits
first_run = refl

-- int i; for (i = 1; i < 4; i++) printf("%d\n", i); return 0;
counting : ends_in (alone (Statement.Declare 0 0 0 ∷ counted 1 4 (print_int (local 0)) ∷ return_zero ∷ [])) (steps 0 16) (49 ∷ 10 ∷ 50 ∷ 10 ∷ 51 ∷ 10 ∷ [])
unfolding wrapped residue_of signed_value_of result_of digits
counting = refl

-- int x = 1 << 31; is undefined at x
shifting :
    seen (after (alone (Statement.Assign 19 (Place.Scalar Automatic 0 int_type) (Expression.Binary ShiftLeft int_type (number 1) (number 31)) ∷
    return_zero ∷ [])) (steps 0 1)) ≡ Breaks 19 (undefined.Arithmetic fault.Shift)
unfolding wrapped residue_of signed_value_of result_of
shifting = refl

-- int g[4]; .. int i = 4; if (i < 4 && g[i]) i = 9; printf("%d\n", i); return 0;
guarded : Program
guarded = record (alone (
    local_set 0 (number 4) ∷
    Statement.If (Statement.Both (is_below 0 4) (Statement.Test 0 (Expression.Element Static 0 4 int_type (local 0)))) (local_set 0 (number 9)) Statement.Done ∷
    print_int (local 0) ∷ return_zero ∷ []))
    { globals = record { name = []; ty = int_type; length = 4; initial = [] } ∷ [] }

short_circuit : ends_in guarded (steps 0 5) (52 ∷ 10 ∷ [])
unfolding guarded wrapped residue_of signed_value_of result_of digits
short_circuit = refl

-- int a = 0; printf("%d\n", 1 / a); is undefined at printf's first step
divided : Program
divided = alone (
    local_set 0 (number 0) ∷
    Statement.Print 26 (Piece.Conversion int_type ∷ []) (Expression.Binary Divide int_type (number 1) (local 0) ∷ []) ∷
    return_zero ∷ [])

no_divisor : seen (after divided (steps 0 2)) ≡ Breaks 26 (undefined.Arithmetic fault.Divisor)
unfolding divided wrapped residue_of signed_value_of result_of
no_divisor = refl

-- int i; i += 1 / 0; evaluates the right side before the old value, which isn't written
right_side_first :
    seen (after (alone (Statement.Declare 0 0 0 ∷
    Statement.Update 7 (Place.Scalar Automatic 0 int_type) Add int_type (Expression.Binary Divide int_type (number 1) (number 0)) ∷
    [])) (steps 0 2)) ≡ Breaks 7 (undefined.Arithmetic fault.Divisor)
unfolding wrapped residue_of signed_value_of result_of
right_side_first = refl

old_value_then : seen (after (alone (Statement.Declare 0 0 0 ∷ local_raised 0 ∷ [])) (steps 0 2)) ≡ Breaks 0 undefined.Unwritten
unfolding wrapped residue_of signed_value_of result_of
old_value_then = refl

-- int i; for (i = 0; i < 2; i++) do { break; } while (1); return 0; leaves the inner loop alone
inner_break :
    ends_in (alone (Statement.Declare 0 0 0 ∷
    counted 0 2 (Statement.DoWhile (Statement.Block (Statement.Sequence Statement.Break Statement.Done)) (Statement.Test 0 (number 1))) ∷
    return_zero ∷ [])) (steps 0 8) []
unfolding wrapped residue_of signed_value_of result_of
inner_break = refl

-- int i; for (i = 0; i < 2; i++) do { continue; } while (0); return 0; asks the inner condition at each turn
inner_continue :
    ends_in (alone (Statement.Declare 0 0 0 ∷
    counted 0 2 (Statement.DoWhile (Statement.Block (Statement.Sequence Statement.Continue Statement.Done)) (Statement.Test 0 (number 0))) ∷
    return_zero ∷ [])) (steps 0 10) []
unfolding wrapped residue_of signed_value_of result_of
inner_continue = refl

-- int i; for (i = 0; i < 2; i++) { if (i) continue; printf("%d\n", i); } return 0;
outer_continue :
    ends_in (alone (Statement.Declare 0 0 0 ∷
    counted 0 2 (Statement.Block (list_of (Statement.If (Statement.Test 0 (local 0)) Statement.Continue Statement.Done ∷ print_int (local 0) ∷
    []))) ∷ return_zero ∷ [])) (steps 0 12) (48 ∷ 10 ∷ [])
unfolding wrapped residue_of signed_value_of result_of digits
outer_continue = refl

-- int g[3] = {5}; int sq(int a){return a * a;} .. int i; for (i = 0; i < 3; i++) g[i] = sq(i + g[0]);
-- printf("%d %d %d\n", g[0], g[1], g[2]); return 0;
abbrev at : Expression → Expression
at index = Expression.Element Static 0 3 int_type index

abbrev square : Function
square = record {
  name = [];
  returns = Integer int_type;
  parameters = 1;
  declared_locals = 1;
  locals = scalar int_type ∷ [];
  local_names = (97 ∷ []) ∷ [];
  body = list_of (Statement.Return 0 (Some (Expression.Binary Multiply int_type (local 0) (local 0))) ∷ []);
  end = 0;
}

squares : Program
squares = record {
  functions =
      square ∷
      keeping 1 (
      Statement.Declare 0 0 0 ∷
      counted 0 3 (Statement.Sequence (Statement.Call 0 (Some 1) 0 (Expression.Binary Add int_type (local 0) (at (number 0)) ∷ []))
      (Statement.Assign 0 (Place.Element Static 0 3 int_type (local 0)) (Expression.Kept 1 int_type))) ∷
      Statement.Print 0
      (Piece.Conversion int_type ∷ Piece.Text (32 ∷ []) ∷ Piece.Conversion int_type ∷ Piece.Text (32 ∷ []) ∷ Piece.Conversion int_type ∷ Piece.Text (10 ∷ []) ∷ [])
      (at (number 0) ∷ at (number 1) ∷ at (number 2) ∷ []) ∷
      return_zero ∷ []) ∷ [];
  main = 1;
  globals = record { name = []; ty = int_type; length = 3; initial = pos 5 ∷ [] } ∷ [];
  threads = [];
  mutexes = [];
  barriers = [];
}

calls : ends_in squares (steps 0 21) (50 ∷ 53 ∷ 32 ∷ 54 ∷ 55 ∷ 54 ∷ 32 ∷ 55 ∷ 50 ∷ 57 ∷ 10 ∷ [])
unfolding squares wrapped residue_of signed_value_of result_of digits
calls = refl

-- a function that comes to its brace gives no value: int f(void){} .. int x = f(); return 0;
silent : Program
silent = record (alone (Statement.Call 30 (Some 1) 1 [] ∷ local_set_at 30 (Expression.Kept 1 int_type) ∷ return_zero ∷ [])) {
  functions =
      keeping 1 (Statement.Call 30 (Some 1) 1 [] ∷ local_set_at 30 (Expression.Kept 1 int_type) ∷ return_zero ∷ []) ∷
      main_of [] ∷ [];
}

no_value : seen (after silent (steps 0 3)) ≡ Breaks 30 undefined.NoValue
unfolding silent wrapped residue_of signed_value_of result_of
no_value = refl

-- Threads.

abbrev create : Statement
create = called (ThreadCall.Create single 0 null)

-- main returns while the thread isn't joined
unjoined : Program
unjoined = shared_by 1 false (return_null ∷ []) (create ∷ Statement.Return 96 (Some (number 0)) ∷ [])

live_thread : seen (after unjoined (steps 0 3)) ≡ Breaks 96 undefined.LiveThread
unfolding unjoined wrapped residue_of signed_value_of result_of
live_thread = refl

-- a second create of a thread that isn't joined, also after it has returned
twice : Program
twice = shared_by 1 false (return_null ∷ []) (create ∷ create ∷ return_zero ∷ [])

again : seen (after twice (steps 0 2 ++ steps 1 1 ++ steps 0 2)) ≡ Breaks 0 undefined.ThreadId
unfolding twice wrapped residue_of signed_value_of result_of
again = refl

-- a thread joins itself: pthread_t t; void *w(void *p){pthread_join(t, NULL); return NULL;} .. pthread_create(&t, NULL, w,
-- NULL); pthread_join(t, NULL); return 0; is undefined at w's join, which is the step 3
own_join : Program
own_join =
    shared_by 1 false
    (Statement.Thread 30 (ThreadCall.Join single) ∷ return_null ∷ [])
    (create ∷ called (ThreadCall.Join single) ∷ return_zero ∷ [])

until_own_join : seen (after own_join (steps 0 2 ++ steps 1 1)) ≡ Shows false []
unfolding own_join wrapped residue_of signed_value_of result_of
until_own_join = refl

joins_itself : seen (after own_join (steps 0 2 ++ steps 1 2)) ≡ Breaks 30 undefined.ThreadId
unfolding own_join wrapped residue_of signed_value_of result_of
joins_itself = refl

-- a thread that creates and joins another one: pthread_t a; pthread_t b; int x; void *g(void *p){x = x + 1; return NULL;}
-- void *f(void *p){x = 5; pthread_create(&b, NULL, g, NULL); pthread_join(b, NULL); x = x * 2; return NULL;} int
-- main(void){pthread_create(&a, NULL, f, NULL); pthread_join(a, NULL); printf("%d\n", x); return 0;}
abbrev global_set : Expression → Statement
global_set e = Statement.Assign 0 (Place.Scalar Static 0 int_type) e

creators : Program
creators = record {
  functions =
      routine_of (global_raised ∷ return_null ∷ []) ∷
      routine_of (
      global_set (number 5) ∷ called (ThreadCall.Create (ObjectPlace.Single 1) 0 null) ∷ called (ThreadCall.Join (ObjectPlace.Single 1)) ∷
      global_set (Expression.Binary Multiply int_type global (number 2)) ∷ return_null ∷ []) ∷
      main_of (called (ThreadCall.Create single 1 null) ∷ called (ThreadCall.Join single) ∷ print_int global ∷ return_zero ∷ []) ∷ [];
  main = 2;
  globals = record { name = 120 ∷ []; ty = int_type; length = 1; initial = [] } ∷ [];
  threads = record { length = 1; routine = Some 1 } ∷ record { length = 1; routine = Some 0 } ∷ [];
  mutexes = [];
  barriers = [];
}

thread_creates : ends_in creators (steps 0 2 ++ steps 1 3 ++ steps 2 2 ++ steps 1 4 ++ steps 0 5) (49 ∷ 50 ∷ 10 ∷ [])
unfolding creators wrapped residue_of signed_value_of result_of digits
thread_creates = refl

-- a barrier for two at which one thread waits, while main joins it
meeting : Program
meeting =
    shared_by 1 false
    (called (ThreadCall.BarrierWait single) ∷ return_null ∷ [])
    (called (ThreadCall.BarrierInit single (number 2)) ∷ create ∷ called (ThreadCall.Join single) ∷ return_zero ∷ [])

waiting : seen (after meeting (steps 0 4 ++ steps 1 2 ++ steps 0 2)) ≡ Waits blocked.Join
unfolding meeting wrapped residue_of signed_value_of result_of
waiting = refl

until_then : seen (after meeting (steps 0 4 ++ steps 1 2 ++ steps 0 1)) ≡ Shows false []
unfolding meeting wrapped residue_of signed_value_of result_of
until_then = refl

waiter : seen (after meeting (steps 0 4 ++ steps 1 3)) ≡ Waits blocked.Barrier
unfolding meeting wrapped residue_of signed_value_of result_of
waiter = refl

-- pthread_barrier_init(&b, NULL, 0);
no_party : seen (after (shared_by 0 false [] (Statement.Thread 43 (ThreadCall.BarrierInit single (number 0)) ∷ [])) (steps 0 2)) ≡ Breaks 43 undefined.Barrier
unfolding wrapped residue_of signed_value_of result_of
no_party = refl

-- a count of 64 bits keeps its value: 4294967297L
large_party :
    seen (after (shared_by 0 false [] (called (ThreadCall.BarrierInit single (Expression.Constant long_int (pos 4294967297))) ∷ [])) (steps 0 2)) ≡ Breaks 0 undefined.Barrier
unfolding wrapped residue_of signed_value_of result_of
large_party = refl

-- relock by the owner; unlock of a free mutex
relock : seen (after (shared_by 0 true [] (called (ThreadCall.MutexLock single) ∷ called (ThreadCall.MutexLock single) ∷ [])) (steps 0 4)) ≡ Breaks 0 undefined.Mutex
unfolding wrapped residue_of signed_value_of result_of
relock = refl

unlock_free : seen (after (shared_by 0 true [] (called (ThreadCall.MutexUnlock single) ∷ [])) (steps 0 2)) ≡ Breaks 0 undefined.Mutex
unfolding wrapped residue_of signed_value_of result_of
unlock_free = refl

-- three threads that raise a global under a mutex: 50 steps
fifty : ends_in three_threads (steps 0 15 ++ steps 1 6 ++ steps 2 6 ++ steps 3 6 ++ steps 0 17) (51 ∷ 10 ∷ [])
unfolding wrapped residue_of signed_value_of result_of digits
fifty = refl

-- a second thread waits for the mutex
held : seen (after three_threads (steps 0 15 ++ steps 1 2 ++ steps 2 2)) ≡ Waits blocked.Mutex
unfolding wrapped residue_of signed_value_of result_of
held = refl

-- a thread that is no thread
none : seen (after three_threads (steps 9 1)) ≡ Waits blocked.NotRunning
none = refl

-- two threads that raise a global without the mutex: each reads and writes it next
abbrev shared_touches : List Touch
shared_touches =
    record { place = record { variable = 0; index = 0 }; written = false } ∷
    record { place = record { variable = 0; index = 0 }; written = true } ∷ []

first_touches : footprint_in racing_threads (after racing_threads (steps 0 11 ++ steps 1 3 ++ steps 2 3)) 1 ≡ shared_touches
unfolding wrapped residue_of signed_value_of result_of
first_touches = refl

second_touches : footprint_in racing_threads (after racing_threads (steps 0 11 ++ steps 1 3 ++ steps 2 3)) 2 ≡ shared_touches
unfolding wrapped residue_of signed_value_of result_of
second_touches = refl

-- Cuts.

-- int f(int a){return a + 1;}
abbrev next : Function
next = record square { body = list_of (Statement.Return 0 (Some (Expression.Binary Add int_type (local 0) (number 1))) ∷ []) }

abbrev with_next : List Statement → Program
with_next body = record (alone body) { functions = keeping 3 body ∷ next ∷ [] }

abbrev kept : ℕ → Expression
kept slot = Expression.Kept slot int_type

abbrev call_next : ℕ → Expression → Statement
call_next slot argument = Statement.Call 0 (Some slot) 1 (argument ∷ [])

-- int x = 3; printf("%d\n", f(x) * f(f(x)) + (x > 2 ? 10 : 20)); return 0;
calls_inside :
    ends_in (with_next (
    local_set 0 (number 3) ∷ call_next 1 (local 0) ∷ call_next 2 (local 0) ∷ call_next 2 (kept 2) ∷
    Statement.If (Statement.Test 0 (Expression.Binary Less int_type (number 2) (local 0))) (Statement.Keep 0 3 int_type (number 10)) (Statement.Keep 0 3 int_type (number 20)) ∷
    print_int (Expression.Binary Add int_type (Expression.Binary Multiply int_type (kept 1) (kept 2)) (kept 3)) ∷
    return_zero ∷ [])) (steps 0 12) (51 ∷ 48 ∷ 10 ∷ [])
unfolding wrapped residue_of signed_value_of result_of digits
calls_inside = refl

-- int a = 1; int b = !(a && 0) + 1; printf("%d\n", b); return 0;
truth_kept :
    ends_in (record (alone []) {
      functions = keeping 1 (
          local_set 0 (number 1) ∷ Statement.Truth 1 (Statement.Both (Statement.Test 0 (local 0)) (Statement.Test 0 (number 0))) ∷
          local_set 0 (Expression.Binary Add int_type (Expression.Unary Not int_type (kept 1)) (number 1)) ∷ print_int (local 0) ∷ return_zero ∷ []) ∷ [];
    })
    (steps 0 7) (50 ∷ 10 ∷ [])
unfolding wrapped residue_of signed_value_of result_of digits
truth_kept = refl

-- !(0 || !x) as a part of a condition that is kept: x is 7, and the whole 1
truth_turned :
    ends_in (record (alone []) {
      functions = keeping 1 (
          local_set 0 (number 7) ∷
          Statement.Truth 1 (Statement.Both (Statement.Opposite (Statement.Either (Statement.Test 0 (number 0)) (Statement.Opposite (Statement.Test 0 (local 0))))) (Statement.Test 0 (number 5))) ∷
          print_int (kept 1) ∷ return_zero ∷ []) ∷ [];
    })
    (steps 0 7) (49 ∷ 10 ∷ [])
unfolding wrapped residue_of signed_value_of result_of digits
truth_turned = refl

-- while (f(x) < 3) x++; with x from 0: at each turn the call, its return and the test
asked_with_a_call :
    ends_in (with_next (
    local_set 0 (number 0) ∷
    Statement.While (Statement.Sequence (call_next 1 (local 0)) (Statement.Test 0 (Expression.Binary Less int_type (kept 1) (number 3)))) (local_raised 0) ∷
    print_int (local 0) ∷ return_zero ∷ [])) (steps 0 15) (50 ∷ 10 ∷ [])
unfolding wrapped residue_of signed_value_of result_of digits
asked_with_a_call = refl

-- int i; for (i = 0; i < 4; i++) switch (i) { case 1: printf 1; case 2: printf 2; break; default: printf 4; } return 0;
switching :
    ends_in (alone (Statement.Declare 0 0 0 ∷
    counted 0 4 (Statement.Switch 0 int_type (local 0) (list_of (
    Statement.Label (Some (pos 1)) 0 ∷ print_int (number 1) ∷ Statement.Label (Some (pos 2)) 0 ∷ print_int (number 2) ∷ Statement.Break ∷
    Statement.Label None 0 ∷ print_int (number 4) ∷ []))) ∷
    return_zero ∷ [])) (steps 0 26) (52 ∷ 10 ∷ 49 ∷ 10 ∷ 50 ∷ 10 ∷ 50 ∷ 10 ∷ 52 ∷ 10 ∷ [])
unfolding wrapped residue_of signed_value_of result_of digits
switching = refl

-- a continue in a switch goes on with the loop, and a switch without a label for the value is passed
passing :
    ends_in (alone (Statement.Declare 0 0 0 ∷
    counted 0 3 (Statement.Block (list_of (
    Statement.Switch 0 int_type (local 0) (list_of (Statement.Label (Some (pos 1)) 0 ∷ Statement.Continue ∷ [])) ∷ print_int (local 0) ∷ []))) ∷
    return_zero ∷ [])) (steps 0 17) (48 ∷ 10 ∷ 50 ∷ 10 ∷ [])
unfolding wrapped residue_of signed_value_of result_of digits
passing = refl

-- int g[2][3]; .. g[0][3] = 1; is undefined though the array has an element of that number
abbrev cell : ℕ → ℕ → Expression
cell i j = Expression.Row (number i) 2 (number j) 3

abbrev grid : List Statement → Program
grid body = record (alone body) { globals = record { name = []; ty = int_type; length = 6; initial = pos 1 ∷ pos 2 ∷ pos 0 ∷ pos 4 ∷ [] } ∷ [] }

past_a_row : seen (after (grid (Statement.Assign 28 (Place.Element Static 0 6 int_type (cell 0 3)) (number 1) ∷ [])) (steps 0 1)) ≡ Breaks 28 undefined.Index
unfolding wrapped residue_of signed_value_of result_of
past_a_row = refl

-- int g[2][3] = {{1, 2}, {4}}; .. g[1][2] = g[0][1] + g[1][0]; printf("%d\n", g[1][2]); return 0;
abbrev cell_value : ℕ → ℕ → Expression
cell_value i j = Expression.Element Static 0 6 int_type (cell i j)

rows :
    ends_in (grid (
    Statement.Assign 0 (Place.Element Static 0 6 int_type (cell 1 2)) (Expression.Binary Add int_type (cell_value 0 1) (cell_value 1 0)) ∷
    print_int (cell_value 1 2) ∷ return_zero ∷ [])) (steps 0 4) (54 ∷ 10 ∷ [])
unfolding wrapped residue_of signed_value_of result_of digits
rows = refl
