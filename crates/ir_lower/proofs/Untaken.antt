-- The statements of resolved programs are taken.
use Rattle.std.proofs.Common.{◌≡◌, Bool, true, false, ◌&&◌, List, [], ◌∷◌, Some, refl, eq-eqb, le-leb}
use Rattle.std.specs.Prelude.{IsTrue}
use Rattle.std.specs.List.{AllByRecursion}
use Rattle.std.proofs.lemmas.Bool.{and_from}
use Rattle.c_program.specs.Tree.{Expression, Piece, Statement, Function, Program}
use Rattle.c_program.specs.Resolved.{IsPrint, IsJoined, IsCut, IsCondition, Around, IsStatement, IsFunction, nowhere, within, in_loop, in_switch}
use Rattle.code_control.specs.Deciding.{is_joined, is_cut, is_asked}
use Rattle.ir_lower.specs.Taken.{fits_format, is_taken, are_taken}

is_true : (b : Bool) → IsTrue b → b ≡ true
is_true true t = refl
is_true false t = absurd cc

format_fits : (P : Program) (f : Function) (format : List Piece) (arguments : List Expression) → IsPrint P f format arguments → fits_format format arguments ≡ true
format_fits P f format arguments is = and_from _ _ (eq-eqb _ _ is.count) (le-leb _ 4 is.most)

joined : (d : Statement) → IsJoined d → is_joined d ≡ true
joined (Statement.Both a b) is = refl
joined (Statement.Either a b) is = refl
joined d is = absurd is

mutual
  cut : (P : Program) (f : Function) (s : Statement) → IsCut P f s → is_cut s ≡ true
  cut P f Statement.Done is = refl
  cut P f (Statement.Sequence a b) is = and_from (is_cut a) (is_cut b) (cut P f a is.0) (cut P f b is.1)
  cut P f (Statement.Call offset (Some slot) g es) is = refl
  cut P f (Statement.Keep offset slot ty e) is = refl
  cut P f (Statement.Truth slot d) is = and_from (is_joined d) (is_asked d) (joined d is.1) (asked P f d is.2)
  cut P f (Statement.If d a b) is =
      and_from (is_asked d) (is_cut a && is_cut b) (asked P f d is.0) (and_from (is_cut a) (is_cut b) (cut P f a is.1) (cut P f b is.2))
  cut P f s is = absurd is

  asked : (P : Program) (f : Function) (d : Statement) → IsCondition P f d → is_asked d ≡ true
  asked P f (Statement.Sequence first rest) is = and_from (is_cut first) (is_asked rest) (cut P f first is.0) (asked P f rest is.1)
  asked P f (Statement.Test offset operand) is = refl
  asked P f (Statement.Both a b) is = and_from (is_asked a) (is_asked b) (asked P f a is.0) (asked P f b is.1)
  asked P f (Statement.Either a b) is = and_from (is_asked a) (is_asked b) (asked P f a is.0) (asked P f b is.1)
  asked P f (Statement.Opposite inner) is = asked P f inner is
  asked P f d is = absurd is

-- where break and continue may stand, code that leads out of a loop is at hand
taken : (P : Program) (f : Function) (a : Around) (l t : Bool) → (IsTrue a.leaves → l ≡ true) → (IsTrue a.turns → t ≡ true) → (s : Statement) → IsStatement P f a s → is_taken l t s ≡ true
taken P f a l t leaves turns Statement.Done is = refl
taken P f a l t leaves turns (Statement.Sequence first rest) is =
    and_from (is_taken l t first) (is_taken l t rest) (taken P f a l t leaves turns first is.0) (taken P f a l t leaves turns rest is.1)
taken P f a l t leaves turns Statement.Empty is = refl
taken P f a l t leaves turns (Statement.Block body) is = taken P f (within a) l t leaves turns body is
taken P f a l t leaves turns (Statement.Declare offset local operators) is = refl
taken P f a l t leaves turns (Statement.Assign offset place right) is = refl
taken P f a l t leaves turns (Statement.Update offset place operator ty right) is = refl
taken P f a l t leaves turns (Statement.Call offset into g arguments) is = refl
taken P f a l t leaves turns (Statement.Keep offset slot ty operand) is = refl
taken P f a l t leaves turns (Statement.Truth slot condition) is = and_from (is_joined condition) (is_asked condition) (joined condition is.1) (asked P f condition is.2)
taken P f a l t leaves turns (Statement.Test offset operand) is = absurd is
taken P f a l t leaves turns (Statement.Both first second) is = absurd is
taken P f a l t leaves turns (Statement.Either first second) is = absurd is
taken P f a l t leaves turns (Statement.Opposite inner) is = absurd is
taken P f a l t leaves turns (Statement.If d one other) is =
    and_from (is_asked d) (is_taken l t one && is_taken l t other) (asked P f d is.0)
    (and_from (is_taken l t one) (is_taken l t other) (taken P f (within a) l t leaves turns one is.1) (taken P f (within a) l t leaves turns other is.2))
taken P f a l t leaves turns (Statement.While d body) is =
    and_from (is_asked d) (is_taken true true body) (asked P f d is.0) (taken P f in_loop true true (λ _. refl) (λ _. refl) body is.1)
taken P f a l t leaves turns (Statement.DoWhile body d) is =
    and_from (is_taken true true body) (is_asked d) (taken P f in_loop true true (λ _. refl) (λ _. refl) body is.0) (asked P f d is.1)
taken P f a l t leaves turns (Statement.For first d last body) is =
    and_from (is_taken false false first) (is_asked d && (is_taken false false last && is_taken true true body)) (taken P f nowhere false false (is_true false) (is_true false) first is.0)
    (and_from (is_asked d) (is_taken false false last && is_taken true true body) (asked P f d is.1)
    (and_from (is_taken false false last) (is_taken true true body) (taken P f nowhere false false (is_true false) (is_true false) last is.2) (taken P f in_loop true true (λ _. refl) (λ _. refl) body is.3)))
taken P f a l t leaves turns (Statement.Switch offset ty operand body) is = taken P f (in_switch ty a) true t (λ _. refl) turns body is.2
taken P f a l t leaves turns (Statement.Label value operators) is = refl
taken P f a l t leaves turns Statement.Break is = leaves is
taken P f a l t leaves turns Statement.Continue is = turns is
taken P f a l t leaves turns (Statement.Return offset right) is = refl
taken P f a l t leaves turns (Statement.Print offset format arguments) is = format_fits P f format arguments is
taken P f a l t leaves turns (Statement.Thread offset call) is = refl

pub all_taken : (P : Program) (fs : List Function) → AllByRecursion (IsFunction P) fs → are_taken fs ≡ true
all_taken P [] all = refl
all_taken P (f ∷ fs) all = and_from (is_taken false false f.body) (are_taken fs) (taken P f nowhere false false (is_true false) (is_true false) f.body all.0.body) (all_taken P fs all.1)
