-- No call of a resolved program is deeper than it has functions: each has a rank above those of the functions that it calls.
use Rattle.std.proofs.Common.{◌≡◌, ℕ, zero, suc, ◌+◌, ◌<◌, ◌≤◌, List, [], ◌∷◌, ◌++◌, length, map, filter, refl, arith}
use Rattle.std.specs.Prelude.{⊤, Bool, true, false, cond, Option, Some, None, slice_get, Contains}
use Rattle.std.specs.List.{AllByRecursion, flat_map, list_any, range_with_len}
use Rattle.lists.proofs.Places.{all_front, all_back}
use Rattle.c_program.specs.Tree.{Expression, Place, ThreadCall, Statement, Function, Program}
use Rattle.c_program.specs.Calls.{IsAcyclic, calls_of}
use Rattle.c_program.specs.Resolved.{IsResolved}
use Rattle.c_program.specs.Weight.{is_routine, routines}
use Rattle.global_naming.specs.Naming.{expression_globals, expressions_globals, thread_call_globals}
use Rattle.lock_discipline.specs.Sets.{Sets, lowered}
use Rattle.lock_discipline.specs.Walk.{Seen, Touches, TooDeep, Passed, Walker, access, reads, index_globals, target_globals, asked, assigned}
use Rattle.lock_discipline.specs.Walk.{around, calls_in, calls_within, joined, join_loop, walk_asked, walk_call, walk_return, walk_for, walk, walk_code, walk_within}
use Rattle.lock_discipline.specs.Discipline.{is_too_deep, walked, all_seen}
use Rattle.lock_discipline.specs.Calm.{NoneTooDeep}

abbrev IsAccess : Seen → Type 0
IsAccess (Touches a) = ⊤
IsAccess TooDeep = ⊥

abbrev AreAccesses : List Seen → Type 0
AreAccesses seen = AllByRecursion IsAccess seen

both : (xs ys : List Seen) → AreAccesses xs → AreAccesses ys → AreAccesses (xs ++ ys)
both [] ys p q = q
both (x ∷ xs) ys p q = (p.0, both xs ys p.1 q)

-- ---- accesses of a step

accesses : (w : Walker) (s : Sets) (offset : ℕ) (written : Bool) (globals : List ℕ) → AreAccesses (map (access w s offset written) globals)
accesses w s offset written [] = tt
accesses w s offset written (x ∷ xs) = (tt, accesses w s offset written xs)

assigned_are : (w : Walker) (s : Sets) (offset : ℕ) (place : Place) → AreAccesses (assigned w s offset place)
assigned_are w s offset place =
    both (reads w s offset (index_globals place)) (map (access w s offset true) (target_globals place)) (accesses w s offset false (index_globals place))
    (accesses w s offset true (target_globals place))

-- ---- a statement, of whose calls each meets accesses alone

module _ (w : Walker) (inner : ℕ → List ThreadCall) (call : ℕ → Sets → Passed) (Low : ℕ → Type 0) (low : (g : ℕ) → Low g → (s : Sets) → AreAccesses (call g s).seen) where
  boths : (xs ys : List Seen) (fs gs : List ℕ) → AllByRecursion Low (fs ++ gs) → (AllByRecursion Low fs → AreAccesses xs) → (AllByRecursion Low gs → AreAccesses ys) →
      AreAccesses (xs ++ ys)
  boths xs ys fs gs h p q = both xs ys (p (all_front Low fs gs h)) (q (all_back Low fs gs h))

  asked_are : (st : Statement) (s : Sets) → AllByRecursion Low (calls_of st) → AreAccesses (asked w inner call s st)
  asked_are (Statement.Sequence first rest) s h =
      boths (asked w inner call s first) (asked w inner call s rest) (calls_of first) (calls_of rest) h (asked_are first s) (asked_are rest s)
  asked_are (Statement.Call offset into g arguments) s h =
      both (reads w s offset (expressions_globals arguments)) (call g s).seen (accesses w s offset false (expressions_globals arguments)) (low g h.0 s)
  asked_are (Statement.Keep offset slot ty operand) s h = accesses w s offset false (expression_globals operand)
  asked_are (Statement.Truth slot condition) s h = asked_are condition s h
  asked_are (Statement.Test offset operand) s h = accesses w s offset false (expression_globals operand)
  asked_are (Statement.Both first second) s h =
      boths (asked w inner call s first) (asked w inner call s second) (calls_of first) (calls_of second) h (asked_are first s) (asked_are second s)
  asked_are (Statement.Either first second) s h =
      boths (asked w inner call s first) (asked w inner call s second) (calls_of first) (calls_of second) h (asked_are first s) (asked_are second s)
  asked_are (Statement.Opposite condition) s h = asked_are condition s h
  asked_are (Statement.If condition consequent alternative) s h =
      boths (asked w inner call s condition) (asked w inner call s consequent ++ asked w inner call s alternative) (calls_of condition) (calls_of consequent ++ calls_of alternative) h
      (asked_are condition s)
      (λ g. boths (asked w inner call s consequent) (asked w inner call s alternative) (calls_of consequent) (calls_of alternative) g (asked_are consequent s) (asked_are alternative s))
  asked_are st s h = tt

  alone_are : (st : Statement) (s : Sets) → AllByRecursion Low (calls_of st) → AreAccesses (walk_asked w inner call st s).seen
  alone_are st s h = asked_are st (lowered s (calls_in inner st)) h

  call_are : (offset : ℕ) (into : Option ℕ) (g : ℕ) (arguments : List Expression) (s : Sets) → Low g → AreAccesses (walk_call w inner call offset into g arguments s).seen
  call_are offset None g arguments s h =
      both (reads w s offset (expressions_globals arguments)) (call g s).seen (accesses w s offset false (expressions_globals arguments)) (low g h s)
  call_are offset (Some slot) g arguments s h = alone_are (Statement.Call offset (Some slot) g arguments) s (h, tt)

  return_are : (offset : ℕ) (right : Option Expression) (s : Sets) → AreAccesses (walk_return w inner call offset right s).seen
  return_are offset None s = tt
  return_are offset (Some e) s = accesses w s offset false (expression_globals e)

  for_are : (loop : Option ℕ) (s : Sets) (other : Passed) → AreAccesses other.seen → AreAccesses (walk_for w inner call loop s other).seen
  for_are None s other h = h
  for_are (Some t) s other h = tt

  walk_are : (labels : Option Sets) (st : Statement) (s : Sets) → AllByRecursion Low (calls_of st) → AreAccesses (walk w inner call labels st s).seen
  walk_are labels Statement.Done s h = tt
  walk_are labels (Statement.Sequence first rest) s h =
      let t = (walk w inner call labels first s).after in
      boths (walk w inner call labels first s).seen (walk w inner call labels rest t).seen (calls_of first) (calls_of rest) h (walk_are labels first s) (walk_are labels rest t)
  walk_are labels Statement.Empty s h = tt
  walk_are labels (Statement.Block body) s h = walk_are None body s h
  walk_are labels (Statement.Declare offset local operators) s h = tt
  walk_are labels (Statement.Assign offset place right) s h =
      both (reads w s offset (expression_globals right)) (assigned w s offset place) (accesses w s offset false (expression_globals right)) (assigned_are w s offset place)
  walk_are labels (Statement.Update offset place operator ty right) s h =
      both (reads w s offset (expression_globals right)) (reads w s offset (target_globals place) ++ assigned w s offset place) (accesses w s offset false (expression_globals right))
      (both (reads w s offset (target_globals place)) (assigned w s offset place) (accesses w s offset false (target_globals place)) (assigned_are w s offset place))
  walk_are labels (Statement.Call offset into g arguments) s h = call_are offset into g arguments s h.0
  walk_are labels (Statement.Keep offset slot ty operand) s h = alone_are (Statement.Keep offset slot ty operand) s h
  walk_are labels (Statement.Truth slot condition) s h = alone_are (Statement.Truth slot condition) s h
  walk_are labels (Statement.Test offset operand) s h = alone_are (Statement.Test offset operand) s h
  walk_are labels (Statement.Both first second) s h = alone_are (Statement.Both first second) s h
  walk_are labels (Statement.Either first second) s h = alone_are (Statement.Either first second) s h
  walk_are labels (Statement.Opposite condition) s h = alone_are (Statement.Opposite condition) s h
  walk_are labels (Statement.If condition consequent alternative) s h =
      let l = lowered s (calls_in inner condition) in
      let one = walk w inner call None consequent l in
      let other = walk w inner call None alternative l in
      boths (asked w inner call l condition) (one.seen ++ other.seen) (calls_of condition) (calls_of consequent ++ calls_of alternative) h (asked_are condition l)
      (λ g. boths one.seen other.seen (calls_of consequent) (calls_of alternative) g (walk_are None consequent l) (walk_are None alternative l))
  walk_are labels (Statement.While condition body) s h =
      let l = lowered s (calls_in inner condition ++ calls_in inner body) in
      boths (asked w inner call l condition) (walk w inner call None body l).seen (calls_of condition) (calls_of body) h (asked_are condition l) (walk_are None body l)
  walk_are labels (Statement.DoWhile body condition) s h =
      let l = lowered s (calls_in inner body ++ calls_in inner condition) in
      both (asked w inner call l condition) (walk w inner call None body l).seen (asked_are condition l (all_back Low (calls_of body) (calls_of condition) h))
      (walk_are None body l (all_front Low (calls_of body) (calls_of condition) h))
  walk_are labels (Statement.For first condition last body) s h =
      let l = lowered s (calls_in inner first ++ (calls_in inner condition ++ (calls_in inner last ++ calls_in inner body))) in
      let ends = all_back Low (calls_of first) (calls_of condition ++ (calls_of last ++ calls_of body)) h in
      let begin = walk w inner call None first l in
      let next = walk w inner call None last l in
      let inside = walk w inner call None body l in
      for_are (join_loop first condition last body) s (around l (asked w inner call l condition) (joined begin (joined next inside)))
      (both (asked w inner call l condition) (begin.seen ++ (next.seen ++ inside.seen))
      (asked_are condition l (all_front Low (calls_of condition) (calls_of last ++ calls_of body) ends))
      (both begin.seen (next.seen ++ inside.seen) (walk_are None first l (all_front Low (calls_of first) (calls_of condition ++ (calls_of last ++ calls_of body)) h))
      (boths next.seen inside.seen (calls_of last) (calls_of body) (all_back Low (calls_of condition) (calls_of last ++ calls_of body) ends) (walk_are None last l)
      (walk_are None body l))))
  walk_are labels (Statement.Switch offset ty operand body) s h =
      let l = lowered s (calls_in inner body) in
      both (reads w l offset (expression_globals operand)) (walk w inner call (Some l) body l).seen (accesses w l offset false (expression_globals operand)) (walk_are (Some l) body l h)
  walk_are labels (Statement.Label value operators) s h = tt
  walk_are labels Statement.Break s h = tt
  walk_are labels Statement.Continue s h = tt
  walk_are labels (Statement.Return offset right) s h = return_are offset right s
  walk_are labels (Statement.Print offset format arguments) s h = accesses w s offset false (expressions_globals arguments)
  walk_are labels (Statement.Thread offset c) s h = accesses w s offset false (thread_call_globals c)

-- ---- a function of a rank below the depth

all_contained : (Q : ℕ → Type 0) (xs : List ℕ) → ((x : ℕ) → Contains xs x → Q x) → AllByRecursion Q xs
all_contained Q [] h = tt
all_contained Q (x ∷ xs) h = (h x (0, omega arith, refl), all_contained Q xs (λ y k. h y (suc k.0, (let less = k.1 in omega (arith, less)), k.2)))

module _ (w : Walker) (functions : List Function) (acyclic : IsAcyclic functions) where
  within_are : (depth f : ℕ) (s : Sets) → acyclic.rank f < depth → AreAccesses (walk_within w functions depth f s).seen
  within_are zero f s less = absurd (omega (arith, less))
  within_are (suc depth) f s less = go (slice_get functions f) refl (λ g lower t. within_are depth g t lower)
    where
      low : (code : Function) → slice_get functions f ≡ Some code → AllByRecursion (λ g. acyclic.rank g < depth) (calls_of code.body)
      low code found =
          all_contained (λ g. acyclic.rank g < depth) (calls_of code.body)
          (λ g called. let falls = acyclic.falls f g (record { code = code; found = found; called = called }) in omega (arith, falls, less))

      go : (o : Option Function) → slice_get functions f ≡ o → ((g : ℕ) → acyclic.rank g < depth → (t : Sets) → AreAccesses (walk_within w functions depth g t).seen) →
          AreAccesses (walk_code w (calls_within functions depth) (walk_within w functions depth) o s).seen
      go None found again = tt
      go (Some code) found again =
          walk_are w (calls_within functions depth) (walk_within w functions depth) (λ g. acyclic.rank g < depth) again None code.body s (low code found)

-- ---- main and the start routines

inside : (fs : List Function) (k : ℕ) (c : Function) → slice_get fs k ≡ Some c → k < length fs
inside [] k c e = absurd cc
inside (f ∷ fs) zero c e = omega arith
inside (f ∷ fs) (suc k) c e = let rest = inside fs k c e in omega (arith, rest)

in_order : (n from top : ℕ) → from + n ≤ top → AllByRecursion (λ x. x < top) (range_with_len from n)
in_order zero from top below = tt
in_order (suc n) from top below = (omega (arith, below), in_order n (from + 1) top (omega (arith, below)))

filtered : (Q : ℕ → Type 0) (p : ℕ → Bool) (xs : List ℕ) → AllByRecursion Q xs → AllByRecursion Q (filter p xs)
filtered Q p [] h = tt
filtered Q p (x ∷ xs) h = go (p x) (filtered Q p xs h.1)
  where
    go : (b : Bool) → AllByRecursion Q (filter p xs) → AllByRecursion Q (cond b (x ∷ filter p xs) (filter p xs))
    go true rest = (h.0, rest)
    go false rest = rest

none_deep : (xs : List Seen) → AreAccesses xs → list_any is_too_deep xs ≡ false
none_deep [] h = refl
none_deep (Touches a ∷ xs) h = none_deep xs h.1
none_deep (TooDeep ∷ xs) h = absurd h.0

module _ (P : Program) (resolved : IsResolved P) where
  walked_are : (main : Bool) (f : ℕ) → f < length P.functions → AreAccesses (walked P main f)
  walked_are main f less = within_are _ P.functions resolved.acyclic (length P.functions) f _ (resolved.acyclic.below f less)

  routines_are : (fs : List ℕ) → AllByRecursion (λ f. f < length P.functions) fs → AreAccesses (flat_map (walked P false) fs)
  routines_are [] h = tt
  routines_are (f ∷ fs) h = both (walked P false f) (flat_map (walked P false) fs) (walked_are false f h.0) (routines_are fs h.1)

pub none_too_deep : NoneTooDeep
none_too_deep P resolved =
    none_deep (all_seen P)
    (both (walked P true P.main) (flat_map (walked P false) (routines P)) (walked_are P resolved true P.main (inside P.functions P.main resolved.main.code resolved.main.found))
    (routines_are P resolved (routines P) (filtered (λ f. f < length P.functions) (is_routine P.threads) (range_with_len 0 (length P.functions))
    (in_order (length P.functions) 0 (length P.functions) (omega arith)))))
