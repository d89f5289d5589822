-- What is surely so before a statement, and what no pthread call in it takes out, is so behind it and at its returns.
use Rattle.std.proofs.Common.{ℕ, zero, suc, List, ◌++◌}
use Rattle.std.specs.Prelude.{Option, Some, None, slice_get}
use Rattle.lists.proofs.Places.{all_front, all_back}
use Rattle.c_program.specs.Tree.{Expression, ObjectPlace, ThreadCall, Statement, Function}
use Rattle.lock_discipline.specs.Sets.{Sets, meet_of, meet_with, lowered}
use Rattle.lock_discipline.specs.Walk.{Passed, Walker, around, asked, at_label, calls_in, calls_of_code, calls_within}
use Rattle.lock_discipline.specs.Walk.{join_loop, joined, walk, walk_asked, walk_call, walk_return, walk_for, walk_code, walk_within}
use Rattle.lock_discipline.proofs.Order.{IsBelow, below_meet, Spares, AreSpared, keeps_past, keeps_lowered}

abbrev pub IsBelowIfAny : Sets → Option Sets → Type 0
IsBelowIfAny l None = Unit {0}
IsBelowIfAny l (Some s) = IsBelow l s

below_meet_of : (l : Sets) (a b : Option Sets) → IsBelowIfAny l a → IsBelowIfAny l b → IsBelowIfAny l (meet_of a b)
below_meet_of l None b p q = q
below_meet_of l (Some a) None p q = p
below_meet_of l (Some a) (Some b) p q = below_meet l a b p q

below_meet_with : (l end : Sets) (returns : Option Sets) → IsBelow l end → IsBelowIfAny l returns → IsBelow l (meet_with end returns)
below_meet_with l end None p q = p
below_meet_with l end (Some returns) p q = below_meet l end returns p q

-- behind it and at its returns
abbrev pub Keeps : Sets → Passed → Type 0
Keeps l x = IsBelow l x.after × IsBelowIfAny l x.returns

module _ (w : Walker) (inner : ℕ → List ThreadCall) (call : ℕ → Sets → Passed) (l : Sets)
    (callee : (g : ℕ) (s : Sets) → IsBelow l s → AreSpared l (inner g) → IsBelow l (call g s).after) where
  keeps_for : (o : Option ℕ) (s : Sets) (loop : Passed) → IsBelow l s → Keeps l loop → Keeps l (walk_for w inner call o s loop)
  keeps_for None s loop p k = k
  keeps_for (Some t) s loop p k = (keeps_past l s (ThreadCall.Join (ObjectPlace.Single t)) p tt, tt)

  keeps_asked : (st : Statement) (s : Sets) → IsBelow l s → AreSpared l (calls_in inner st) → Keeps l (walk_asked w inner call st s)
  keeps_asked st s p q = (keeps_lowered l s (calls_in inner st) p q, tt)

  keeps_call : (offset : ℕ) (into : Option ℕ) (g : ℕ) (arguments : List Expression) (s : Sets) → IsBelow l s → AreSpared l (inner g) →
      Keeps l (walk_call w inner call offset into g arguments s)
  keeps_call offset None g arguments s p q = (callee g s p q, tt)
  keeps_call offset (Some slot) g arguments s p q = keeps_asked (Statement.Call offset (Some slot) g arguments) s p q

  keeps_return : (offset : ℕ) (right : Option Expression) (s : Sets) → IsBelow l s → Keeps l (walk_return w inner call offset right s)
  keeps_return offset None s p = (p, p)
  keeps_return offset (Some e) s p = (p, p)

  keeps_label : (labels : Option Sets) (s : Sets) → IsBelowIfAny l labels → IsBelow l s → IsBelow l (at_label labels s)
  keeps_label None s b p = p
  keeps_label (Some labels) s b p = b

  pub keeps : (labels : Option Sets) (st : Statement) (s : Sets) → IsBelowIfAny l labels → IsBelow l s → AreSpared l (calls_in inner st) →
      Keeps l (walk w inner call labels st s)
  keeps labels Statement.Done s x p q = (p, tt)
  keeps labels (Statement.Sequence first rest) s x p q =
      let a = keeps labels first s x p (all_front (Spares l) (calls_in inner first) (calls_in inner rest) q) in
      let t = walk w inner call labels first s in
      let b = keeps labels rest t.after x a.0 (all_back (Spares l) (calls_in inner first) (calls_in inner rest) q) in
      (b.0, below_meet_of l t.returns (walk w inner call labels rest t.after).returns a.1 b.1)
  keeps labels Statement.Empty s x p q = (p, tt)
  keeps labels (Statement.Block body) s x p q = keeps None body s tt p q
  keeps labels (Statement.Declare offset local operators) s x p q = (p, tt)
  keeps labels (Statement.Assign offset place right) s x p q = (p, tt)
  keeps labels (Statement.Update offset place operator ty right) s x p q = (p, tt)
  keeps labels (Statement.Call offset into g arguments) s x p q = keeps_call offset into g arguments s p q
  keeps labels (Statement.Keep offset slot ty operand) s x p q = keeps_asked (Statement.Keep offset slot ty operand) s p q
  keeps labels (Statement.Truth slot condition) s x p q = keeps_asked (Statement.Truth slot condition) s p q
  keeps labels (Statement.Test offset operand) s x p q = keeps_asked (Statement.Test offset operand) s p q
  keeps labels (Statement.Both first second) s x p q = keeps_asked (Statement.Both first second) s p q
  keeps labels (Statement.Either first second) s x p q = keeps_asked (Statement.Either first second) s p q
  keeps labels (Statement.Opposite condition) s x p q = keeps_asked (Statement.Opposite condition) s p q
  keeps labels (Statement.If condition consequent alternative) s x p q =
      let ways = calls_in inner consequent ++ calls_in inner alternative in
      let m = lowered s (calls_in inner condition) in
      let r = keeps_lowered l s (calls_in inner condition) p (all_front (Spares l) (calls_in inner condition) ways q) in
      let back = all_back (Spares l) (calls_in inner condition) ways q in
      let a = keeps None consequent m tt r (all_front (Spares l) (calls_in inner consequent) (calls_in inner alternative) back) in
      let b = keeps None alternative m tt r (all_back (Spares l) (calls_in inner consequent) (calls_in inner alternative) back) in (
        below_meet l (walk w inner call None consequent m).after (walk w inner call None alternative m).after a.0 b.0,
        below_meet_of l (walk w inner call None consequent m).returns (walk w inner call None alternative m).returns a.1 b.1,
      )
  keeps labels (Statement.While condition body) s x p q =
      let calls = calls_in inner condition ++ calls_in inner body in
      let r = keeps_lowered l s calls p q in
      (r, (keeps None body (lowered s calls) tt r (all_back (Spares l) (calls_in inner condition) (calls_in inner body) q)).1)
  keeps labels (Statement.DoWhile body condition) s x p q =
      let calls = calls_in inner body ++ calls_in inner condition in
      let r = keeps_lowered l s calls p q in
      (r, (keeps None body (lowered s calls) tt r (all_front (Spares l) (calls_in inner body) (calls_in inner condition) q)).1)
  keeps labels (Statement.For first condition last body) s x p q =
      let ends = calls_in inner last ++ calls_in inner body in
      let m = lowered s (calls_in inner first ++ (calls_in inner condition ++ ends)) in
      let r = keeps_lowered l s (calls_in inner first ++ (calls_in inner condition ++ ends)) p q in
      let front = all_front (Spares l) (calls_in inner first) (calls_in inner condition ++ ends) q in
      let back = all_back (Spares l) (calls_in inner condition) ends (all_back (Spares l) (calls_in inner first) (calls_in inner condition ++ ends) q) in
      let a = keeps None first m tt r front in
      let b = keeps None last m tt r (all_front (Spares l) (calls_in inner last) (calls_in inner body) back) in
      let c = keeps None body m tt r (all_back (Spares l) (calls_in inner last) (calls_in inner body) back) in
      keeps_for (join_loop first condition last body) s
      (around m (asked w inner call m condition) (joined (walk w inner call None first m) (joined (walk w inner call None last m) (walk w inner call None body m)))) p (
        r,
        below_meet_of l (walk w inner call None first m).returns (meet_of (walk w inner call None last m).returns (walk w inner call None body m).returns) a.1
            (below_meet_of l (walk w inner call None last m).returns (walk w inner call None body m).returns b.1 c.1),
      )
  keeps labels (Statement.Switch offset ty operand body) s x p q =
      let m = lowered s (calls_in inner body) in
      let r = keeps_lowered l s (calls_in inner body) p q in
      (r, (keeps (Some m) body m r r q).1)
  keeps labels (Statement.Label value operators) s x p q = (keeps_label labels s x p, tt)
  keeps labels Statement.Break s x p q = (p, tt)
  keeps labels Statement.Continue s x p q = (p, tt)
  keeps labels (Statement.Return offset right) s x p q = keeps_return offset right s p
  keeps labels (Statement.Print offset format arguments) s x p q = (p, tt)
  keeps labels (Statement.Thread offset made) s x p q = (keeps_past l s made p q.0, tt)

-- a call, however deep
pub keeps_within : (w : Walker) (functions : List Function) (depth g : ℕ) (l s : Sets) → IsBelow l s → AreSpared l (calls_within functions depth g) →
    IsBelow l (walk_within w functions depth g s).after
keeps_within w functions zero g l s p q = p
keeps_within w functions (suc depth) g l s p q = go (slice_get functions g) q (λ h t. keeps_within w functions depth h l t)
  where
    go : (o : Option Function) → AreSpared l (calls_of_code (calls_within functions depth) o) →
        ((h : ℕ) (t : Sets) → IsBelow l t → AreSpared l (calls_within functions depth h) → IsBelow l (walk_within w functions depth h t).after) →
        IsBelow l (walk_code w (calls_within functions depth) (walk_within w functions depth) o s).after
    go None r callee = p
    go (Some code) r callee =
        let k = keeps w (calls_within functions depth) (walk_within w functions depth) l callee None code.body s tt p r in
        below_meet_with l (walk w (calls_within functions depth) (walk_within w functions depth) None code.body s).after
        (walk w (calls_within functions depth) (walk_within w functions depth) None code.body s).returns k.0 k.1
