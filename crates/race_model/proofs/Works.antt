-- What a thread has still to do in a resolved program: statements and conditions of its function, in an order in which the first
-- item takes a step, and what waits for a truth stands behind a condition.
use Rattle.std.proofs.Common.{◌≡◌, List, [], ◌∷◌}
use Rattle.std.specs.Prelude.{Bool, true, false, ℤ, Option, Some, None, if◌then◌else◌, slice_get}
use Rattle.c_program.specs.Tree.{Statement, Function, Program}
use Rattle.c_program.specs.Resolved.{IsCut, IsCondition, IsStatement, Around, nowhere, in_loop, within}
use Rattle.thread_semantics.specs.Work.{Loop, Act, Work, Going, in_order, in_loop as loop_way, asked, while_loop, for_loop, opened, next_turn, settled, decided}
use Rattle.thread_semantics.specs.Work.{Onward, Leaving, Turning, same_label, or_else, from_label, went, switched}

-- the routine of a create is a function of the program
abbrev pub IsAct : Program → Act → Type 0
IsAct P (Act.Create routine) = (code : Function) × (slice_get P.functions routine ≡ Some code)
IsAct P act = Unit {0}

-- a statement that takes a step by itself
abbrev pub TakesStep : Statement → Type 0
TakesStep (Statement.Declare offset x operators) = Unit {0}
TakesStep (Statement.Assign offset place right) = Unit {0}
TakesStep (Statement.Update offset place operator ty right) = Unit {0}
TakesStep (Statement.Call offset into g arguments) = Unit {0}
TakesStep (Statement.Keep offset slot ty operand) = Unit {0}
TakesStep (Statement.Test offset operand) = Unit {0}
TakesStep (Statement.Switch offset ty operand body) = Unit {0}
TakesStep (Statement.Return offset right) = Unit {0}
TakesStep (Statement.Print offset format arguments) = Unit {0}
TakesStep (Statement.Thread offset call) = Unit {0}
TakesStep statement = ⊥

-- only work before which no truth is waited for is gone through in order
abbrev pub May : Bool → Going → Type 0
May false going = Unit {0}
May true Onward = ⊥
May true Leaving = Unit {0}
May true Turning = Unit {0}

-- the first item takes a step
abbrev pub BeginsStep : List Work → Type 0
BeginsStep [] = Unit {0}
BeginsStep (Work.Do statement ∷ k) = TakesStep statement
BeginsStep (Work.Perform offset act ∷ k) = Unit {0}
BeginsStep (item ∷ k) = ⊥

module _ (P : Program) (f : Function) where
  -- a part of the function that comes to a truth, or a statement
  abbrev pub IsPart : Bool → Statement → Type 0
  IsPart true s = IsCondition P f s
  IsPart false s = (a : Around) × IsStatement P f a s

  pub record IsLoop (loop : Loop) : Type 0 where
    pub condition : IsCondition P f loop.condition
    pub last : IsPart false loop.last
    pub body : IsPart false loop.body

  -- work before which a truth is waited for, or isn't
  abbrev pub AreWork : Bool → List Work → Type 0
  AreWork false [] = Unit {0}
  AreWork false (Work.Do statement ∷ k) = (truth : Bool) × IsPart truth statement × AreWork truth k
  AreWork false (Work.Next loop ∷ k) = IsLoop loop × AreWork false k
  AreWork false (Work.Past ∷ k) = AreWork false k
  AreWork false (Work.Perform offset act ∷ k) = IsAct P act × AreWork false k
  AreWork true (Work.ThenBoth second ∷ k) = IsCondition P f second × AreWork true k
  AreWork true (Work.ThenEither second ∷ k) = IsCondition P f second × AreWork true k
  AreWork true (Work.ThenOpposite ∷ k) = AreWork true k
  AreWork true (Work.Choose consequent alternative ∷ k) = IsPart false consequent × IsPart false alternative × AreWork false k
  AreWork true (Work.Turn loop ∷ k) = IsLoop loop × AreWork false k
  AreWork true (Work.Note slot ∷ k) = AreWork false k
  AreWork waits k = ⊥

  abbrev pub IsReady : List Work → Type 0
  IsReady k = AreWork false k × BeginsStep k

  -- the work of a call that waits for another one
  abbrev pub IsWaiting : List Work → Type 0
  IsWaiting (Work.Take into ∷ k) = AreWork false k
  IsWaiting k = ⊥

  in_order_is : (w : Bool) (going : Going) (next : List Work) (rest : Going → List Work) → May w going → IsReady next → ((g : Going) → IsReady (rest g)) →
      IsReady (in_order going next rest)
  in_order_is w Onward next rest m n h = n
  in_order_is w Leaving next rest m n h = h Leaving
  in_order_is w Turning next rest m n h = h Turning

  -- the same where work that goes on in order is not what is rested on
  in_order_but : (going : Going) (next : List Work) (rest : Going → List Work) → IsReady next → ((g : Going) → May true g → IsReady (rest g)) →
      IsReady (in_order going next rest)
  in_order_but Onward next rest n h = n
  in_order_but Leaving next rest n h = h Leaving tt
  in_order_but Turning next rest n h = h Turning tt

  loop_way_is : (going : Going) (turn : List Work) (rest : Going → List Work) → IsReady turn → ((g : Going) → IsReady (rest g)) → IsReady (loop_way going turn rest)
  loop_way_is Onward turn rest t h = t
  loop_way_is Leaving turn rest t h = h Onward
  loop_way_is Turning turn rest t h = t

  may_leave : (w : Bool) → May w Leaving
  may_leave true = tt
  may_leave false = tt

  may_turn : (w : Bool) → May w Turning
  may_turn true = tt
  may_turn false = tt

  -- a cut is a statement
  cut_is : (s : Statement) → IsCut P f s → IsStatement P f nowhere s
  cut_is Statement.Done c = tt
  cut_is (Statement.Sequence first rest) c = (cut_is first c.0, cut_is rest c.1)
  cut_is (Statement.Call offset (Some slot) callee arguments) c = c
  cut_is (Statement.Keep offset slot ty operand) c = c
  cut_is (Statement.Truth slot condition) c = c
  cut_is (Statement.If condition consequent alternative) c = (c.0, cut_is consequent c.1, cut_is alternative c.2)
  cut_is statement c = absurd c

  mutual
    condition_is : (s : Statement) (k : List Work) (rest : Going → List Work) → IsCondition P f s → AreWork true k → ((g : Going) → May true g → IsReady (rest g)) →
        IsReady (opened s k rest)
    condition_is (Statement.Sequence first next) k rest c w h =
        statement_is first nowhere (Work.Do next ∷ k) (λ going. in_order going (opened next k rest) rest) (cut_is first c.0) (true, c.1, w)
        (λ going. in_order_but going (opened next k rest) rest (condition_is next k rest c.1 w h) h)
    condition_is (Statement.Test offset operand) k rest c w h = ((true, c, w), tt)
    condition_is (Statement.Both first second) k rest c w h = condition_is first (Work.ThenBoth second ∷ k) rest c.0 (c.1, w) h
    condition_is (Statement.Either first second) k rest c w h = condition_is first (Work.ThenEither second ∷ k) rest c.0 (c.1, w) h
    condition_is (Statement.Opposite inner) k rest c w h = condition_is inner (Work.ThenOpposite ∷ k) rest c w h
    condition_is statement k rest c w h = absurd c

    statement_is : (s : Statement) (a : Around) (k : List Work) (rest : Going → List Work) → IsStatement P f a s → AreWork false k → ((g : Going) → IsReady (rest g)) →
        IsReady (opened s k rest)
    statement_is Statement.Done a k rest s w h = h Onward
    statement_is Statement.Empty a k rest s w h = h Onward
    statement_is (Statement.Label value operators) a k rest s w h = h Onward
    statement_is Statement.Break a k rest s w h = h Leaving
    statement_is Statement.Continue a k rest s w h = h Turning
    statement_is (Statement.Block body) a k rest s w h = statement_is body (within a) k rest s w h
    statement_is (Statement.Sequence first next) a k rest s w h =
        statement_is first a (Work.Do next ∷ k) (λ going. in_order going (opened next k rest) rest) s.0 (false, (a, s.1), w)
        (λ going. in_order_is false going (opened next k rest) rest tt (statement_is next a k rest s.1 w h) h)
    statement_is (Statement.Truth slot condition) a k rest s w h = condition_is condition (Work.Note slot ∷ k) rest s.2 w (λ g m. h g)
    statement_is (Statement.Test offset operand) a k rest s w h = absurd s
    statement_is (Statement.Both first second) a k rest s w h = absurd s
    statement_is (Statement.Either first second) a k rest s w h = absurd s
    statement_is (Statement.Opposite inner) a k rest s w h = absurd s
    statement_is (Statement.If condition consequent alternative) a k rest s w h =
        condition_is condition (Work.Choose consequent alternative ∷ k) rest s.0 ((within a, s.1), (within a, s.2), w) (λ g m. h g)
    statement_is (Statement.While condition body) a k rest s w h =
        condition_is condition (Work.Turn (while_loop condition body) ∷ k) rest s.0
        (record { condition = s.0; last = (nowhere, tt); body = (in_loop, s.1) }, w) (λ g m. h g)
    statement_is (Statement.DoWhile body condition) a k rest s w h =
        let l : IsLoop (while_loop condition body) = record { condition = s.1; last = (nowhere, tt); body = (in_loop, s.0) } in
        statement_is body in_loop (Work.Next (while_loop condition body) ∷ k)
        (λ going. loop_way going (opened condition (Work.Turn (while_loop condition body) ∷ k) rest) rest) s.0 (l, w)
        (λ going. loop_way_is going (opened condition (Work.Turn (while_loop condition body) ∷ k) rest) rest
        (condition_is condition (Work.Turn (while_loop condition body) ∷ k) rest s.1 (l, w) (λ g m. h g)) h)
    statement_is (Statement.For first condition last body) a k rest s w h =
        let l : IsLoop (for_loop condition last body) = record { condition = s.1; last = (nowhere, s.2); body = (in_loop, s.3) } in
        statement_is first nowhere (Work.Do condition ∷ Work.Turn (for_loop condition last body) ∷ k)
        (λ going. in_order going (opened condition (Work.Turn (for_loop condition last body) ∷ k) rest) rest) s.0 (true, s.1, (l, w))
        (λ going. in_order_is false going (opened condition (Work.Turn (for_loop condition last body) ∷ k) rest) rest tt
        (condition_is condition (Work.Turn (for_loop condition last body) ∷ k) rest s.1 (l, w) (λ g m. h g)) h)
    statement_is (Statement.Declare offset x operators) a k rest s w h = ((false, (a, s), w), tt)
    statement_is (Statement.Assign offset place right) a k rest s w h = ((false, (a, s), w), tt)
    statement_is (Statement.Update offset place operator ty right) a k rest s w h = ((false, (a, s), w), tt)
    statement_is (Statement.Call offset into g arguments) a k rest s w h = ((false, (a, s), w), tt)
    statement_is (Statement.Keep offset slot ty operand) a k rest s w h = ((false, (a, s), w), tt)
    statement_is (Statement.Switch offset ty operand body) a k rest s w h = ((false, (a, s), w), tt)
    statement_is (Statement.Return offset right) a k rest s w h = ((false, (a, s), w), tt)
    statement_is (Statement.Print offset format arguments) a k rest s w h = ((false, (a, s), w), tt)
    statement_is (Statement.Thread offset call) a k rest s w h = ((false, (a, s), w), tt)

  -- work that begins with a part of the function
  part_is : (truth : Bool) (s : Statement) (k : List Work) (rest : Going → List Work) → IsPart truth s → AreWork truth k → ((g : Going) → May truth g → IsReady (rest g)) →
      IsReady (opened s k rest)
  part_is true s k rest p w h = condition_is s k rest p w h
  part_is false s k rest p w h = statement_is s p.0 k rest p.1 w (λ g. h g tt)

  asked_is : (loop : Loop) (k : List Work) (rest : Going → List Work) → IsLoop loop → AreWork false k → ((g : Going) → IsReady (rest g)) → IsReady (asked loop k rest)
  asked_is loop k rest l w h = condition_is loop.condition (Work.Turn loop ∷ k) rest l.condition (l, w) (λ g m. h g)

  next_turn_is : (loop : Loop) (k : List Work) (rest : Going → List Work) → IsLoop loop → AreWork false k → ((g : Going) → IsReady (rest g)) → IsReady (next_turn loop k rest)
  next_turn_is loop k rest l w h =
      statement_is loop.last l.last.0 (Work.Do loop.condition ∷ Work.Turn loop ∷ k) (λ going. in_order going (asked loop k rest) rest) l.last.1
      (true, l.condition, (l, w))
      (λ going. in_order_is false going (asked loop k rest) rest tt (asked_is loop k rest l w h) h)

  settled_from : (waits : Bool) (going : Going) (k : List Work) → AreWork waits k → May waits going → IsReady (settled going k)
  settled_from false going [] w m = (tt, tt)
  settled_from true Leaving [] w m = absurd w
  settled_from true Turning [] w m = absurd w
  settled_from true Onward k w m = absurd m
  settled_from false Onward (Work.Do statement ∷ k) w m = part_is w.0 statement k (λ g. settled g k) w.1 w.2 (λ g n. settled_from w.0 g k w.2 n)
  settled_from false Onward (Work.Next loop ∷ k) w m = next_turn_is loop k (λ g. settled g k) w.0 w.1 (λ g. settled_from false g k w.1 tt)
  settled_from false Onward (Work.Past ∷ k) w m = settled_from false Onward k w tt
  settled_from false Onward (Work.Perform offset act ∷ k) w m = (w, tt)
  settled_from false Leaving (Work.Do statement ∷ k) w m = settled_from w.0 Leaving k w.2 (may_leave w.0)
  settled_from false Leaving (Work.Next loop ∷ k) w m = settled_from false Onward k w.1 tt
  settled_from false Leaving (Work.Past ∷ k) w m = settled_from false Onward k w tt
  settled_from false Leaving (Work.Perform offset act ∷ k) w m = settled_from false Leaving k w.1 tt
  settled_from true Leaving (Work.ThenBoth second ∷ k) w m = settled_from true Leaving k w.1 tt
  settled_from true Leaving (Work.ThenEither second ∷ k) w m = settled_from true Leaving k w.1 tt
  settled_from true Leaving (Work.ThenOpposite ∷ k) w m = settled_from true Leaving k w tt
  settled_from true Leaving (Work.Choose consequent alternative ∷ k) w m = settled_from false Leaving k w.2 tt
  settled_from true Leaving (Work.Turn loop ∷ k) w m = settled_from false Leaving k w.1 tt
  settled_from true Leaving (Work.Note slot ∷ k) w m = settled_from false Leaving k w tt
  settled_from false Turning (Work.Do statement ∷ k) w m = settled_from w.0 Turning k w.2 (may_turn w.0)
  settled_from false Turning (Work.Next loop ∷ k) w m = next_turn_is loop k (λ g. settled g k) w.0 w.1 (λ g. settled_from false g k w.1 tt)
  settled_from false Turning (Work.Past ∷ k) w m = settled_from false Turning k w tt
  settled_from false Turning (Work.Perform offset act ∷ k) w m = settled_from false Turning k w.1 tt
  settled_from true Turning (Work.ThenBoth second ∷ k) w m = settled_from true Turning k w.1 tt
  settled_from true Turning (Work.ThenEither second ∷ k) w m = settled_from true Turning k w.1 tt
  settled_from true Turning (Work.ThenOpposite ∷ k) w m = settled_from true Turning k w tt
  settled_from true Turning (Work.Choose consequent alternative ∷ k) w m = settled_from false Turning k w.2 tt
  settled_from true Turning (Work.Turn loop ∷ k) w m = settled_from false Turning k w.1 tt
  settled_from true Turning (Work.Note slot ∷ k) w m = settled_from false Turning k w tt
  settled_from waits going (item ∷ k) w m = absurd w

  pub onward_is : (k : List Work) → AreWork false k → IsReady (settled Onward k)
  onward_is k w = settled_from false Onward k w tt

  pub decided_is : (truth : Bool) (k : List Work) → AreWork true k → IsReady (decided truth k)
  decided_is truth [] w = absurd w
  decided_is true (Work.ThenBoth second ∷ k) w = onward_is (Work.Do second ∷ k) (true, w.0, w.1)
  decided_is false (Work.ThenBoth second ∷ k) w = decided_is false k w.1
  decided_is true (Work.ThenEither second ∷ k) w = decided_is true k w.1
  decided_is false (Work.ThenEither second ∷ k) w = onward_is (Work.Do second ∷ k) (true, w.0, w.1)
  decided_is true (Work.ThenOpposite ∷ k) w = decided_is false k w
  decided_is false (Work.ThenOpposite ∷ k) w = decided_is true k w
  decided_is true (Work.Choose consequent alternative ∷ k) w = onward_is (Work.Do consequent ∷ k) (false, w.0, w.2)
  decided_is false (Work.Choose consequent alternative ∷ k) w = onward_is (Work.Do alternative ∷ k) (false, w.1, w.2)
  decided_is true (Work.Turn loop ∷ k) w = onward_is (Work.Do loop.body ∷ Work.Next loop ∷ k) (false, w.0.body, (w.0, w.1))
  decided_is false (Work.Turn loop ∷ k) w = onward_is k w.1
  decided_is true (Work.Note slot ∷ k) w = onward_is k w
  decided_is false (Work.Note slot ∷ k) w = onward_is k w
  decided_is truth (item ∷ k) w = absurd w

  -- ---- labels

  abbrev IfFound : Option (List Work) → Type 0
  IfFound None = Unit {0}
  IfFound (Some k) = AreWork false k

  or_else_is : (first second : Option (List Work)) → IfFound first → IfFound second → IfFound (or_else first second)
  or_else_is (Some k) second a b = a
  or_else_is None second a b = b

  label_is : (same : Bool) (k : List Work) → AreWork false k → IfFound (if same then Some k else None)
  label_is true k w = w
  label_is false k w = tt

  from_label_is : (label : Option ℤ) (s : Statement) (a : Around) (k : List Work) → IsStatement P f a s → AreWork false k → IfFound (from_label label s k)
  from_label_is label (Statement.Sequence first rest) a k s w =
      or_else_is (from_label label first (Work.Do rest ∷ k)) (from_label label rest k)
      (from_label_is label first a (Work.Do rest ∷ k) s.0 (false, (a, s.1), w)) (from_label_is label rest a k s.1 w)
  from_label_is label (Statement.Label value operators) a k s w = label_is (same_label label value) k w
  from_label_is label Statement.Done a k s w = tt
  from_label_is label statement a k s w = tt

  pub switched_is : (v : ℤ) (body : Statement) (a : Around) (k : List Work) → IsStatement P f a body → AreWork false k → IsReady (switched v body k)
  switched_is v body a k s w =
      go (or_else (from_label (Some v) body (Work.Past ∷ k)) (from_label None body (Work.Past ∷ k)))
      (or_else_is (from_label (Some v) body (Work.Past ∷ k)) (from_label None body (Work.Past ∷ k))
      (from_label_is (Some v) body a (Work.Past ∷ k) s w) (from_label_is None body a (Work.Past ∷ k) s w))
    where
      go : (o : Option (List Work)) → IfFound o → IsReady (went o k)
      go (Some work) q = onward_is work q
      go None q = onward_is k w
