-- What statements and blocks give.
use Rattle.std.proofs.Common.{inl, inr, ℕ, List, ◌++◌, length, arith}
use Rattle.std.specs.Prelude.{◌+◌, max, Contains}
use Rattle.std.specs.List.{AllByRecursion}
use Rattle.std.proofs.lemmas.List.Elements.{Contains-append_cases}
use Rattle.lists.proofs.Places.{in_none}
use Rattle.c_program.specs.Tree.{Statement, Function, Program}
use Rattle.c_program.specs.Calls.{calls_of}
use Rattle.c_program.specs.Weight.{statement_weight}
use Rattle.c_program.specs.Resolved as r
use Rattle.c_rules.specs.declared.findings.Findings.{Findings}
use Rattle.c_expressions.specs.Sequences.{sequence}
use Rattle.c_resolution.specs.Slots.{slots_end}
use Rattle.c_resolution.specs.Statements as y
use Rattle.c_resolved_program.specs.Orders.{IsInOrder, IsAsked, IsFoundCreation, IsPointerAt}
use Rattle.c_resolved_program.proofs.Walks.{both_found}
use Rattle.c_resolved_program.proofs.Maxima.{first_of_max, second_of_max, max_of_both}
use Rattle.c_resolved_program.proofs.Neighbours as n

-- ---- statements that are made of statements

-- what is found of two statements is found of both
module _ (whole : Findings) (P : Program) (number : ℕ) (f : Function) where
  abbrev InOrder : r.Around → Statement → Type 0
  InOrder a x = IsInOrder whole P number f a x

  -- how many locals there are, and how many a statement uses at most
  abbrev locals : ℕ
  locals = length f.locals

  abbrev most : Statement → ℕ
  most x = f.declared_locals + (statement_weight x + 3)

  abbrev pub Asked : Statement → Type 0
  Asked c = IsAsked whole P number f f.declared_locals c

  abbrev Created : List (ℕ × ℕ) → Type 0
  Created list = (thread routine : ℕ) → Contains list (thread, routine) → IsPointerAt P routine × IsFoundCreation whole thread routine

  both_created : (xs ys : List (ℕ × ℕ)) → Created xs → Created ys → Created (xs ++ ys)
  both_created xs ys h k thread routine inside =
      elim (Contains-append_cases xs ys (thread, routine) inside) [
        | inl first ↦ h thread routine first
        | inr later ↦ k thread routine later
      ]

  pub sequence_of : (b : r.Around) (first rest : Statement) → InOrder b first → InOrder b rest → InOrder b (Statement.Sequence first rest)
  sequence_of b first rest h k = record {
    is = λ fit. (h.is (first_of_max (slots_end first) (slots_end rest) locals fit), k.is (second_of_max (slots_end first) (slots_end rest) locals fit));
    few =
        (let one = h.few in
        let two = k.few in
        max_of_both (slots_end first) (slots_end rest) (most (Statement.Sequence first rest)) (omega (arith, one)) (omega (arith, two)));
    calls = both_found whole number (calls_of first) (calls_of rest) h.calls k.calls;
    creates = both_created (r.creates_of first) (r.creates_of rest) h.creates k.creates;
  }

  -- ---- statements one after another

  abbrev All : r.Around → List Statement → Type 0
  All b xs = AllByRecursion (InOrder b) xs

  pub nothing_in_order : (b : r.Around) → InOrder b Statement.Done
  nothing_in_order b = record {
    is = λ _. tt;
    few = omega arith;
    calls = λ callee inside. absurd (in_none callee inside);
    creates = λ thread routine inside. absurd (in_none (thread, routine) inside);
  }

  pub sequence_is : (b : r.Around) (list : List Statement) → All b list → InOrder b (sequence list)
  sequence_is b list all = n.sequence_is (InOrder b) (nothing_in_order b) (sequence_of b) list all

  -- ---- statements by their parts

  pub block_is : (b : r.Around) (body : Statement) → InOrder (r.within b) body → InOrder b (y.block_of body)
  block_is b body h = record { is = h.is; few = (let few = h.few in omega (arith, few)); calls = h.calls; creates = h.creates }

  pub if_is : (b : r.Around) (c : Statement) (x z : Statement) → Asked c → InOrder (r.within b) x → InOrder (r.within b) z → InOrder b (y.if_of c x z)
  if_is b c x z is h k = record {
    is = λ fit.
        let both = max (slots_end x) (slots_end z) in
        let rest = second_of_max (slots_end c) both locals fit in (
          is.is (first_of_max (slots_end c) both locals fit),
          h.is (first_of_max (slots_end x) (slots_end z) locals rest),
          k.is (second_of_max (slots_end x) (slots_end z) locals rest),
        );
    few =
        (let m = most (y.if_of c x z) in
        let zero = is.few in
        let one = h.few in
        let two = k.few in
        max_of_both (slots_end c) (max (slots_end x) (slots_end z)) m (omega (arith, zero)) (max_of_both (slots_end x) (slots_end z) m (omega (arith, one)) (omega (arith, two))));
    calls = both_found whole number (calls_of c) (calls_of x ++ calls_of z) is.calls (both_found whole number (calls_of x) (calls_of z) h.calls k.calls);
    creates = both_created (r.creates_of x) (r.creates_of z) h.creates k.creates;
  }

  pub while_is : (b : r.Around) (c : Statement) (x : Statement) → Asked c → InOrder r.in_loop x → InOrder b (y.while_of c x)
  while_is b c x is h = record {
    is = λ fit. (is.is (first_of_max (slots_end c) (slots_end x) locals fit), h.is (second_of_max (slots_end c) (slots_end x) locals fit));
    few =
        (let zero = is.few in
        let one = h.few in
        max_of_both (slots_end c) (slots_end x) (most (y.while_of c x)) (omega (arith, zero)) (omega (arith, one)));
    calls = both_found whole number (calls_of c) (calls_of x) is.calls h.calls;
    creates = h.creates;
  }

  pub do_while_is : (b : r.Around) (x : Statement) (c : Statement) → InOrder r.in_loop x → Asked c → InOrder b (y.do_while_of x c)
  do_while_is b x c h is = record {
    is = λ fit. (h.is (first_of_max (slots_end x) (slots_end c) locals fit), is.is (second_of_max (slots_end x) (slots_end c) locals fit));
    few =
        (let zero = is.few in
        let one = h.few in
        max_of_both (slots_end x) (slots_end c) (most (y.do_while_of x c)) (omega (arith, one)) (omega (arith, zero)));
    calls = both_found whole number (calls_of x) (calls_of c) h.calls is.calls;
    creates = h.creates;
  }

  -- what the head of a for has
  abbrev pub IsHead : y.Head → Type 0
  IsHead head = InOrder r.nowhere head.0 × Asked head.1 × InOrder r.nowhere head.2

  pub for_is : (b : r.Around) (head : y.Head) (body : Statement) → IsHead head → InOrder r.in_loop body → InOrder b (y.for_of head body)
  for_is b head body h k = record {
    is = λ fit.
        let two = max (slots_end head.2) (slots_end body) in
        let three = max (slots_end head.1) two in
        let later = second_of_max (slots_end head.0) three locals fit in
        let last = second_of_max (slots_end head.1) two locals later in (
          h.0.is (first_of_max (slots_end head.0) three locals fit),
          h.1.is (first_of_max (slots_end head.1) two locals later),
          h.2.is (first_of_max (slots_end head.2) (slots_end body) locals last),
          k.is (second_of_max (slots_end head.2) (slots_end body) locals last),
        );
    few =
        (let m = most (y.for_of head body) in
        let f0 = h.0.few in
        let f1 = h.1.few in
        let f2 = h.2.few in
        let f3 = k.few in
        max_of_both (slots_end head.0) (max (slots_end head.1) (max (slots_end head.2) (slots_end body))) m (omega (arith, f0))
        (max_of_both (slots_end head.1) (max (slots_end head.2) (slots_end body)) m (omega (arith, f1))
        (max_of_both (slots_end head.2) (slots_end body) m (omega (arith, f2)) (omega (arith, f3)))));
    calls =
        both_found whole number (calls_of head.0) (calls_of head.1 ++ (calls_of head.2 ++ calls_of body)) h.0.calls
        (both_found whole number (calls_of head.1) (calls_of head.2 ++ calls_of body) h.1.calls
        (both_found whole number (calls_of head.2) (calls_of body) h.2.calls k.calls));
    creates =
        both_created (r.creates_of head.0) (r.creates_of head.2 ++ r.creates_of body) h.0.creates
        (both_created (r.creates_of head.2) (r.creates_of body) h.2.creates k.creates);
  }

  -- ---- switches

  -- a statement that is no label may stand where labels may
  labelled : (a : r.Around) (x : Statement) → r.IsStatement P f (r.within a) x → r.IsStatement P f a x
  labelled a Statement.Done is = tt
  labelled a (Statement.Sequence first rest) is = (labelled a first is.0, labelled a rest is.1)
  labelled a Statement.Empty is = tt
  labelled a (Statement.Block body) is = is
  labelled a (Statement.Declare offset local operators) is = is
  labelled a (Statement.Assign offset place right) is = is
  labelled a (Statement.Update offset place operator ty right) is = is
  labelled a (Statement.Call offset into callee arguments) is = is
  labelled a (Statement.Keep offset slot ty operand) is = is
  labelled a (Statement.Truth slot condition) is = is
  labelled a (Statement.Test offset operand) is = absurd is
  labelled a (Statement.Both first second) is = absurd is
  labelled a (Statement.Either first second) is = absurd is
  labelled a (Statement.Opposite inner) is = absurd is
  labelled a (Statement.If condition x z) is = is
  labelled a (Statement.While condition body) is = is
  labelled a (Statement.DoWhile body condition) is = is
  labelled a (Statement.For first condition last body) is = is
  labelled a (Statement.Switch offset ty operand body) is = is
  labelled a (Statement.Label value operators) is = absurd is
  labelled a Statement.Break is = is
  labelled a Statement.Continue is = is
  labelled a (Statement.Return offset right) is = is
  labelled a (Statement.Print offset format arguments) is = is
  labelled a (Statement.Thread offset call) is = is

  pub labelled_is : (a : r.Around) (x : Statement) → InOrder (r.within a) x → InOrder a x
  labelled_is a x h = record { is = λ fit. labelled a x (h.is fit); few = h.few; calls = h.calls; creates = h.creates }
