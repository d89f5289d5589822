-- A definition that is in order is a function of a resolved program, and what is found of its calls is theirs.
use Rattle.std.proofs.Common.{◌≡◌, refl, sym, ap, subst, ◌∙◌, inl, inr, ℕ, ◌<◌, Bool, true, false, List, [], ◌∷◌, ◌++◌, length, Option, Some, None}
use Rattle.std.specs.Prelude.{Contains}
use Rattle.std.proofs.lemmas.Bool.{and_parts}
use Rattle.std.proofs.lemmas.Option.{slice_get_within}
use Rattle.std.proofs.lemmas.List.Elements.{Contains-append_cases}
use Rattle.lists.proofs.Places.{in_one, in_none}
use Rattle.c_program.specs.declared.tree.ReturnType.{ReturnType}
use Rattle.c_program.specs.declared.tree.ReturnType.TheVariants as returns_as
use Rattle.c_program.specs.Tree.{Expression, Statement, Function, Program}
use Rattle.c_program.specs.Calls.{calls_of}
use Rattle.c_program.specs.Resolved as r
use Rattle.c_rules.specs.declared.findings.Findings.{Findings}
use Rattle.c_rules.specs.declared.names.DeclaredType.{DeclaredType}
use Rattle.c_rules.specs.declared.names.Header.{Header}
use Rattle.c_rules.specs.Names.{is_start_routine, is_pointer_alone, is_void_pointer}
use Rattle.c_rules.specs.Walks.{place_in_tree}
use Rattle.c_resolved_program.specs.Gathered.{IsFound}
use Rattle.c_resolved_program.proofs.Arguments.{routine_returns}
use Rattle.c_resolved_program.proofs.Called.{no_pointer_by}
use Rattle.c_resolved_program.proofs.Definitions.{IsDefined}

-- ---- each function that is called is there

module _ (P : Program) (f : Function) where
  abbrev Inside : List ℕ → Type 0
  Inside list = (g : ℕ) → Contains list g → g < length P.functions

  none_inside : Inside []
  none_inside g inside = absurd (in_none g inside)

  both_inside : (xs ys : List ℕ) → Inside xs → Inside ys → Inside (xs ++ ys)
  both_inside xs ys h k g inside =
      elim (Contains-append_cases xs ys g inside) [
        | inl first ↦ h g first
        | inr later ↦ k g later
      ]

  call_inside : (callee : ℕ) (list : List Expression) → r.IsCall P f callee list → Inside (callee ∷ [])
  call_inside callee list is g inside = subst (λ n. n < length P.functions) (in_one callee g inside) (slice_get_within P.functions callee is.code is.found)

  kept_inside : (into : Option ℕ) (callee : ℕ) (list : List Expression) → r.IsKeptCall P f into callee list → Inside (callee ∷ [])
  kept_inside into callee list is = call_inside callee list is.call

  -- what stands before a step, and a condition
  mutual
    cut_inside : (x : Statement) → r.IsCut P f x → Inside (calls_of x)
    cut_inside Statement.Done is = none_inside
    cut_inside (Statement.Sequence x z) is = both_inside (calls_of x) (calls_of z) (cut_inside x is.0) (cut_inside z is.1)
    cut_inside (Statement.Call at (Some slot) callee list) is = kept_inside (Some slot) callee list is
    cut_inside (Statement.Keep at slot ty e) is = none_inside
    cut_inside (Statement.Truth slot c) is = condition_inside c is.2
    cut_inside (Statement.If c x z) is =
        both_inside (calls_of c) (calls_of x ++ calls_of z) (condition_inside c is.0) (both_inside (calls_of x) (calls_of z) (cut_inside x is.1) (cut_inside z is.2))
    cut_inside Statement.Empty is = absurd is
    cut_inside (Statement.Block x) is = absurd is
    cut_inside (Statement.Declare at local operators) is = absurd is
    cut_inside (Statement.Assign at p x) is = absurd is
    cut_inside (Statement.Update at p operator ty x) is = absurd is
    cut_inside (Statement.Call at None callee list) is = absurd is
    cut_inside (Statement.Test at e) is = absurd is
    cut_inside (Statement.Both x z) is = absurd is
    cut_inside (Statement.Either x z) is = absurd is
    cut_inside (Statement.Opposite x) is = absurd is
    cut_inside (Statement.While c x) is = absurd is
    cut_inside (Statement.DoWhile x c) is = absurd is
    cut_inside (Statement.For x c z w) is = absurd is
    cut_inside (Statement.Switch at ty e x) is = absurd is
    cut_inside (Statement.Label v operators) is = absurd is
    cut_inside Statement.Break is = absurd is
    cut_inside Statement.Continue is = absurd is
    cut_inside (Statement.Return at x) is = absurd is
    cut_inside (Statement.Print at format list) is = absurd is
    cut_inside (Statement.Thread at call) is = absurd is

    condition_inside : (x : Statement) → r.IsCondition P f x → Inside (calls_of x)
    condition_inside (Statement.Sequence x z) is = both_inside (calls_of x) (calls_of z) (cut_inside x is.0) (condition_inside z is.1)
    condition_inside (Statement.Test at e) is = none_inside
    condition_inside (Statement.Both x z) is = both_inside (calls_of x) (calls_of z) (condition_inside x is.0) (condition_inside z is.1)
    condition_inside (Statement.Either x z) is = both_inside (calls_of x) (calls_of z) (condition_inside x is.0) (condition_inside z is.1)
    condition_inside (Statement.Opposite x) is = condition_inside x is
    condition_inside Statement.Done is = absurd is
    condition_inside Statement.Empty is = absurd is
    condition_inside (Statement.Block x) is = absurd is
    condition_inside (Statement.Declare at local operators) is = absurd is
    condition_inside (Statement.Assign at p x) is = absurd is
    condition_inside (Statement.Update at p operator ty x) is = absurd is
    condition_inside (Statement.Call at into callee list) is = absurd is
    condition_inside (Statement.Keep at slot ty e) is = absurd is
    condition_inside (Statement.Truth slot c) is = absurd is
    condition_inside (Statement.If c x z) is = absurd is
    condition_inside (Statement.While c x) is = absurd is
    condition_inside (Statement.DoWhile x c) is = absurd is
    condition_inside (Statement.For x c z w) is = absurd is
    condition_inside (Statement.Switch at ty e x) is = absurd is
    condition_inside (Statement.Label v operators) is = absurd is
    condition_inside Statement.Break is = absurd is
    condition_inside Statement.Continue is = absurd is
    condition_inside (Statement.Return at x) is = absurd is
    condition_inside (Statement.Print at format list) is = absurd is
    condition_inside (Statement.Thread at call) is = absurd is

  pub statement_inside : (x : Statement) (a : r.Around) → r.IsStatement P f a x → Inside (calls_of x)
  statement_inside (Statement.Sequence x z) a is = both_inside (calls_of x) (calls_of z) (statement_inside x a is.0) (statement_inside z a is.1)
  statement_inside (Statement.Block x) a is = statement_inside x (r.within a) is
  statement_inside (Statement.Call at into callee list) a is = kept_inside into callee list is
  statement_inside (Statement.Truth slot c) a is = condition_inside c is.2
  statement_inside (Statement.If c x z) a is =
      both_inside (calls_of c) (calls_of x ++ calls_of z) (condition_inside c is.0)
      (both_inside (calls_of x) (calls_of z) (statement_inside x (r.within a) is.1) (statement_inside z (r.within a) is.2))
  statement_inside (Statement.While c x) a is = both_inside (calls_of c) (calls_of x) (condition_inside c is.0) (statement_inside x r.in_loop is.1)
  statement_inside (Statement.DoWhile x c) a is = both_inside (calls_of x) (calls_of c) (statement_inside x r.in_loop is.0) (condition_inside c is.1)
  statement_inside (Statement.For x c z w) a is =
      both_inside (calls_of x) (calls_of c ++ (calls_of z ++ calls_of w)) (statement_inside x r.nowhere is.0)
      (both_inside (calls_of c) (calls_of z ++ calls_of w) (condition_inside c is.1)
      (both_inside (calls_of z) (calls_of w) (statement_inside z r.nowhere is.2) (statement_inside w r.in_loop is.3)))
  statement_inside (Statement.Switch at ty e x) a is = statement_inside x (r.in_switch ty a) is.2
  statement_inside Statement.Done a is = none_inside
  statement_inside Statement.Empty a is = none_inside
  statement_inside (Statement.Declare at local operators) a is = none_inside
  statement_inside (Statement.Assign at p x) a is = none_inside
  statement_inside (Statement.Update at p operator ty x) a is = none_inside
  statement_inside (Statement.Keep at slot ty e) a is = none_inside
  statement_inside (Statement.Test at e) a is = absurd is
  statement_inside (Statement.Both x z) a is = absurd is
  statement_inside (Statement.Either x z) a is = absurd is
  statement_inside (Statement.Opposite x) a is = absurd is
  statement_inside (Statement.Label v operators) a is = none_inside
  statement_inside Statement.Break a is = none_inside
  statement_inside Statement.Continue a is = none_inside
  statement_inside (Statement.Return at x) a is = none_inside
  statement_inside (Statement.Print at format list) a is = none_inside
  statement_inside (Statement.Thread at call) a is = none_inside

-- ---- a definition

one_parameter : (list : List DeclaredType) → is_pointer_alone list ≡ true → length list ≡ 1
one_parameter [] h = cc
one_parameter (p ∷ []) h = refl
one_parameter (p ∷ q ∷ list) h = cc

no_routine : (f : Function) (returns : ReturnType) → r.is_pointer returns ≡ false → r.IfStartRoutine f returns
no_routine f returns_as.Void h = tt
no_routine f (returns_as.Integer ty) h = tt
no_routine f returns_as.Pointer h = cc

module _ {whole : Findings} {P : Program} {number : ℕ} {h : Header} {code : Function} (d : IsDefined whole P number h code) where
  pub function_is : r.IsName code.name → r.IsFunction P code
  function_is name = record {
    name = name;
    parameters = d.front;
    declared_ = d.declared_;
    slots = d.slots;
    few = d.few;
    scalars = d.scalars;
    lengths = d.lengths;
    body = d.body.is d.fits;
  }

  pub found_is : IsFound P.functions whole number code
  found_is = record { calls = d.body.calls; inside = statement_inside P code code.body r.nowhere (d.body.is d.fits) }

  -- a function that returns a pointer is a start routine
  pub start_is : r.IfStartRoutine code code.returns
  start_is = by (is_start_routine h) refl
    where
      by : (b : Bool) → is_start_routine h ≡ b → r.IfStartRoutine code code.returns
      by true starts =
          let alone = (and_parts (is_void_pointer h.returns) (is_pointer_alone h.parameters) starts).1 in
          let pointer = d.returns ∙ routine_returns h starts in
          let one : code.parameters ≡ 1 = sym d.parameters ∙ ap place_in_tree (one_parameter h.parameters alone) in
          subst (λ x. r.IfStartRoutine code x) (sym pointer) (record { returns = pointer; parameters = one; parameter = d.routine starts })
      by false starts =
          no_routine code code.returns (ap r.is_pointer d.returns ∙ no_pointer_by (is_start_routine h) h.returns.base h.returns.is_pointer starts)
