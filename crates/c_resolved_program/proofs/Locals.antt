-- What declarations in blocks give.
use Rattle.std.proofs.Common.{◌≡◌, refl, ap, ◌∙◌, ℕ, zero, suc, ◌<◌, ◌≤◌, Bool, true, false, List, [], ◌∷◌, ◌++◌, length, Option, Some, None, ℤ, pos, negsuc, arith}
use Rattle.std.specs.Prelude.{◌*◌, ◌^◌, min, slice_get, if◌then◌else◌, ⊤}
use Rattle.std.specs.List.{AllByRecursion}
use Rattle.std.proofs.lemmas.Option.{slice_get_within}
use Rattle.lists.proofs.Places.{all_back, all_front}
use Rattle.c_tree.specs.declared.expression.Name.{Name}
use Rattle.c_tree.specs.declared.expression.Expression.{Expression as ExpressionTree, out-Expression}
use Rattle.c_tree.specs.declared.declaration.Declaration.{Declaration}
use Rattle.c_tree.specs.declared.declaration.Declarator.{Declarator}
use Rattle.c_program.specs.declared.tree.Storage.{Storage}
use Rattle.c_program.specs.declared.tree.Storage.TheVariants.{Automatic, Static}
use Rattle.c_program.specs.declared.tree.LocalVariable.{LocalVariable}
use Rattle.c_program.specs.Tree.{Expression, Place, Statement, Function, Program}
use Rattle.c_program.specs.Resolved as r
use Rattle.c_rules.specs.declared.fault.Rule.TheVariants as rule
use Rattle.c_rules.specs.declared.findings.Findings.{Findings}
use Rattle.c_rules.specs.declared.specifiers.BasicType.{BasicType}
use Rattle.c_rules.specs.declared.specifiers.Spelled.{Spelled}
use Rattle.c_rules.specs.declared.constants.Constancy.{Constancy}
use Rattle.c_rules.specs.declared.constants.Constancy.TheVariants as is
use Rattle.c_rules.specs.declared.names.Variable.{Variable}
use Rattle.c_rules.specs.declared.names.Meaning.{Meaning}
use Rattle.c_rules.specs.declared.names.Meaning.TheVariants as meaning
use Rattle.c_rules.specs.declared.names.Scope.{Scope}
use Rattle.c_rules.specs.declared.dimensions.Dimensions.{Dimensions}
use Rattle.c_rules.specs.declared.dimensions.Dimensions.TheVariants.{Scalar, One, Two, Three}
use Rattle.c_rules.specs.Dimensions.{elements, is_scalar, times, with_length}
use Rattle.c_rules.specs.Constants.{constancy}
use Rattle.c_rules.specs.Specifiers.{c_type, plain, spelled_by}
use Rattle.c_rules.specs.Walks.{pure, finds, finds_if, through, place_in_tree, ◌>>=◌, ◌>>◌}
use Rattle.c_expressions.specs.Cuts.{Cut, free_from}
use Rattle.c_expressions.specs.Expressions.{value, looked}
use Rattle.c_expressions.specs.Sequences.{behind_cuts}
use Rattle.c_resolution.specs.States.{finding}
use Rattle.c_resolution.specs.Locals as y
use Rattle.c_resolved_program.specs.Leaves.{AreValid, expression_leaves, declarator_leaves, declaration_leaves, of_any, of_each}
use Rattle.c_resolved_program.specs.Orders.{IsLength, AreLengths, IsMeant, IsOrderly, IsInOrder, GivesRoutines, declared_in}
use Rattle.c_resolved_program.proofs.Walks.{Shows, shows_pure, shows_then, shows_as, shows_broken, shows_if, shows_through, IfAny, all_more}
use Rattle.c_resolved_program.proofs.Behind as b
use Rattle.c_resolved_program.proofs.Trees.{looked_shows}
use Rattle.c_resolved_program.proofs.Simple as z
use Rattle.c_resolved_program.proofs.Steps.{Does, does_pure, does_then, does_as, does_finding, declare_does, does_through, next_in, front_before, front_length, declared_few, declared_at}

-- ---- lengths

least_of : (a b : ℕ) → 0 < a → 0 < b → 0 < min a b
least_of a b h k = grind arith

least_le : (a b : ℕ) → min a b ≤ b
least_le a b = grind arith

positive_is : (z : ℤ) → IfAny IsLength (y.positive z)
positive_is (pos zero) = tt
positive_is (pos (suc n)) = (least_of (suc n) 0xffff_ffff_ffff_ffff (omega arith) (omega arith), least_le (suc n) 0xffff_ffff_ffff_ffff)
positive_is (negsuc n) = tt

pub number_is : (n m : ℕ) → n < m → m ≤ 2 ^ 32 → place_in_tree n ≡ n
number_is n m lt le = grind arith

module _ {whole : Findings} {Before : Type 0} where
  length_of_number_shows : (n : Option ℕ) (at : ℕ) → IfAny IsLength n → Shows whole Before IsLength (y.length_of_number n at)
  length_of_number_shows (Some n) at is = shows_pure n (λ _. is)
  length_of_number_shows None at is = shows_then (finds rule.Constant at) (λ _. pure 1) (shows_broken {Is = λ _. ⊤} rule.Constant at) (λ _. shows_pure 1 (λ _. (omega arith, omega arith)))

  pub length_from_shows : (c : Constancy) (at : ℕ) → Shows whole Before IsLength (y.length_from c at)
  unfolding y.length_from
  length_from_shows (is.Constant x) at = length_of_number_shows (y.positive x.number) at (positive_is x.number)
  length_from_shows is.Unknown at = shows_pure 1 (λ _. (omega arith, omega arith))
  length_from_shows is.NotConstant at = length_of_number_shows None at tt

  -- ---- what is refused

  refused_by : (b : Bool) (words : Spelled) (at : ℕ) →
      Shows whole Before (λ (m : Meaning). ⊥) (if b then finds_if words.is_static rule.Kind at >>
      (finds rule.Threads at >> pure meaning.Unusable) else finds rule.Kind at >> pure meaning.Unusable)
  refused_by true words at =
      shows_then (finds_if words.is_static rule.Kind at) (λ _. finds rule.Threads at >> pure meaning.Unusable) (shows_if words.is_static rule.Kind at)
      (λ _. shows_then (finds rule.Threads at) (λ _. pure meaning.Unusable) (shows_broken {Is = λ _. ⊥} rule.Threads at) (λ _. shows_pure meaning.Unusable (λ b. b.1)))
  refused_by false words at =
      shows_then (finds rule.Kind at) (λ _. pure meaning.Unusable) (shows_broken {Is = λ _. ⊥} rule.Kind at) (λ _. shows_pure meaning.Unusable (λ b. b.1))

  pub refused_local_shows : (words : Spelled) (at : ℕ) → Shows whole Before (λ (m : Meaning). ⊥) (y.refused_local words at)
  unfolding y.refused_local
  refused_local_shows words at = refused_by (y.is_object_type words.base) words at

-- one more length; a fourth is none of the grammar
pub with_length_is : (d : Dimensions) (n : ℕ) → AreLengths d → IsLength n → AreLengths (with_length d n)
with_length_is Scalar n all is = is
with_length_is (One a) n all is = (all, is)
with_length_is (Two a b) n all is = (all.0, all.1, is)
with_length_is (Three a b c) n all is = all

pub each_length : (list : List ExpressionTree) → AreValid (of_each expression_leaves list) → AllByRecursion (λ e. AreValid (expression_leaves e)) list
each_length [] valid = tt
each_length (e ∷ list) valid =
    (all_front _ (expression_leaves e) (of_each expression_leaves list) valid, each_length list (all_back _ (expression_leaves e) (of_each expression_leaves list) valid))

many_are : (a b : ℕ) → 0 < a → 0 < b → 0 < a * b
many_are zero b h k = absurd (omega arith)
many_are (suc a) zero h k = absurd (omega arith)
many_are (suc a) (suc b) h k = omega arith

times_are : (a b : ℕ) → 0 < a → 0 < b → 0 < times a b
times_are a b h k = least_of (a * b) 0xffff_ffff_ffff_ffff (many_are a b h k) (omega arith)

pub elements_are : (d : Dimensions) → AreLengths d → 0 < elements d
elements_are Scalar all = omega arith
elements_are (One a) all = all.0
elements_are (Two a b) all = times_are a b all.0.0 all.1.0
elements_are (Three a b c) all = times_are (times a b) c (times_are a b all.0.0 all.1.0) all.2.0

-- ---- a new local

abbrev pub IsAutomatic : Meaning → Type 0
IsAutomatic (meaning.Variable v) = v.storage ≡ Automatic
IsAutomatic other = ⊤

module _ (whole : Findings) (P : Program) (number : ℕ) (f : Function) (given_routines : GivesRoutines whole P) (small : f.declared_locals < 0xffff_ffff) (around flag : r.Around) where
  abbrev pub IsLocal : Meaning → Type 0
  IsLocal m = IsMeant P f m × IsAutomatic m

  pub new_local_does : (words : Spelled) (size : Dimensions) (ty : BasicType) → Does whole P number f around (AreLengths size) IsLocal (y.new_local words size ty)
  unfolding y.new_local
  new_local_does words size ty =
      let l : LocalVariable = record { ty = c_type ty; length = elements size } in
      record {
        back = λ x ahead. record { found = ahead.found; locals = front_before x.scope.locals l (declared_in f) ahead.locals };
        forth = λ x ahead sized holds.
            let order = holds.orderly in
            let front = front_length x.scope.locals l (declared_in f) ahead.locals in
            let at = number_is (length x.scope.locals) 0xffff_ffff (let few = declared_few f in omega (arith, front, few, small)) (omega arith) in (
              record {
                orderly = record { inner = order.inner; outer = order.outer; headers = order.headers; function = order.function; gives = order.gives; kept = order.kept };
                exits = holds.exits;
                loops = holds.loops;
                lengths = all_more (λ (l : LocalVariable). 0 < l.length) x.scope.locals l holds.lengths (elements_are size sized);
              },
              ((ap (λ n. slice_get f.locals n) at ∙ declared_at f (length x.scope.locals) l (next_in x.scope.locals l (declared_in f) ahead.locals), sized), refl),
            );
      }

  local_of_does : (words : Spelled) (at : ℕ) (size : Dimensions) (ty : Option BasicType) → Does whole P number f around (AreLengths size) IsLocal (y.local_of words at size ty)
  local_of_does words at size (Some ty) = new_local_does words size ty
  local_of_does words at size None = does_finding (λ s. y.refused_local words at)
      (λ s. shows_as (y.refused_local words at) (λ b. b) (λ _ _ no. absurd no) (refused_local_shows words at))

  pub local_does : (words : Spelled) (at : ℕ) (size : Dimensions) → Does whole P number f around (AreLengths size) IsLocal (y.local words at size)
  unfolding y.local
  local_does words at size = local_of_does words at size (plain words.is_static words.base)

  -- ---- the step of a declarator

  abbrev InOrder : Statement → Type 0
  InOrder x = IsInOrder whole P number f flag x

  in_locals : (storage : Storage) (n size : ℕ) (ty : _) → r.IsObject P f storage n size ty → storage ≡ Automatic → n < length f.locals
  in_locals Automatic n size ty is same = slice_get_within f.locals n _ is
  in_locals Static n size ty is same = cc

  empty : InOrder Statement.Empty
  empty = b.empty_in whole P number f flag

  uninitialised_is : (d : Declarator) (m : Meaning) → IsLocal m → InOrder (y.uninitialised d m)
  uninitialised_is d (meaning.Variable v) is =
      b.plain_in whole P number f flag (y.uninitialised d (meaning.Variable v)) (in_locals v.storage v.number (elements v.dimensions) (c_type v.ty) is.0.0 is.1) refl refl refl
  uninitialised_is d meaning.Argument is = empty
  uninitialised_is d (meaning.Object o) is = empty
  uninitialised_is d (meaning.Function n) is = empty
  uninitialised_is d meaning.Unusable is = empty

  abbrev IsScalar : Variable → Type 0
  IsScalar v = r.IsObject P f v.storage v.number 1 (c_type v.ty)

  scalar_by_is : (d : Dimensions) (v : Variable) → r.IsObject P f v.storage v.number (elements d) (c_type v.ty) → IfAny IsScalar (y.scalar_by (is_scalar d) v)
  scalar_by_is Scalar v is = is
  scalar_by_is (One n) v is = tt
  scalar_by_is (Two n m) v is = tt
  scalar_by_is (Three n m k) v is = tt

  scalar_in_is : (m : Meaning) → IsMeant P f m → IfAny IsScalar (y.scalar_in m)
  scalar_in_is (meaning.Variable v) is = scalar_by_is v.dimensions v is.0
  scalar_in_is meaning.Argument is = tt
  scalar_in_is (meaning.Object o) is = tt
  scalar_in_is (meaning.Function n) is = tt
  scalar_in_is meaning.Unusable is = tt

  initialised_by_shows : {Earlier : Type 0} (s : Scope) (v : Option Variable) (at : ℕ) (right : Cut Expression) →
      (Earlier → IsOrderly P number f s × IfAny IsScalar v × z.IsRight whole P number f small s given_routines flag right) → Shows whole Earlier InOrder (y.initialised_by v at right)
  unfolding y.initialised_by
  initialised_by_shows s (Some v) at right is =
      let p : Place = Place.Scalar v.storage v.number (c_type v.ty) in
      shows_pure (behind_cuts right.cuts.before (Statement.Assign (place_in_tree at) p right.rest))
      (λ x. z.initial_is whole P number f small s given_routines flag (place_in_tree at) p right (is x).0 refl (is x).1 (is x).2)
  initialised_by_shows s None at right is =
      shows_then (finds rule.Kind at) (λ _. pure Statement.Empty) (shows_broken {Is = λ _. ⊤} rule.Kind at) (λ _. shows_pure Statement.Empty (λ _. empty))

  initialised_shows : (name : Name) (m : Meaning) (e : ExpressionTree) (s : Scope) → AreValid (expression_leaves e) →
      Shows whole (IsLocal m × IsOrderly P number f s) InOrder (y.initialised name m e s)
  unfolding y.initialised
  initialised_shows name m e s valid =
      let at = place_in_tree name.offset in
      let walk = value s e at (free_from s.kept_from) in
      shows_then walk (λ right. y.initialised_by (y.scalar_in m) name.offset right)
      (shows_as walk (λ x. x.1) (λ _ _ is. is) (z.right_shows whole P number f small s given_routines flag e at valid))
      (λ right. initialised_by_shows s (y.scalar_in m) name.offset right (λ x. (x.0.1, scalar_in_is m x.0.0.0, x.1)))

  declared_step_shows : (d : Declarator) (m : Meaning) (e : Option ExpressionTree) (s : Scope) → AreValid (of_any expression_leaves e) →
      Shows whole (IsLocal m × IsOrderly P number f s) InOrder (y.declared_step d m e s)
  declared_step_shows d m None s valid = shows_pure (y.uninitialised d m) (λ x. uninitialised_is d m x.0)
  declared_step_shows d m (Some e) s valid = initialised_shows d.name m e s valid

  -- ---- declarators

  array_length_shows : {Earlier : Type 0} (e : ExpressionTree) (s : Scope) → AreValid (expression_leaves e) → (Earlier → IsOrderly P number f s) →
      Shows whole Earlier IsLength (y.array_length e s)
  unfolding y.array_length
  array_length_shows e s valid now =
      shows_then (looked s e) (λ _. y.length_from (constancy e) (out-Expression e).offset) (shows_as (looked s e) now (λ _ _ is. is) (looked_shows whole P number f small s e valid))
      (λ _. length_from_shows (constancy e) (out-Expression e).offset)

  next_length_shows : (s : Scope) (d : Dimensions) (e : ExpressionTree) → AreValid (expression_leaves e) →
      Shows whole (IsOrderly P number f s × AreLengths d) AreLengths (y.next_length s d e)
  next_length_shows s d e valid =
      shows_then (y.array_length e s) (λ n. pure (with_length d n)) (array_length_shows e s valid (λ x. x.0))
      (λ n. shows_pure (with_length d n) (λ x. with_length_is d n x.0.1 x.1))

  pub dimensions_show : (lengths : List ExpressionTree) (s : Scope) → AreValid (of_each expression_leaves lengths) →
      Shows whole (IsOrderly P number f s) AreLengths (y.dimensions lengths s)
  unfolding y.dimensions
  dimensions_show lengths s valid =
      shows_as (y.dimensions lengths s) (λ now. (now, tt)) (λ _ _ is. is)
      (shows_through {Before = IsOrderly P number f s} (λ e. AreValid (expression_leaves e)) (λ _. AreLengths) (y.next_length s)
      (λ d e rest h. next_length_shows s d e h) Scalar lengths (each_length lengths valid))

  declarator_does : (words : Spelled) (d : Declarator) → AreValid (declarator_leaves d) → Does whole P number f around ⊤ InOrder (y.declarator words d)
  unfolding y.declarator
  declarator_does words d valid =
      let sized = all_front _ (of_each expression_leaves d.lengths) (of_any expression_leaves d.initializer) valid in
      let begun = all_back _ (of_each expression_leaves d.lengths) (of_any expression_leaves d.initializer) valid in
      let stepping = λ (m : Meaning). finding (y.declared_step d m d.initializer) in
      let declaring = λ (m : Meaning). y.declare d.name m >> stepping m in
      does_then (finding (y.dimensions d.lengths)) (λ size. y.local words d.name.offset size >>= declaring)
      (does_finding (y.dimensions d.lengths) (λ s. shows_as (y.dimensions d.lengths s) (λ b. b.1) (λ _ _ is. is) (dimensions_show d.lengths s sized)))
      (λ size. does_then (y.local words d.name.offset size) declaring
      (does_as (y.local words d.name.offset size) (λ b. b.1) (λ _ _ is. is) (local_does words d.name.offset size))
      (λ m. does_then (y.declare d.name m) (λ _. stepping m) (declare_does d.name m (λ b. b.1.0))
      (λ _. does_finding (y.declared_step d m d.initializer)
      (λ s. shows_as (y.declared_step d m d.initializer s) (λ b. (b.0.0.1, b.1)) (λ _ _ is. is) (declared_step_shows d m d.initializer s begun)))))

  each_declarator : (list : List Declarator) → AreValid (of_each declarator_leaves list) → AllByRecursion (λ d. AreValid (declarator_leaves d)) list
  each_declarator [] valid = tt
  each_declarator (d ∷ list) valid =
      (all_front _ (declarator_leaves d) (of_each declarator_leaves list) valid, each_declarator list (all_back _ (declarator_leaves d) (of_each declarator_leaves list) valid))

  abbrev pub AllInOrder : List Statement → Type 0
  AllInOrder steps = AllByRecursion InOrder steps

  pub declaration_does : (steps : List Statement) (d : Declaration) → AreValid (declaration_leaves d) →
      Does whole P number f around (AllInOrder steps) AllInOrder (y.declaration steps d)
  unfolding y.declaration
  declaration_does steps d valid =
      let step = λ (done : List Statement) (x : Declarator). y.declarator (spelled_by d.specifiers) x >>= (λ s. pure (done ++ s ∷ [])) in
      does_as (through step steps d.declarators) (λ b. (tt, b)) (λ _ _ is. is)
      (does_through {Before = ⊤} (λ d. AreValid (declarator_leaves d)) AllInOrder step
      (λ done x h. does_then (y.declarator (spelled_by d.specifiers) x) (λ s. pure (done ++ s ∷ []))
      (does_as (y.declarator (spelled_by d.specifiers) x) (λ _. tt) (λ _ _ is. is) (declarator_does (spelled_by d.specifiers) x h))
      (λ s. does_pure (done ++ s ∷ []) (λ b. all_more InOrder done s b.0.1 b.1)))
      steps d.declarators (each_declarator d.declarators valid))
