-- What a name stands for in a scope that is in order, and what objects, constants and casts give.
use Rattle.std.proofs.Common.{◌≡◌, refl, subst, ℕ, ◌≤◌, Bool, true, false, List, [], ◌∷◌, Option, Some, None, sym, arith}
use Rattle.std.specs.Prelude.{◌+◌, fold, nat_eq, if◌then◌else◌, ⊤}
use Rattle.std.specs.List.{AllByRecursion}
use Rattle.std.specs.Str.{bytes_eq}
use Rattle.std.proofs.lemmas.Option.{none-some}
use Rattle.hls_ints.specs.Types.{HasType}
use Rattle.c_token.specs.declared.constant.Constant.{Constant}
use Rattle.c_token.specs.declared.constant.Constant.TheVariants as constant
use Rattle.c_program.specs.Tree.{Expression, Function, Program}
use Rattle.c_program.specs.Weight.{expression_weight}
use Rattle.c_program.specs.Resolved.{IsExpression, IsObject}
use Rattle.c_rules.specs.declared.fault.Rule.TheVariants as rule
use Rattle.c_rules.specs.declared.findings.Findings.{Findings}
use Rattle.c_rules.specs.declared.constants.Typed.{Typed}
use Rattle.c_rules.specs.declared.library.LibraryFunction.{LibraryFunction}
use Rattle.c_rules.specs.declared.dimensions.Dimensions.{Dimensions}
use Rattle.c_rules.specs.declared.dimensions.Dimensions.TheVariants.{Scalar, One, Two, Three}
use Rattle.c_rules.specs.declared.names.Meaning.{Meaning}
use Rattle.c_rules.specs.declared.names.Meaning.TheVariants as meaning
use Rattle.c_rules.specs.declared.names.Known.{Known}
use Rattle.c_rules.specs.declared.names.Known.TheVariants as known
use Rattle.c_rules.specs.declared.names.Variable.{Variable}
use Rattle.c_rules.specs.declared.names.Scope.{Scope}
use Rattle.c_rules.specs.Constants.{constant_value}
use Rattle.c_rules.specs.Dimensions.{count, elements}
use Rattle.c_rules.specs.Levels.{named_in}
use Rattle.c_rules.specs.Library.{function_named}
use Rattle.c_rules.specs.Names.{Names, or_else, declared, declared_outside, look_up, is_argument, known_by}
use Rattle.c_rules.specs.Specifiers.{c_type}
use Rattle.c_rules.specs.Walks.{pure, finds}
use Rattle.c_expressions.specs.Expressions as e
use Rattle.c_resolved_program.specs.Leaves.{IsValidConstant}
use Rattle.c_resolved_program.specs.Orders.{AreLengths, IsMeant, IsOrderly}
use Rattle.c_resolved_program.proofs.Callees.{IsApart}
use Rattle.c_resolved_program.proofs.Walks.{Shows, shows_pure, shows_then, shows_as, shows_broken, IfAny}

-- ---- names

if_chosen : {A : Type 0} (Is : A → Type 0) (b : Bool) (a : A) (o : Option A) → Is a → IfAny Is o → IfAny Is (if b then Some a else o)
if_chosen Is true a o here there = here
if_chosen Is false a o here there = there

pub named_is : {A : Type 0} (Is : A → Type 0) (names : List (List ℕ × A)) (name : List ℕ) → AllByRecursion (λ (d : List ℕ × A). Is d.1) names → IfAny Is (named_in names name)
named_is Is [] name all = tt
named_is Is (d ∷ more) name all = if_chosen Is (bytes_eq name d.0) d.1 (named_in more name) all.0 (named_is Is more name all.1)

pub either_is : {A : Type 0} (Is : A → Type 0) (a b : Option A) → IfAny Is a → IfAny Is b → IfAny Is (or_else a b)
either_is Is None b first other = other
either_is Is (Some a) b first other = first

outside_from : (Is : Meaning → Type 0) (levels : List Names) (name : List ℕ) (found : Option Meaning) →
    AllByRecursion (λ (level : Names). AllByRecursion (λ (d : List ℕ × Meaning). Is d.1) level) levels → IfAny Is found →
    IfAny Is (fold (λ found level. or_else (named_in level name) found) found levels)
outside_from Is [] name found all so_far = so_far
outside_from Is (level ∷ more) name found all so_far =
    outside_from Is more name (or_else (named_in level name) found) all.1
    (either_is Is (named_in level name) found (named_is Is level name all.0) so_far)

-- a name that is known stands for something that is meant
abbrev pub IsKnown : Program → Function → Known → Type 0
IsKnown P f (known.Declared m) = IsMeant P f m
IsKnown P f (known.Library function) = ⊤
IsKnown P f known.Unknown = ⊤

known_is : (P : Program) (f : Function) (function : Option LibraryFunction) (m : Option Meaning) → IfAny (IsMeant P f) m → IsKnown P f (known_by function m)
known_is P f (Some function) m is = tt
known_is P f None None is = tt
known_is P f None (Some m) is = is

pub look_up_is : (P : Program) (number : ℕ) (f : Function) (s : Scope) (name : List ℕ) → IsOrderly P number f s → IsKnown P f (look_up s name)
unfolding look_up
look_up_is P number f s name order =
    known_is P f (function_named name) (declared s name)
    (either_is (IsMeant P f) (named_in s.inner name) (declared_outside s.outer name)
    (named_is (IsMeant P f) s.inner name order.inner)
    (outside_from (IsMeant P f) s.outer name None order.outer tt))

-- ---- values

module _ (P : Program) (f : Function) where
  abbrev pub Is : Expression → Type 0
  Is x = IsExpression P f x

  abbrev pub IsIndex : Option Expression → Type 0
  IsIndex index = IfAny Is index

  pub nothing_is : Is e.nothing
  nothing_is = refl

  -- the parameter of a start routine is a long
  pub argument_is : (k : Known) → IsKnown P f k → is_argument k ≡ true → Is e.argument_value
  argument_is (known.Declared meaning.Argument) is h = is
  argument_is (known.Declared (meaning.Variable v)) is h = cc
  argument_is (known.Declared (meaning.Object o)) is h = cc
  argument_is (known.Declared (meaning.Function number)) is h = cc
  argument_is (known.Declared meaning.Unusable) is h = cc
  argument_is (known.Library function) is h = cc
  argument_is known.Unknown is h = cc

  argument_misused : (b : Bool) → (if b then Some rule.Threads else Some rule.Kind) ≡ None → ⊥
  argument_misused true h = none-some rule.Threads (sym h)
  argument_misused false h = none-some rule.Kind (sym h)

  misuse-some : (k : Known) (indices : ℕ) → e.variable_of k ≡ None → IsKnown P f k → e.misuse k indices ≡ None → ⊥
  misuse-some known.Unknown indices apart is h = none-some rule.Unknown (sym h)
  misuse-some (known.Declared meaning.Argument) indices apart is h = argument_misused (nat_eq indices 0) h
  misuse-some (known.Declared meaning.Unusable) indices apart is h = is
  misuse-some (known.Declared (meaning.Variable v)) indices apart is h = none-some v (sym apart)
  misuse-some (known.Declared (meaning.Object o)) indices apart is h = none-some rule.Kind (sym h)
  misuse-some (known.Declared (meaning.Function number)) indices apart is h = none-some rule.Kind (sym h)
  misuse-some (known.Library function) indices apart is h = none-some rule.Kind (sym h)

  constant_is : (c : Constant) → IsValidConstant c → IfAny (λ (x : Typed). HasType x.ty x.number) (constant_value c)
  constant_is (constant.Typed value ty) is = is
  constant_is constant.TooLarge is = tt

  module _ {whole : Findings} where
    pub refused_shows : {Before : Type 0} (r : _) (at : ℕ) → Shows whole Before Is (e.refused r at)
    refused_shows r at = shows_then (finds r at) (λ _. pure e.nothing) (shows_broken {Is = λ _. ⊤} r at) (λ _. shows_pure e.nothing (λ _. nothing_is))

    -- ---- constants

    constant_from_shows : (x : Option Typed) (at : ℕ) → Shows whole (IfAny (λ (x : Typed). HasType x.ty x.number) x) Is (e.constant_from x at)
    constant_from_shows (Some x) at = shows_pure (Expression.Constant x.ty x.number) (λ is. is)
    constant_from_shows None at = refused_shows rule.Constant at

    pub constant_shows : (c : Constant) (at : ℕ) → Shows whole (IsValidConstant c) Is (e.constant c at)
    unfolding e.constant
    constant_shows c at = shows_as (e.constant_from (constant_value c) at) (constant_is c) (λ a _ is. is) (constant_from_shows (constant_value c) at)

  -- ---- objects

  -- the number of an element by as many indices as there are dimensions
  abbrev pub IsNumber : Dimensions → Option Expression → Type 0
  IsNumber Scalar None = ⊤
  IsNumber Scalar (Some number) = ⊥
  IsNumber (One a) None = ⊥
  IsNumber (One a) (Some number) = Is number
  IsNumber (Two a b) None = ⊥
  IsNumber (Two a b) (Some number) = Is number
  IsNumber (Three a b c) None = ⊥
  IsNumber (Three a b c) (Some number) = Is number

  object_by : (v : Variable) (d : Dimensions) (number : Option Expression) → IsObject P f v.storage v.number (elements v.dimensions) (c_type v.ty) →
      elements v.dimensions ≡ elements d → IsNumber d number → Is (e.object_value v number)
  object_by v Scalar None is same so = subst (λ n. IsObject P f v.storage v.number n (c_type v.ty)) same is
  object_by v Scalar (Some number) is same so = absurd so
  object_by v (One a) None is same so = absurd so
  object_by v (One a) (Some number) is same so = (is, so)
  object_by v (Two a b) None is same so = absurd so
  object_by v (Two a b) (Some number) is same so = (is, so)
  object_by v (Three a b c) None is same so = absurd so
  object_by v (Three a b c) (Some number) is same so = (is, so)

  counted : (b : Bool) → (if b then None else Some rule.Kind) ≡ None → b ≡ true
  counted true h = refl
  counted false h = absurd (none-some rule.Kind (sym h))

  -- a name that is not misused has a value, where its indices give a number if they are as many as its dimensions
  pub named_value_is : (k : Known) (indices : ℕ) (number : Option Expression) → IsKnown P f k → e.misuse k indices ≡ None →
      (nat_eq (count (e.dimensions_of (e.variable_of k))) indices ≡ true → IsNumber (e.dimensions_of (e.variable_of k)) number) → Is (e.named_value (e.variable_of k) number)
  named_value_is (known.Declared (meaning.Variable v)) indices number is none so =
      object_by v v.dimensions number is.0 refl (so (counted (nat_eq (count v.dimensions) indices) none))
  named_value_is (known.Declared meaning.Argument) indices number is none so = absurd (misuse-some (known.Declared meaning.Argument) indices refl is none)
  named_value_is (known.Declared meaning.Unusable) indices number is none so = absurd is
  named_value_is (known.Declared (meaning.Object o)) indices number is none so = absurd (none-some rule.Kind (sym none))
  named_value_is (known.Declared (meaning.Function n)) indices number is none so = absurd (none-some rule.Kind (sym none))
  named_value_is (known.Library function) indices number is none so = absurd (none-some rule.Kind (sym none))
  named_value_is known.Unknown indices number is none so = absurd (none-some rule.Unknown (sym none))

  -- the lengths of a name's dimensions
  pub dimensions_are : (k : Known) → IsKnown P f k → AreLengths (e.dimensions_of (e.variable_of k))
  dimensions_are (known.Declared (meaning.Variable v)) is = is.1
  dimensions_are (known.Declared meaning.Argument) is = tt
  dimensions_are (known.Declared meaning.Unusable) is = tt
  dimensions_are (known.Declared (meaning.Object o)) is = tt
  dimensions_are (known.Declared (meaning.Function n)) is = tt
  dimensions_are (known.Library function) is = tt
  dimensions_are known.Unknown is = tt

  -- the room that the number of an element takes
  abbrev pub number_room : Option Expression → ℕ
  number_room None = 0
  number_room (Some number) = expression_weight number + 1

  object_room : (v : Variable) (number : Option Expression) → number_room number ≤ expression_weight (e.object_value v number) + 1
  object_room v None = omega arith
  object_room v (Some number) = omega arith

  pub named_room : (k : Known) (indices : ℕ) (number : Option Expression) → IsKnown P f k → e.misuse k indices ≡ None →
      number_room number ≤ expression_weight (e.named_value (e.variable_of k) number) + 1
  named_room (known.Declared (meaning.Variable v)) indices number is none = object_room v number
  named_room (known.Declared meaning.Argument) indices number is none = absurd (misuse-some (known.Declared meaning.Argument) indices refl is none)
  named_room (known.Declared meaning.Unusable) indices number is none = absurd is
  named_room (known.Declared (meaning.Object o)) indices number is none = absurd (none-some rule.Kind (sym none))
  named_room (known.Declared (meaning.Function n)) indices number is none = absurd (none-some rule.Kind (sym none))
  named_room (known.Library function) indices number is none = absurd (none-some rule.Kind (sym none))
  named_room known.Unknown indices number is none = absurd (none-some rule.Unknown (sym none))

  pub known_apart : (k : Known) → IsKnown P f k → IsApart k
  known_apart (known.Declared (meaning.Variable v)) is = tt
  known_apart (known.Declared meaning.Argument) is = tt
  known_apart (known.Declared meaning.Unusable) is = is
  known_apart (known.Declared (meaning.Object o)) is = tt
  known_apart (known.Declared (meaning.Function n)) is = tt
  known_apart (known.Library function) is = tt
  known_apart known.Unknown is = tt
