-- What places of integers and of objects of POSIX threads give.
use Rattle.std.proofs.Common.{◌≡◌, refl, subst, ℕ, ◌≤◌, Bool, true, false, Option, Some, None, sym, arith}
use Rattle.std.specs.Prelude.{◌&&◌, not, nat_eq, if◌then◌else◌, unwrap_or, ⊤}
use Rattle.std.proofs.lemmas.Bool.{and_parts, not-false}
use Rattle.std.proofs.lemmas.Option.{none-some}
use Rattle.c_program.specs.Tree.{Expression, ObjectPlace, Function, Program}
use Rattle.c_program.specs.Weight.{place_weight, object_place_weight}
use Rattle.c_program.specs.Resolved.{IsObject, IsObjectPlace, IsPlace}
use Rattle.c_rules.specs.declared.fault.Rule.TheVariants as rule
use Rattle.c_rules.specs.declared.findings.Findings.{Findings}
use Rattle.c_rules.specs.declared.dimensions.Dimensions.{Dimensions}
use Rattle.c_rules.specs.declared.dimensions.Dimensions.TheVariants.{Scalar, One, Two, Three}
use Rattle.c_rules.specs.Dimensions.{count, elements}
use Rattle.c_rules.specs.declared.names.ObjectKind.{ObjectKind}
use Rattle.c_rules.specs.declared.names.ObjectKind.TheVariants.{Thread, Mutex, Barrier}
use Rattle.c_rules.specs.declared.names.Object.{Object}
use Rattle.c_rules.specs.declared.names.Variable.{Variable}
use Rattle.c_rules.specs.declared.names.Meaning.TheVariants as meaning
use Rattle.c_rules.specs.declared.names.Known.{Known}
use Rattle.c_rules.specs.declared.names.Known.TheVariants as known
use Rattle.c_rules.specs.Names.{same_kind}
use Rattle.c_rules.specs.Specifiers.{c_type}
use Rattle.c_rules.specs.Walks.{pure, finds_if, ◌>>◌}
use Rattle.c_expressions.specs.Callees as e
use Rattle.c_expressions.specs.Expressions.{dimensions_of, variable_of}
use Rattle.c_expressions.specs.Targets as t
use Rattle.c_calls.specs.Arguments as a
use Rattle.c_resolved_program.specs.Orders.{object_length}
use Rattle.c_resolved_program.proofs.Walks.{Shows, shows_pure, shows_then, shows_as, shows_if, IfAny}
use Rattle.c_resolved_program.proofs.Known.{IsKnown, IsNumber, number_room}

-- ---- what is assigned to

not_const : (b : Bool) → (if b then None else Some rule.Kind) ≡ None → b ≡ true
not_const true h = refl
not_const false h = absurd (none-some rule.Kind (sym h))

module _ (P : Program) (f : Function) where
  variable_is : (v : Variable) (d : Dimensions) (number : Option Expression) → IsObject P f v.storage v.number (elements v.dimensions) (c_type v.ty) →
      elements v.dimensions ≡ elements d → IsNumber P f d number → IsPlace P f (t.variable_place v number)
  variable_is v Scalar None is same so = subst (λ n. IsObject P f v.storage v.number n (c_type v.ty)) same is
  variable_is v Scalar (Some number) is same so = absurd so
  variable_is v (One a) None is same so = absurd so
  variable_is v (One a) (Some number) is same so = (is, so)
  variable_is v (Two a b) None is same so = absurd so
  variable_is v (Two a b) (Some number) is same so = (is, so)
  variable_is v (Three a b c) None is same so = absurd so
  variable_is v (Three a b c) (Some number) is same so = (is, so)

  pub place_is : (k : Known) (indices : ℕ) (number : Option Expression) → IsKnown P f k → t.target_fault k indices ≡ None →
      (nat_eq (count (dimensions_of (variable_of k))) indices ≡ true → IsNumber P f (dimensions_of (variable_of k)) number) → IsPlace P f (t.named_place (variable_of k) number)
  place_is (known.Declared (meaning.Variable v)) indices number is none so =
      variable_is v v.dimensions number is.0 refl
      (so (and_parts (not v.is_const) (nat_eq (count v.dimensions) indices) (not_const (not v.is_const && nat_eq (count v.dimensions) indices) none)).1)
  place_is (known.Declared meaning.Unusable) indices number is none so = absurd is
  place_is (known.Declared meaning.Argument) indices number is none so = absurd (none-some rule.Kind (sym none))
  place_is (known.Declared (meaning.Object o)) indices number is none so = absurd (none-some rule.Kind (sym none))
  place_is (known.Declared (meaning.Function n)) indices number is none so = absurd (none-some rule.Kind (sym none))
  place_is (known.Library function) indices number is none so = absurd (none-some rule.Kind (sym none))
  place_is known.Unknown indices number is none so = absurd (none-some rule.Unknown (sym none))

  variable_room : (v : Variable) (number : Option Expression) → number_room P f number ≤ place_weight (t.variable_place v number)
  variable_room v None = omega arith
  variable_room v (Some number) = omega arith

  pub place_room : (k : Known) (indices : ℕ) (number : Option Expression) → IsKnown P f k → t.target_fault k indices ≡ None →
      number_room P f number ≤ place_weight (t.named_place (variable_of k) number)
  place_room (known.Declared (meaning.Variable v)) indices number is none = variable_room v number
  place_room (known.Declared meaning.Unusable) indices number is none = absurd is
  place_room (known.Declared meaning.Argument) indices number is none = absurd (none-some rule.Kind (sym none))
  place_room (known.Declared (meaning.Object o)) indices number is none = absurd (none-some rule.Kind (sym none))
  place_room (known.Declared (meaning.Function n)) indices number is none = absurd (none-some rule.Kind (sym none))
  place_room (known.Library function) indices number is none = absurd (none-some rule.Kind (sym none))
  place_room known.Unknown indices number is none = absurd (none-some rule.Unknown (sym none))

  -- ---- objects of POSIX threads

  abbrev pub IsObjectAt : ObjectKind → ObjectPlace → Type 0
  IsObjectAt kind place = IsObjectPlace P f (object_length P kind) place

  -- the object of the kind has so many elements
  abbrev pub HasLength : ObjectKind → Object → Type 0
  HasLength kind o = object_length P kind o.number ≡ Some (unwrap_or o.length 1)

  kind_is : (x y : ObjectKind) → same_kind x y ≡ true → y ≡ x
  kind_is Thread Thread h = refl
  kind_is Mutex Mutex h = refl
  kind_is Barrier Barrier h = refl
  kind_is Thread Mutex h = cc
  kind_is Thread Barrier h = cc
  kind_is Mutex Thread h = cc
  kind_is Mutex Barrier h = cc
  kind_is Barrier Thread h = cc
  kind_is Barrier Mutex h = cc

  of_kind : (b : Bool) (kind : ObjectKind) (o : Object) → same_kind kind o.kind ≡ b → HasLength o.kind o → IfAny (HasLength kind) (if b then Some o else None)
  of_kind true kind o same has = subst (λ x. HasLength x o) (kind_is kind o.kind same) has
  of_kind false kind o same has = tt

  object_of_is : (kind : ObjectKind) (k : Known) → IsKnown P f k → IfAny (HasLength kind) (a.object_of kind k)
  object_of_is kind (known.Declared (meaning.Object o)) is = of_kind (same_kind kind o.kind) kind o refl is
  object_of_is kind (known.Declared (meaning.Variable v)) is = tt
  object_of_is kind (known.Declared meaning.Argument) is = tt
  object_of_is kind (known.Declared (meaning.Function number)) is = tt
  object_of_is kind (known.Declared meaning.Unusable) is = tt
  object_of_is kind (known.Library function) is = tt
  object_of_is kind known.Unknown is = tt

  misused_is : (k : Known) → IsKnown P f k → e.is_unknown k ≡ false → e.is_usable k ≡ false → ⊥
  misused_is known.Unknown is unknown usable = cc
  misused_is (known.Declared meaning.Unusable) is unknown usable = is
  misused_is (known.Declared (meaning.Variable v)) is unknown usable = cc
  misused_is (known.Declared meaning.Argument) is unknown usable = cc
  misused_is (known.Declared (meaning.Object o)) is unknown usable = cc
  misused_is (known.Declared (meaning.Function number)) is unknown usable = cc
  misused_is (known.Library function) is unknown usable = cc

  -- an element's number, where there are as many indices as dimensions
  abbrev pub IfCounted : Option Object → ℕ → Option Expression → Type 0
  IfCounted o indices number = nat_eq (count (a.object_dimensions o)) indices ≡ true → IsNumber P f (a.object_dimensions o) number

  placed_is : (kind : ObjectKind) (o : Object) (size : Option ℕ) (number : Option Expression) → object_length P kind o.number ≡ Some (unwrap_or size 1) →
      IsNumber P f (a.length_dimensions size) number → IsObjectAt kind (a.placed o size number)
  placed_is kind o None None is so = is
  placed_is kind o None (Some number) is so = absurd so
  placed_is kind o (Some n) None is so = absurd so
  placed_is kind o (Some n) (Some number) is so = (is, so)

  -- a single object has no number
  abbrev pub IsNoneBy : Option ℕ → Option Expression → Type 0
  IsNoneBy None (Some number) = ⊥
  IsNoneBy size number = ⊤

  abbrev pub IsSingle : Option Object → Option Expression → Type 0
  IsSingle None number = ⊤
  IsSingle (Some o) number = IsNoneBy o.length number

  -- an object at its place, where its number is so
  abbrev pub AsPlaced : ObjectKind → Option Object → ℕ → Option Expression → ObjectPlace → Type 0
  AsPlaced kind o indices number place = (IfCounted o indices number → IsObjectAt kind place) × (IsSingle o number → number_room P f number ≤ object_place_weight place)

  placed_room : (o : Object) (size : Option ℕ) (number : Option Expression) → IsNoneBy size number → number_room P f number ≤ object_place_weight (a.placed o size number)
  placed_room o None None none = omega arith
  placed_room o None (Some number) none = absurd none
  placed_room o (Some n) None none = omega arith
  placed_room o (Some n) (Some number) none = omega arith

  module _ {whole : Findings} where
    misused_object_shows : (k : Known) (name_at at : ℕ) → Shows whole (IsKnown P f k) (λ _. ⊥) (a.misused_object k name_at at)
    unfolding a.misused_object
    misused_object_shows k name_at at =
        shows_then (finds_if (e.is_unknown k) rule.Unknown name_at) (λ _. finds_if (e.is_usable k) rule.Kind at >> pure a.no_object)
        (shows_if (e.is_unknown k) rule.Unknown name_at)
        (λ _. shows_then (finds_if (e.is_usable k) rule.Kind at) (λ _. pure a.no_object) (shows_if (e.is_usable k) rule.Kind at)
        (λ _. shows_pure a.no_object (λ b. absurd (misused_is k b.0.0 b.0.1 b.1))))

    object_at_shows : (kind : ObjectKind) (at : ℕ) (o : Object) (indices : ℕ) (number : Option Expression) →
        Shows whole (HasLength kind o) (AsPlaced kind (Some o) indices number) (a.object_at at o indices number)
    unfolding a.object_at
    object_at_shows kind at o indices number =
        let same = nat_eq (count (a.length_dimensions o.length)) indices in
        shows_then (finds_if (not same) rule.Kind at) (λ _. pure (a.placed o o.length number)) (shows_if (not same) rule.Kind at)
        (λ _. shows_pure (a.placed o o.length number)
        (λ b. ((λ counted. placed_is kind o o.length number b.0 (counted (not-false same b.1))), λ none. placed_room o o.length number none)))

    object_from_shows : {Before : Type 0} (kind : ObjectKind) (o : Option Object) (k : Known) (name_at at indices : ℕ) (number : Option Expression) →
        (Before → IsKnown P f k × IfAny (HasLength kind) o) → Shows whole Before (AsPlaced kind o indices number) (a.object_from o k name_at at indices number)
    object_from_shows kind (Some o) k name_at at indices number is =
        shows_as (a.object_at name_at o indices number) (λ b. (is b).1) (λ _ _ is. is) (object_at_shows kind name_at o indices number)
    object_from_shows kind None k name_at at indices number is =
        shows_as (a.misused_object k name_at at) (λ b. (is b).0) (λ _ _ no. absurd no) (misused_object_shows k name_at at)

    pub object_named_shows : (kind : ObjectKind) (k : Known) (name_at at indices : ℕ) (number : Option Expression) →
        Shows whole (IsKnown P f k) (AsPlaced kind (a.object_of kind k) indices number) (a.object_named kind k name_at at indices number)
    unfolding a.object_named
    object_named_shows kind k name_at at indices number =
        object_from_shows kind (a.object_of kind k) k name_at at indices number (λ b. (b, object_of_is kind k b))
