-- What the declaration of a function's name gives, where no rule is broken.
use Rattle.std.proofs.Common.{◌≡◌, refl, sym, subst, inl, inr, ℕ, Bool, true, false, Option, Some, None}
use Rattle.std.specs.Prelude.{◌⊎◌, not, is_some, if◌then◌else◌, slice_get, ⊤}
use Rattle.std.proofs.lemmas.Bool.{not-false}
use Rattle.c_tree.specs.declared.expression.Name.{Name}
use Rattle.c_rules.specs.declared.fault.Rule.TheVariants as rule
use Rattle.c_rules.specs.declared.findings.Findings.{Findings}
use Rattle.c_rules.specs.declared.names.Meaning.{Meaning}
use Rattle.c_rules.specs.declared.names.Meaning.TheVariants as meaning
use Rattle.c_rules.specs.declared.names.Header.{Header}
use Rattle.c_rules.specs.declared.names.Scope.{Scope}
use Rattle.c_rules.specs.Levels.{named_in}
use Rattle.c_rules.specs.Library.{function_named}
use Rattle.c_rules.specs.Walks.{Outcome, finds_if}
use Rattle.c_resolution.specs.States.{State}
use Rattle.c_resolution.specs.Functions as y
use Rattle.c_resolved_program.specs.Orders.{left, IsPartOf}
use Rattle.c_resolved_program.proofs.Walks.{Shows, shows_pure, shows_then, shows_as, shows_broken, shows_if, IfAny}
use Rattle.c_resolved_program.proofs.Steps.{in_scope_is}

-- a name that is declared again agrees with the header that is known, and has no second body
pub record IsAgain (s : Scope) (number : ℕ) (h : Header) (second : Bool) : Type 0 where
  pub agrees : IfAny (λ (known : Header). (second ≡ false) × (y.is_same_function known h ≡ true)) (slice_get s.headers number)

-- what is known behind the name: a new header, or the one that is known
pub record IsNamed (whole : Findings) (name : Name) (h : Header) (second : Bool) (x z : State) : Type 0 where
  pub found : IsPartOf whole x.found
  pub new :
      ((named_in x.scope.inner name.bytes ≡ None) × (z.scope ≡ y.with_header name h x.scope))
      ⊎ ((number : ℕ) × (named_in x.scope.inner name.bytes ≡ Some (meaning.Function number)) × (z.scope ≡ x.scope) × IsAgain x.scope number h second)

module _ (whole : Findings) where
  again_shows : (h : Header) (name : Name) (second : Bool) (o : Option Header) →
      Shows whole ⊤ (λ _. IfAny (λ (known : Header). (second ≡ false) × (y.is_same_function known h ≡ true)) o) (y.again h name second o)
  again_shows h name second None = shows_pure tt (λ _. tt)
  again_shows h name second (Some known) =
      shows_then (finds_if second rule.Twice name.offset) (λ _. finds_if (not (y.is_same_function known h)) rule.Kind name.offset) (shows_if second rule.Twice name.offset)
      (λ _. shows_as (finds_if (not (y.is_same_function known h)) rule.Kind name.offset) (λ b. b) (λ _ b is. (b.1, not-false (y.is_same_function known h) is))
      (shows_if (not (y.is_same_function known h)) rule.Kind name.offset))

  twice_never : (name : Name) (x : State) → IsPartOf whole (left (y.twice name x)).found → ⊥
  twice_never name x part = (shows_broken {Before = ⊤} {Is = λ _. ⊥} rule.Twice name.offset).forth x.found part tt

  over_is : (h : Header) (name : Name) (second : Bool) (x : State) (o : Option Meaning) → named_in x.scope.inner name.bytes ≡ o →
      IsPartOf whole (left (y.declare_over h name second o x)).found → IsNamed whole name h second x (left (y.declare_over h name second o x))
  unfolding y.declare_again
  over_is h name second x None at part = record { found = part; new = inl (at, refl) }
  over_is h name second x (Some (meaning.Function number)) at part =
      let o = y.again h name second (slice_get x.scope.headers number) x.found in
      let e = in_scope_is x.scope o in
      let ended = subst (λ (z : Outcome State (Unit {0})). IsPartOf whole (left z).found) e part in
      let shown = again_shows h name second (slice_get x.scope.headers number) in
      subst (λ (z : Outcome State (Unit {0})). IsNamed whole name h second x (left z)) (sym e)
      (record { found = shown.back x.found ended; new = inr (number, at, refl, record { agrees = shown.forth x.found ended tt }) })
  over_is h name second x (Some meaning.Argument) at part = absurd (twice_never name x part)
  over_is h name second x (Some meaning.Unusable) at part = absurd (twice_never name x part)
  over_is h name second x (Some (meaning.Variable v)) at part = absurd (twice_never name x part)
  over_is h name second x (Some (meaning.Object o)) at part = absurd (twice_never name x part)

  by_library : (b : Bool) (h : Header) (name : Name) (second : Bool) (x : State) →
      let o : Outcome State (Unit {0}) = if b then y.twice name x else y.declare_over h name second (named_in x.scope.inner name.bytes) x in
      IsPartOf whole (left o).found → IsNamed whole name h second x (left o)
  by_library true h name second x part = absurd (twice_never name x part)
  by_library false h name second x part = over_is h name second x (named_in x.scope.inner name.bytes) refl part

  pub declare_function_is : (h : Header) (name : Name) (second : Bool) (x : State) → IsPartOf whole (left (y.declare_function h name second x)).found →
      IsNamed whole name h second x (left (y.declare_function h name second x))
  unfolding y.declare_function
  declare_function_is h name second x part = by_library (is_some (function_named name.bytes)) h name second x part
