-- The head of a function creates no thread.
use Rattle.std.proofs.Common.{ℕ, Bool, true, false, List, [], ◌∷◌, Option, Some, None}
use Rattle.std.specs.Prelude.{not, is_some, if◌then◌else◌, slice_get}
use Rattle.std.specs.List.{AllByRecursion}
use Rattle.c_tree.specs.declared.expression.Name.{Name}
use Rattle.c_tree.specs.declared.declaration.Parameter.{Parameter}
use Rattle.c_tree.specs.declared.declaration.Function.{Function as FunctionTree}
use Rattle.c_rules.specs.declared.fault.Rule.TheVariants as rule
use Rattle.c_rules.specs.declared.findings.Creation.{Creation}
use Rattle.c_rules.specs.declared.specifiers.BasicType.{BasicType}
use Rattle.c_rules.specs.declared.specifiers.BasicType.TheVariants.{Long}
use Rattle.c_rules.specs.declared.specifiers.Spelled.{Spelled}
use Rattle.c_rules.specs.declared.dimensions.Dimensions.TheVariants.{Scalar}
use Rattle.c_rules.specs.declared.names.Meaning.{Meaning}
use Rattle.c_rules.specs.declared.names.Meaning.TheVariants as meaning
use Rattle.c_rules.specs.declared.names.Header.{Header}
use Rattle.c_rules.specs.Levels.{named_in}
use Rattle.c_rules.specs.Library.{function_named}
use Rattle.c_rules.specs.Names.{opened, is_start_routine}
use Rattle.c_rules.specs.Specifiers.{plain, spelled_by}
use Rattle.c_rules.specs.Walks.{pure, finds, finds_if, ◌>>◌}
use Rattle.c_resolution.specs.States.{Goes, finding, scoping}
use Rattle.c_resolution.specs.Locals.{new_local, refused_local, declare}
use Rattle.c_resolution.specs.Functions as y
use Rattle.c_resolved_program.proofs.Quiet.{IsQuiet, quiet_then, quiet_pure, quiet_finds, quiet_if}
use Rattle.c_resolved_program.proofs.Makings as k

abbrev pub No : Creation → Type 0
No = λ _. ⊥

-- a part that creates no thread
abbrev pub MakesNone : {A : Type 0} → Goes A → Type 0
MakesNone w = k.Making No (λ _. No) w

either_none : {A : Type 0} (b : Bool) (v w : Goes A) → MakesNone v → MakesNone w → MakesNone (if b then v else w)
either_none true v w h g = h
either_none false v w h g = g

-- ---- the name

quiet_again : (h : Header) (name : Name) (second : Bool) (o : Option Header) → IsQuiet (y.again h name second o)
quiet_again h name second None = quiet_pure tt
quiet_again h name second (Some known) =
    quiet_then (finds_if second rule.Twice name.offset) (λ _. finds_if (not (y.is_same_function known h)) rule.Kind name.offset)
    (quiet_if second rule.Twice name.offset) (λ _. quiet_if (not (y.is_same_function known h)) rule.Kind name.offset)

none_twice : (name : Name) → MakesNone (y.twice name)
none_twice name = k.making_quiet (λ s. finds rule.Twice name.offset) (λ s. quiet_finds rule.Twice name.offset)

none_over : (h : Header) (name : Name) (second : Bool) (o : Option Meaning) → MakesNone (y.declare_over h name second o)
unfolding y.declare_again
none_over h name second None = k.making_scoping (y.with_header name h)
none_over h name second (Some (meaning.Function number)) =
    k.making_quiet (λ s. y.declare_again s number h name second) (λ s. quiet_again h name second (slice_get s.headers number))
none_over h name second (Some meaning.Argument) = none_twice name
none_over h name second (Some meaning.Unusable) = none_twice name
none_over h name second (Some (meaning.Variable v)) = none_twice name
none_over h name second (Some (meaning.Object o)) = none_twice name

none_declare_function : (h : Header) (name : Name) (second : Bool) → MakesNone (y.declare_function h name second)
unfolding y.declare_function
none_declare_function h name second = record {
  new = λ x c inside.
      let over : Goes (Unit {0}) = y.declare_over h name second (named_in x.scope.inner name.bytes) in
      k.making_by {Earlier = No} (is_some (function_named name.bytes)) (y.twice name) over x (none_twice name)
      (none_over h name second (named_in x.scope.inner name.bytes)) c inside;
  kept = λ x c earlier. earlier;
}

-- ---- parameters

none_of : (words : Spelled) (at : ℕ) (ty : Option BasicType) → MakesNone (y.parameter_of words at ty)
none_of words at (Some ty) = k.making_new_local words Scalar ty
none_of words at None = k.making_quiet (λ s. refused_local words at) (λ s. k.quiet_refused_local words at)

none_pointer : (words : Spelled) (routine : Bool) (at : ℕ) → MakesNone (y.pointer_parameter words routine at)
none_pointer words routine at =
    k.making_then (finding (λ s. finds_if (not routine) rule.Kind at)) (λ _. new_local words Scalar Long >> pure meaning.Argument)
    (k.making_quiet (λ s. finds_if (not routine) rule.Kind at) (λ s. quiet_if (not routine) rule.Kind at))
    (λ _. k.making_then (new_local words Scalar Long) (λ _. pure meaning.Argument) (k.making_new_local words Scalar Long)
    (λ _. k.making_pure meaning.Argument (λ c earlier. earlier)))

none_meaning : (p : Parameter) (routine : Bool) (at : ℕ) → MakesNone (y.parameter_meaning p routine at)
unfolding y.parameter_meaning
none_meaning p routine at =
    let words = spelled_by p.specifiers in
    let ty = plain words.is_static words.base in
    either_none p.is_pointer (y.pointer_parameter words routine at) (y.parameter_of words at ty) (none_pointer words routine at) (none_of words at ty)

none_named : (p : Parameter) (routine has_body : Bool) (name : Option Name) → MakesNone (y.named_parameter p routine has_body name)
none_named p routine has_body (Some name) =
    k.making_then (y.parameter_meaning p routine name.offset) (λ m. declare name m) (none_meaning p routine name.offset) (λ m. k.making_declare name m)
none_named p routine has_body None =
    let at = p.specifiers.offset in
    k.making_then (y.parameter_meaning p routine at) (λ _. finding (λ s. finds_if has_body rule.Kind at)) (none_meaning p routine at)
    (λ _. k.making_quiet (λ s. finds_if has_body rule.Kind at) (λ s. quiet_if has_body rule.Kind at))

none_parameter : (routine has_body : Bool) (p : Parameter) → MakesNone (y.parameter routine has_body p)
unfolding y.parameter
none_parameter routine has_body p = none_named p routine has_body p.name

pub all_of_each : {B : Type 0} {Is : B → Type 0} → ((b : B) → Is b) → (list : List B) → AllByRecursion Is list
all_of_each h [] = tt
all_of_each h (b ∷ list) = (h b, all_of_each h list)

none_parameters : (routine has_body : Bool) (list : List Parameter) → MakesNone (y.parameters routine has_body list)
unfolding y.parameters
none_parameters routine has_body list =
    k.making_through {Made = λ _. No} (λ _ p. y.parameter routine has_body p) tt list (all_of_each (λ p _. none_parameter routine has_body p) list)

-- ---- the head

pub head_makes : (f : FunctionTree) (h : Header) (count : ℕ) → MakesNone (y.head f h count)
unfolding y.head
head_makes f h count =
    let routine = is_start_routine h in
    let has_body = is_some f.body in
    let last : Goes (Unit {0}) = y.parameters routine has_body (y.written f) in
    let name : Goes (Unit {0}) = y.declare_function h f.name (y.is_second f h count) in
    let listed : Goes (Unit {0}) = finding (λ s. finds_if (y.is_unlisted (y.gives_of h)) rule.Kind f.name.offset) in
    k.making_then (scoping (y.with_gives (y.gives_of h))) (λ _. listed >> (name >> (scoping opened >> last))) (k.making_scoping (y.with_gives (y.gives_of h)))
    (λ _. k.making_then listed (λ _. name >> (scoping opened >> last))
    (k.making_quiet (λ s. finds_if (y.is_unlisted (y.gives_of h)) rule.Kind f.name.offset) (λ s. quiet_if (y.is_unlisted (y.gives_of h)) rule.Kind f.name.offset))
    (λ _. k.making_then name (λ _. scoping opened >> last) (none_declare_function h f.name (y.is_second f h count))
    (λ _. k.making_then (scoping opened) (λ _. last) (k.making_scoping opened) (λ _. none_parameters routine has_body (y.written f)))))
