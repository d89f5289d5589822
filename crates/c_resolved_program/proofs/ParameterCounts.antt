-- How many locals the head of a function declares at most: one for each parameter.
use Rattle.std.proofs.Common.{refl, ℕ, ◌≤◌, Bool, true, false, List, [], length, Option, Some, None, arith}
use Rattle.std.specs.Prelude.{is_some, not, if◌then◌else◌}
use Rattle.c_tree.specs.declared.expression.Name.{Name}
use Rattle.c_tree.specs.declared.declaration.Function.{Function as FunctionTree}
use Rattle.c_tree.specs.declared.declaration.Parameter.{Parameter}
use Rattle.c_rules.specs.declared.fault.Rule.TheVariants as rule
use Rattle.c_rules.specs.declared.dimensions.Dimensions.TheVariants.{Scalar}
use Rattle.c_rules.specs.declared.names.Header.{Header}
use Rattle.c_rules.specs.declared.names.Meaning.{Meaning}
use Rattle.c_rules.specs.declared.names.Meaning.TheVariants as meaning
use Rattle.c_rules.specs.declared.specifiers.BasicType.{BasicType}
use Rattle.c_rules.specs.declared.specifiers.BasicType.TheVariants.{Long}
use Rattle.c_rules.specs.declared.specifiers.Spelled.{Spelled}
use Rattle.c_rules.specs.Levels.{named_in}
use Rattle.c_rules.specs.Library.{function_named}
use Rattle.c_rules.specs.Names.{is_start_routine, opened}
use Rattle.c_rules.specs.Specifiers.{plain, spelled_by}
use Rattle.c_rules.specs.Walks.{pure, finds, finds_if, ◌>>=◌, ◌>>◌}
use Rattle.c_resolution.specs.States.{Goes, finding, scoping}
use Rattle.c_resolution.specs.Locals.{new_local, refused_local, declare}
use Rattle.c_resolution.specs.Functions as y
use Rattle.c_resolved_program.proofs.LocalCounts.{Grows, grows_more, grows_pure, grows_finding, grows_scoping, grows_through, new_local_grows, declare_grows, opened_locals, by_grows}
use Rattle.c_resolved_program.proofs.StatementCounts.{in_turn}

-- ---- the name

over_grows : (h : Header) (name : Name) (second : Bool) (m : Option Meaning) → Grows 0 (y.declare_over h name second m)
over_grows h name second None = grows_scoping (y.with_header name h) (λ s. refl)
over_grows h name second (Some (meaning.Function number)) = grows_finding (λ s. y.declare_again s number h name second)
over_grows h name second (Some meaning.Argument) = grows_finding (λ s. finds rule.Twice name.offset)
over_grows h name second (Some meaning.Unusable) = grows_finding (λ s. finds rule.Twice name.offset)
over_grows h name second (Some (meaning.Variable v)) = grows_finding (λ s. finds rule.Twice name.offset)
over_grows h name second (Some (meaning.Object o)) = grows_finding (λ s. finds rule.Twice name.offset)

function_name_grows : (h : Header) (name : Name) (second : Bool) → Grows 0 (y.declare_function h name second)
unfolding y.declare_function
function_name_grows h name second x =
    by_grows (is_some (function_named name.bytes)) (y.twice name) (y.declare_over h name second (named_in x.scope.inner name.bytes)) 0 x
    (grows_finding (λ s. finds rule.Twice name.offset)) (over_grows h name second (named_in x.scope.inner name.bytes))

-- ---- parameters

pointer_grows : (words : Spelled) (routine : Bool) (at : ℕ) → Grows 1 (y.pointer_parameter words routine at)
pointer_grows words routine at =
    in_turn 1 0 1 (finding (λ s. finds_if (not routine) rule.Kind at)) (λ _. new_local words Scalar Long >> pure meaning.Argument) (omega arith)
    (grows_finding (λ s. finds_if (not routine) rule.Kind at))
    (λ _. in_turn 1 1 0 (new_local words Scalar Long) (λ _. pure meaning.Argument) (omega arith) (new_local_grows words Scalar Long) (λ _. grows_pure meaning.Argument))

parameter_of_grows : (words : Spelled) (at : ℕ) (ty : Option BasicType) → Grows 1 (y.parameter_of words at ty)
parameter_of_grows words at (Some ty) = new_local_grows words Scalar ty
parameter_of_grows words at None = grows_more 0 1 (finding (λ s. refused_local words at)) (omega arith) (grows_finding (λ s. refused_local words at))

chosen_grows : (b : Bool) (v w : Goes Meaning) → Grows 1 v → Grows 1 w → Grows 1 (if b then v else w)
chosen_grows true v w h k = h
chosen_grows false v w h k = k

meaning_grows : (p : Parameter) (routine : Bool) (at : ℕ) → Grows 1 (y.parameter_meaning p routine at)
unfolding y.parameter_meaning
meaning_grows p routine at =
    chosen_grows p.is_pointer (y.pointer_parameter (spelled_by p.specifiers) routine at)
    (y.parameter_of (spelled_by p.specifiers) at (plain (spelled_by p.specifiers).is_static (spelled_by p.specifiers).base))
    (pointer_grows (spelled_by p.specifiers) routine at)
    (parameter_of_grows (spelled_by p.specifiers) at (plain (spelled_by p.specifiers).is_static (spelled_by p.specifiers).base))

named_grows : (p : Parameter) (routine has_body : Bool) (name : Option Name) → Grows 1 (y.named_parameter p routine has_body name)
named_grows p routine has_body (Some name) =
    in_turn 1 1 0 (y.parameter_meaning p routine name.offset) (λ m. declare name m) (omega arith) (meaning_grows p routine name.offset) (λ m. declare_grows name m)
named_grows p routine has_body None =
    in_turn 1 1 0 (y.parameter_meaning p routine p.specifiers.offset) (λ _. finding (λ s. finds_if has_body rule.Kind p.specifiers.offset)) (omega arith)
    (meaning_grows p routine p.specifiers.offset) (λ _. grows_finding (λ s. finds_if has_body rule.Kind p.specifiers.offset))

parameter_grows : (routine has_body : Bool) (p : Parameter) → Grows 1 (y.parameter routine has_body p)
unfolding y.parameter
parameter_grows routine has_body p = named_grows p routine has_body p.name

parameters_grow : (routine has_body : Bool) (list : List Parameter) → Grows (length list) (y.parameters routine has_body list)
unfolding y.parameters
parameters_grow routine has_body list = grows_through (λ _ p. y.parameter routine has_body p) tt list (λ _ p. parameter_grows routine has_body p)

fewer : (b : Bool) (list : List Parameter) → length (if b then [] else list) ≤ length list
fewer true list = omega arith
fewer false list = omega arith

pub head_grows : (f : FunctionTree) (h : Header) (count : ℕ) → Grows (length f.parameters) (y.head f h count)
unfolding y.head
head_grows f h count =
    let n = length f.parameters in
    let last = λ (_ : Unit {0}). y.parameters (is_start_routine h) (is_some f.body) (y.written f) in
    let third = λ (_ : Unit {0}). scoping opened >>= last in
    let second = λ (_ : Unit {0}). y.declare_function h f.name (y.is_second f h count) >>= third in
    in_turn n 0 n (scoping (y.with_gives (y.gives_of h))) (λ _. finding (λ s. finds_if (y.is_unlisted (y.gives_of h)) rule.Kind f.name.offset) >>= second) (omega arith)
    (grows_scoping (y.with_gives (y.gives_of h)) (λ s. refl))
    (λ _. in_turn n 0 n (finding (λ s. finds_if (y.is_unlisted (y.gives_of h)) rule.Kind f.name.offset)) second (omega arith)
    (grows_finding (λ s. finds_if (y.is_unlisted (y.gives_of h)) rule.Kind f.name.offset))
    (λ _. in_turn n 0 n (y.declare_function h f.name (y.is_second f h count)) third (omega arith) (function_name_grows h f.name (y.is_second f h count))
    (λ _. in_turn n 0 n (scoping opened) last (omega arith) (grows_scoping opened opened_locals)
    (λ _. grows_more (length (y.written f)) n (y.parameters (is_start_routine h) (is_some f.body) (y.written f)) (fewer (y.is_no_parameter f.parameters) f.parameters)
    (parameters_grow (is_start_routine h) (is_some f.body) (y.written f))))))
