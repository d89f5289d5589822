-- What a definition of a function gives.
use Rattle.std.proofs.Common.{◌≡◌, refl, ap, ℕ, Bool, true, false, List, [], ◌∷◌, map, length, Option, Some, None}
use Rattle.std.specs.Prelude.{not, is_some, if◌then◌else◌}
use Rattle.std.proofs.lemmas.Bool.{and_parts}
use Rattle.c_tree.specs.declared.expression.Name.{Name}
use Rattle.c_tree.specs.declared.statement.Block.{Block}
use Rattle.c_tree.specs.declared.declaration.Parameter.{Parameter}
use Rattle.c_tree.specs.declared.declaration.Function.{Function as FunctionTree}
use Rattle.c_program.specs.declared.tree.ReturnType.{ReturnType}
use Rattle.c_program.specs.Tree.{Statement, Function}
use Rattle.c_rules.specs.declared.fault.Rule.TheVariants as rule
use Rattle.c_rules.specs.declared.specifiers.BasicType.{BasicType}
use Rattle.c_rules.specs.declared.specifiers.BasicType.TheVariants.{Long}
use Rattle.c_rules.specs.declared.specifiers.BaseType.{BaseType}
use Rattle.c_rules.specs.declared.specifiers.BaseType.TheVariants as base
use Rattle.c_rules.specs.declared.specifiers.Spelled.{Spelled}
use Rattle.c_rules.specs.declared.dimensions.Dimensions.TheVariants.{Scalar}
use Rattle.c_rules.specs.declared.names.Meaning.{Meaning}
use Rattle.c_rules.specs.declared.names.Meaning.TheVariants as meaning
use Rattle.c_rules.specs.declared.names.Header.{Header}
use Rattle.c_rules.specs.Specifiers.{plain, spelled_by}
use Rattle.c_rules.specs.Names.{opened, is_start_routine, is_pointer_alone, is_void_pointer, is_void_base}
use Rattle.c_rules.specs.Findings as findings
use Rattle.c_rules.specs.Walks.{Outcome, pure, and_then, finds_if, place_in_tree, ◌>>◌}
use Rattle.c_resolution.specs.States.{State, state, Goes, finding, scoping}
use Rattle.c_resolution.specs.Locals.{new_local, refused_local, declare}
use Rattle.c_resolution.specs.Statements.{items}
use Rattle.c_resolution.specs.Files.{File, Tables, Declares, file, going, in_file, with_function}
use Rattle.c_resolution.specs.Functions as y
use Rattle.c_resolved_program.specs.Orders.{left, given, IsGiven}
use Rattle.c_resolved_program.proofs.Walks.{turn}
use Rattle.c_resolved_program.proofs.BodyScope as m

-- ---- parameters leave the scopes round theirs

moving_of : (words : Spelled) (at : ℕ) (ty : Option BasicType) → m.IsMoving (y.parameter_of words at ty)
moving_of words at (Some ty) = m.moving_new_local words Scalar ty
moving_of words at None = m.moving_staying (finding (λ s. refused_local words at)) (m.staying_finding (λ s. refused_local words at))

moving_pointer : (words : Spelled) (routine : Bool) (at : ℕ) → m.IsMoving (y.pointer_parameter words routine at)
moving_pointer words routine at =
    let first : Goes (Unit {0}) = finding (λ s. finds_if (not routine) rule.Kind at) in
    m.moving_then first (λ _. new_local words Scalar Long >> pure meaning.Argument) (m.moving_staying first (m.staying_finding (λ s. finds_if (not routine) rule.Kind at)))
    (λ _. m.moving_then (new_local words Scalar Long) (λ _. pure meaning.Argument) (m.moving_new_local words Scalar Long) (λ _. m.moving_pure meaning.Argument))

moving_if : (b : Bool) (v w : Goes Meaning) → m.IsMoving v → m.IsMoving w → m.IsMoving (if b then v else w)
moving_if true v w h k = h
moving_if false v w h k = k

moving_meaning : (p : Parameter) (routine : Bool) (at : ℕ) → m.IsMoving (y.parameter_meaning p routine at)
unfolding y.parameter_meaning
moving_meaning p routine at =
    let words = spelled_by p.specifiers in
    moving_if p.is_pointer (y.pointer_parameter words routine at) (y.parameter_of words at (plain words.is_static words.base))
    (moving_pointer words routine at) (moving_of words at (plain words.is_static words.base))

moving_named : (p : Parameter) (routine has_body : Bool) (name : Option Name) → m.IsMoving (y.named_parameter p routine has_body name)
moving_named p routine has_body (Some name) =
    m.moving_then (y.parameter_meaning p routine name.offset) (λ k. declare name k) (moving_meaning p routine name.offset) (λ k. m.moving_declare name k)
moving_named p routine has_body None =
    let at = p.specifiers.offset in
    let last : Goes (Unit {0}) = finding (λ s. finds_if has_body rule.Kind at) in
    m.moving_then (y.parameter_meaning p routine at) (λ _. last) (moving_meaning p routine at)
    (λ _. m.moving_staying last (m.staying_finding (λ s. finds_if has_body rule.Kind at)))

moving_parameter : (routine has_body : Bool) (p : Parameter) → m.IsMoving (y.parameter routine has_body p)
unfolding y.parameter
moving_parameter routine has_body p = moving_named p routine has_body p.name

pub moving_parameters : (routine has_body : Bool) (list : List Parameter) → m.IsMoving (y.parameters routine has_body list)
unfolding y.parameters
moving_parameters routine has_body list = m.moving_through (λ _ p. y.parameter routine has_body p) tt list (λ _ p. moving_parameter routine has_body p)

-- ---- what a function gives back

given_by : (routine : Bool) (b : BaseType) (pointer : Bool) → (routine ≡ true → pointer ≡ true) → y.is_unlisted (y.gives_by routine b pointer) ≡ false →
    IsGiven (y.gives_by routine b pointer) (y.return_by routine b pointer)
given_by true base.Void true only listed = refl
given_by false base.Void false only listed = refl
given_by true base.Void false only listed = let no_pointer = only refl in cc
given_by false base.Void true only listed = cc
given_by true (base.Integer ty) false only listed = tt
given_by false (base.Integer ty) false only listed = tt
given_by true (base.Integer ty) true only listed = cc
given_by false (base.Integer ty) true only listed = cc
given_by true base.Thread pointer only listed = cc
given_by false base.Thread pointer only listed = cc
given_by true base.Mutex pointer only listed = cc
given_by false base.Mutex pointer only listed = cc
given_by true base.Barrier pointer only listed = cc
given_by false base.Barrier pointer only listed = cc
given_by true base.Unlisted pointer only listed = cc
given_by false base.Unlisted pointer only listed = cc

pub given_is : (h : Header) → y.is_unlisted (y.gives_of h) ≡ false → IsGiven (y.gives_of h) (y.return_type h)
given_is h listed =
    given_by (is_start_routine h) h.returns.base h.returns.is_pointer
    (λ starts. (and_parts (is_void_base h.returns.base) h.returns.is_pointer (and_parts (is_void_pointer h.returns) (is_pointer_alone h.parameters) starts).0).1) listed

-- the only parameter of a start routine is a pointer
pub alone : (list : List Parameter) → is_pointer_alone (map y.parameter_type list) ≡ true → (p : Parameter) × (list ≡ p ∷ []) × (p.is_pointer ≡ true)
alone [] h = cc
alone (p ∷ []) h = (p, refl, (and_parts (is_void_base (y.parameter_type p).base) p.is_pointer h).1)
alone (p ∷ q ∷ list) h = cc

-- ---- the head of a function, and its definition

-- what is known behind the declaration of a function's name
abbrev pub named : FunctionTree → Header → ℕ → State → State
named f h count x =
    left (y.declare_function h f.name (y.is_second f h count)
    (state (y.with_gives (y.gives_of h) x.scope) (findings.broken_if (y.is_unlisted (y.gives_of h)) rule.Kind f.name.offset x.found)))

-- the same with the scope of its parameters
abbrev pub inside : FunctionTree → Header → ℕ → State → State
inside f h count x = state (opened (named f h count x).scope) (named f h count x).found

pub head_is : (f : FunctionTree) (h : Header) (count : ℕ) (x : State) →
    left (y.head f h count x) ≡ left (y.parameters (is_start_routine h) (is_some f.body) (y.written f) (inside f h count x))
unfolding y.head
head_is f h count x =
    let x2 = state (y.with_gives (y.gives_of h) x.scope) (findings.broken_if (y.is_unlisted (y.gives_of h)) rule.Kind f.name.offset x.found) in
    let o = y.declare_function h f.name (y.is_second f h count) x2 in
    ap (λ (z : Outcome State (Unit {0})). left z) (turn o (λ _. scoping opened >> y.parameters (is_start_routine h) (is_some f.body) (y.written f)))

pub in_file_is : {A : Type 0} (t : Tables) (o : Outcome State A) → in_file t o ≡ Outcome.Gives (given o) (file (left o).scope (left o).found t)
in_file_is t (Outcome.Gives a x) = refl

-- what is known before a body, and behind it
abbrev pub before_body : ℕ → Block → State → State
before_body count body x = state (y.entered (place_in_tree count) (y.kept_from (length x.scope.locals) body) x.scope) x.found

abbrev pub defined_at : FunctionTree → ReturnType → Block → File → Function
defined_at f returns body x =
    let o = items body (before_body (length x.tables.functions) body (state x.scope x.found)) in
    y.defined f returns body (length x.scope.locals) (given o) (left o).scope.locals (left o).scope.local_names

pub definition_is : (f : FunctionTree) (returns : ReturnType) (body : Block) (x : File) →
    left (y.definition f returns body x) ≡
    (let o = items body (before_body (length x.tables.functions) body (state x.scope x.found)) in
    file (y.left (left o).scope) (left o).found (with_function (defined_at f returns body x) x.tables))
unfolding y.definition
definition_is f returns body x =
    let o = items body (before_body (length x.tables.functions) body (state x.scope x.found)) in
    let next : Statement → Declares (Unit {0}) = λ b. going (scoping y.left) >> y.finished f returns body (length x.scope.locals) b in
    ap (λ (z : Outcome File Statement). left (and_then z next)) (in_file_is x.tables o)
