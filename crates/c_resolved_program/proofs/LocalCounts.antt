-- How many locals a part of a function declares at most.
use Rattle.std.proofs.Common.{◌≡◌, refl, ap, ℕ, ◌≤◌, Bool, true, false, List, [], ◌∷◌, ◌++◌, length, Option, Some, None, length-append, arith}
use Rattle.std.specs.Prelude.{◌+◌, ◌-◌, fold, slice_get, if◌then◌else◌}
use Rattle.c_tree.specs.declared.expression.Name.{Name}
use Rattle.c_tree.specs.declared.declaration.Declaration.{Declaration}
use Rattle.c_tree.specs.declared.declaration.Declarator.{Declarator}
use Rattle.c_program.specs.declared.tree.LocalVariable.{LocalVariable}
use Rattle.c_program.specs.Tree.{Statement}
use Rattle.c_rules.specs.declared.fault.Rule.TheVariants as rule
use Rattle.c_rules.specs.declared.findings.Findings.{Findings}
use Rattle.c_rules.specs.declared.dimensions.Dimensions.{Dimensions}
use Rattle.c_rules.specs.Dimensions.{elements}
use Rattle.c_rules.specs.declared.names.Meaning.{Meaning}
use Rattle.c_rules.specs.declared.names.Scope.{Scope}
use Rattle.c_rules.specs.declared.specifiers.BasicType.{BasicType}
use Rattle.c_rules.specs.declared.specifiers.Spelled.{Spelled}
use Rattle.c_rules.specs.Names.{Names, is_taken, declaring, opened, closed, closed_to}
use Rattle.c_rules.specs.Specifiers.{c_type, plain, spelled_by}
use Rattle.c_rules.specs.Walks.{Outcome, Finds, pure, and_then, through, finds, ◌>>=◌, ◌>>◌}
use Rattle.c_resolution.specs.States.{State, Goes, in_scope, finding, scoping}
use Rattle.c_resolution.specs.Locals as y
use Rattle.c_resolution.specs.Resolving.{after}

-- how many locals there are behind a part
abbrev pub locals_behind : {A : Type 0} → Outcome State A → ℕ
locals_behind o = length (after o).scope.locals

abbrev pub Grows : {A : Type 0} → ℕ → Goes A → Type 0
Grows n w = (x : State) → locals_behind (w x) ≤ length x.scope.locals + n

pub grows_more : {A : Type 0} (m n : ℕ) (w : Goes A) → m ≤ n → Grows m w → Grows n w
grows_more m n w le h x = let k = h x in omega (arith, k, le)

pub then_grows : {A B : Type 0} (o : Outcome State A) (q : A → Goes B) (k m n : ℕ) → locals_behind o ≤ k + m → ((a : A) → Grows n (q a)) → locals_behind (and_then o q) ≤ k + (m + n)
then_grows (Outcome.Gives a s) q k m n h hq = let next = hq a s in omega (arith, h, next)

pub grows_then : {A B : Type 0} (m n : ℕ) (p : Goes A) (q : A → Goes B) → Grows m p → ((a : A) → Grows n (q a)) → Grows (m + n) (p >>= q)
grows_then m n p q hp hq x = then_grows (p x) q (length x.scope.locals) m n (hp x) hq

pub grows_pure : {A : Type 0} (a : A) → Grows 0 (pure a)
grows_pure a x = omega arith

pub in_scope_grows : {A : Type 0} (s : Scope) (o : Outcome Findings A) → locals_behind (in_scope s o) ≤ length s.locals + 0
in_scope_grows s (Outcome.Gives a found) = omega arith

pub grows_finding : {A : Type 0} (w : Scope → Finds A) → Grows 0 (finding w)
grows_finding w x = in_scope_grows x.scope (w x.scope x.found)

pub grows_scoping : (change : Scope → Scope) → ((s : Scope) → (change s).locals ≡ s.locals) → Grows 0 (scoping change)
grows_scoping change same x = omega (arith, ap length (same x.scope))

-- ---- parts one after another

through_from : {A B : Type 0} (step : A → B → Goes A) (items : List B) (o : Outcome State A) → ((a : A) (b : B) → Grows 1 (step a b)) →
    locals_behind (fold (λ o b. and_then o (λ x. step x b)) o items) ≤ locals_behind o + length items
through_from step [] o h = omega arith
through_from step (b ∷ rest) (Outcome.Gives a x) h =
    let one = h a b x in
    let more = through_from step rest (step a b x) h in
    omega (arith, one, more)

pub grows_through : {A B : Type 0} (step : A → B → Goes A) (a : A) (items : List B) → ((a : A) (b : B) → Grows 1 (step a b)) → Grows (length items) (through step a items)
grows_through step a items h x = through_from step items (Outcome.Gives a x) h

-- ---- scopes

pub opened_locals : (s : Scope) → (opened s).locals ≡ s.locals
unfolding opened
opened_locals s = refl

closed_to_same : (level : Option Names) (s : Scope) → (closed_to level s).locals ≡ s.locals
closed_to_same None s = refl
closed_to_same (Some level) s = refl

pub closed_same : (s : Scope) → (closed s).locals ≡ s.locals
unfolding closed
closed_same s = closed_to_same (slice_get s.outer (length s.outer - 1)) s

-- ---- declarations

pub by_grows : {A : Type 0} (b : Bool) (v w : Goes A) (n : ℕ) (x : State) → Grows n v → Grows n w → locals_behind (if b then v x else w x) ≤ length x.scope.locals + n
by_grows true v w n x h k = h x
by_grows false v w n x h k = k x

pub declared_locals : (name : List ℕ) (m : Meaning) (s : Scope) → (declaring name m s).locals ≡ s.locals
unfolding declaring
declared_locals name m s = refl

pub declare_grows : (name : Name) (m : Meaning) → Grows 0 (y.declare name m)
unfolding y.declare
declare_grows name m x =
    let v : Goes (Unit {0}) = finding (λ s. finds rule.Twice name.offset) in
    let w : Goes (Unit {0}) = scoping (declaring name.bytes m) in
    by_grows (is_taken x.scope name.bytes) v w 0 x (grows_finding (λ s. finds rule.Twice name.offset)) (grows_scoping (declaring name.bytes m) (declared_locals name.bytes m))

pub new_local_grows : (words : Spelled) (size : Dimensions) (ty : BasicType) → Grows 1 (y.new_local words size ty)
unfolding y.new_local
new_local_grows words size ty x =
    let local : LocalVariable = record { ty = c_type ty; length = elements size } in
    omega (arith, length-append x.scope.locals (local ∷ []))

local_of_grows : (words : Spelled) (at : ℕ) (size : Dimensions) (ty : Option BasicType) → Grows 1 (y.local_of words at size ty)
local_of_grows words at size (Some ty) = new_local_grows words size ty
local_of_grows words at size None =
    grows_more 0 1 (finding (λ s. y.refused_local words at)) (omega arith) (grows_finding (λ s. y.refused_local words at))

local_grows : (words : Spelled) (at : ℕ) (size : Dimensions) → Grows 1 (y.local words at size)
unfolding y.local
local_grows words at size = local_of_grows words at size (plain words.is_static words.base)

declarator_grows : (words : Spelled) (d : Declarator) → Grows 1 (y.declarator words d)
unfolding y.declarator
declarator_grows words d =
    let stepping = λ (m : Meaning). finding (y.declared_step d m d.initializer) in
    let declaring = λ (m : Meaning). y.declare d.name m >> stepping m in
    grows_then 0 1 (finding (y.dimensions d.lengths)) (λ size. y.local words d.name.offset size >>= declaring) (grows_finding (y.dimensions d.lengths))
    (λ size. grows_then 1 0 (y.local words d.name.offset size) declaring (local_grows words d.name.offset size)
    (λ m. grows_then 0 0 (y.declare d.name m) (λ _. stepping m) (declare_grows d.name m) (λ _. grows_finding (y.declared_step d m d.initializer))))

pub declaration_grows : (steps : List Statement) (d : Declaration) → Grows (length d.declarators) (y.declaration steps d)
unfolding y.declaration
declaration_grows steps d =
    let step = λ (done : List Statement) (x : Declarator). y.declarator (spelled_by d.specifiers) x >>= (λ s. pure (done ++ s ∷ [])) in
    grows_through step steps d.declarators
    (λ done x. grows_then 1 0 (y.declarator (spelled_by d.specifiers) x) (λ s. pure (done ++ s ∷ [])) (declarator_grows (spelled_by d.specifiers) x) (λ s. grows_pure (done ++ s ∷ [])))
