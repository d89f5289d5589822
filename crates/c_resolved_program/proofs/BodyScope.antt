-- What parts of a function's body leave of a scope, whatever they find: the scopes round the innermost one, the headers, and
-- no more loops than before.
use Rattle.std.proofs.Common.{◌≡◌, refl, sym, ap, subst, ◌∙◌, ℕ, ◌≤◌, Bool, true, false, List, [], ◌∷◌, ◌++◌, length, Option, Some, None, le_trans, arith}
use Rattle.std.specs.Prelude.{◌+◌, ◌-◌, min, slice_get, remove, fold, unwrap_or, if◌then◌else◌}
use Rattle.std.specs.List.{AllByRecursion}
use Rattle.lists.proofs.Places.{length_more, get_last}
use Rattle.c_rules.specs.declared.names.Scope.{Scope}
use Rattle.c_rules.specs.declared.dimensions.Dimensions.{Dimensions}
use Rattle.c_rules.specs.declared.names.Meaning.{Meaning}
use Rattle.c_rules.specs.declared.specifiers.BasicType.{BasicType}
use Rattle.c_rules.specs.declared.specifiers.Spelled.{Spelled}
use Rattle.c_tree.specs.declared.expression.Name.{Name}
use Rattle.c_tree.specs.declared.declaration.Declaration.{Declaration}
use Rattle.c_tree.specs.declared.declaration.Declarator.{Declarator}
use Rattle.c_program.specs.Tree.{Statement}
use Rattle.c_rules.specs.Names.{Names, is_taken, declaring, opened, closed, closed_to}
use Rattle.c_rules.specs.Specifiers.{plain, spelled_by}
use Rattle.c_rules.specs.Walks.{Outcome, Finds, pure, and_then, through, finds, ◌>>=◌, ◌>>◌}
use Rattle.c_rules.specs.declared.fault.Rule.TheVariants as rule
use Rattle.c_resolution.specs.States.{State, state, Goes, finding, scoping}
use Rattle.c_resolution.specs.Locals as y
use Rattle.c_resolution.specs.Statements.{deeper, shallower, switched, unswitched, loop_body}
use Rattle.c_resolved_program.proofs.Walks.{turn}
use Rattle.c_resolved_program.specs.Orders.{left, given}
use Rattle.c_resolved_program.proofs.Steps.{in_scope_is}

pub record Moves (x y : Scope) : Type 0 where
  pub outer : y.outer ≡ x.outer
  pub headers : y.headers ≡ x.headers
  pub definitions : y.definitions ≡ x.definitions
  pub function : y.function ≡ x.function
  pub gives : y.gives ≡ x.gives
  pub loops : y.loops ≤ x.loops
  pub exits : y.exits ≤ x.exits

-- a part that may declare names in the innermost scope
abbrev pub IsMoving : {A : Type 0} → Goes A → Type 0
IsMoving w = (x : State) → Moves x.scope (left (w x)).scope

-- a part that leaves the names as they are
abbrev pub IsStaying : {A : Type 0} → Goes A → Type 0
IsStaying w = (x : State) → Moves x.scope (left (w x)).scope × ((left (w x)).scope.inner ≡ x.scope.inner)

pub moves_same : (s : Scope) → Moves s s
moves_same s = record { outer = refl; headers = refl; definitions = refl; function = refl; gives = refl; loops = omega arith; exits = omega arith }

pub moves_on : (a b c : Scope) → Moves a b → Moves b c → Moves a c
moves_on a b c h k = record {
  outer = k.outer ∙ h.outer;
  headers = k.headers ∙ h.headers;
  definitions = k.definitions ∙ h.definitions;
  function = k.function ∙ h.function;
  gives = k.gives ∙ h.gives;
  loops = le_trans k.loops h.loops;
  exits = le_trans k.exits h.exits;
}

-- ---- parts in turn

pub moving_then : {A B : Type 0} (p : Goes A) (q : A → Goes B) → IsMoving p → ((a : A) → IsMoving (q a)) → IsMoving (p >>= q)
moving_then {A} {B} p q hp hq x =
    subst (λ (o : Outcome State B). Moves x.scope (left o).scope) (sym (turn (p x) q))
    (moves_on x.scope (left (p x)).scope (left (q (given (p x)) (left (p x)))).scope (hp x) (hq (given (p x)) (left (p x))))

pub staying_then : {A B : Type 0} (p : Goes A) (q : A → Goes B) → IsStaying p → ((a : A) → IsStaying (q a)) → IsStaying (p >>= q)
staying_then {A} {B} p q hp hq x =
    let first = hp x in
    let next = hq (given (p x)) (left (p x)) in
    subst (λ (o : Outcome State B). Moves x.scope (left o).scope × ((left o).scope.inner ≡ x.scope.inner)) (sym (turn (p x) q))
    (moves_on x.scope (left (p x)).scope (left (q (given (p x)) (left (p x)))).scope first.0 next.0, next.1 ∙ first.1)

pub moving_pure : {A : Type 0} (a : A) → IsMoving (pure a)
moving_pure a x = moves_same x.scope

pub staying_pure : {A : Type 0} (a : A) → IsStaying (pure a)
staying_pure a x = (moves_same x.scope, refl)

pub staying_finding : {A : Type 0} (walk : Scope → Finds A) → IsStaying (finding walk)
staying_finding {A} walk x =
    subst (λ (o : Outcome State A). Moves x.scope (left o).scope × ((left o).scope.inner ≡ x.scope.inner)) (sym (in_scope_is x.scope (walk x.scope x.found)))
    (moves_same x.scope, refl)

pub moving_staying : {A : Type 0} (w : Goes A) → IsStaying w → IsMoving w
moving_staying w h x = (h x).0

moving_after : {A B : Type 0} (step : A → B → Goes A) (items : List B) (o : Outcome State A) (s : Scope) → ((a : A) (b : B) → IsMoving (step a b)) →
    Moves s (left o).scope → Moves s (left (fold (λ o b. and_then o (λ x. step x b)) o items)).scope
moving_after step [] o s h so_far = so_far
moving_after step (b ∷ rest) (Outcome.Gives a x) s h so_far =
    moving_after step rest (step a b x) s h (moves_on s x.scope (left (step a b x)).scope so_far (h a b x))

pub moving_through : {A B : Type 0} (step : A → B → Goes A) (a : A) (items : List B) → ((a : A) (b : B) → IsMoving (step a b)) → IsMoving (through step a items)
moving_through step a items h x = moving_after step items (Outcome.Gives a x) x.scope h (moves_same x.scope)

moving_after_each : {A B : Type 0} (step : A → B → Goes A) (items : List B) (o : Outcome State A) (s : Scope) → AllByRecursion (λ b. (a : A) → IsMoving (step a b)) items →
    Moves s (left o).scope → Moves s (left (fold (λ o b. and_then o (λ x. step x b)) o items)).scope
moving_after_each step [] o s all so_far = so_far
moving_after_each step (b ∷ rest) (Outcome.Gives a x) s all so_far =
    moving_after_each step rest (step a b x) s all.1 (moves_on s x.scope (left (step a b x)).scope so_far (all.0 a x))

pub moving_each : {A B : Type 0} (step : A → B → Goes A) (a : A) (items : List B) → AllByRecursion (λ b. (a : A) → IsMoving (step a b)) items → IsMoving (through step a items)
moving_each step a items all x = moving_after_each step items (Outcome.Gives a x) x.scope all (moves_same x.scope)

-- ---- declarations

moving_by : {A : Type 0} (b : Bool) (v w : Goes A) (x : State) → Moves x.scope (left (v x)).scope → Moves x.scope (left (w x)).scope → Moves x.scope
    (left (if b then v x else w x)).scope
moving_by true v w x h k = h
moving_by false v w x h k = k

moving_declaring : (name : List ℕ) (m : Meaning) → IsMoving (scoping (declaring name m))
unfolding declaring
moving_declaring name m x = record { outer = refl; headers = refl; definitions = refl; function = refl; gives = refl; loops = omega arith; exits = omega arith }

pub moving_declare : (name : Name) (m : Meaning) → IsMoving (y.declare name m)
unfolding y.declare
moving_declare name m x =
    let v : Goes (Unit {0}) = finding (λ s. finds rule.Twice name.offset) in
    let w : Goes (Unit {0}) = scoping (declaring name.bytes m) in
    moving_by (is_taken x.scope name.bytes) v w x ((staying_finding (λ s. finds rule.Twice name.offset) x).0) (moving_declaring name.bytes m x)

pub moving_new_local : (words : Spelled) (size : Dimensions) (ty : BasicType) → IsMoving (y.new_local words size ty)
unfolding y.new_local
moving_new_local words size ty x = record { outer = refl; headers = refl; definitions = refl; function = refl; gives = refl; loops = omega arith; exits = omega arith }

moving_local_of : (words : Spelled) (at : ℕ) (size : Dimensions) (ty : Option BasicType) → IsMoving (y.local_of words at size ty)
moving_local_of words at size (Some ty) = moving_new_local words size ty
moving_local_of words at size None = moving_staying (finding (λ s. y.refused_local words at)) (staying_finding (λ s. y.refused_local words at))

moving_local : (words : Spelled) (at : ℕ) (size : Dimensions) → IsMoving (y.local words at size)
unfolding y.local
moving_local words at size = moving_local_of words at size (plain words.is_static words.base)

moving_declarator : (words : Spelled) (d : Declarator) → IsMoving (y.declarator words d)
unfolding y.declarator
moving_declarator words d =
    let stepping = λ (m : Meaning). finding (y.declared_step d m d.initializer) in
    let declaring = λ (m : Meaning). y.declare d.name m >> stepping m in
    moving_then (finding (y.dimensions d.lengths)) (λ size. y.local words d.name.offset size >>= declaring)
    (moving_staying (finding (y.dimensions d.lengths)) (staying_finding (y.dimensions d.lengths)))
    (λ size. moving_then (y.local words d.name.offset size) declaring (moving_local words d.name.offset size)
    (λ m. moving_then (y.declare d.name m) (λ _. stepping m) (moving_declare d.name m)
    (λ _. moving_staying (stepping m) (staying_finding (y.declared_step d m d.initializer)))))

pub moving_declaration : (steps : List Statement) (d : Declaration) → IsMoving (y.declaration steps d)
unfolding y.declaration
moving_declaration steps d =
    let step = λ (done : List Statement) (x : Declarator). y.declarator (spelled_by d.specifiers) x >>= (λ s. pure (done ++ s ∷ [])) in
    moving_through step steps d.declarators
    (λ done x. moving_then (y.declarator (spelled_by d.specifiers) x) (λ s. pure (done ++ s ∷ [])) (moving_declarator (spelled_by d.specifiers) x)
    (λ s. moving_pure (done ++ s ∷ [])))

-- ---- blocks and loops

remove_last : {A : Type 0} (xs : List A) (a : A) → remove (xs ++ a ∷ []) (length xs) ≡ xs
remove_last [] a = refl
remove_last (x ∷ xs) a = ap (λ l. x ∷ l) (remove_last xs a)

last_place : {A : Type 0} (xs : List A) (a : A) → length (xs ++ a ∷ []) - 1 ≡ length xs
last_place xs a = omega (arith, length_more xs a)

closed_is : (s : Scope) (outer : List Names) (inner : Names) (level : Option Names) → s.outer ≡ outer ++ inner ∷ [] → level ≡ Some inner → remove s.outer
    (length s.outer - 1) ≡ outer →
    ((closed_to level s).outer ≡ outer) × ((closed_to level s).inner ≡ inner)
closed_is s outer inner None is none gone = cc
closed_is s outer inner (Some level) is same gone = (gone, ap (λ o. unwrap_or o level) same)

-- the scope behind a block: the innermost scope is that before it
pub closed_moves : (s t : Scope) → Moves (opened s) t → Moves s (closed t) × ((closed t).inner ≡ s.inner)
unfolding opened closed
closed_moves s t h =
    let level = slice_get t.outer (length t.outer - 1) in
    let is = ap (λ l. slice_get l (length l - 1)) h.outer ∙ ap (λ k. slice_get (s.outer ++ s.inner ∷ []) k) (last_place s.outer s.inner) ∙ get_last s.outer s.inner in
    let gone = ap (λ l. remove l (length l - 1)) h.outer ∙ ap (λ k. remove (s.outer ++ s.inner ∷ []) k) (last_place s.outer s.inner) ∙ remove_last s.outer s.inner in
    let both = closed_is t s.outer s.inner level h.outer is gone in
    let rest = closed_same level t in (
      record {
        outer = both.0;
        headers = rest.0 ∙ h.headers;
        definitions = rest.1 ∙ h.definitions;
        function = rest.2 ∙ h.function;
        gives = rest.3 ∙ h.gives;
        loops = subst (λ n. n ≤ s.loops) (sym rest.4) h.loops;
        exits = subst (λ n. n ≤ s.exits) (sym rest.5) h.exits;
      },
      both.1,
    )
  where
    closed_same : (level : Option Names) (t : Scope) → ((closed_to level t).headers ≡ t.headers) × ((closed_to level t).definitions ≡ t.definitions) ×
        ((closed_to level t).function ≡ t.function)
        × ((closed_to level t).gives ≡ t.gives) × ((closed_to level t).loops ≡ t.loops) × ((closed_to level t).exits ≡ t.exits)
    closed_same None t = (refl, refl, refl, refl, refl, refl)
    closed_same (Some level) t = (refl, refl, refl, refl, refl, refl)

pub in_block : {A : Type 0} (w : Goes A) (B : Type 0) (make : A → B) → IsMoving w → IsStaying (scoping opened >> (w >>= (λ a. scoping closed >> pure (make a))))
in_block w B make h x =
    let behind = w (state (opened x.scope) x.found) in
    subst (λ (o : Outcome State B). Moves x.scope (left o).scope × ((left o).scope.inner ≡ x.scope.inner)) (sym (turn behind (λ a. scoping closed >> pure (make a))))
    (closed_moves x.scope (left behind).scope (h (state (opened x.scope) x.found)))

pub in_block_of_two : {A : Type 0} {B : Type 0} (p : Goes A) (w : Goes B) (C : Type 0) (make : A → B → C) → IsMoving p → IsMoving w →
    IsStaying (scoping opened >> (p >>= (λ a. w >>= (λ b. scoping closed >> pure (make a b)))))
in_block_of_two {A} {B} p w C make hp hw x =
    let first = p (state (opened x.scope) x.found) in
    let behind = w (left first) in
    let out = λ (a : A) (b : B). scoping closed >> pure (make a b) in
    let moved = moves_on (opened x.scope) (left first).scope (left behind).scope (hp (state (opened x.scope) x.found)) (hw (left first)) in
    subst (λ (o : Outcome State C). Moves x.scope (left o).scope × ((left o).scope.inner ≡ x.scope.inner)) (sym (turn first (λ a. w >>= out a)))
    (subst (λ (o : Outcome State C). Moves x.scope (left o).scope × ((left o).scope.inner ≡ x.scope.inner)) (sym (turn behind (out (given first))))
    (closed_moves x.scope (left behind).scope moved))

-- the body of a loop
shallower_loops : (n m : ℕ) → m ≤ min (n + 1) 0xffff_ffff_ffff_ffff → m - 1 ≤ n
shallower_loops n m le = grind arith

pub in_loop_body : (body : Goes Statement) → IsStaying body → IsStaying (loop_body body)
unfolding loop_body
in_loop_body body h x =
    let behind = body (state (deeper x.scope) x.found) in
    let k = h (state (deeper x.scope) x.found) in
    subst (λ (o : Outcome State Statement). Moves x.scope (left o).scope × ((left o).scope.inner ≡ x.scope.inner)) (sym (turn behind (λ b. scoping shallower >> pure b))) (
      record {
        outer = k.0.outer;
        headers = k.0.headers;
        definitions = k.0.definitions;
        function = k.0.function;
        gives = k.0.gives;
        loops = shallower_loops x.scope.loops (left behind).scope.loops k.0.loops;
        exits = shallower_loops x.scope.exits (left behind).scope.exits k.0.exits;
      },
      k.1,
    )

-- the body of a switch
pub in_switch : {A B : Type 0} (body : Goes A) (make : A → B) → IsStaying body → IsStaying (scoping switched >> (body >>= (λ a. scoping unswitched >> pure (make a))))
in_switch {A} {B} body make h x =
    let behind = body (state (switched x.scope) x.found) in
    let k = h (state (switched x.scope) x.found) in
    subst (λ (o : Outcome State B). Moves x.scope (left o).scope × ((left o).scope.inner ≡ x.scope.inner)) (sym (turn behind (λ a. scoping unswitched >> pure (make a)))) (
      record {
        outer = k.0.outer;
        headers = k.0.headers;
        definitions = k.0.definitions;
        function = k.0.function;
        gives = k.0.gives;
        loops = k.0.loops;
        exits = shallower_loops x.scope.exits (left behind).scope.exits k.0.exits;
      },
      k.1,
    )

-- parts one after another that declare nothing
staying_after : {A B : Type 0} (step : A → B → Goes A) (items : List B) (o : Outcome State A) (s : Scope) → AllByRecursion (λ b. (a : A) → IsStaying (step a b)) items →
    Moves s (left o).scope × ((left o).scope.inner ≡ s.inner) →
    Moves s (left (fold (λ o b. and_then o (λ x. step x b)) o items)).scope × ((left (fold (λ o b. and_then o (λ x. step x b)) o items)).scope.inner ≡ s.inner)
staying_after step [] o s all so_far = so_far
staying_after step (b ∷ rest) (Outcome.Gives a x) s all so_far =
    let next = all.0 a x in
    staying_after step rest (step a b x) s all.1 (moves_on s x.scope (left (step a b x)).scope so_far.0 next.0, next.1 ∙ so_far.1)

pub staying_each : {A B : Type 0} (step : A → B → Goes A) (a : A) (items : List B) → AllByRecursion (λ b. (a : A) → IsStaying (step a b)) items → IsStaying (through step a items)
staying_each step a items all x = staying_after step items (Outcome.Gives a x) x.scope all (moves_same x.scope, refl)
