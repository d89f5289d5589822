-- The locals of a definition: those that are declared, and behind them longs that keep values.
use Rattle.std.proofs.Common.{◌≡◌, refl, ap, ℕ, zero, suc, ◌<◌, ◌≤◌, List, [], ◌∷◌, ◌++◌, length, Some, arith, length-append}
use Rattle.std.specs.Prelude.{◌+◌, ◌-◌, max, replicate, take, slice_get}
use Rattle.std.specs.List.{AllByRecursion}
use Rattle.std.proofs.lemmas.List.{length-replicate}
use Rattle.hls_ints.specs.Types.{long_int}
use Rattle.c_tree.specs.declared.statement.Block.{Block}
use Rattle.c_tree.specs.declared.declaration.Function.{Function as FunctionTree}
use Rattle.c_program.specs.declared.tree.LocalVariable.{LocalVariable}
use Rattle.c_program.specs.declared.tree.ReturnType.{ReturnType}
use Rattle.c_program.specs.Resolved.{scalar}
use Rattle.c_rules.specs.Constants.{plus}
use Rattle.c_rules.specs.Walks.{place_in_tree}
use Rattle.c_resolution.specs.Declarators.{block_declarators}
use Rattle.c_resolution.specs.Slots.{slots_end, with_slots}
use Rattle.c_resolution.specs.States.{State}
use Rattle.c_resolution.specs.Statements.{items}
use Rattle.c_resolution.specs.Functions as y
use Rattle.c_resolved_program.specs.Orders.{left, given, declared_in, IsFront}
use Rattle.c_resolved_program.proofs.DeclaratorCounts.{body_grows, counted}
use Rattle.c_resolved_program.proofs.Functions.{before_body}
use Rattle.c_resolved_program.proofs.Lists.{all_both}

-- ---- fronts of lists

front_taken : {A : Type 0} (xs more : List A) (n : ℕ) → length xs ≤ n → IsFront xs (take n (xs ++ more))
front_taken [] more n le = (take n more, refl)
front_taken (x ∷ xs) more zero le = absurd (omega arith)
front_taken (x ∷ xs) more (suc n) le = let rest = front_taken xs more n (omega arith) in (rest.0, ap (λ l. x ∷ l) rest.1)

pub taken_front : {A : Type 0} (n : ℕ) (list : List A) → IsFront (take n list) list
taken_front zero list = (list, refl)
taken_front (suc n) [] = ([], refl)
taken_front (suc n) (x ∷ list) = let rest = taken_front n list in (rest.0, ap (λ l. x ∷ l) rest.1)

-- ---- so many of one

replicate_all : {A : Type 0} (Is : A → Type 0) (n : ℕ) (a : A) → Is a → AllByRecursion Is (replicate n a)
replicate_all Is zero a is = tt
replicate_all Is (suc n) a is = (is, replicate_all Is n a is)

replicate_at : {A : Type 0} (n k : ℕ) (a : A) → k < n → slice_get (replicate n a) k ≡ Some a
replicate_at zero k a lt = absurd (omega arith)
replicate_at (suc n) zero a lt = refl
replicate_at (suc n) (suc k) a lt = replicate_at n k a (omega arith)

behind_at : {A : Type 0} (xs : List A) (n k : ℕ) (a : A) → length xs ≤ k → k < length xs + n → slice_get (xs ++ replicate n a) k ≡ Some a
behind_at [] n k a le lt = replicate_at n k a (omega arith)
behind_at (x ∷ xs) n zero a le lt = absurd (omega arith)
behind_at (x ∷ xs) n (suc k) a le lt = behind_at xs n k a (omega arith) (omega arith)

-- ---- locals with slots

pub slots_length : (end : ℕ) (locals : List LocalVariable) → length (with_slots end locals) ≡ max (length locals) end
slots_length end locals =
    let both = length-append locals (replicate (end - length locals) (scalar long_int)) in
    let more = length-replicate (end - length locals) (scalar long_int) in
    grind (arith, both, more)

pub slots_at : (end : ℕ) (locals : List LocalVariable) (k : ℕ) → length locals ≤ k → k < length (with_slots end locals) →
    slice_get (with_slots end locals) k ≡ Some (scalar long_int)
slots_at end locals k le lt =
    let long = slots_length end locals in
    behind_at locals (end - length locals) k (scalar long_int) le (grind (arith, long, lt))

pub slots_all : (Is : LocalVariable → Type 0) (end : ℕ) (locals : List LocalVariable) → AllByRecursion Is locals → Is (scalar long_int) →
    AllByRecursion Is (with_slots end locals)
slots_all Is end locals all is =
    all_both Is locals (replicate (end - length locals) (scalar long_int)) all (replicate_all Is (end - length locals) (scalar long_int) is)

pub slots_front : (end n : ℕ) (locals : List LocalVariable) → length locals ≤ n → IsFront locals (take n (with_slots end locals))
slots_front end n locals le = front_taken locals (replicate (end - length locals) (scalar long_int)) n le

-- ---- a body declares no more than it has declarators

kept_sum : (count n : ℕ) → plus (place_in_tree count) n < 0xffff_ffff → plus (place_in_tree count) n ≡ count + n
kept_sum count n lt = grind arith

within : (l n d k : ℕ) → l ≤ n + d → k ≡ n + d → l ≤ k
within l n d k h is = omega arith

pub declared_few : (number : ℕ) (body : Block) (x : State) → y.kept_from (length x.scope.locals) body < 0xffff_ffff →
    length (left (items body (before_body number body x))).scope.locals ≤ y.kept_from (length x.scope.locals) body
declared_few number body x lt =
    let count = length x.scope.locals in
    let is = counted (place_in_tree count) (block_declarators body) lt in
    let sum = kept_sum count (block_declarators body) lt in
    let grows = body_grows body is.second (before_body number body x) in
    within (length (left (items body (before_body number body x))).scope.locals) count (block_declarators body) (y.kept_from count body) grows sum

pub declared_front : (f : FunctionTree) (returns : ReturnType) (number : ℕ) (body : Block) (x : State) →
    let o = items body (before_body number body x) in
    let code = y.defined f returns body (length x.scope.locals) (given o) (left o).scope.locals (left o).scope.local_names in
    code.declared_locals < 0xffff_ffff → IsFront (left o).scope.locals (declared_in code)
declared_front f returns number body x lt =
    let o = items body (before_body number body x) in
    let from = y.kept_from (length x.scope.locals) body in
    slots_front (max from (slots_end (given o))) from (left o).scope.locals (declared_few number body x lt)
