-- What a worker has still to do is safe: it reads locals that are written, and changes the sum under the mutex alone.
use Rattle.std.proofs.Common.{◌≡◌, ◌≢◌, ℕ, ◌<◌, ◌≤◌, List, [], ◌∷◌, ◌++◌, refl, sym, subst, append_assoc, inl, inr, arith}
use Rattle.std.specs.Prelude.{◌⊎◌, Bool, true, false, Some, pos}
use Rattle.hls_ints.specs.Types.{long_int}
use Rattle.generated_text.specs.declared.draws.Letter.{Letter}
use Rattle.generated_text.specs.declared.draws.Letter.TheVariants.{A, B, C, D}
use Rattle.generated_text.specs.declared.draws.Kind.{Kind}
use Rattle.generated_text.specs.declared.draws.Kind.TheVariants.{Sum, Difference, Product, ExclusiveOr, Quotient, Raise, Publish, Add}
use Rattle.generated_text.specs.declared.draws.Line.{Line}
use Rattle.c_program.specs.declared.tree.Storage.TheVariants.{Automatic}
use Rattle.c_program.specs.Tree.{Expression, Place, Statement}
use Rattle.generated_program.specs.Worker.{int_number, local_of, variable, argument, assigned, own_element, published, added, locked}
use Rattle.generated_program.specs.Worker.{unlocked, raised, kind_statements, line_statements, AreLines, opening, mixed, closing}
use Rattle.generated_good.proofs.WorkerValues.{IsValue}

abbrev pub named : ℕ → Statement
named offset = Statement.Assign offset (Place.Scalar Automatic 1 long_int) (Expression.Cast long_int argument)

abbrev pub returns_null : ℕ → Statement
returns_null offset = Statement.Return offset (Some (Expression.Constant long_int (pos 0)))

pub local_least : (x : Letter) → 2 ≤ local_of x
local_least A = omega arith
local_least B = omega arith
local_least C = omega arith
local_least D = omega arith

pub local_below : (x : Letter) → local_of x < 6
local_below A = omega arith
local_below B = omega arith
local_below C = omega arith
local_below D = omega arith

-- a statement where the first n locals are written and the mutex is held or not; Rest says the same of what follows
pub data Safely (threads : ℕ) (Rest : ℕ → Bool → Type 0) (n : ℕ) (hold : Bool) (s : Statement) : Type 0 where
  Names : (offset : ℕ) (is : s ≡ named offset) (one : n ≡ 1) (rest : Rest 2 hold) → Safely threads Rest n hold s
  Sets : (offset : ℕ) (x : Letter) (e : Expression) (later : ℕ) (is : s ≡ assigned offset x e) (value : IsValue n e) (two : 2 ≤ n)
      (grows : (y : ℕ) → y < later → y ≢ local_of x → y < n) (rest : Rest later hold) → Safely threads Rest n hold s
  Raises : (at : ℕ → ℕ) (x y z : Letter) (is : s ≡ raised at x y z) (six : n ≡ 6) (rest : Rest 6 hold) → Safely threads Rest n hold s
  Publishes : (offset : ℕ) (e : Expression) (is : s ≡ published threads offset e) (value : IsValue n e) (two : 2 ≤ n) (rest : Rest n hold) →
      Safely threads Rest n hold s
  Locks : (offset : ℕ) (is : s ≡ locked offset) (free : hold ≡ false) (rest : Rest n true) → Safely threads Rest n hold s
  Adds : (offset : ℕ) (e : Expression) (is : s ≡ added offset e) (value : IsValue n e ⊎ (e ≡ own_element threads)) (two : 2 ≤ n) (held : hold ≡ true)
      (rest : Rest n true) →
      Safely threads Rest n hold s
  Unlocks : (offset : ℕ) (is : s ≡ unlocked offset) (held : hold ≡ true) (rest : Rest n false) → Safely threads Rest n hold s
  Returns : (offset : ℕ) (is : s ≡ returns_null offset) (free : hold ≡ false) → Safely threads Rest n hold s

module _ (threads : ℕ) where
  abbrev pub Safe : List Statement → ℕ → Bool → Type 0
  Safe [] n hold = ⊥
  Safe (s ∷ ss) n hold = Safely threads (Safe ss) n hold s

  -- an assignment among lines
  line_set : (offset : ℕ) (x : Letter) (e : Expression) (ss : List Statement) → IsValue 6 e → Safe ss 6 false → Safe (assigned offset x e ∷ ss) 6 false
  line_set offset x e ss value h = Sets offset x e 6 refl value (omega arith) (λ y less apart. less) h

  kind_safe : (at : ℕ → ℕ) (kind : Kind) (x y z : Letter) (ss : List Statement) → Safe ss 6 false → Safe (kind_statements threads at kind x y z ++ ss) 6 false
  kind_safe at Sum x y z ss h = line_set (at 0) x _ ss (refl, tt, local_below y, local_below z) h
  kind_safe at Difference x y z ss h = line_set (at 0) x _ ss (refl, tt, local_below y, local_below z) h
  kind_safe at Product x y z ss h = line_set (at 0) x _ ss (refl, tt, local_below y, local_below z) h
  kind_safe at ExclusiveOr x y z ss h = line_set (at 0) x _ ss (refl, tt, local_below y, local_below z) h
  kind_safe at Quotient x y z ss h = line_set (at 0) x _ ss (refl, (variable z, refl), local_below y, (refl, tt, local_below z, tt)) h
  kind_safe at Raise x y z ss h = Raises at x y z refl refl h
  kind_safe at Publish x y z ss h = Publishes (at 0) (variable x) refl (local_below x) (omega arith) h
  kind_safe at Add x y z ss h =
      Locks (at 0) refl refl (Adds (at 1) (variable x) refl (inl (local_below x)) (omega arith) refl (Unlocks (at 2) refl refl h))

  lines_safe : (lines : List Line) (ss tail : List Statement) → AreLines threads lines ss → Safe tail 6 false → Safe (ss ++ tail) 6 false
  lines_safe [] ss tail e h = subst (λ zs. Safe (zs ++ tail) 6 false) (sym e) h
  lines_safe (line ∷ lines) ss tail (at, rest, e, l) h =
      subst (λ zs. Safe (zs ++ tail) 6 false) (sym e)
      (subst (λ zs. Safe zs 6 false) (sym (append_assoc (line_statements threads at line) rest tail))
      (kind_safe at line.kind line.target line.left line.right (rest ++ tail) (lines_safe lines rest tail l h)))

  closing_safe : (at : ℕ → ℕ) → Safe (closing threads at) 6 false
  closing_safe at =
      Publishes (at 5) mixed refl (refl, tt, (refl, tt, (refl, tt, local_below A, local_below B), local_below C), local_below D) (omega arith)
      (Locks (at 6) refl refl
      (Adds (at 7) (own_element threads) refl (inr refl) (omega arith) refl
      (Unlocks (at 8) refl refl
      (Returns (at 9) refl refl))))

  opening_safe : (at : ℕ → ℕ) (ss : List Statement) → Safe ss 6 false → Safe (opening at ++ ss) 1 false
  opening_safe at ss h =
      Names (at 0) refl refl
      (Sets (at 1) A _ 3 refl (refl, tt, lit_1_2, tt) (omega arith) (λ y less apart. omega (arith, less, apart))
      (Sets (at 2) B (int_number 2) 4 refl tt (omega arith) (λ y less apart. omega (arith, less, apart))
      (Sets (at 3) C (int_number 3) 5 refl tt (omega arith) (λ y less apart. omega (arith, less, apart))
      (Sets (at 4) D (int_number 4) 6 refl tt (omega arith) (λ y less apart. omega (arith, less, apart)) h))))
    where
      lit_1_2 : 1 < 2
      lit_1_2 = omega arith

  -- what a worker has to do from its first statement on
  pub worker_safe : (at : ℕ → ℕ) (lines : List Line) (middle : List Statement) → AreLines threads lines middle → Safe
      (opening at ++ middle ++ closing threads at) 1 false
  worker_safe at lines middle l =
      subst (λ zs. Safe zs 1 false) (sym (append_assoc (opening at) middle (closing threads at)))
      (opening_safe at (middle ++ closing threads at) (lines_safe lines middle (closing threads at) l (closing_safe at)))
