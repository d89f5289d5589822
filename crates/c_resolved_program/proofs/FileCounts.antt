-- How many functions, globals and objects a declaration at file scope adds at most.
use Rattle.std.proofs.Common.{ℕ, ◌≤◌, List, [], ◌∷◌, ◌++◌, length, length-append, arith}
use Rattle.std.specs.Prelude.{◌+◌, fold}
use Rattle.std.specs.List.{AllByRecursion}
use Rattle.c_program.specs.Tree.{Function}
use Rattle.c_rules.specs.Walks.{Outcome, pure, and_then, ◌>>=◌}
use Rattle.c_resolution.specs.States.{State, Goes, state}
use Rattle.c_resolution.specs.Files.{File, Tables, Declares, in_file, going, tabling, with_function}
use Rattle.c_resolution.specs.Resolving.{after}
use Rattle.c_resolved_program.proofs.LocalCounts.{Grows, locals_behind}
use Rattle.c_resolved_program.proofs.Lists.{all_both}

-- so many at most, and each function declares so many locals at most
pub record IsTabled (m : ℕ) (t : Tables) : Type 0 where
  pub functions : length t.functions ≤ m
  pub locals : AllByRecursion (λ (f : Function). f.declared_locals ≤ m) t.functions
  pub globals : length t.globals ≤ m
  pub threads : length t.threads ≤ m
  pub mutexes : length t.mutexes ≤ m
  pub barriers : length t.barriers ≤ m

all_more : (m n : ℕ) → m ≤ n → (list : List Function) → AllByRecursion (λ (f : Function). f.declared_locals ≤ m) list → AllByRecursion (λ (f : Function). f.declared_locals ≤ n) list
all_more m n le [] all = tt
all_more m n le (f ∷ list) all = (omega (arith, all.0, le), all_more m n le list all.1)

pub tabled_more : (m n : ℕ) (t : Tables) → m ≤ n → IsTabled m t → IsTabled n t
tabled_more m n t le h = record {
  functions = omega (arith, le, h.functions);
  locals = all_more m n le t.functions h.locals;
  globals = omega (arith, le, h.globals);
  threads = omega (arith, le, h.threads);
  mutexes = omega (arith, le, h.mutexes);
  barriers = omega (arith, le, h.barriers);
}

-- a file with so many declarations and so many locals of the function at hand at most
pub record IsSmall (m k : ℕ) (x : File) : Type 0 where
  pub tables : IsTabled m x.tables
  pub locals : length x.scope.locals ≤ k

pub small_more : (m k m' k' : ℕ) (x : File) → m ≤ m' → k ≤ k' → IsSmall m k x → IsSmall m' k' x
small_more m k m' k' x le le' h = record { tables = tabled_more m m' x.tables le h.tables; locals = omega (arith, le', h.locals) }

abbrev pub Does : {A : Type 0} → ℕ → ℕ → ℕ → ℕ → Declares A → Type 0
Does m k m' k' w = (x : File) → IsSmall m k x → IsSmall m' k' (after (w x))

pub then_does : {A B : Type 0} (m k m' k' : ℕ) (o : Outcome File A) (q : A → Declares B) → IsSmall m k (after o) → ((a : A) → Does m k m' k' (q a)) → IsSmall m' k' (after (and_then o q))
then_does m k m' k' (Outcome.Gives a x) q h hq = hq a x h

pub does_then : {A B : Type 0} (m k m' k' m'' k'' : ℕ) (p : Declares A) (q : A → Declares B) → Does m k m' k' p → ((a : A) → Does m' k' m'' k'' (q a)) → Does m k m'' k'' (p >>= q)
does_then m k m' k' m'' k'' p q hp hq x h = then_does m' k' m'' k'' (p x) q (hp x h) hq

pub then_file : {A B : Type 0} (o : Outcome File A) (q : A → Declares B) (Before Behind : File → Type 0) → Before (after o) →
    ((a : A) (x : File) → Before x → Behind (after (q a x))) → Behind (after (and_then o q))
then_file (Outcome.Gives a x) q Before Behind h hq = hq a x h

pub does_pure : {A : Type 0} (m k : ℕ) (a : A) → Does m k m k (pure a)
does_pure m k a x h = h

in_file_is : {A : Type 0} (m k n : ℕ) (t : Tables) (o : Outcome State A) → IsTabled m t → locals_behind o ≤ k + n → IsSmall m (k + n) (after (in_file t o))
in_file_is m k n t (Outcome.Gives a s) h le = record { tables = h; locals = le }

pub does_going : {A : Type 0} (m k n : ℕ) (w : Goes A) → Grows n w → Does m k m (k + n) (going w)
does_going m k n w grows x h = in_file_is m k n x.tables (w (state x.scope x.found)) h.tables (let g = grows (state x.scope x.found) in omega (arith, h.locals, g))

-- what finds and names, and declares no local
pub does_quiet : {A : Type 0} (m k : ℕ) (w : Goes A) → Grows 0 w → Does m k m k (going w)
does_quiet m k w grows x h = let g = does_going m k 0 w grows x h in record { tables = g.tables; locals = omega (arith, g.locals) }

pub does_tabling : (m k m' : ℕ) (change : Tables → Tables) → ((t : Tables) → IsTabled m t → IsTabled m' (change t)) → Does m k m' k (tabling change)
does_tabling m k m' change h x small = record { tables = h x.tables small.tables; locals = small.locals }

-- parts one after another, each of which adds one declaration
pub does_each : {A B : Type 0} (step : A → B → Declares A) (items : List B) (m k : ℕ) (o : Outcome File A) → ((m : ℕ) (a : A) (b : B) → Does m k (m + 1) k (step a b)) →
    IsSmall m k (after o) → IsSmall (m + length items) k (after (fold (λ o b. and_then o (λ x. step x b)) o items))
does_each step [] m k o h small = small_more m k (m + 0) k (after o) (omega arith) (omega arith) small
does_each step (b ∷ rest) m k (Outcome.Gives a x) h small =
    let more = does_each step rest (m + 1) k (step a b x) h (h m a b x small) in
    small_more ((m + 1) + length rest) k (m + length (b ∷ rest)) k (after (fold (λ o b. and_then o (λ x. step x b)) (step a b x) rest)) (omega arith) (omega arith) more

pub one_longer : {A : Type 0} (m : ℕ) (xs : List A) (a : A) → length xs ≤ m → length (xs ++ a ∷ []) ≤ m + 1
one_longer m xs a le = omega (arith, le, length-append xs (a ∷ []))

pub with_function_tabled : (m n : ℕ) (f : Function) (t : Tables) → m + 1 ≤ n → f.declared_locals ≤ n → IsTabled m t → IsTabled n (with_function f t)
with_function_tabled m n f t le small h =
    let same = all_both (λ (g : Function). g.declared_locals ≤ n) t.functions (f ∷ []) (all_more m n (omega (arith, le)) t.functions h.locals) (small, tt) in
    record {
      functions = (let i = one_longer m t.functions f h.functions in omega (arith, i, le));
      locals = same;
      globals = omega (arith, le, h.globals);
      threads = omega (arith, le, h.threads);
      mutexes = omega (arith, le, h.mutexes);
      barriers = omega (arith, le, h.barriers);
    }
