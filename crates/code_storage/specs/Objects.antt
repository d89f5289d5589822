-- The numbers of pthread objects: the elements of those of each kind, in order of declaration.
use Rattle.std.specs.Prelude.{◌≡◌, ℕ, ◌+◌, ◌^◌, ◌<◌, List, length, take, Option, Some, None, slice_get}
use Rattle.std.specs.List.{sum_by}
use Rattle.c_program.specs.Tree.{Program}
use Rattle.c_program.specs.Weight.{thread_count}
use Rattle.c_program.specs.Limits.{mutex_elements, barrier_elements}
use Rattle.thread_semantics.specs.Move.{first_thread, first_mutex, first_barrier}
use Rattle.code_storage.specs.declared.objects.Objects.{Objects}

-- for each object of each kind the number of its first element, a number of 32 bits
pub record AreObjects (P : Program) (o : Objects) : Type 0 where
  pub threads : (x : ℕ) → x < length P.threads → slice_get o.threads x ≡ Some (first_thread P x)
  pub mutexes : (x : ℕ) → x < length P.mutexes → slice_get o.mutexes x ≡ Some (first_mutex P x)
  pub barriers : (x : ℕ) → x < length P.barriers → slice_get o.barriers x ≡ Some (first_barrier P x)
  pub few_threads : thread_count P < 2 ^ 32
  pub few_mutexes : mutex_elements P < 2 ^ 32
  pub few_barriers : barrier_elements P < 2 ^ 32

-- the same for objects of one kind, the first of which has that number, and each of which has so many elements
pub record AreNumbers {A : Type 0} (first : ℕ) (elements : A → ℕ) (objects : List A) (numbers : List ℕ) : Type 0 where
  pub each : (x : ℕ) → x < length objects → slice_get numbers x ≡ Some (first + sum_by elements (take x objects))
  pub few : first + sum_by elements objects < 2 ^ 32

-- the number of an object's first element, where those of its kind have these
abbrev pub number_there : Option ℕ → ℕ
number_there None = 0
number_there (Some n) = n

abbrev pub first_in : List ℕ → ℕ → ℕ
first_in numbers x = number_there (slice_get numbers x)
