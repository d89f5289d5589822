-- The numbers of the objects that resolved calls name.
use Rattle.std.proofs.Common.{◌≡◌, ℕ, zero, suc, ◌+◌, ◌^◌, ◌<◌, ◌≤◌, List, [], ◌∷◌, ℤ, Option, Some, None, refl, sym, ap, arith, sum_by, take}
use Rattle.std.specs.Prelude.{slice_get}
use Rattle.std.proofs.lemmas.List.Sums.{sum_by-cons}
use Rattle.std.proofs.lemmas.Option.{slice_get_within}
use Rattle.c_program.specs.declared.tree.ThreadObject.{ThreadObject}
use Rattle.c_program.specs.declared.tree.MutexObject.{MutexObject}
use Rattle.c_program.specs.declared.tree.BarrierObject.{BarrierObject}
use Rattle.c_program.specs.Tree.{ObjectPlace, ThreadCall, Function, Program}
use Rattle.c_program.specs.Weight.{thread_count}
use Rattle.c_program.specs.Limits.{mutex_elements, barrier_elements}
use Rattle.c_program.specs.Resolved.{IsObjectPlace, IsThreadCall, object_of, thread_length, mutex_length, barrier_length}
use Rattle.thread_semantics.specs.Memory.{Location, Memory, Gives}
use Rattle.thread_semantics.specs.Value.{value, values}
use Rattle.thread_semantics.specs.Move.{object_number, alone, operands_of, first_thread, first_mutex, first_barrier}
use Rattle.code_storage.specs.declared.objects.Objects.{Objects}
use Rattle.code_storage.specs.Objects.{AreObjects, number_there, first_in}
use Rattle.code_calls.specs.Acts.{number_expression, operand_expressions}
use Rattle.code_calls.proofs.OperandNumbers.{place_length, number_value, one_value, two_values}

-- those before an object and its own are no more than all
total_within : {A : Type 0} (f : A → ℕ) (xs : List A) (x : ℕ) (a : A) → slice_get xs x ≡ Some a → sum_by f (take x xs) + f a ≤ sum_by f xs
total_within f [] x a e = cc
total_within f (y ∷ ys) zero a e = let s = sum_by-cons f y ys in let same : f y ≡ f a = ap f (let z : y ≡ a = cc in z) in omega (arith, s, same)
total_within f (y ∷ ys) (suc x) a e = let s = sum_by-cons f y ys in let t = sum_by-cons f y (take x ys) in let rest = total_within f ys x a e in omega (arith, s, t, rest)

-- an object that is there has its number, and with its elements it is below the count
pub record IsPlaced (count : ℕ) (first : ℕ → ℕ) (numbers : List ℕ) (place : ObjectPlace) : Type 0 where
  pub number : first_in numbers (object_of place) ≡ first (object_of place)
  pub below : first (object_of place) + place_length place ≤ count

length_is : (P : Program) (f : Function) (length_at : ℕ → Option ℕ) (place : ObjectPlace) → IsObjectPlace P f length_at place → length_at (object_of place) ≡ Some (place_length place)
length_is P f length_at (ObjectPlace.Single object) at = at
length_is P f length_at (ObjectPlace.Element object count index) at = at.0

module _ (P : Program) (f : Function) (o : Objects) (are : AreObjects P o) (place : ObjectPlace) where
  pub thread_placed : IsObjectPlace P f (λ x. thread_length (slice_get P.threads x)) place → IsPlaced (thread_count P) (first_thread P) o.threads place
  thread_placed at = go (slice_get P.threads (object_of place)) refl (length_is P f (λ x. thread_length (slice_get P.threads x)) place at)
    where
      go : (a : Option ThreadObject) → slice_get P.threads (object_of place) ≡ a → thread_length a ≡ Some (place_length place) → IsPlaced (thread_count P) (first_thread P) o.threads place
      go None e c = absurd cc
      go (Some a) e c =
          let count : a.length ≡ place_length place = cc in
          let total = total_within (λ (z : ThreadObject). z.length) P.threads (object_of place) a e in
          record {
            number = ap number_there (are.threads (object_of place) (slice_get_within P.threads (object_of place) a e));
            below = omega (arith, count, total);
          }

  pub mutex_placed : IsObjectPlace P f (λ x. mutex_length (slice_get P.mutexes x)) place → IsPlaced (mutex_elements P) (first_mutex P) o.mutexes place
  mutex_placed at = go (slice_get P.mutexes (object_of place)) refl (length_is P f (λ x. mutex_length (slice_get P.mutexes x)) place at)
    where
      go : (a : Option MutexObject) → slice_get P.mutexes (object_of place) ≡ a → mutex_length a ≡ Some (place_length place) → IsPlaced (mutex_elements P) (first_mutex P) o.mutexes place
      go None e c = absurd cc
      go (Some a) e c =
          let count : a.length ≡ place_length place = cc in
          let total = total_within (λ (z : MutexObject). z.length) P.mutexes (object_of place) a e in
          record {
            number = ap number_there (are.mutexes (object_of place) (slice_get_within P.mutexes (object_of place) a e));
            below = omega (arith, count, total);
          }

  pub barrier_placed : IsObjectPlace P f (λ x. barrier_length (slice_get P.barriers x)) place → IsPlaced (barrier_elements P) (first_barrier P) o.barriers place
  barrier_placed at = go (slice_get P.barriers (object_of place)) refl (length_is P f (λ x. barrier_length (slice_get P.barriers x)) place at)
    where
      go : (a : Option BarrierObject) → slice_get P.barriers (object_of place) ≡ a → barrier_length a ≡ Some (place_length place) → IsPlaced (barrier_elements P) (first_barrier P) o.barriers place
      go None e c = absurd cc
      go (Some a) e c =
          let count : a.length ≡ place_length place = cc in
          let total = total_within (λ (z : BarrierObject). z.length) P.barriers (object_of place) a e in
          record {
            number = ap number_there (are.barriers (object_of place) (slice_get_within P.barriers (object_of place) a e));
            below = omega (arith, count, total);
          }

-- the number of an object
object_value : (count : ℕ) (first : ℕ → ℕ) (numbers : List ℕ) (place : ObjectPlace) → IsPlaced count first numbers place → count < 2 ^ 63 → (m : Memory) (n : ℤ) (ls : List Location) →
    object_number first place m ≡ Gives n ls → value (number_expression (first_in numbers (object_of place)) place) m ≡ Gives n ls
object_value count first numbers (ObjectPlace.Single object) at few m n ls e =
    number_value first (first_in numbers object) (ObjectPlace.Single object) object m n ls (sym at.number) (let number = at.number in let below = at.below in omega (arith, number, below, few)) e
object_value count first numbers (ObjectPlace.Element object length_ index) at few m n ls e =
    number_value first (first_in numbers object) (ObjectPlace.Element object length_ index) object m n ls (sym at.number)
    (let number = at.number in let below = at.below in omega (arith, number, below, few)) e

module _ (P : Program) (f : Function) (o : Objects) (are : AreObjects P o) where
  thread_value : (place : ObjectPlace) → IsObjectPlace P f (λ x. thread_length (slice_get P.threads x)) place → (m : Memory) (n : ℤ) (ls : List Location) →
      object_number (first_thread P) place m ≡ Gives n ls → value (number_expression (first_in o.threads (object_of place)) place) m ≡ Gives n ls
  thread_value place at = object_value (thread_count P) (first_thread P) o.threads place (thread_placed P f o are place at) (let few = are.few_threads in omega (arith, few))

  mutex_value : (place : ObjectPlace) → IsObjectPlace P f (λ x. mutex_length (slice_get P.mutexes x)) place → (m : Memory) (n : ℤ) (ls : List Location) →
      object_number (first_mutex P) place m ≡ Gives n ls → value (number_expression (first_in o.mutexes (object_of place)) place) m ≡ Gives n ls
  mutex_value place at = object_value (mutex_elements P) (first_mutex P) o.mutexes place (mutex_placed P f o are place at) (let few = are.few_mutexes in omega (arith, few))

  barrier_value : (place : ObjectPlace) → IsObjectPlace P f (λ x. barrier_length (slice_get P.barriers x)) place → (m : Memory) (n : ℤ) (ls : List Location) →
      object_number (first_barrier P) place m ≡ Gives n ls → value (number_expression (first_in o.barriers (object_of place)) place) m ≡ Gives n ls
  barrier_value place at = object_value (barrier_elements P) (first_barrier P) o.barriers place (barrier_placed P f o are place at) (let few = are.few_barriers in omega (arith, few))

  mutex_values : (mutex : ObjectPlace) (m : Memory) (vs : List ℤ) (ls : List Location) → IsObjectPlace P f (λ x. mutex_length (slice_get P.mutexes x)) mutex →
      alone (object_number (first_mutex P) mutex m) ≡ Gives vs ls → values (number_expression (first_in o.mutexes (object_of mutex)) mutex ∷ []) m ≡ Gives vs ls
  mutex_values mutex m vs ls at e =
      one_value (object_number (first_mutex P) mutex m) (number_expression (first_in o.mutexes (object_of mutex)) mutex) m vs ls (mutex_value mutex at m) e

  barrier_values : (barrier : ObjectPlace) (m : Memory) (vs : List ℤ) (ls : List Location) → IsObjectPlace P f (λ x. barrier_length (slice_get P.barriers x)) barrier →
      alone (object_number (first_barrier P) barrier m) ≡ Gives vs ls → values (number_expression (first_in o.barriers (object_of barrier)) barrier ∷ []) m ≡ Gives vs ls
  barrier_values barrier m vs ls at e =
      one_value (object_number (first_barrier P) barrier m) (number_expression (first_in o.barriers (object_of barrier)) barrier) m vs ls (barrier_value barrier at m) e

  pub operand_values : (call : ThreadCall) (m : Memory) (vs : List ℤ) (ls : List Location) → IsThreadCall P f call → operands_of P call m ≡ Gives vs ls →
      values (operand_expressions o call) m ≡ Gives vs ls
  operand_values (ThreadCall.Create thread routine argument) m vs ls at e =
      two_values (object_number (first_thread P) thread m) (number_expression (first_in o.threads (object_of thread)) thread) argument m vs ls (thread_value thread at.0 m) e
  operand_values (ThreadCall.Join thread) m vs ls at e =
      one_value (object_number (first_thread P) thread m) (number_expression (first_in o.threads (object_of thread)) thread) m vs ls (thread_value thread at m) e
  operand_values (ThreadCall.MutexInit mutex) m vs ls at e = mutex_values mutex m vs ls at e
  operand_values (ThreadCall.MutexDestroy mutex) m vs ls at e = mutex_values mutex m vs ls at e
  operand_values (ThreadCall.MutexLock mutex) m vs ls at e = mutex_values mutex m vs ls at e
  operand_values (ThreadCall.MutexUnlock mutex) m vs ls at e = mutex_values mutex m vs ls at e
  operand_values (ThreadCall.BarrierInit barrier count) m vs ls at e =
      two_values (object_number (first_barrier P) barrier m) (number_expression (first_in o.barriers (object_of barrier)) barrier) count m vs ls (barrier_value barrier at.0 m) e
  operand_values (ThreadCall.BarrierDestroy barrier) m vs ls at e = barrier_values barrier m vs ls at e
  operand_values (ThreadCall.BarrierWait barrier) m vs ls at e = barrier_values barrier m vs ls at e
