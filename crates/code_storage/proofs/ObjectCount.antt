-- Objects of one kind are counted one after the other.
use Rattle.std.proofs.Common.{◌≡◌, ℕ, zero, suc, ◌+◌, ◌^◌, ◌<◌, ◌≤◌, List, [], ◌∷◌, ◌++◌, length, take, Some, get_or, refl, sym, ap, ◌∙◌, ⊎_elim, arith, length-append}
use Rattle.std.specs.Prelude.{◌⊎◌, slice_get}
use Rattle.std.specs.List.{sum_by}
use Rattle.std.proofs.Math.Nat.{eq-or-lt_of_le}
use Rattle.std.proofs.Math.Seq.{take-suc}
use Rattle.std.proofs.lemmas.List.Sums.{sum_by_push}
use Rattle.lists.proofs.Places.{get_last}
use Rattle.c_program.specs.declared.tree.ThreadObject.{ThreadObject}
use Rattle.c_program.specs.declared.tree.MutexObject.{MutexObject}
use Rattle.c_program.specs.declared.tree.BarrierObject.{BarrierObject}
use Rattle.c_program.specs.Tree.{Program}
use Rattle.code_storage.specs.declared.objects.Objects.{Objects}
use Rattle.code_storage.specs.Objects.{AreObjects, AreNumbers}

-- the objects before one of that number are counted
pub record AreCounted {A : Type 0} (first : ℕ) (elements : A → ℕ) (objects : List A) (n : ℕ) (numbers : List ℕ) (following : ℕ) : Type 0 where
  pub each : (x : ℕ) → x < n → slice_get numbers x ≡ Some (first + sum_by elements (take x objects))
  pub long : length numbers ≡ n
  pub next : following ≡ first + sum_by elements (take n objects)
  pub few : following < 2 ^ 32

get_pushed : (ns : List ℕ) (n x : ℕ) → x < length ns → slice_get (ns ++ n ∷ []) x ≡ slice_get ns x
get_pushed [] n x lt = absurd (omega arith)
get_pushed (m ∷ ns) n zero lt = refl
get_pushed (m ∷ ns) n (suc x) lt = get_pushed ns n x (omega arith)

module _ {A : Type 0} (first : ℕ) (elements : A → ℕ) (objects : List A) where
  sum_next : (i : ℕ) (d : A) → i < length objects → sum_by elements (take (i + 1) objects) ≡ sum_by elements (take i objects) + elements (get_or objects i d)
  sum_next i d lt =
      ap (λ n. sum_by elements (take n objects)) (let e : i + 1 ≡ suc i = omega arith in e)
      ∙ ap (sum_by elements) (take-suc objects i d lt) ∙ sum_by_push elements (take i objects) (get_or objects i d)

  pub one_counted : (i : ℕ) (d : A) (old new : List ℕ) (number following : ℕ) → AreCounted first elements objects i old number → i < length objects →
      new ≡ old ++ number ∷ [] → following ≡ number + elements (get_or objects i d) → following < 2 ^ 32 → AreCounted first elements objects (i + 1) new following
  one_counted i d old new number following before lt numbers next few = record {
    each = λ x below. ⊎_elim (λ same. last x same) (λ less. earlier x less) (nat_cases x below);
    long = ap length numbers ∙ length-append old (number ∷ []) ∙ ap (λ n. n + 1) before.long;
    next = (let b = before.next in let s = sum_next i d lt in omega (arith, next, b, s));
    few = few;
  }
    where
      nat_cases : (x : ℕ) → x < i + 1 → (x ≡ i) ⊎ (x < i)
      nat_cases x below = eq-or-lt_of_le (let le : x ≤ i = omega (arith, below) in le)

      last : (x : ℕ) → x ≡ i → slice_get new x ≡ Some (first + sum_by elements (take x objects))
      last x same =
          ap (λ n. slice_get new n) (same ∙ sym before.long) ∙ ap (λ ns. slice_get ns (length old)) numbers ∙ get_last old number
          ∙ ap Some before.next ∙ ap (λ n. Some (first + sum_by elements (take n objects))) (sym same)

      earlier : (x : ℕ) → x < i → slice_get new x ≡ Some (first + sum_by elements (take x objects))
      earlier x less =
          ap (λ ns. slice_get ns x) numbers ∙ get_pushed old number x (let long = before.long in omega (arith, long)) ∙ before.each x less

pub are_objects : (P : Program) (o : Objects) → AreNumbers 1 (λ (a : ThreadObject). a.length) P.threads o.threads → AreNumbers 0 (λ (a : MutexObject). a.length) P.mutexes o.mutexes →
    AreNumbers 0 (λ (a : BarrierObject). a.length) P.barriers o.barriers → AreObjects P o
are_objects P o threads mutexes barriers = record {
  threads = threads.each;
  mutexes = λ x lt. mutexes.each x lt ∙ ap Some (omega arith);
  barriers = λ x lt. barriers.each x lt ∙ ap Some (omega arith);
  few_threads = threads.few;
  few_mutexes = (let few = mutexes.few in omega (arith, few));
  few_barriers = (let few = barriers.few in omega (arith, few));
}
