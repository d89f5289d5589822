-- A program that is above no limit is within each.
use Rattle.std.proofs.Common.{◌≡◌, ℕ, ◌<◌, ◌≤◌, Bool, true, false, cond, List, [], ◌∷◌, length, refl, subst, arith, ltb-false}
use Rattle.std.specs.Prelude.{Option, Some, None, nat_lt, if◌then◌else◌, filter}
use Rattle.std.specs.Option.{option_or}
use Rattle.std.specs.List.{AllByRecursion}
use Rattle.lists.proofs.Places.{all_back, all_front}
use Rattle.c_program.specs.Tree.{Program}
use Rattle.c_program.specs.Counting.{capped}
use Rattle.c_program.specs.Limits.{thread_ids, mutex_elements, barrier_elements, longest_array, global_elements, print_sites, local_elements, IsWithinLimits}
use Rattle.c_program.specs.Weight.{thread_functions, function_weight}
use Rattle.c_limits.specs.declared.limit.Limit.{Limit}
use Rattle.c_limits.specs.declared.limit.Limit.TheVariants.{Functions, ThreadIds, MutexElements, BarrierElements, OneArray, GlobalElements, PrintSites, LocalElements, Weight}
use Rattle.c_limits.specs.declared.limit.Passed.{Passed}
use Rattle.c_limits.specs.Counts.{most, over, over_each, over_objects, over_data, over_inlined, in_order, first_passed}

first_none : (a b : Option Passed) → option_or a b ≡ None → a ≡ None
first_none None b h = refl
first_none (Some x) b h = absurd cc

second_none : (a b : Option Passed) → option_or a b ≡ None → b ≡ None
second_none None b h = h
second_none (Some x) b h = absurd cc

within : (limit : Limit) (count : ℕ) → over limit count ≡ None → count ≤ most limit
unfolding over
within limit count h = by (record { limit = limit; count = count }) (nat_lt (most limit) count) refl h
  where
    by : (p : Passed) (b : Bool) → nat_lt (most limit) count ≡ b → (if b then Some p else None) ≡ None → count ≤ most limit
    by p true e none = absurd cc
    by p false e none = ltb-false (most limit) count e

capped_within : (limit : Limit) (count : ℕ) → most limit < 1000000 → over limit (capped count) ≡ None → count ≤ most limit
capped_within limit count small h = let le = within limit (capped count) h in omega (arith, le, small)

each_within : (limit : Limit) (amount : ℕ → ℕ) (fs : List ℕ) → most limit < 1000000 → over_each limit (λ f. capped (amount f)) fs ≡ None → AllByRecursion (λ f. amount f ≤ most limit) fs
each_within limit amount [] small none = tt
each_within limit amount (f ∷ fs) small none = (
  capped_within limit (amount f) small (first_none (over limit (capped (amount f))) (over_each limit (λ g. capped (amount g)) fs) none),
  each_within limit amount fs small (second_none (over limit (capped (amount f))) (over_each limit (λ g. capped (amount g)) fs) none),
)

-- what holds of main, of those before it and of those after it holds of each
all_kept : (Q : ℕ → Type 0) (main : ℕ) (fs : List ℕ) → AllByRecursion Q (filter (λ f. nat_lt f main) fs) → Q main → AllByRecursion Q (filter (λ f. nat_lt main f) fs) → AllByRecursion Q fs
all_kept Q main [] low own high = tt
all_kept Q main (f ∷ fs) low own high = by (nat_lt f main) (nat_lt main f) refl refl low high (λ l h. all_kept Q main fs l own h)
  where
    by : (a b : Bool) → nat_lt f main ≡ a → nat_lt main f ≡ b → AllByRecursion Q (cond a (f ∷ filter (λ g. nat_lt g main) fs) (filter (λ g. nat_lt g main) fs)) →
        AllByRecursion Q (cond b (f ∷ filter (λ g. nat_lt main g) fs) (filter (λ g. nat_lt main g) fs)) →
        (AllByRecursion Q (filter (λ g. nat_lt g main) fs) → AllByRecursion Q (filter (λ g. nat_lt main g) fs) → AllByRecursion Q fs) → AllByRecursion Q (f ∷ fs)
    by true true e h low high again = (low.0, again low.1 high.1)
    by true false e h low high again = (low.0, again low.1 high)
    by false true e h low high again = (high.0, again low high.1)
    by false false e h low high again =
        let above = ltb-false f main e in
        let below = ltb-false main f h in
        (subst Q (let same : main ≡ f = omega (arith, above, below) in same) own, again low high)

ordered_kept : (Q : ℕ → Type 0) (main : ℕ) (fs : List ℕ) → AllByRecursion Q (in_order main fs) → AllByRecursion Q fs
ordered_kept Q main fs all =
    let rest = all_back Q (filter (λ f. nat_lt f main) fs) (main ∷ filter (λ f. nat_lt main f) fs) all in
    all_kept Q main fs (all_front Q (filter (λ f. nat_lt f main) fs) (main ∷ filter (λ f. nat_lt main f) fs) all) rest.0 rest.1

pub within_limits : (P : Program) → first_passed P ≡ None → IsWithinLimits P
within_limits P none =
    let objects = first_none (over_objects P) (option_or (over_data P) (over_inlined P)) none in
    let others = second_none (over_objects P) (option_or (over_data P) (over_inlined P)) none in
    let data_ = first_none (over_data P) (over_inlined P) others in
    let inlined = second_none (over_data P) (over_inlined P) others in
    let threads = option_or (over ThreadIds (thread_ids P)) (option_or (over MutexElements (mutex_elements P)) (over BarrierElements (barrier_elements P))) in
    let after_functions = second_none (over Functions (length P.functions)) threads objects in
    let locks = option_or (over MutexElements (mutex_elements P)) (over BarrierElements (barrier_elements P)) in
    let after_threads = second_none (over ThreadIds (thread_ids P)) locks after_functions in
    let sizes = option_or (over GlobalElements (global_elements P)) (over PrintSites (capped (print_sites P))) in
    let after_arrays = second_none (over OneArray (longest_array P)) sizes data_ in
    let order = in_order P.main (thread_functions P) in
    let locals = over_each LocalElements (λ f. capped (local_elements P.functions f)) order in
    let weights = over_each Weight (λ f. capped (function_weight P.functions f)) order in
    record {
      functions = within Functions (length P.functions) (first_none (over Functions (length P.functions)) threads objects);
      threads = within ThreadIds (thread_ids P) (first_none (over ThreadIds (thread_ids P)) locks after_functions);
      mutexes = within MutexElements (mutex_elements P) (first_none (over MutexElements (mutex_elements P)) (over BarrierElements (barrier_elements P)) after_threads);
      barriers = within BarrierElements (barrier_elements P) (second_none (over MutexElements (mutex_elements P)) (over BarrierElements (barrier_elements P)) after_threads);
      arrays = within OneArray (longest_array P) (first_none (over OneArray (longest_array P)) sizes data_);
      globals = within GlobalElements (global_elements P) (first_none (over GlobalElements (global_elements P)) (over PrintSites (capped (print_sites P))) after_arrays);
      prints = capped_within PrintSites (print_sites P) (omega arith) (second_none (over GlobalElements (global_elements P)) (over PrintSites (capped (print_sites P))) after_arrays);
      locals =
          ordered_kept (λ f. local_elements P.functions f ≤ 16384) P.main (thread_functions P)
          (each_within LocalElements (λ f. local_elements P.functions f) order (omega arith) (first_none locals weights inlined));
      weights =
          ordered_kept (λ f. function_weight P.functions f ≤ 8192) P.main (thread_functions P)
          (each_within Weight (λ f. function_weight P.functions f) order (omega arith) (second_none locals weights inlined));
    }
