-- The first count above its limit, from the parts.
use Rattle.std.proofs.Common.{◌≡◌, ℕ, List, [], ◌∷◌, length, refl, ap, ◌∙◌}
use Rattle.std.specs.Prelude.{Option}
use Rattle.std.specs.Option.{option_or}
use Rattle.c_program.specs.Tree.{Program}
use Rattle.c_program.specs.declared.weight.Amount.TheVariants as amount
use Rattle.c_program.specs.Weight.{thread_functions}
use Rattle.c_program.specs.Counting.{capped, number_at, amount_of, IsTable}
use Rattle.c_program.specs.Limits.{thread_ids, mutex_elements, barrier_elements, longest_array, global_elements, print_sites}
use Rattle.c_limits.specs.declared.limit.Limit.{Limit}
use Rattle.c_limits.specs.declared.limit.Limit.TheVariants.{Functions, ThreadIds, MutexElements, BarrierElements, OneArray, GlobalElements, PrintSites, LocalElements, Weight}
use Rattle.c_limits.specs.declared.limit.Passed.{Passed}
use Rattle.c_limits.specs.Counts.{over, over_each, over_objects, over_data, over_inlined, in_order}

or_same : {a b c d : Option Passed} → a ≡ b → c ≡ d → option_or a c ≡ option_or b d
or_same {b = b} {c = c} p q = ap (λ x. option_or x c) p ∙ ap (option_or b) q

over_each_same : (limit : Limit) (f g : ℕ → ℕ) → ((x : ℕ) → f x ≡ g x) → (fs : List ℕ) → over_each limit f fs ≡ over_each limit g fs
over_each_same limit f g same [] = refl
over_each_same limit f g same (x ∷ xs) = or_same (ap (over limit) (same x)) (over_each_same limit f g same xs)

pub inlined_first :
    (P : Program) (threads order elements weights : List ℕ) (a b r : Option Passed) → threads ≡ thread_functions P → order ≡ in_order P.main threads →
    IsTable (amount_of amount.LocalElements) P.functions (length P.functions) elements → IsTable (amount_of amount.Weight) P.functions (length P.functions) weights →
    a ≡ over_each LocalElements (number_at elements) order → b ≡ over_each Weight (number_at weights) order → r ≡ option_or a b → r ≡ over_inlined P
inlined_first P threads order elements weights a b r threads_are order_is of_elements of_weights a_is b_is r_is =
    let ordered : order ≡ in_order P.main (thread_functions P) = order_is ∙ ap (in_order P.main) threads_are in
    r_is
    ∙ or_same (a_is ∙ ap (over_each LocalElements (number_at elements)) ordered ∙ over_each_same LocalElements (number_at elements) _ of_elements.each (in_order P.main (thread_functions P)))
    (b_is ∙ ap (over_each Weight (number_at weights)) ordered ∙ over_each_same Weight (number_at weights) _ of_weights.each (in_order P.main (thread_functions P)))

pub objects_first :
    (P : Program) (f t m b x y r : Option Passed) → f ≡ over Functions (length P.functions) → t ≡ over ThreadIds (thread_ids P) →
    m ≡ over MutexElements (mutex_elements P) → b ≡ over BarrierElements (barrier_elements P) →
    x ≡ option_or m b → y ≡ option_or t x → r ≡ option_or f y → r ≡ over_objects P
objects_first P f t m b x y r f_is t_is m_is b_is x_is y_is r_is =
    r_is ∙ or_same f_is (y_is ∙ or_same t_is (x_is ∙ or_same m_is b_is))

pub data_first :
    (P : Program) (a g s x r : Option Passed) → a ≡ over OneArray (longest_array P) → g ≡ over GlobalElements (global_elements P) →
    s ≡ over PrintSites (capped (print_sites P)) → x ≡ option_or g s → r ≡ option_or a x → r ≡ over_data P
data_first P a g s x r a_is g_is s_is x_is r_is = r_is ∙ or_same a_is (x_is ∙ or_same g_is s_is)
