-- What a granted request does to the bits of a barrier.
use Rattle.std.proofs.Common.{◌≡◌, ◌+◌, replicate, true, false, nat_lt, if◌then◌else◌, refl, ap, ◌∙◌, arith, get_or-set_other}
use Rattle.std.specs.Prelude.{◌&&◌, slice_index}
use Rattle.std.proofs.lemmas.Bool.Decides.{nat_tests}
use Rattle.std.proofs.lemmas.Grind.{get_or-set_at}
use Rattle.lists.proofs.Places.{zeros_at}
use Rattle.circuit.specs.Rows.{spread}
use Rattle.circuit.proofs.Growth.{length-spread}
use Rattle.core_states.specs.Machines.{total_of, with_waiter, barrier_eligible}
use Rattle.core_states.proofs.KeptTold.{passers_stay}
use Rattle.barrier_cores.specs.Barrier.{at, waiting}
use Rattle.barrier_cores.specs.Rows as row
use Rattle.barrier_cores.specs.Laws.{OthersStay, FullClears, WaitSetsOwn, BarriersWait}
use Rattle.circuit.proofs.Spreads.{spread_is}

pub others_stay : OthersStay
others_stay = record {
  passers = passers_stay;
  waiters = λ n g i j count ne l.
      let t : nat_lt (total_of n (with_waiter g j)) g.count ≡ true = grind (arith, nat_tests) in
      ap (λ b. slice_index (if b then with_waiter g j else replicate n 0) i) t ∙ get_or-set_other g.waiting j i 1 0 ne;
}

pub full_clears : FullClears
full_clears n g i count l =
    let t : nat_lt (total_of n (with_waiter g i)) g.count ≡ false = grind (arith, nat_tests) in
    ((λ j. ap (λ b. slice_index (if b then with_waiter g i else replicate n 0) j) t ∙ (zeros_at n j)), refl)

pub wait_sets_own : WaitSetsOwn
wait_sets_own n g i count b l =
    let t : nat_lt (total_of n (with_waiter g i)) g.count ≡ true = grind (arith, nat_tests) in
    (ap (λ c. slice_index (if c then with_waiter g i else replicate n 0) i) t ∙ get_or-set_at g.waiting i i 1 0 refl b, refl)

-- ---- who asks nothing

pub barriers_wait : BarriersWait
barriers_wait n = record {
  shown = λ r. (
    record { count = r.signal (at n row.count); waiting = spread (λ i. r.signal (waiting n + i)) 0 n },
    record {
      sized = length-spread (λ i. r.signal (waiting n + i)) 0 n;
      bits = λ i l. spread_is (λ j. r.signal (waiting n + j)) n i l;
      count_is = refl;
    },
  );
  some = omega arith;
  asked = λ s i f e. ap (λ x. nat_lt 0 x && barrier_eligible s i (f 1)) e;
}
