-- What a granted request does to the bits of a barrier, and who waits for a grant.
use Rattle.std.specs.Prelude.{◌≡◌, ◌≢◌, ℕ, ◌<◌, ◌≤◌, length, slice_index}
use Rattle.circuit.specs.Turns.{WaitsForAsks}
use Rattle.core_states.specs.Machines.{CoreBarrier, total_of, with_waiter, barrier_after}
use Rattle.barrier_cores.specs.Machine.{barrier_machine, barrier_places}

-- a thread that does not wait does not wait after another one's request, and a wait that does not fill the barrier leaves the
-- bit of each other thread
pub record OthersStay : Type 0 where
  pub passers : (n : ℕ) (g : CoreBarrier) (i j operation count : ℕ) → i ≢ j → slice_index g.waiting i ≡ 0 → slice_index (barrier_after n g j operation count).waiting i ≡ 0
  pub waiters : (n : ℕ) (g : CoreBarrier) (i j count : ℕ) → i ≢ j → total_of n (with_waiter g j) < g.count → slice_index (barrier_after n g j 1 count).waiting i ≡ slice_index g.waiting i

-- after a wait with which as many wait as the count says, or more, nobody waits, and the count stays
abbrev pub FullClears : Type 0
FullClears =
    (n : ℕ) (g : CoreBarrier) (i count : ℕ) → g.count ≤ total_of n (with_waiter g i) →
    ((j : ℕ) → slice_index (barrier_after n g i 1 count).waiting j ≡ 0) × ((barrier_after n g i 1 count).count ≡ g.count)

-- after a wait that does not fill the barrier its thread waits, and the count stays
abbrev pub WaitSetsOwn : Type 0
WaitSetsOwn =
    (n : ℕ) (g : CoreBarrier) (i count : ℕ) → i < length g.waiting → total_of n (with_waiter g i) < g.count →
    (slice_index (barrier_after n g i 1 count).waiting i ≡ 1) × ((barrier_after n g i 1 count).count ≡ g.count)

-- who asks nothing waits: every reading shows a gate, and nothing is offered to whom the first part of an ask is 0
abbrev pub BarriersWait : Type 0
BarriersWait = (n : ℕ) → WaitsForAsks (barrier_machine n) (barrier_places n)
