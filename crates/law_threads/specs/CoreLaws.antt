-- What a grant to another thread leaves of what a thread is told, and how many wait at a barrier.
use Rattle.std.specs.Prelude.{◌≡◌, ◌≢◌, ℕ, ◌<◌, nat_eq, true, false, List, length, ℤ}
use Rattle.std.specs.List.{AllByRecursion, IsDistinct}
use Rattle.c_program.specs.Tree.{Piece}
use Rattle.thread_semantics.specs.State.{Awaits}
use Rattle.block_ir.specs.Asked.{Asked}
use Rattle.core_states.specs.Machines.{CoreBarrier, total_of}
use Rattle.law_threads.specs.Cores.{Core, may_grant, granted, status_in, argument_in, waits_in}
use Rattle.law_threads.specs.Stands.{CoreBarrierStands}

-- GRANTS KEEP: whoever runs, by a core, runs after a grant of it to another thread, with its argument
abbrev pub RunnersStay : Type 0
RunnersStay =
    (threads : ℕ) (formats : List (List Piece)) (k : Core) (i j : ℕ) (a : Asked) → i ≢ j → may_grant k j a ≡ true → status_in k i ≡ 1 →
    (status_in (granted threads formats k j a) i ≡ 1) × (argument_in (granted threads formats k j a) i ≡ argument_in k i)

-- and whoever does not wait there does not wait after it
abbrev pub PassersStay : Type 0
PassersStay =
    (threads : ℕ) (formats : List (List Piece)) (k : Core) (i j : ℕ) (a : Asked) → i ≢ j → waits_in k i ≡ false → waits_in (granted threads formats k j a) i ≡ false

-- WAITERS COUNT: as many bits of a barrier's core are set as threads wait there
abbrev pub WaitersCount : Type 0
WaitersCount =
    (T : ℕ) (g : CoreBarrier) (count : ℤ) (waiters : List ℕ) → CoreBarrierStands T g (Awaits count waiters) → IsDistinct nat_eq waiters → AllByRecursion (λ w. w < T) waiters →
    total_of T g.waiting ≡ length waiters
