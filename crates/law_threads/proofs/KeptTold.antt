-- A grant to another thread leaves what a thread is told, whatever the core is; and a barrier's bits count its waiters.
use Rattle.std.specs.Prelude.{false, nat_lt, slice_index}
use Rattle.std.proofs.Common.{◌≡◌, ℕ, refl, ap, arith}
use Rattle.std.proofs.lemmas.Bool.Decides.{nat_tests}
use Rattle.core_states.proofs.KeptTold as machine
use Rattle.core_states.proofs.Waiters as waiters
use Rattle.block_ir.specs.Asked.{first_word, second_word}
use Rattle.law_threads.specs.Cores.{OfBank, OfMutex, OfBarrier, OfThreadIds, OfPrinter}
use Rattle.law_threads.specs.CoreLaws.{RunnersStay, PassersStay, WaitersCount}

pub runners_stay : RunnersStay
runners_stay threads formats OfBank i j a ne may one = absurd cc
runners_stay threads formats (OfMutex l) i j a ne may one = absurd cc
runners_stay threads formats (OfBarrier g) i j a ne may one = absurd cc
runners_stay threads formats (OfThreadIds t) i j a ne may one = machine.runners_stay t i j a.number (first_word a.values) (second_word a.values) ne one may
runners_stay threads formats (OfPrinter bytes) i j a ne may one = absurd cc

zero_of : (n : ℕ) → nat_lt 0 n ≡ false → n ≡ 0
zero_of n none = grind (arith, nat_tests)

pub passers_stay : PassersStay
passers_stay threads formats OfBank i j a ne none = refl
passers_stay threads formats (OfMutex l) i j a ne none = refl
passers_stay threads formats (OfBarrier g) i j a ne none =
    ap (λ (z : ℕ). nat_lt 0 z) (machine.passers_stay threads g i j a.number (first_word a.values) ne (zero_of (slice_index g.waiting i) none))
passers_stay threads formats (OfThreadIds t) i j a ne none = refl
passers_stay threads formats (OfPrinter bytes) i j a ne none = refl

pub waiters_count : WaitersCount
waiters_count T g count ws stands distinct below = waiters.waiters_count T g.waiting ws distinct below stands.bits
