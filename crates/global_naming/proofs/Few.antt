-- No more threads name a global than there are.
use Rattle.std.specs.Prelude.{Bool, true, false, Option, Some, None}
use Rattle.std.specs.List.{fold}
use Rattle.std.proofs.Common.{ℕ, ◌+◌, ◌≤◌, List, [], ◌∷◌, length, arith}
use Rattle.c_program.specs.Tree.{Program}
use Rattle.c_program.specs.Weight.{hardware_routines}
use Rattle.c_program.proofs.Runners.{routines_count}
use Rattle.global_naming.specs.Naming.{names_global, runner_names, NoMoreThanThreads}
use Rattle.bank_partition.specs.Counts.{one_if}

at_most_one : (b : Bool) → one_if b ≤ 1
at_most_one true = omega arith
at_most_one false = omega arith

runner_once : (P : Program) (x : ℕ) (r : Option ℕ) → runner_names P x r ≤ 1
runner_once P x None = omega arith
runner_once P x (Some f) = at_most_one (names_global P x f)

sum_within : (P : Program) (x : ℕ) (rs : List (Option ℕ)) (n : ℕ) → fold (λ a r. a + runner_names P x r) n rs ≤ n + length rs
sum_within P x [] n = omega arith
sum_within P x (r ∷ rs) n =
    let one = runner_once P x r in
    let rest = sum_within P x rs (n + runner_names P x r) in
    omega (arith, one, rest)

pub no_more_than_threads : NoMoreThanThreads
no_more_than_threads P x =
    let within = sum_within P x (hardware_routines P) 0 in
    let count = routines_count P in
    omega (arith, within, count)
