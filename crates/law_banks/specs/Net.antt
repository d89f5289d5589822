-- A family of cores of which the first are banks.
use Rattle.std.specs.Prelude.{◌≡◌, ℕ, nat_lt, List, Option, Some, slice_get, slice_index}
use Rattle.bank_cores.specs.declared.bank.Shape.{Shape as Bank}
use Rattle.bank_cores.specs.Machine.{Words, ask_of, begun}
use Rattle.circuit.specs.Machines.{CoreMachine, after_grant}
use Rattle.law_banks.specs.Cycle.{words_after}

-- by number of a core what a bank has in its state; and that those of the banks are asked, move and tell as banks do
pub record HasBanks (banks : List Bank) (C : ℕ → CoreMachine) : Type 0 where
  pub words : (n : ℕ) → (C n).State → Words
  pub starts : (n : ℕ) (b : Bank) → slice_get banks n ≡ Some b → words n (C n).start ≡ begun b.initial b.threads
  pub asks : (n : ℕ) (b : Bank) (s : (C n).State) (i : ℕ) (f : ℕ → ℕ) → slice_get banks n ≡ Some b → (C n).eligible s i ((C n).ask_of f) ≡ nat_lt 0 (f 0)
  pub moves : (n : ℕ) (b : Bank) (s : (C n).State) (f : ℕ → ℕ → ℕ) (o : Option ℕ) → slice_get banks n ≡ Some b →
      words n (after_grant (C n) s (λ i. (C n).ask_of (f i)) o) ≡ words_after (words n s) (λ i. ask_of (f i)) o
  pub parts : (n : ℕ) (b : Bank) → slice_get banks n ≡ Some b → (C n).parts ≡ 4
  pub told : (n : ℕ) (b : Bank) → slice_get banks n ≡ Some b → (C n).told ≡ 1
  pub tells : (n : ℕ) (b : Bank) (s : (C n).State) (i j : ℕ) → slice_get banks n ≡ Some b → (C n).tells s i j ≡ slice_index (words n s).kept i
