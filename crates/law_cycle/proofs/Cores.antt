-- The first cores are the banks.
use Rattle.std.specs.Prelude.{nat_lt, Option, Some, None, slice_index}
use Rattle.std.proofs.Common.{◌≡◌, ℕ, ◌<◌, refl, ap, arith}
use Rattle.bank_cores.specs.declared.bank.Shape.{Shape as BankShape}
use Rattle.bank_cores.specs.Machine.{ask_of, begun}
use Rattle.circuit.specs.Machines.{after_grant}
use Rattle.core_family.specs.declared.cores.Cores.{Cores}
use Rattle.core_family.specs.Family.{CoreKind, Bank, Mutex, Barrier, ThreadIds, Printer, machine_of, words_of}
use Rattle.core_family.proofs.Listed.{bank_at}
use Rattle.law_banks.specs.Cycle.{words_after}
use Rattle.law_banks.specs.Net.{HasBanks}
use Rattle.law_cycle.specs.Bodies.{core_at, core_machine}

-- ---- a bank

pub starts_as : (o : Option CoreKind) (b : BankShape) → o ≡ Some (Bank b) → words_of o (machine_of o).start ≡ begun b.initial b.threads
starts_as None b e = absurd cc
starts_as (Some (Bank c)) b e = let same : c ≡ b = cc in ap (λ (z : BankShape). begun z.initial z.threads) same
starts_as (Some (Mutex c)) b e = absurd cc
starts_as (Some (Barrier c)) b e = absurd cc
starts_as (Some (ThreadIds c)) b e = absurd cc
starts_as (Some (Printer c)) b e = absurd cc

pub asks_as : (o : Option CoreKind) (b : BankShape) (s : (machine_of o).State) (i : ℕ) (f : ℕ → ℕ) → o ≡ Some (Bank b) →
    (machine_of o).eligible s i ((machine_of o).ask_of f) ≡ nat_lt 0 (f 0)
asks_as None b s i f e = absurd cc
asks_as (Some (Bank c)) b s i f e = refl
asks_as (Some (Mutex c)) b s i f e = absurd cc
asks_as (Some (Barrier c)) b s i f e = absurd cc
asks_as (Some (ThreadIds c)) b s i f e = absurd cc
asks_as (Some (Printer c)) b s i f e = absurd cc

pub moves_as : (o : Option CoreKind) (b : BankShape) (s : (machine_of o).State) (f : ℕ → ℕ → ℕ) (w : Option ℕ) → o ≡ Some (Bank b) →
    words_of o (after_grant (machine_of o) s (λ i. (machine_of o).ask_of (f i)) w) ≡ words_after (words_of o s) (λ i. ask_of (f i)) w
moves_as None b s f w e = absurd cc
moves_as (Some (Bank c)) b s f None e = refl
moves_as (Some (Bank c)) b s f (Some w) e = refl
moves_as (Some (Mutex c)) b s f w e = absurd cc
moves_as (Some (Barrier c)) b s f w e = absurd cc
moves_as (Some (ThreadIds c)) b s f w e = absurd cc
moves_as (Some (Printer c)) b s f w e = absurd cc

pub tells_as : (o : Option CoreKind) (b : BankShape) (s : (machine_of o).State) (i j : ℕ) → o ≡ Some (Bank b) →
    (machine_of o).tells s i j ≡ slice_index (words_of o s).kept i
tells_as None b s i j e = absurd cc
tells_as (Some (Bank c)) b s i j e = refl
tells_as (Some (Mutex c)) b s i j e = absurd cc
tells_as (Some (Barrier c)) b s i j e = absurd cc
tells_as (Some (ThreadIds c)) b s i j e = absurd cc
tells_as (Some (Printer c)) b s i j e = absurd cc

-- a core takes two numbers at least, where it is no core past all
pub takes_two : (s : CoreKind) → 1 < (machine_of (Some s)).parts
takes_two (Bank c) = omega arith
takes_two (Mutex c) = omega arith
takes_two (Barrier c) = omega arith
takes_two (ThreadIds c) = omega arith
takes_two (Printer c) = omega arith

module _ (K : Cores) where
  abbrev pub has_banks : HasBanks K.banks (core_machine K)
  has_banks = record {
    words = λ n s. words_of (core_at K n) s;
    starts = λ n b e. starts_as (core_at K n) b (bank_at K n b e);
    asks = λ n b s i f e. asks_as (core_at K n) b s i f (bank_at K n b e);
    moves = λ n b s f o e. moves_as (core_at K n) b s f o (bank_at K n b e);
    parts = λ n b e. ap (λ o. (machine_of o).parts) (bank_at K n b e);
    told = λ n b e. ap (λ o. (machine_of o).told) (bank_at K n b e);
    tells = λ n b s i j e. tells_as (core_at K n) b s i j (bank_at K n b e);
  }
