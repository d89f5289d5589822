-- The banks of a partition of a program's globals, as cores for T threads.
use Rattle.std.specs.Prelude.{◌≡◌, ℕ, ◌^◌, ◌<◌, List, length, map, Some, slice_get, slice_index, ℤ, pos}
use Rattle.std.specs.List.{AllByRecursion}
use Rattle.hls_ints.specs.Types.{IntegerType}
use Rattle.c_program.specs.Tree.{GlobalVariable, Program}
use Rattle.c_program.specs.Resolved.{IsGlobal}
use Rattle.thread_semantics.specs.State.{start}
use Rattle.race_model.specs.Source.{memory_of}
use Rattle.interleaving.specs.Memory.{Memory}
use Rattle.bank_partition.specs.declared.banks.Spread.{Spread}
use Rattle.bank_partition.specs.declared.banks.Banks.{Banks}
use Rattle.bank_partition.specs.Shapes.{BankShape}
use Rattle.bank_partition.specs.Partition.{shapes, IsPartition, HasElements, AreBanks, AreHeld}
use Rattle.bank_cores.specs.declared.bank.Shape.{Shape as Bank}
use Rattle.bank_cores.specs.Machine.{Words, begun}
use Rattle.law_banks.specs.Memory.{Holds}
use Rattle.law_banks.specs.Cycle.{AreBanked}

-- the types of the elements of the globals
abbrev pub globals_of : Program → List IntegerType
globals_of P = map (λ (g : GlobalVariable). g.ty) P.globals

-- the core of a bank, for so many threads
pub record IsBankOf (T : ℕ) (b : BankShape) (s : Bank) : Type 0 where
  pub threads : s.threads ≡ T
  pub name : s.name ≡ b.name
  pub number : s.number ≡ b.number
  pub width : s.width ≡ b.width
  pub initial : s.initial ≡ b.initial

-- the banks of a partition of the globals, one core for each
pub record ArePartitioned (P : Program) (T : ℕ) (spreads : List Spread) (banks : List Bank) : Type 0 where
  pub partition : Banks
  pub threads : List ℕ
  pub is : IsPartition P threads partition
  pub spread : spreads ≡ partition.spreads.items
  pub count : length banks ≡ length (shapes partition)
  pub each : (n : ℕ) (b : BankShape) (s : Bank) → slice_get (shapes partition) n ≡ Some b → slice_get banks n ≡ Some s → IsBankOf T b s
  pub stand : AreBanks spreads (shapes partition)
  pub elements : HasElements P.globals spreads
  pub held : AreHeld spreads (shapes partition)

-- by bank what its core has at the start
abbrev pub BeginAll : List Bank → (ℕ → Words) → Type 0
BeginAll banks held = (n : ℕ) (b : Bank) → slice_get banks n ≡ Some b → held n ≡ begun b.initial b.threads

-- what stands above it wants of banks is so
abbrev pub PartitionIsBanked : Type 0
PartitionIsBanked = (P : Program) (T : ℕ) (spreads : List Spread) (banks : List Bank) → ArePartitioned P T spreads banks → AreBanked spreads (globals_of P)

-- AT THE START the banks hold the first memory, and keep 0 for each thread
abbrev pub StartHolds : Type 0
StartHolds =
    (P : Program) (T : ℕ) (spreads : List Spread) (banks : List Bank) (held : ℕ → Words) → ArePartitioned P T spreads banks → AllByRecursion IsGlobal P.globals →
    BeginAll banks held → Holds spreads (globals_of P) T held (memory_of (start P).globals) (λ i n. pos 0)

-- what a bank tells a thread is as wide as its words
abbrev pub WordsFit : Type 0
WordsFit =
    (P : Program) (T : ℕ) (spreads : List Spread) (banks : List Bank) (held : ℕ → Words) (memory : Memory ℤ) (words : ℕ → ℕ → ℤ) → ArePartitioned P T spreads banks →
    Holds spreads (globals_of P) T held memory words → (i n : ℕ) (b : Bank) → i < T → slice_get banks n ≡ Some b → slice_index (held n).kept i < 2 ^ b.width
