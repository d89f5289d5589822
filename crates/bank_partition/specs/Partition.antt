-- A partition of a program's globals into banks, and where each element stands in one.
use Rattle.std.specs.Prelude.{◌≡◌, ℕ, ◌+◌, ◌*◌, ◌/◌, ◌%◌, ◌^◌, ◌<◌, ◌≤◌, nat_lt, if◌then◌else◌, List, [], ◌∷◌, length, map, Option, Some, None, slice_get}
use Rattle.std.specs.List.{AllByRecursion}
use Rattle.c_program.specs.Tree.{GlobalVariable, Program}
use Rattle.bank_partition.specs.declared.banks.Spread.{Spread}
use Rattle.bank_partition.specs.declared.banks.Banks.{Banks}
use Rattle.bank_partition.specs.declared.banks.Place.{Place}
use Rattle.bank_partition.specs.declared.banks.Element.{Element}
use Rattle.bank_partition.specs.Counts.{words_of}
use Rattle.bank_partition.specs.Shapes.{BankShape, shape_of, banks_from, spreads_from}

abbrev pub shapes : Banks → List BankShape
shapes b = map shape_of b.banks.items

-- the banks of a program, where so many hardware threads name each global
pub record IsPartition (P : Program) (threads : List ℕ) (b : Banks) : Type 0 where
  pub banks : shapes b ≡ banks_from threads 0 P.globals
  pub spreads : b.spreads.items ≡ spreads_from threads 0 0 P.globals

-- ---- places

-- element j of the global x is one
pub record IsElement (spreads : List Spread) (x j : ℕ) : Type 0 where
  pub spread : Spread
  pub stands : slice_get spreads x ≡ Some spread
  pub inside : j < spread.length

-- each element of each global is one
abbrev pub HasElements : List GlobalVariable → List Spread → Type 0
HasElements globals spreads = (x j : ℕ) (g : GlobalVariable) → slice_get globals x ≡ Some g → j < g.length → IsElement spreads x j

abbrev pub place_in : Spread → ℕ → Place
place_in s j = record { bank = s.first + j % s.count; address = j / s.count }

abbrev pub place_at : Option Spread → ℕ → Option Place
place_at None j = None
place_at (Some s) j = Some (place_in s j)

-- where element j of the global x is
abbrev pub place_of : List Spread → ℕ → ℕ → Option Place
place_of spreads x j = place_at (slice_get spreads x) j

-- the element at a word of a bank, if the bank has that word
abbrev pub element_in : Option BankShape → ℕ → Option Element
element_in None address = None
element_in (Some b) address = if nat_lt address b.words then Some (record { global = b.global; index = address * b.count + b.number }) else None

abbrev pub element_of : List BankShape → ℕ → ℕ → Option Element
element_of banks bank address = element_in (slice_get banks bank) address

-- ---- what holds of each partition

-- bank k of the global x, which has these banks
pub record IsBankOf (x k : ℕ) (s : Spread) (b : BankShape) : Type 0 where
  pub global : b.global ≡ x
  pub number : b.number ≡ k
  pub count : b.count ≡ s.count
  pub words : b.words ≡ words_of s.count k s.length

-- lengths are numbers of 64 bits
abbrev pub AreShort : List Spread → Type 0
AreShort [] = Unit {0}
AreShort (s ∷ spreads) = (s.length < 2 ^ 64) × AreShort spreads

pub record AreBanks (spreads : List Spread) (banks : List BankShape) : Type 0 where
  pub short : (x : ℕ) (s : Spread) → slice_get spreads x ≡ Some s → s.length < 2 ^ 64
  pub some : (x : ℕ) (s : Spread) → slice_get spreads x ≡ Some s → 0 < s.count
  pub stand : (x k : ℕ) (s : Spread) → slice_get spreads x ≡ Some s → k < s.count → (b : BankShape) × (slice_get banks (s.first + k) ≡ Some b) × IsBankOf x k s b
  pub owned : (i : ℕ) (b : BankShape) → slice_get banks i ≡ Some b
      → (s : Spread) × (slice_get spreads b.global ≡ Some s) × (b.number < s.count) × (i ≡ s.first + b.number) × IsBankOf b.global b.number s b

-- ---- what the core of a bank asks

pub record IsHeld (b : BankShape) : Type 0 where
  pub low : 1 ≤ b.width
  pub high : b.width ≤ 64
  pub counted : length b.initial ≡ b.words
  pub fits : AllByRecursion (λ n. n < 2 ^ b.width) b.initial

-- each first value fits its word, and a bank of a global that has elements has words
pub record AreHeld (spreads : List Spread) (banks : List BankShape) : Type 0 where
  pub each : (i : ℕ) (b : BankShape) → slice_get banks i ≡ Some b → IsHeld b
  pub filled : (i : ℕ) (b : BankShape) (s : Spread) → slice_get banks i ≡ Some b → slice_get spreads b.global ≡ Some s → 0 < s.length → 1 ≤ b.words
