-- The cores of the banks of a program's globals.
use Rattle.std.specs.Prelude.{◌≡◌, ℕ, true, List, map}
use Rattle.std.specs.List.{AllByRecursion}
use Rattle.c_program.specs.Tree.{Program}
use Rattle.verilog_tree.specs.Spelling.{all_pass, is_name_byte}
use Rattle.bank_partition.specs.declared.banks.Banks.{Banks}
use Rattle.bank_partition.specs.Partition.{shapes, IsPartition, HasElements, AreBanks, AreHeld}
use Rattle.bank_partition.specs.Shapes.{BankShape}
use Rattle.bank_cores.specs.declared.bank.Shape.{Shape as Bank}

-- the core of a bank, for so many threads
abbrev pub core_shape : ℕ → BankShape → Bank
core_shape threads b = record { threads = threads; name = b.name; number = b.number; address_width = 64; width = b.width; initial = b.initial }

abbrev pub core_shapes : ℕ → List BankShape → List Bank
core_shapes threads shapes = map (core_shape threads) shapes

-- its name may stand in names
abbrev pub IsNamed : BankShape → Type 0
IsNamed b = all_pass is_name_byte b.name ≡ true

abbrev pub AreNamed : List BankShape → Type 0
AreNamed shapes = AllByRecursion IsNamed shapes

-- the banks of a program's globals, where so many threads name each of them, as `partition` promises them
pub record AreParted (P : Program) (counts : List ℕ) (parted : Banks) : Type 0 where
  pub is : IsPartition P counts parted
  pub are : AreBanks parted.spreads.items (shapes parted)
  pub elements : HasElements P.globals parted.spreads.items
  pub held : AreHeld parted.spreads.items (shapes parted)

-- by some counts of threads
abbrev pub IsPartedProgram : Program → Banks → Type 0
IsPartedProgram P parted = (counts : List ℕ) × AreParted P counts parted
