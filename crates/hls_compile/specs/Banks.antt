-- The banks of a program's globals, by the numbers of hardware threads that name them.
use Rattle.std.specs.Prelude.{ℕ, List}
use Rattle.c_program.specs.Tree.{Program}
use Rattle.bank_partition.specs.declared.banks.Banks.{Banks}
use Rattle.global_naming.specs.Naming.{AreCounts}
use Rattle.program_cores.specs.Banks.{AreParted}

-- as many for each global as the hardware threads that name it ask for
pub record AreBanksOf (P : Program) (banks : Banks) : Type 0 where
  pub counts : List ℕ
  pub counted : AreCounts P counts
  pub parted : AreParted P counts banks
