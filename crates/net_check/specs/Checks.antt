-- What the faults of a check say of the net.
use Rattle.verilog_tree.specs.declared.tree.Net.{Net}
use Rattle.verilog_tree.specs.WellFormed.{IsWellFormed}
use Rattle.net_check.specs.declared.fault.NetFault.{NetFault}
use Rattle.net_check.specs.declared.fault.NetFault.TheVariants as fault
use Rattle.net_check.specs.Breaks.{IsFirstBroken}

-- the net is not well formed
abbrev pub IsNoNet : Net → NetFault → Type 0
IsNoNet n (fault.BadNet p) = IsWellFormed n → ⊥
IsNoNet n fault.Mem = Unit {0}

-- the part is the first that breaks a rule
abbrev pub TellsFirst : Net → NetFault → Type 0
TellsFirst n (fault.BadNet p) = IsFirstBroken n p
TellsFirst n fault.Mem = Unit {0}
