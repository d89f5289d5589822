-- Statements that write nothing.
use Rattle.std.specs.Prelude.{◌≡◌, false}
use Rattle.netlist.specs.declared.netlist.Action.{Action}
use Rattle.netlist.specs.Sound.{is_write}

abbrev pub IsSilent : Action → Type 0
IsSilent a = is_write a.effect ≡ false
