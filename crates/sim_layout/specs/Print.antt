-- How a string of $write is read by the code.
use Rattle.std.specs.Prelude.{◌≡◌, ℕ, ◌<◌, List, [], ◌∷◌, take, length}
use Rattle.netlist.specs.declared.netlist.Argument.{Argument}
use Rattle.verilog_meaning.specs.Readings as meaning
use Rattle.sim_layout.specs.declared.print.Mode.{Mode}
use Rattle.sim_layout.specs.declared.print.Mode.TheVariants.{Plain, Escape, Percent, PercentZero}

abbrev pub mode_of : Mode → meaning.Mode
mode_of Plain = meaning.Plain
mode_of Escape = meaning.Escape
mode_of Percent = meaning.Percent
mode_of PercentZero = meaning.PercentZero

abbrev pub tail_of : List Argument → List Argument
tail_of [] = []
tail_of (a ∷ arguments) = arguments

-- the arguments that are still to come after a byte
abbrev pub left_after : meaning.Mode → List Argument → List Argument
left_after meaning.Plain arguments = arguments
left_after meaning.Escape arguments = arguments
left_after meaning.Percent arguments = arguments
left_after meaning.PercentZero arguments = tail_of arguments

-- what was there stays in front
abbrev pub Keeps : List ℕ → List ℕ → Type 0
Keeps old new = take (length old) new ≡ old

-- there is something to write
abbrev pub IsSomething : List ℕ → Type 0
IsSomething bytes = 0 < length bytes
