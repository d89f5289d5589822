-- A module with the ports of a thread: it asks core 0 while it is enabled, needs it until it is granted, and is done then.
use Rattle.std.specs.Prelude.{ℕ, nat_eq, List, [], ◌∷◌, codes, if◌then◌else◌}
use Rattle.netlist.specs.BinaryOperator.TheVariants.{Or, Equal}
use Rattle.netlist.specs.declared.netlist.Effect.TheVariants.{Set}
use Rattle.netlist.specs.declared.netlist.Action.{Action}
use Rattle.netlist.specs.declared.netlist.Module.{Module}
use Rattle.circuit.specs.declared.rows.Role.TheVariants as role
use Rattle.circuit.specs.declared.table.Operand.TheVariants.{Only}
use Rattle.circuit.specs.declared.table.Form.TheVariants.{Input, Register, Constant, Output, Binary}
use Rattle.circuit.specs.declared.table.Row.{Row}
use Rattle.circuit.specs.declared.table.Row.TheVariants.{One}
use Rattle.circuit.specs.Table.{laid}
use Rattle.leaf_machine.specs.Leaves.{Heard, Clock, Enable, Grant, LeafPorts, IsThreadLeaf}

-- clock, enable, grant; whether it was granted; 0; whether it was not, or is now; and what it asks, needs and has done
abbrev pub rows : List Row
rows =
    One role.Clock 1 Input
    ∷ One role.Wire 1 Input
    ∷ One role.Grant 1 Input
    ∷ One role.State 1 (Register 0)
    ∷ One role.Wire 1 (Constant 0)
    ∷ One role.Wire 1 (Binary Equal (Only 3) (Only 4))
    ∷ One role.Wire 1 (Binary Or (Only 2) (Only 3))
    ∷ One role.Ask 1 (Output (Only 1))
    ∷ One role.Wire 1 (Output (Only 5))
    ∷ One role.Wire 1 (Output (Only 3))
    ∷ []

abbrev pub moves : Action
moves = record { conditions = 1 ∷ []; effect = Set 3 6 }

abbrev pub example : Module
example = record { name = codes "thread"; signals = laid 1 rows; memories = []; actions = moves ∷ []; instances = [] }

abbrev pub input_at : ℕ → Heard
input_at x = if nat_eq x 0 then Clock else (if nat_eq x 1 then Enable else Grant 0)

abbrev pub ports : LeafPorts
ports = record {
  uses = λ k. nat_eq k 0;
  enable = 1;
  ask = λ k j. 7;
  grant = λ k. 2;
  told = λ k j. 0;
  need = 8;
  done = 9;
  heard = input_at;
}

-- of one core, which takes one part and tells nothing
abbrev pub ExampleIsLeaf : Type 0
ExampleIsLeaf = IsThreadLeaf example 3 ports 1 (λ k. 1) (λ k. 0)
