-- Actions by their parts.
use Rattle.std.specs.Prelude.{ℕ, List, ◌++◌, ◌∷◌, []}
use Rattle.verilog_tree.specs.declared.tree.WriteArgument.{WriteArgument}
use Rattle.verilog_tree.specs.declared.tree.WriteArgument.TheVariants as w
use Rattle.netlist.specs.declared.netlist.Argument.{Argument}
use Rattle.netlist.specs.declared.netlist.Argument.TheVariants as a
use Rattle.netlist.specs.declared.netlist.Effect.{Effect}
use Rattle.netlist.specs.declared.netlist.Action.{Action}
use Rattle.netlist.specs.NetlistOf.{Name, place}

abbrev pub action_of : List ℕ → Effect → Action
action_of conditions effect = record { conditions = conditions; effect = effect }

abbrev pub with_condition : List ℕ → ℕ → List ℕ
with_condition conditions condition = conditions ++ condition ∷ []

-- a value of a $write, over the places of these signals
abbrev pub argument_of : List Name → WriteArgument → Argument
argument_of signals (w.Unsigned x) = a.Unsigned (place signals x)
argument_of signals (w.Signed x) = a.Signed (place signals x)
