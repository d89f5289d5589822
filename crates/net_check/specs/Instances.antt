-- Instances, by the modules that stand earlier.
use Rattle.std.specs.Prelude.{Bool, List}
use Rattle.verilog_tree.specs.declared.tree.Port.{Port}
use Rattle.verilog_tree.specs.declared.tree.Connection.{Connection}
use Rattle.verilog_tree.specs.declared.tree.Instance.{Instance}
use Rattle.verilog_tree.specs.Scope.{Names, Scope, is_known}
use Rattle.verilog_tree.specs.Rules as rule
use Rattle.verilog_tree.specs.Facts.{Interface, interface_named}
use Rattle.verilog_tree.specs.WellFormed.{instance_right}

-- each connection is to a port that takes its signal
abbrev pub all_taken : Scope → List Port → List Connection → Bool
all_taken scope ports = rule.all_right (λ c. rule.takes scope (rule.port_named ports c.port) c.signal)

-- the names have each port among them
abbrev pub all_connected : Names → List Port → Bool
all_connected names = rule.all_right (λ p. is_known names p.name)

-- the module stands earlier, and the connections are right
abbrev pub is_right : List Interface → Scope → Instance → Bool
is_right earlier scope x = instance_right (interface_named earlier x.module_name) (λ ports. rule.connections_right scope ports x.connections)
