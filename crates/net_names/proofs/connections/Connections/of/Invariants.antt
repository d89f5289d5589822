use Rattle.std.proofs.Common.{◌≡◌, take}
use Rattle.net_names.specs.Tables.{names_of}
use Rattle.net_names.specs.Found.{ports_of}
use Rattle.net_names.proofs.connections.Connections.of.Given as goal

abbrev pub invariant-loop-connection : goal.invariant-loop-connection
invariant-loop-connection l = names_of l.names ≡ ports_of (take l.connection-index l.list)
