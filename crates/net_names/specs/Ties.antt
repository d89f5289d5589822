-- Signals that are tied to outputs of instances.
use Rattle.std.specs.Prelude.{ℕ, ◌+◌, false, List, [], ◌∷◌, ◌++◌, map, Option, None, Some, if◌then◌else◌}
use Rattle.std.specs.Str.{bytes_eq}
use Rattle.verilog_tree.specs.declared.tree.Connection.{Connection}
use Rattle.verilog_tree.specs.declared.tree.Port.{Port}
use Rattle.verilog_tree.specs.declared.tree.Instance.{Instance}
use Rattle.verilog_tree.specs.declared.tree.Module.{Module}
use Rattle.netlist.specs.declared.netlist.Source.{Source}
use Rattle.netlist.specs.declared.netlist.Source.TheVariants as source
use Rattle.netlist.specs.NetlistOf.{Name, connected}
use Rattle.net_names.specs.declared.ties.Tie.{Tie}
use Rattle.net_names.specs.Names.{is_side, first_output}
use Rattle.net_names.specs.Kinds.{module_at}

-- the name of a signal, and the instance and the port that it is tied to
pub record Tied : Type 0 where
  pub name : Name
  pub instance : ℕ
  pub port : ℕ

abbrev pub tied_of : Tie → Tied
tied_of t = record { name = t.name.now; instance = t.instance; port = t.port }

abbrev pub ties_of : List Tie → List Tied
ties_of list = map tied_of list

abbrev pub tied_names : List Tied → List Name
tied_names list = map (λ (t : Tied). t.name) list

-- what is tied to the outputs among these ports of an instance, from output k on
abbrev pub port_ties : List Connection → ℕ → List Port → ℕ → List Tied
port_ties cs instance [] k = []
port_ties cs instance (p ∷ ports) k =
    if is_side false p.direction then record { name = connected cs p.name; instance = instance; port = k } ∷ port_ties cs instance ports (k + 1)
    else port_ties cs instance ports k

abbrev pub kind_ties : List Connection → ℕ → Option Module → List Tied
kind_ties cs instance None = []
kind_ties cs instance (Some m) = port_ties cs instance m.ports (first_output m)

-- what is tied to the outputs of an instance of one of these modules
abbrev pub instance_ties : List Module → ℕ → ℕ → Instance → List Tied
instance_ties modules before k n = kind_ties n.connections k (module_at modules before n.module_name)

-- of instances from instance k on
abbrev pub all_ties : List Module → ℕ → List Instance → ℕ → List Tied
all_ties modules before [] k = []
all_ties modules before (n ∷ more) k = instance_ties modules before k n ++ all_ties modules before more (k + 1)

-- the port that the first of these ties to a name
abbrev pub tied_source : List Tied → Name → Source
tied_source [] x = source.Input
tied_source (t ∷ list) x = if bytes_eq x t.name then source.Port t.instance t.port else tied_source list x
