-- Which tokens stand before a part of a net.
use Rattle.std.specs.Prelude.{ℕ, List, ◌++◌, take}
use Rattle.verilog_tree.specs.declared.token.Word.TheVariants as w
use Rattle.verilog_tree.specs.declared.token.Mark.TheVariants as m
use Rattle.verilog_tree.specs.declared.token.Token.{Token}
use Rattle.verilog_tree.specs.declared.tree.Port.{Port}
use Rattle.verilog_tree.specs.declared.tree.Module.{Module}
use Rattle.verilog_tree.specs.Grammar as g

-- a port and the comma behind it
abbrev pub port_and_comma : Port → List Token
port_and_comma p = g.port p ++ g.mark m.Comma

-- what stands in a module before its name
abbrev pub before_name : Module → List Token
before_name x = g.word w.Module

-- before port number k
abbrev pub before_port : ℕ → Module → List Token
before_port k x = g.word w.Module ++ g.name x.name ++ g.mark m.OpenRound ++ g.all port_and_comma (take k x.ports)

-- before item number k
abbrev pub before_item : ℕ → Module → List Token
before_item k x = g.word w.Module ++ g.name x.name ++ g.mark m.OpenRound ++ g.commas g.port x.ports ++ g.mark m.CloseRound ++ g.mark m.Semicolon ++ g.all g.item (take k x.items)

-- what stands in a net before a part of module number k
abbrev pub before : List Module → ℕ → List Token → List Token
before modules k within = g.all g.module_tokens (take k modules) ++ within
