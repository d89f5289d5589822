-- What an instance sees of a module, by the module's name.
use Rattle.std.specs.Prelude.{ℕ, List, Option, Some, None}
use denote.Bor.{Bor}
use Rattle.verilog_tree.specs.Scope.{Name}
use Rattle.verilog_tree.specs.Facts.{Interface}
use Rattle.net_rules.specs.declared.interfaces.Interface.{Interface as Seen}

abbrev pub seen : Name → Seen → Interface
seen name x = record { name = name; ports = x.ports; prints = x.prints }

abbrev pub seen_as : Name → Option Seen → Option Interface
seen_as name None = None
seen_as name (Some x) = Some (seen name x)

abbrev pub seen_at : Bor (List ℕ) × Seen → Interface
seen_at e = seen e.0.now e.1
