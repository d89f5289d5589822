-- `top_rr` by its name.
use Rattle.std.specs.Prelude.{◌≡◌, ◌≢◌, ℕ, List, Some, slice_get, codes}
use Rattle.netlist.specs.declared.netlist.Module.{Module}
use Rattle.netlist.specs.declared.netlist.Netlist.{Netlist}
use Rattle.verilog_meaning.specs.Names.{module_named}
use Rattle.top_parts.specs.declared.layout.Layout.{Layout}
use Rattle.top_wiring.specs.Wired.{IsWired}

-- none of these modules has a name
abbrev pub HasNo : List ℕ → List Module → Type 0
HasNo name modules = (k : ℕ) (m : Module) → slice_get modules k ≡ Some m → m.name ≢ name

-- TOP_RR IS FOUND by its name
abbrev pub RoundIsFound : Type 0
RoundIsFound =
    (layout : Layout) (modules : List Module) (n : Netlist) (w : IsWired modules layout n) → HasNo (codes "top_rr") modules → module_named n.modules (codes "top_rr") ≡ Some w.round
