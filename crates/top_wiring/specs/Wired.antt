-- The net: the modules given, then top, then top_rr.
use Rattle.std.specs.Prelude.{◌≡◌, ◌-◌, List, [], ◌∷◌, ◌++◌, length}
use Rattle.netlist.specs.declared.netlist.Module.{Module}
use Rattle.netlist.specs.declared.netlist.Netlist.{Netlist}
use Rattle.top_parts.specs.declared.layout.Layout.{Layout}
use Rattle.top_wiring.specs.Top.{IsTop}
use Rattle.top_wiring.specs.Round.{IsRound}

pub record IsWired (modules : List Module) (layout : Layout) (n : Netlist) : Type 0 where
  pub top : Module
  pub round : Module
  pub are : n.modules ≡ modules ++ top ∷ [] ++ round ∷ []
  pub is_top : IsTop modules layout top
  pub is_round : IsRound (length layout.threads) (length modules) (length top.signals - 1) (length layout.cores) round
