-- What stands beside `top` in a net of threads: `top_rr`, which needs a clock alone.
use Rattle.std.specs.Prelude.{◌≡◌, ℕ, ◌⊎◌, true, List, Some, slice_get, codes}
use Rattle.netlist.specs.declared.netlist.Module.{Module}
use Rattle.netlist.specs.declared.netlist.Netlist.{Netlist}
use Rattle.netlist.specs.declared.netlist.Signal.{Signal}
use Rattle.netlist.specs.declared.netlist.Source.TheVariants.{Input}
use Rattle.verilog_meaning.specs.Names.{module_named}
use Rattle.verilog_meaning.specs.Ports.{HasDone, TakesInput}
use Rattle.sim_layout.specs.Rounds.{prefs_of}
use Rattle.top_parts.specs.declared.layout.Layout.{Layout}
use Rattle.top_wiring.specs.Ports.{threads}
use Rattle.top_wiring.specs.Sound.{AreSound}
use Rattle.top_wiring.specs.Wired.{IsWired}
use Rattle.law_net.specs.Alike.{AreWritesOf}

-- a module `top_rr` has the input `clk` and the output `done`, of one bit, and no other port; n cycles of it write what n cycles of `top` write in which
-- all of so many threads are enabled and each arbiter prefers the cycle's number modulo 16, and done then has the same numbers
pub record HasRound (modules : List Module) (top : Module) (threads : ℕ) : Type 0 where
  pub round : Module
  pub is_round : module_named modules (codes "top_rr") ≡ Some round
  pub clock : TakesInput round (codes "clk") 1
  pub shows : HasDone round
  pub only : (x : ℕ) (s : Signal) → slice_get round.signals x ≡ Some s → (s.source ≡ Input) ⊎ (s.is_output ≡ true) →
      (s.name ≡ codes "clk") ⊎ (s.name ≡ codes "done")
  pub writes : AreWritesOf modules round top threads (prefs_of modules)

-- ROUNDS STAND: so it is in each net that is wired of sound modules
abbrev pub RoundsStand : Type 0
RoundsStand = (layout : Layout) (modules : List Module) (n : Netlist) (w : IsWired modules layout n) → AreSound layout modules → HasRound n.modules w.top (threads layout)
