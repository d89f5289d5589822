-- What `hls step` answers, which runs `top` under the choices of the rounds, as what `top_rr` does.
use Rattle.std.specs.Prelude.{◌≡◌, ℕ, ◌^◌, ◌<◌, ◌≤◌, Bool, false, nat_eq, List, length, codes}
use Rattle.netlist.specs.declared.netlist.Module.{Module}
use Rattle.netlist.specs.declared.netlist.Netlist.{Netlist}
use Rattle.verilog_meaning.specs.Cycles.{Choice}
use Rattle.verilog_meaning.specs.Follows.{IsDetermined}
use Rattle.sim_layout.specs.Rounds.{threads_of}
use Rattle.cycle_sim.specs.Round.{IsRound}
use Rattle.top_parts.specs.declared.layout.Layout.{Layout}
use Rattle.top_wiring.specs.Ports.{threads, cores}
use Rattle.top_wiring.specs.Leaves.{SettlesOnce}
use Rattle.top_wiring.specs.Wired.{IsWired}
use Rattle.law_net.specs.Alike.{Ends}
use Rattle.law_net.specs.Found.{HasNo}

module _ (modules : List Module) (outermost : Module) where
  -- from the initial state, cycles under these choices write these bytes, and then done is shown or not under one more choice
  abbrev pub Stops : List Choice → Choice → List ℕ → Bool → Type 0
  Stops choices last out shown = (number : ℕ) × Ends modules outermost choices last out number × (shown ≡ nat_eq number 1)

  -- of at most so many cycles, under whatever choices, so many are the fewest after which done is shown, else all; they write
  -- these bytes
  pub record IsDoneAfter (most cycles : ℕ) (done : Bool) (out : List ℕ) : Type 0 where
    pub within : cycles ≤ most
    pub going : (choices : List Choice) (last : Choice) → length choices < cycles → (before : List ℕ) × Stops choices last before false
    pub ended : (choices : List Choice) (last : Choice) → length choices ≡ cycles → Stops choices last out done
    pub all : done ≡ false → cycles ≡ most

-- STEP DOES WHAT TOP_RR DOES: what `top` writes under the choices of the rounds until it is done, so does `top_rr`, where each
-- state has exactly one settled valuation for each choice, with one value of done. Names tell 2 ^ 64 prefs apart
abbrev pub StepsAsRound : Type 0
StepsAsRound =
    (layout : Layout) (modules : List Module) (n : Netlist) (w : IsWired modules layout n) → HasNo (codes "top") modules → cores layout ≤ 2 ^ 64
    → SettlesOnce n.modules w.top (threads layout) → IsDetermined n.modules w.top (threads layout)
    → (most cycles : ℕ) (done : Bool) (out : List ℕ) → IsRound n.modules (threads_of n.modules) most cycles done out → IsDoneAfter n.modules w.round most cycles done out
