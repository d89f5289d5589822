-- How far a run is traced.
use Rattle.std.specs.Prelude.{◌≡◌, ℕ, ◌≤◌, List, [], ◌++◌, map}
use Rattle.netlist.specs.declared.netlist.Module.{Module}
use Rattle.verilog_meaning.specs.Cycles.{Valuation, Runs}
use Rattle.sim_layout.specs.Running.{Running, state_of}
use Rattle.sim_layout.specs.Rounds.{threads_of, rounds}
use Rattle.cycle_sim.specs.Lockstep.{IsTurned}
use Rattle.vcd_text.specs.Dump.{AreValues}
use Rattle.vcd_text.specs.Recover.{frames}
use Rattle.net_registers.specs.declared.listing.Listing.{Listing}
use Rattle.net_registers.specs.Marks.{Register, registers_of}
use Rattle.net_registers.specs.Heads.{number_in, IsListing}

-- the numbers of these registers after n cycles from a state
pub record AreFrom (first : Running) (top : Module) (registers : List Register) (n : ℕ) (numbers : List ℕ) : Type 0 where
  pub state : Valuation
  pub out : List ℕ
  pub ran : Runs first.modules top (state_of first) (rounds (threads_of first.modules) first.prefs n) state out
  pub are : numbers ≡ map (number_in state) registers

-- n cycles led from the first simulator to this one, and the text is their dump; the last numbers are these
pub record IsTracing (first now : Running) (l : Listing) (n : ℕ) (text numbers : List ℕ) : Type 0 where
  pub listing : IsListing first l
  pub out : List ℕ
  pub turned : IsTurned first now n [] out
  pub values : ℕ → List ℕ
  pub each : (k : ℕ) → k ≤ n → AreFrom first turned.top (registers_of listing.marks) k (values k)
  pub fit : (k : ℕ) → k ≤ n → AreValues l.widths (values k)
  pub text_is : text ≡ l.head ++ frames l.widths values n
  pub last : numbers ≡ values n
