-- A run of a net under the choices of `top_rr`, until done is shown or so many cycles have run.
use Rattle.std.specs.Prelude.{◌≡◌, ℕ, ◌<◌, ◌≤◌, Bool, false, List, [], Some}
use Rattle.netlist.specs.declared.netlist.Module.{Module}
use Rattle.verilog_meaning.specs.Names.{top_of}
use Rattle.verilog_meaning.specs.Cycles.{Valuation, Choice, IsSameIn, Reaches, initial_state}
use Rattle.sim_layout.specs.Running.{Running, state_of}
use Rattle.sim_layout.specs.Rounds.{prefs_of, rounds, Tells, IsGoing}

-- the choices of the first n cycles, with a pref for each input `pref_k` of top
abbrev pub turns : List Module → ℕ → ℕ → List Choice
turns modules threads n = rounds threads (prefs_of modules) n

-- of at most so many cycles so many ran, the fewest after which done is shown, else all; these bytes were written
pub record IsRound (modules : List Module) (threads most cycles : ℕ) (done : Bool) (out : List ℕ) : Type 0 where
  pub top : Module
  pub is_top : top_of modules ≡ Some top
  pub within : cycles ≤ most
  pub going : (n : ℕ) → n < cycles → IsGoing modules top threads (prefs_of modules) (initial_state modules top) n
  pub state : Valuation
  pub turned : Reaches modules top (turns modules threads cycles) state out
  pub tells : Tells modules top threads state done
  pub all : done ≡ false → cycles ≡ most

-- a simulator in the initial state of its net
pub record IsBegun (r : Running) : Type 0 where
  pub top : Module
  pub is_top : top_of r.modules ≡ Some top
  pub begins : IsSameIn r.modules top [] (initial_state r.modules top) (state_of r)
  pub count : r.prefs ≡ prefs_of r.modules
