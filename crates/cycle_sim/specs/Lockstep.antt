-- What a run in lockstep makes of a simulator.
use Rattle.std.specs.Prelude.{◌≡◌, ℕ, ◌<◌, ◌≤◌, ◌⊎◌, true, List, ◌++◌, length, replicate, Some, slice_get}
use Rattle.netlist.specs.declared.netlist.Module.{Module}
use Rattle.verilog_meaning.specs.Names.{top_of}
use Rattle.verilog_meaning.specs.Threads.{all_enabled}
use Rattle.circuit.specs.Nets.{FitsChoice}
use Rattle.sim_values.specs.declared.settle.Choice as code
use Rattle.sim_layout.specs.Running.{Running, state_of, choice_of, IsSameNet}
use Rattle.sim_layout.specs.Rounds.{threads_of, Tells, IsRounds}

-- the numbers of each choice fit: `en` takes all its bits, and each pref has 4 bits or more
pub record TakesRounds (r : Running) : Type 0 where
  pub top : Module
  pub is_top : top_of r.modules ≡ Some top
  pub fits : (prefs preferred : ℕ) → prefs ≤ r.prefs → preferred < 16 → FitsChoice r.modules top (all_enabled (threads_of r.modules) (replicate prefs preferred))

-- n cycles led from the old to the new state, with done shown before none of them, and appended what they write
pub record IsTurned (old new : Running) (n : ℕ) (before after : List ℕ) : Type 0 where
  pub top : Module
  pub is_top : top_of old.modules ≡ Some top
  pub net : IsSameNet old new
  pub bytes : List ℕ
  pub appended : after ≡ before ++ bytes
  pub rounds : IsRounds old.modules top (threads_of old.modules) old.prefs (state_of old) n (state_of new) bytes

-- of at most so many cycles n ran: all of them, or as many as it took until done is shown
pub record IsLockstep (old new : Running) (most n : ℕ) (before after : List ℕ) : Type 0 where
  pub within : n ≤ most
  pub turned : IsTurned old new n before after
  pub ends : (n ≡ most) ⊎ Tells old.modules turned.top (threads_of old.modules) (state_of new) true

-- of at most so many cycles some ran whole
pub record IsCutOff (old new : Running) (most : ℕ) (before after : List ℕ) : Type 0 where
  pub cycles : ℕ
  pub within : cycles ≤ most
  pub turned : IsTurned old new cycles before after

-- so many choices of all threads: in that of number k each of so many arbiters prefers thread k
pub record AreRounds (threads prefs count : ℕ) (choices : List code.Choice) : Type 0 where
  pub long : length choices ≡ count
  pub each : (k : ℕ) (c : code.Choice) → slice_get choices k ≡ Some c → choice_of c ≡ all_enabled threads (replicate prefs k)
