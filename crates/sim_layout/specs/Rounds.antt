-- The choices of `top_rr`, a cycle at a time, and what a run under them is.
use Rattle.std.specs.Prelude.{◌≡◌, ℕ, zero, suc, ◌%◌, ◌<◌, ◌≤◌, Bool, true, false, ◌&&◌, nat_eq, List, [], ◌∷◌, ◌++◌, replicate, Option, Some, None, slice_get, codes, if◌then◌else◌}
use Rattle.std.specs.Str.{bytes_eq}
use Rattle.netlist.specs.declared.netlist.Source.{Source}
use Rattle.netlist.specs.declared.netlist.Source.TheVariants.{Input}
use Rattle.netlist.specs.declared.netlist.Signal.{Signal}
use Rattle.netlist.specs.declared.netlist.Module.{Module}
use Rattle.verilog_meaning.specs.Names.{top_of}
use Rattle.verilog_meaning.specs.Cycles.{Valuation, Choice, Runs, ShowsDone}
use Rattle.verilog_meaning.specs.Threads.{all_enabled}
use Rattle.sim_values.specs.Nets.{FitsChoice}
use Rattle.global_banks.specs.Banks.{behind, is_decimal}

-- ---- the threads: the bits of the signal `en` of the outermost module

abbrev pub enable_width : List Signal → ℕ
enable_width [] = 0
enable_width (s ∷ signals) = if bytes_eq s.name (codes "en") then s.width else enable_width signals

abbrev pub enables : Option Module → ℕ
enables None = 0
enables (Some top) = enable_width top.signals

abbrev pub threads_of : List Module → ℕ
threads_of modules = enables (top_of modules)

abbrev pub AreNarrowSignals : List Signal → Type 0
AreNarrowSignals signals = (x : ℕ) (s : Signal) → slice_get signals x ≡ Some s → s.width ≤ 64

-- ---- the arbiters: the inputs `pref_k` of the outermost module

abbrev pub is_input : Source → Bool
is_input Input = true
is_input _ = false

abbrev pub is_number : Option (List ℕ) → Bool
is_number None = false
is_number (Some digits) = is_decimal digits

-- a name pref_k
abbrev pub is_pref : List ℕ → Bool
is_pref name = is_number (behind (codes "pref_") name)

-- how many inputs have such a name
abbrev pub pref_count : List Signal → ℕ
pref_count [] = 0
pref_count (s ∷ signals) = if is_input s.source && is_pref s.name then suc (pref_count signals) else pref_count signals

abbrev pub prefs_in : Option Module → ℕ
prefs_in None = 0
prefs_in (Some top) = pref_count top.signals

abbrev pub prefs_of : List Module → ℕ
prefs_of modules = prefs_in (top_of modules)

-- ---- the choices: in cycle k, from 0, all threads are enabled, and each of so many arbiters prefers thread k modulo 16

abbrev pub round : ℕ → ℕ → ℕ → Choice
round threads prefs k = all_enabled threads (replicate prefs (k % 16))

-- those of the first n cycles
abbrev pub rounds : ℕ → ℕ → ℕ → List Choice
rounds threads prefs zero = []
rounds threads prefs (suc n) = rounds threads prefs n ++ round threads prefs n ∷ []

-- their numbers fit: `en` has so many bits, and each pref has 4 bits or more
abbrev pub TakesTurns : List Module → Module → Type 0
TakesTurns modules top = (prefs preferred : ℕ) → preferred < 16 → FitsChoice modules top (all_enabled (threads_of modules) (replicate prefs preferred))

module _ (modules : List Module) (top : Module) (threads : ℕ) where
  -- whether done is shown in a state, where all threads are enabled and each arbiter prefers thread 0
  abbrev pub Tells : Valuation → Bool → Type 0
  Tells h shown = (number : ℕ) × ShowsDone modules top h (all_enabled threads []) number × (shown ≡ nat_eq number 1)

  -- after the first n cycles from a state done is not shown
  pub record IsGoing (prefs : ℕ) (from : Valuation) (n : ℕ) : Type 0 where
    pub state : Valuation
    pub out : List ℕ
    pub turned : Runs modules top from (rounds threads prefs n) state out
    pub going : Tells state false

  -- n cycles lead from one state to another and write out, and done is shown before none of them
  pub record IsRounds (prefs : ℕ) (from : Valuation) (n : ℕ) (to : Valuation) (out : List ℕ) : Type 0 where
    pub turned : Runs modules top from (rounds threads prefs n) to out
    pub going : (k : ℕ) → k < n → IsGoing prefs from k
