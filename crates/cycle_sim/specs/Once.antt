-- In a net that has a simulator a cycle has one next state and one output.
use Rattle.std.specs.Prelude.{◌≡◌, ℕ, List, [], Some}
use Rattle.netlist.specs.declared.netlist.Signal.{Signal}
use Rattle.netlist.specs.declared.netlist.Module.{Module}
use Rattle.verilog_meaning.specs.Names.{top_of}
use Rattle.verilog_meaning.specs.Cycles.{Path, Valuation, Choice, IsAt, IsSettled, IsSameIn, Cycle, Runs}
use Rattle.sim_layout.specs.Running.{Running, Stands}

-- for the net that flat words stand for, and its module `top`
abbrev pub InEach : (List Module → Module → Type 0) → Type 0
InEach P = (r : Running) → Stands r → (top : Module) → top_of r.modules ≡ Some top → P r.modules top

-- a state and a choice have at most one settled valuation
abbrev pub SettlesAlike : Type 0
SettlesAlike = InEach (λ modules top. (h : Valuation) (c : Choice) (v w : Valuation) → IsSettled modules top h c v → IsSettled modules top h c w
    → (path : Path) (m : Module) (x : ℕ) (s : Signal) → IsAt modules top path m x s → (v path).signal x ≡ (w path).signal x)

-- two cycles from one state under one choice lead to one state and write the same
abbrev pub CycleOnce : Type 0
CycleOnce = InEach (λ modules top. (h g k : Valuation) (c : Choice) (out more : List ℕ) → Cycle modules top h c g out → Cycle modules top h c k more
    → IsSameIn modules top [] g k × (out ≡ more))

-- so do cycles from states that are the same
abbrev pub CycleAlike : Type 0
CycleAlike = InEach (λ modules top. (h l g k : Valuation) (c : Choice) (out more : List ℕ) → IsSameIn modules top [] h l → Cycle modules top h c g out → Cycle modules top l c k more
    → IsSameIn modules top [] g k × (out ≡ more))

-- and runs
abbrev pub RunsOnce : Type 0
RunsOnce = InEach (λ modules top. (choices : List Choice) (h l g k : Valuation) (out more : List ℕ) → IsSameIn modules top [] h l → Runs modules top h choices g out
    → Runs modules top l choices k more → IsSameIn modules top [] g k × (out ≡ more))

-- a signal of an instance shows one number in states that are the same
abbrev pub ShowsOnce : Type 0
ShowsOnce = InEach (λ modules top. (h l : Valuation) (c : Choice) (v w : Valuation) → IsSameIn modules top [] h l → IsSettled modules top h c v → IsSettled modules top l c w
    → (path : Path) (m : Module) (x : ℕ) (s : Signal) → IsAt modules top path m x s → (v path).signal x ≡ (w path).signal x)
