-- The laws, for the net that flat words stand for.
use Rattle.std.specs.Prelude.{◌≡◌, ℕ, List, [], length}
use Rattle.std.proofs.Common.{sym, ◌∙◌, subst}
use Rattle.std.proofs.lemmas.Option.{same_Some}
use Rattle.netlist.specs.declared.netlist.Signal.{Signal}
use Rattle.netlist.specs.declared.netlist.Module.{Module}
use Rattle.verilog_meaning.specs.Cycles.{Path, Valuation, Choice, IsAt, IsSettled, IsSameIn, Cycle, Runs}
use Rattle.verilog_meaning.proofs.OneSettled.{IsLevelled}
use Rattle.circuit.specs.Nets.{FitsStatements}
use Rattle.cycle_sim.specs.Once.{InEach, SettlesAlike, CycleOnce, CycleAlike, RunsOnce, ShowsOnce}
use Rattle.cycle_sim.proofs.Levels.{level, levelled}
use Rattle.cycle_sim.proofs.Same.{moved, settled_moved}
use Rattle.cycle_sim.proofs.Once.{settles, once, alike, runs_once as runs_alike}

-- a law of nets with levels whose statements fit is one of each net that flat words stand for
pub in_each : (P : List Module → Module → Type 0) → ((modules : List Module) (top : Module) (rank : Path → ℕ → ℕ) → IsLevelled modules top rank → FitsStatements modules top → P modules top) → InEach P
in_each P law r st top e =
    subst (P r.modules) (same_Some _ _ (sym st.is_top ∙ e))
    (law r.modules st.top (level r.modules st.top r.parts r.steps st.free r.prefs (length r.numbers) st.plan st.right.fits)
    (levelled r.modules st.top r.parts r.steps st.free r.prefs (length r.numbers) st.plan st.right.fits) st.right.statements)

pub settles_alike : SettlesAlike
settles_alike = in_each (λ modules top. (h : Valuation) (c : Choice) (v w : Valuation) → IsSettled modules top h c v → IsSettled modules top h c w
    → (path : Path) (m : Module) (x : ℕ) (s : Signal) → IsAt modules top path m x s → (v path).signal x ≡ (w path).signal x)
    (λ modules top rank is statements. settles modules top rank is)

pub cycle_once : CycleOnce
cycle_once = in_each (λ modules top. (h g k : Valuation) (c : Choice) (out more : List ℕ) → Cycle modules top h c g out → Cycle modules top h c k more
    → IsSameIn modules top [] g k × (out ≡ more))
    (λ modules top rank is. once modules top (settles modules top rank is))

pub cycle_alike : CycleAlike
cycle_alike = in_each (λ modules top. (h l g k : Valuation) (c : Choice) (out more : List ℕ) → IsSameIn modules top [] h l → Cycle modules top h c g out → Cycle modules top l c k more
    → IsSameIn modules top [] g k × (out ≡ more))
    (λ modules top rank is. alike modules top (settles modules top rank is))

pub runs_once : RunsOnce
runs_once = in_each (λ modules top. (choices : List Choice) (h l g k : Valuation) (out more : List ℕ) → IsSameIn modules top [] h l → Runs modules top h choices g out
    → Runs modules top l choices k more → IsSameIn modules top [] g k × (out ≡ more))
    (λ modules top rank is. runs_alike modules top (settles modules top rank is))

pub shows_once : ShowsOnce
shows_once r st top e h l c v w same a b path m x s at =
    settles_alike r st top e h c v (moved r.modules top h l same c w b) a (settled_moved r.modules top h l same c w b) path m x s at
