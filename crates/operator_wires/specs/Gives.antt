-- What signals give in a module that is put together signal by signal: whatever stands behind them, in every reading that the module obeys.
use Rattle.std.specs.Prelude.{◌≡◌, ℕ, ◌<◌, List, [], ◌∷◌, ◌++◌, length}
use Rattle.netlist.specs.declared.netlist.Signal.{Signal}
use Rattle.netlist.specs.declared.netlist.Source.{Source}
use Rattle.netlist.specs.declared.netlist.Module.{Module}
use Rattle.circuit.specs.Readings.{Reading, width}
use Rattle.circuit.specs.Modules.{Obeys}

-- the signals stand first among others
pub record Grows (old new : List Signal) : Type 0 where
  pub more : List Signal
  pub is : new ≡ old ++ more

-- there is one more signal, at this place, w bits wide and driven so
pub record Stands (old new : List Signal) (w : ℕ) (source : Source) (place : ℕ) : Type 0 where
  pub last : place ≡ length old
  pub signal : Signal
  pub is : new ≡ old ++ signal ∷ []
  pub wide : signal.width ≡ w
  pub drives : signal.source ≡ source

-- the signal at a place, one of these, is w bits wide and has the number f
pub record Gives (old new : List Signal) (place w : ℕ) (f : Module → Reading → ℕ) : Type 0 where
  pub grows : Grows old new
  pub stands : place < length new
  pub wide : (m : Module) → Grows new m.signals → width m place ≡ w
  pub shows : (m : Module) (r : Reading) → Grows new m.signals → Obeys m r → r.signal place ≡ f m r
