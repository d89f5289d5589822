-- A core offers nothing to a thread that asks nothing.
use Rattle.std.specs.Prelude.{◌≡◌, ℕ, ◌<◌, false}
use Rattle.verilog_meaning.specs.Readings.{Reading}
use Rattle.circuit.specs.Machines.{CoreMachine, CorePlaces}

-- each reading shows a state, and nothing is offered to whom the first part of an ask is 0
pub record WaitsForAsks (c : CoreMachine) (p : CorePlaces c) : Type 0 where
  pub shown : (r : Reading) → (s : c.State) × p.shows r s
  pub some : 0 < c.parts
  pub asked : (s : c.State) (i : ℕ) (f : ℕ → ℕ) → f 0 ≡ 0 → c.eligible s i (c.ask_of f) ≡ false
