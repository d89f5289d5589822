-- States that are the same but in a slot, and the closed cycles of one thread.
use Rattle.std.specs.Prelude.{◌≢◌, ℕ, zero, suc, List, ◌++◌}
use Rattle.netlist.specs.declared.netlist.Module.{Module}
use Rattle.verilog_meaning.specs.Cycles.{Path, Valuation, IsSameAt, Cycle}
use Rattle.verilog_meaning.specs.Threads.{alone, IsSameSlot, Needs}

-- two states are the same but in the instance at a path and in all that stand in it
abbrev pub IsSameBut : List Module → Module → Path → Valuation → Valuation → Type 0
IsSameBut modules top outer h g = (path : Path) → ((inner : Path) → path ≢ inner ++ outer) → IsSameAt modules top path h g

-- closed cycles of thread i alone lead from l to a state with this slot
abbrev pub Advances : List Module → Module → ℕ → ℕ → ℕ → Valuation → Valuation → Type 0
Advances modules top threads i zero l g = IsSameSlot modules top threads i l g
Advances modules top threads i (suc n) l g =
    (mid : Valuation) × (out : List ℕ) × Needs modules top threads l (alone i) i 0 × Cycle modules top l (alone i) mid out × Advances modules top threads i n mid g
