-- The first signal of a net that depends on itself.
use Rattle.std.specs.Prelude.{◌≡◌, ℕ, ◌<◌, ◌⊎◌, List, [], ◌∷◌, Some, slice_get}
use Rattle.netlist.specs.declared.netlist.Signal.{Signal}
use Rattle.netlist.specs.declared.netlist.Module.{Module}
use Rattle.circuit.specs.Names.{top_of}
use Rattle.circuit.specs.Cycles.{Path, IsAt}
use Rattle.circuit.specs.Threads.{Place, Depends}

-- one instance comes before another: it lies less deep, or in an instance that comes before, or earlier in the same one
abbrev pub Before : Path → Path → Type 0
Before [] [] = ⊥
Before [] (j ∷ q) = Unit {0}
Before (i ∷ p) [] = ⊥
Before (i ∷ p) (j ∷ q) = Before p q ⊎ ((p ≡ q) × (i < j))

-- one signal comes before another: in an instance that comes before, or earlier in the same one
abbrev pub Earlier : Place → Place → Type 0
Earlier p q = Before p.0 q.0 ⊎ ((p.0 ≡ q.0) × (p.1 < q.1))

-- signal x of module k depends on itself in some instance, and no signal of the net that comes before does
pub record IsFirstLoop (modules : List Module) (k x : ℕ) : Type 0 where
  pub top : Module
  pub is_top : top_of modules ≡ Some top
  pub path : Path
  pub kind : Module
  pub signal : Signal
  pub is : IsAt modules top path kind x signal
  pub numbered : slice_get modules k ≡ Some kind
  pub depends : Depends modules top (path, x) (path, x)
  pub first : (q : Place) → Earlier q (path, x) → Depends modules top q q → ⊥
