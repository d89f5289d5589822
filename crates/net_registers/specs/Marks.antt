-- The registers of a net in the order in which a value change dump numbers them, and the scopes round them.
use Rattle.std.specs.Prelude.{◌≡◌, ℕ, ◌+◌, List, [], ◌∷◌, ◌++◌, Some, None, slice_get, if◌then◌else◌}
use Rattle.std.specs.List.{flat_map}
use Rattle.netlist.specs.declared.netlist.Signal.{Signal}
use Rattle.netlist.specs.declared.netlist.Instance.{Instance}
use Rattle.netlist.specs.declared.netlist.Module.{Module}
use Rattle.verilog_meaning.specs.Names.{top_of}
use Rattle.verilog_meaning.specs.Cycles.{Path}
use Rattle.sim_layout.specs.Placed.{is_register}

-- a register: the instance that it stands in, its number among the signals there, and what is declared
pub record Register : Type 0 where
  pub path : Path
  pub place : ℕ
  pub signal : Signal

-- the beginning of a scope, a register, the end of a scope
pub data Mark : Type 0 where
  Enter : List ℕ → Mark
  Holds : Register → Mark
  Leave : Mark

abbrev pub own_mark : Path → ℕ → Signal → List Mark
own_mark path x s = if is_register s.source then Holds (record { path = path; place = x; signal = s }) ∷ [] else []

-- the registers among these signals of the instance at a path, in order of declaration, from signal x on
abbrev pub own : Path → ℕ → List Signal → List Mark
own path x [] = []
own path x (s ∷ signals) = own_mark path x s ++ own path (x + 1) signals

-- what stands between the ends of a scope
abbrev pub scope : List ℕ → List Mark → List Mark
scope name inside = Enter name ∷ (inside ++ Leave ∷ [])

-- what these instances of the one at a path add, from instance k on: each the scope of its name, its registers and what its own instances add
pub data Adds (modules : List Module) : Path → ℕ → List Instance → List Mark → Type 0 where
  none : {path : Path} {k : ℕ} → Adds modules path k [] []
  lacks : {path : Path} {k : ℕ} {n : Instance} {more : List Instance} {marks : List Mark} → slice_get modules n.of ≡ None → Adds modules path (k + 1) more marks → Adds modules path k (n ∷ more) marks
  adds : {path : Path} {k : ℕ} {n : Instance} {more : List Instance} {m : Module} {inner marks : List Mark} → slice_get modules n.of ≡ Some m →
      Adds modules (k ∷ path) 0 m.instances inner → Adds modules path (k + 1) more marks →
      Adds modules path k (n ∷ more) (scope n.name (own (k ∷ path) 0 m.signals ++ inner) ++ marks)

-- the marks of a net: the scope of its outermost module
pub record AreMarks (modules : List Module) (marks : List Mark) : Type 0 where
  pub top : Module
  pub is_top : top_of modules ≡ Some top
  pub inner : List Mark
  pub below : Adds modules [] 0 top.instances inner
  pub are : marks ≡ scope top.name (own [] 0 top.signals ++ inner)

abbrev pub held : Mark → List Register
held (Enter name) = []
held (Holds r) = r ∷ []
held Leave = []

-- the registers, by their numbers from 0
abbrev pub registers_of : List Mark → List Register
registers_of marks = flat_map held marks
