-- Names by which parts of a netlist are found.
use Rattle.std.specs.Prelude.{◌≡◌, ℕ, List, [], ◌∷◌, ◌++◌, length, Option, Some, None, slice_get, codes, decimal, if◌then◌else◌}
use Rattle.std.specs.Str.{bytes_eq}
use Rattle.std.specs.Str.Parse.{IsNumeral}
use Rattle.netlist.specs.declared.netlist.Signal.{Signal}
use Rattle.netlist.specs.declared.netlist.Memory.{Memory}
use Rattle.netlist.specs.declared.netlist.Instance.{Instance}
use Rattle.netlist.specs.declared.netlist.Module.{Module}

-- a name that ends in _ and a number
abbrev pub numbered : List ℕ → ℕ → List ℕ
numbered stem k = stem ++ 95 ∷ decimal k

-- the digits of a number: decimals, without a leading zero but in 0 itself
abbrev pub IsMinimal : List ℕ → Type 0
IsMinimal digits = IsNumeral 10 digits × (slice_get digits 0 ≡ Some 48 → length digits ≡ 1)

-- a name that ends in _ and these digits
abbrev pub with_digits : List ℕ → List ℕ → List ℕ
with_digits stem digits = stem ++ 95 ∷ digits

-- the module of a name
abbrev pub module_named : List Module → List ℕ → Option Module
module_named [] name = None
module_named (m ∷ modules) name = if bytes_eq name m.name then Some m else module_named modules name

abbrev pub top_of : List Module → Option Module
top_of modules = module_named modules (codes "top")

-- the signal at a place, the instance or the memory of a number has this name
pub record IsSignal (m : Module) (name : List ℕ) (x : ℕ) (s : Signal) : Type 0 where
  pub listed : slice_get m.signals x ≡ Some s
  pub named : s.name ≡ name

pub record IsInstance (m : Module) (name : List ℕ) (i : ℕ) (n : Instance) : Type 0 where
  pub listed : slice_get m.instances i ≡ Some n
  pub named : n.name ≡ name

pub record IsMemory (m : Module) (name : List ℕ) (j : ℕ) (s : Memory) : Type 0 where
  pub listed : slice_get m.memories j ≡ Some s
  pub named : s.name ≡ name
