-- Where `locate` finds the elements of a global.
use Rattle.std.specs.Prelude.{◌≡◌, ℕ, ◌/◌, List, MatchOption, Some, slice_get}
use Rattle.netlist.specs.declared.netlist.Module.{Module}
use Rattle.netlist.specs.Laid.{AreApart, instance_names, memory_names}
use Rattle.verilog_meaning.specs.Follows.{IsElement}
use Rattle.global_banks.specs.declared.locate.Location.{Location}
use Rattle.global_banks.specs.Banks.{location}

-- no two instances of the outermost module have one name, and no two memories of a module
pub record AreNamed (modules : List Module) (top : Module) : Type 0 where
  pub instances : AreApart (instance_names top)
  pub memories : (k : ℕ) (m : Module) → slice_get modules k ≡ Some m → AreApart (memory_names m)

-- the place of an element: the instance that is its bank, the memory in it, and the word
pub record IsPlace (modules : List Module) (top : Module) (x : List ℕ) (j : ℕ) (is : IsElement modules top x j) (l : Location) : Type 0 where
  pub instance : l.instance ≡ is.bank.place
  pub memory : l.memory ≡ is.bank.number
  pub word : l.word ≡ j / is.banks

-- `locate` answers the one place of the element, and none exactly where it has none
abbrev pub ElementsAreLocated : Type 0
ElementsAreLocated =
    (modules : List Module) (top : Module) (x : List ℕ) (j : ℕ) → AreNamed modules top
    → MatchOption (location modules top x j) (IsElement modules top x j → ⊥)
    (λ l. IsElement modules top x j × ((is : IsElement modules top x j) → IsPlace modules top x j is l))
