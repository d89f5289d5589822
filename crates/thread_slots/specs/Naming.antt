-- The names of the registers of variables: each is called after the C local that its variable is.
use Rattle.std.specs.Prelude.{◌≡◌, ℕ, ◌+◌, ◌<◌, Bool, false, ◌&&◌, if◌then◌else◌, List, [], ◌∷◌, ◌++◌, length, Option, Some, None, slice_get, codes}
use Rattle.std.specs.Str.{bytes_eq}
use Rattle.verilog_tree.specs.Spelling.{is_letter, is_name_byte, all_pass}
use Rattle.netlist.specs.declared.netlist.Source.TheVariants as source
use Rattle.netlist.specs.declared.netlist.Signal.{Signal}
use Rattle.verilog_meaning.specs.Names.{numbered}
use Rattle.block_datapath.specs.declared.registers.Held.{Held}

-- an identifier of C (6.4.2)
abbrev pub is_identifier : List ℕ → Bool
is_identifier [] = false
is_identifier (b ∷ z) = is_letter b && all_pass is_name_byte z

-- what stands before `_` and the place: the local's name, but that memories are called `array_0`, `array_1`, ..
abbrev pub stem_for : List ℕ → List ℕ
stem_for name = if bytes_eq name (codes "array") then codes "array_" else (if is_identifier name then name else codes "variable")

-- a variable without a name has an empty one
abbrev pub name_or : Option (List ℕ) → List ℕ
name_or None = []
name_or (Some name) = name

-- how the register of variable k is called at a place
abbrev pub register_name : List (List ℕ) → ℕ → ℕ → List ℕ
register_name names k place = numbered (stem_for (name_or (slice_get names k))) place

-- there is one more signal, a register of this name and width that begins with 0
pub record LaysNamed (old new : List Signal) (name : List ℕ) (w : ℕ) (h : Held) : Type 0 where
  pub width : h.width ≡ w
  pub last : h.register ≡ length old
  pub signal : Signal
  pub is : new ≡ old ++ signal ∷ []
  pub named : signal.name ≡ name
  pub wide : signal.width ≡ w
  pub inner : signal.is_output ≡ false
  pub drives : signal.source ≡ source.Register 0

-- a signal of this name stands at a place
pub record IsNamedAt (signals : List Signal) (place : ℕ) (name : List ℕ) : Type 0 where
  pub signal : Signal
  pub listed : slice_get signals place ≡ Some signal
  pub named : signal.name ≡ name

-- the registers of the first n variables, from a place on, are called so
abbrev pub AreNamed : List Signal → ℕ → List (List ℕ) → ℕ → Type 0
AreNamed signals from names n = (k : ℕ) → k < n → IsNamedAt signals (from + k) (register_name names k (from + k))
