-- Tables of the places of names, and of initial constants, by their entries.
use Rattle.std.specs.Prelude.{◌≡◌, ℕ, ◌+◌, ◌&&◌, nat_eq, List, map, length, Option, unwrap_or}
use Rattle.std.specs.Map.{lookup}
use Rattle.std.specs.Option.{option_eq}
use Rattle.std.specs.Str.{bytes_eq}
use denote.Bor.{Bor}
use Rattle.verilog_tree.specs.declared.tree.InitialConstant.{InitialConstant}
use Rattle.netlist.specs.NetlistOf.{place, initial_of}

abbrev pub Name : Type 0
Name = List ℕ

abbrev pub names_of : List (Bor Name) → List Name
names_of list = map (λ (b : Bor Name). b.now) list

-- the number of a name, and this one where the name has none
abbrev pub number_of : List (Bor Name × ℕ) → Name → ℕ → ℕ
number_of table x other = unwrap_or (lookup (λ k. bytes_eq x k.now) table) other

-- the table has the first place of each of these names, counted from k, and no other name
abbrev pub AreFirstPlaces : List (Bor Name × ℕ) → ℕ → List Name → Type 0
AreFirstPlaces table k names = (x : Name) → number_of table x (k + length names) ≡ k + place names x

-- the number of a register, or of a word of a memory, and 0 where it has none
abbrev pub constant_of : List ((Bor Name × Option ℕ) × ℕ) → Name → Option ℕ → ℕ
constant_of table x word = unwrap_or (lookup (λ k. bytes_eq x k.0.now && option_eq nat_eq word k.1) table) 0

-- the table has the first constant of each register and of each word
abbrev pub AreConstants : List ((Bor Name × Option ℕ) × ℕ) → List InitialConstant → Type 0
AreConstants table constants = (x : Name) (word : Option ℕ) → constant_of table x word ≡ initial_of constants x word
