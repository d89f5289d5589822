-- The ports of `top` by sets of names.
use Rattle.std.specs.Prelude.{◌≡◌, ℕ, zero, suc, ◌<◌, Bool, true, false, not, ◌==◌, ◌&&◌, ◌||◌, nat_le, List, [], ◌∷◌, ◌++◌, Option, Some, None, slice_get, codes}
use Rattle.std.specs.Str.{bytes_eq}
use Rattle.verilog_tree.specs.declared.tree.Port.{Port}
use Rattle.verilog_tree.specs.declared.tree.Module.{Module}
use Rattle.verilog_tree.specs.Grammar.{clk}
use Rattle.verilog_tree.specs.Scope.{Name, Names, is_known, is_clk, width_of}
use Rattle.verilog_tree.specs.Rules.{has_port}
use Rattle.verilog_tree.specs.WellFormed.{is_input}
use Rattle.verilog_reader.specs.Top.{pref, top, IsWanted}

abbrev pub is_done : Port → Bool
is_done p = bytes_eq p.name (codes "done") && (not (is_input p.direction) && width_of p.high == 1)

abbrev pub is_enable : Port → Bool
is_enable p = bytes_eq p.name (codes "en") && is_input p.direction

-- an input of 4 bits or more with one of these names
abbrev pub is_pref : Names → Port → Bool
is_pref prefs p = is_known prefs p.name && (is_input p.direction && nat_le 4 (width_of p.high))

-- a port that `top` may have, by the names that its prefs may have
abbrev pub is_wanted : Names → Port → Bool
is_wanted prefs p = is_clk p.name || (is_done p || (is_enable p || is_pref prefs p))

-- the names of these ports
abbrev pub AreNames : List Port → Names → Type 0
AreNames ports names = (x : Name) → is_known names x ≡ has_port ports x

-- two lists have the same names
abbrev pub AreSame : Names → Names → Type 0
AreSame a b = (x : Name) → is_known b x ≡ is_known a x

-- `pref_0` up to the one before `pref_count`
abbrev pub prefs_below : ℕ → Names
prefs_below zero = []
prefs_below (suc count) = prefs_below count ++ pref count ∷ []

-- all names of prefs before this one are known
abbrev pub AllKnown : Names → ℕ → Type 0
AllKnown names count = (k : ℕ) → k < count → is_known names (pref k) ≡ true

-- `pref_0`, `pref_1` and so on up to the first that is not known, and that one
pub record ArePrefs (names prefs : Names) : Type 0 where
  pub count : ℕ
  pub before : AllKnown names count
  pub last : is_known names (pref count) ≡ false
  pub are : prefs ≡ prefs_below (suc count)

-- all ports before this one are wanted
abbrev pub AllPass : Names → List Port → ℕ → Type 0
AllPass prefs ports n = (j : ℕ) (p : Port) → j < n → slice_get ports j ≡ Some p → is_wanted prefs p ≡ true

-- the first port that `top` may not have, by the names of its prefs
abbrev pub IsFirstUnwanted : Names → List Port → Option ℕ → Type 0
IsFirstUnwanted prefs ports None = (j : ℕ) (p : Port) → slice_get ports j ≡ Some p → is_wanted prefs p ≡ true
IsFirstUnwanted prefs ports (Some k) = ((p : Port) × (slice_get ports k ≡ Some p) × (is_wanted prefs p ≡ false)) × AllPass prefs ports k

-- the first port of a module that it may not have as `top`
abbrev pub IsUnwanted : List Port → Option ℕ → Type 0
IsUnwanted ports None = (k : ℕ) (p : Port) → slice_get ports k ≡ Some p → IsWanted ports p
IsUnwanted ports (Some k) = ((p : Port) × (slice_get ports k ≡ Some p) × (IsWanted ports p → ⊥)) × ((j : ℕ) (p : Port) → j < k → slice_get ports j ≡ Some p → IsWanted ports p)

-- all ports of the modules `top` before module number n are wanted
abbrev pub AllWanted : List Module → ℕ → Type 0
AllWanted modules n = (i : ℕ) (m : Module) → i < n → slice_get modules i ≡ Some m → bytes_eq m.name top ≡ true → IsUnwanted m.ports None

-- the first such port of the modules `top`
abbrev pub IsUnwantedOf : List Module → Option (ℕ × ℕ) → Type 0
IsUnwantedOf modules None = (i : ℕ) (m : Module) → slice_get modules i ≡ Some m → bytes_eq m.name top ≡ true → IsUnwanted m.ports None
IsUnwantedOf modules (Some at) = AllWanted modules at.0 × ((m : Module) × (slice_get modules at.0 ≡ Some m) × (bytes_eq m.name top ≡ true) × IsUnwanted m.ports (Some at.1))

abbrev pub has_ports : Module → Bool
has_ports m = has_port m.ports clk && has_port m.ports (codes "done")
