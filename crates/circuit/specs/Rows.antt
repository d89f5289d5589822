-- What the signals of tables of rows are called, and registers that follow wires.
use Rattle.std.specs.Prelude.{ℕ, zero, suc, ◌+◌, Bool, true, false, List, [], ◌∷◌, codes, if◌then◌else◌}
use Rattle.verilog_meaning.specs.Names.{numbered}
use Rattle.netlist.specs.declared.netlist.Action.{Action}
use Rattle.netlist.specs.declared.netlist.Effect.TheVariants as effect
use Rattle.circuit.specs.declared.rows.Role.{Role}
use Rattle.circuit.specs.declared.rows.Role.TheVariants as role

-- P of each element
abbrev pub EachOf : {X : Type 0} → (X → Type 0) → List X → Type 0
EachOf P [] = Unit {0}
EachOf P (x ∷ xs) = P x × EachOf P xs

-- the things of n numbers, from number i on
abbrev pub spread : {X : Type 0} → (ℕ → X) → ℕ → ℕ → List X
spread f i zero = []
spread f i (suc n) = f i ∷ spread f (i + 1) n

-- ---- names

abbrev pub stem_of : Role → List ℕ
stem_of role.Clock = codes "clk"
stem_of role.Preference = codes "pref"
stem_of role.Ask = codes "ask"
stem_of role.Operation = codes "operation"
stem_of role.Address = codes "address"
stem_of role.Data = codes "data"
stem_of role.Argument = codes "argument"
stem_of role.Site = codes "site"
stem_of role.Value = codes "value"
stem_of role.Offer = codes "offer"
stem_of role.Grant = codes "grant"
stem_of role.Told = codes "told"
stem_of role.State = codes "state"
stem_of role.Wire = codes "w"

abbrev pub is_clock : Role → Bool
is_clock role.Clock = true
is_clock _ = false

-- the name of the signal at a place
abbrev pub name_of : Role → ℕ → List ℕ
name_of r place = if is_clock r then stem_of r else numbered (stem_of r) place

-- ---- registers, each set to its next number

abbrev pub set_at : ℕ → ℕ → ℕ → Action
set_at register next k = record { conditions = []; effect = effect.Set (register + k) (next + k) }

abbrev pub sets : ℕ → ℕ → ℕ → List Action
sets register next count = spread (set_at register next) 0 count
