-- The table of the printer's module. Its rows are named by their numbers.
use Rattle.std.specs.Prelude.{ℕ, List, [], ◌∷◌}
use Rattle.verilog_tree.specs.declared.tree.BinaryOperator.TheVariants.{Equal, And}
use Rattle.circuit.specs.declared.rows.Role.TheVariants as role
use Rattle.circuit.specs.declared.table.Size.TheVariants.{Fixed, PerThread}
use Rattle.circuit.specs.declared.table.Operand.TheVariants.{Same, Only, Last, Before, Group}
use Rattle.circuit.specs.declared.table.Form.TheVariants.{Input, Constant, Count, Output, Binary, Conditional}
use Rattle.circuit.specs.declared.table.Row.{Row}
use Rattle.circuit.specs.declared.table.Row.TheVariants.{One, Each, Many, Chain, Chains}

abbrev pub asks : ℕ
asks = 1

abbrev pub sites : ℕ
sites = 2

-- for each thread its values, one after another
abbrev pub values : ℕ
values = 3

abbrev pub grants : ℕ
grants = 4

abbrev pub one : ℕ
one = 5

-- chains that hand on whether a thread is granted, the granted thread's site, and each of its values
abbrev pub going : ℕ
going = 6

abbrev pub site : ℕ
site = 7

abbrev pub value : ℕ
value = 8

abbrev pub numbers : ℕ
numbers = 9

abbrev pub equals : ℕ
equals = 10

-- for each site whether it is asked for and granted
abbrev pub hits : ℕ
hits = 11

abbrev pub offers : ℕ
offers = 12

-- c values and s sites
abbrev pub rows : ℕ → ℕ → List Row
rows c s =
    One role.Clock 1 Input
    ∷ Each role.Ask 1 Input
    ∷ Each role.Site 16 Input
    ∷ Many (PerThread c) role.Value 64 Input
    ∷ Each role.Grant 1 Input
    ∷ One role.Wire 1 (Constant 1)
    ∷ Chain role.Wire 1 (Constant 0) (Conditional (Same grants) (Only one) (Before going))
    ∷ Chain role.Wire 16 (Constant 0) (Conditional (Same grants) (Same sites) (Before site))
    ∷ Chains c role.Wire 64 (Constant 0) (Conditional (Group grants c) (Same values) (Before value))
    ∷ Many (Fixed s) role.Wire 16 (Count 0)
    ∷ Many (Fixed s) role.Wire 1 (Binary Equal (Last site) (Same numbers))
    ∷ Many (Fixed s) role.Wire 1 (Binary And (Last going) (Same equals))
    ∷ Each role.Offer 1 (Output (Same asks))
    ∷ []
