-- The table of the arbiter's module. Its rows are named by their numbers.
use Rattle.std.specs.Prelude.{ℕ, List, [], ◌∷◌}
use Rattle.verilog_tree.specs.declared.tree.BinaryOperator.TheVariants.{Less}
use Rattle.circuit.specs.declared.rows.Role.TheVariants as role
use Rattle.circuit.specs.declared.table.Operand.TheVariants.{Same, Only, Last, Before}
use Rattle.circuit.specs.declared.table.Form.TheVariants.{Input, Constant, Count, Output, Binary, Conditional, Pair}
use Rattle.circuit.specs.declared.table.Row.{Row}
use Rattle.circuit.specs.declared.table.Row.TheVariants.{One, Each, Chain}

abbrev pub preference : ℕ
preference = 1

abbrev pub asks : ℕ
asks = 2

abbrev pub zeros : ℕ
zeros = 3

abbrev pub wide : ℕ
wide = 4

abbrev pub none : ℕ
none = 5

abbrev pub one : ℕ
one = 6

abbrev pub numbers : ℕ
numbers = 7

abbrev pub earlier : ℕ
earlier = 8

abbrev pub preferred : ℕ
preferred = 9

abbrev pub any : ℕ
any = 10

abbrev pub candidates : ℕ
candidates = 11

abbrev pub taken : ℕ
taken = 12

abbrev pub chosen : ℕ
chosen = 13

abbrev pub grants : ℕ
grants = 14

abbrev pub rows : List Row
rows =
    One role.Clock 1 Input
    ∷ One role.Preference 6 Input
    ∷ Each role.Ask 1 Input
    ∷ One role.Wire 2 (Constant 0)
    ∷ One role.Wire 8 (Pair (Only zeros) (Only preference))
    ∷ One role.Wire 1 (Constant 0)
    ∷ One role.Wire 1 (Constant 1)
    ∷ Each role.Wire 8 (Count 0)
    ∷ Each role.Wire 1 (Binary Less (Same numbers) (Only wide))
    ∷ Each role.Wire 1 (Conditional (Same earlier) (Only none) (Same asks))
    ∷ Chain role.Wire 1 (Constant 0) (Conditional (Same preferred) (Only one) (Before any))
    ∷ Each role.Wire 1 (Conditional (Last any) (Same preferred) (Same asks))
    ∷ Chain role.Wire 1 (Constant 0) (Conditional (Same candidates) (Only one) (Before taken))
    ∷ Each role.Wire 1 (Conditional (Before taken) (Only none) (Same candidates))
    ∷ Each role.Grant 1 (Output (Same chosen))
    ∷ []
