-- The table of a bank's module. Its rows are named by their numbers.
use Rattle.std.specs.Prelude.{ℕ, List, [], ◌∷◌}
use Rattle.verilog_tree.specs.declared.tree.BinaryOperator.TheVariants.{And, Equal}
use Rattle.circuit.specs.declared.rows.Role.TheVariants as role
use Rattle.circuit.specs.declared.table.Operand.TheVariants.{Same, Only, Last, Before}
use Rattle.circuit.specs.declared.table.Form.TheVariants.{Input, Register, Constant, Output, Binary, Conditional, MemoryRead}
use Rattle.circuit.specs.declared.table.Row.{Row}
use Rattle.circuit.specs.declared.table.Row.TheVariants.{One, Each, Chain}

abbrev pub asks : ℕ
asks = 1

-- whether a request writes
abbrev pub operations : ℕ
operations = 2

abbrev pub addresses : ℕ
addresses = 3

abbrev pub values : ℕ
values = 4

abbrev pub grants : ℕ
grants = 5

-- for each thread the word that it read last
abbrev pub kept : ℕ
kept = 6

abbrev pub none : ℕ
none = 7

abbrev pub reads : ℕ
reads = 8

-- chains that hand on the granted thread's address, value, and whether it writes
abbrev pub address : ℕ
address = 9

abbrev pub value : ℕ
value = 10

abbrev pub stores : ℕ
stores = 11

abbrev pub word : ℕ
word = 12

abbrev pub takes : ℕ
takes = 13

abbrev pub next : ℕ
next = 14

abbrev pub offers : ℕ
offers = 15

abbrev pub tells : ℕ
tells = 16

-- addresses of a width and words of one
abbrev pub rows : ℕ → ℕ → List Row
rows a w =
    One role.Clock 1 Input
    ∷ Each role.Ask 1 Input
    ∷ Each role.Operation 1 Input
    ∷ Each role.Address a Input
    ∷ Each role.Data w Input
    ∷ Each role.Grant 1 Input
    ∷ Each role.State w (Register 0)
    ∷ One role.Wire 1 (Constant 0)
    ∷ Each role.Wire 1 (Binary Equal (Same operations) (Only none))
    ∷ Chain role.Wire a (Constant 0) (Conditional (Same grants) (Same addresses) (Before address))
    ∷ Chain role.Wire w (Constant 0) (Conditional (Same grants) (Same values) (Before value))
    ∷ Chain role.Wire 1 (Constant 0) (Conditional (Same grants) (Same operations) (Before stores))
    ∷ One role.Wire w (MemoryRead 0 (Last address))
    ∷ Each role.Wire 1 (Binary And (Same grants) (Same reads))
    ∷ Each role.Wire w (Conditional (Same takes) (Only word) (Same kept))
    ∷ Each role.Offer 1 (Output (Same asks))
    ∷ Each role.Told w (Output (Same kept))
    ∷ []
