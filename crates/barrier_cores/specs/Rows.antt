-- The table of a barrier's module. Its rows are named by their numbers.
use Rattle.std.specs.Prelude.{ℕ, List, [], ◌∷◌}
use Rattle.verilog_tree.specs.declared.tree.BinaryOperator.TheVariants.{Add, And, Equal, Less}
use Rattle.circuit.specs.declared.rows.Role.TheVariants as role
use Rattle.circuit.specs.declared.table.Operand.TheVariants.{Same, Only, Last, Before}
use Rattle.circuit.specs.declared.table.Form.TheVariants.{Input, Register, Constant, Output, Binary, Conditional}
use Rattle.circuit.specs.declared.table.Row.{Row}
use Rattle.circuit.specs.declared.table.Row.TheVariants.{One, Each, Chain}

abbrev pub asks : ℕ
asks = 1

-- 0 init, 1 wait, 2 destroy, 3 nothing
abbrev pub operations : ℕ
operations = 2

abbrev pub counts : ℕ
counts = 3

abbrev pub grants : ℕ
grants = 4

-- for each thread whether it waits
abbrev pub waiting : ℕ
waiting = 5

abbrev pub count : ℕ
count = 6

-- the numbers of the operations, a bit and a number of 0 and of 1
abbrev pub init : ℕ
init = 7

abbrev pub wait : ℕ
wait = 8

abbrev pub nothing : ℕ
nothing = 9

abbrev pub none : ℕ
none = 10

abbrev pub some : ℕ
some = 11

abbrev pub nought : ℕ
nought = 12

abbrev pub unit : ℕ
unit = 13

-- whether a thread asks to wait, whether it may not since it waits, and whether its request may be granted
abbrev pub waits : ℕ
waits = 14

abbrev pub bars : ℕ
bars = 15

abbrev pub may : ℕ
may = 16

-- chains that hand on the granted thread's operation, 3 where nobody is granted, and its count
abbrev pub operation : ℕ
operation = 17

abbrev pub new_count : ℕ
new_count = 18

-- the bits with the granted thread's own, as numbers, and their sum
abbrev pub bits : ℕ
bits = 19

abbrev pub ones : ℕ
ones = 20

abbrev pub sum : ℕ
sum = 21

-- whether fewer wait than the count says
abbrev pub short : ℕ
short = 22

abbrev pub is_wait : ℕ
is_wait = 23

abbrev pub is_nothing : ℕ
is_nothing = 24

abbrev pub is_init : ℕ
is_init = 25

-- the bits after a wait, and after another operation
abbrev pub stays : ℕ
stays = 26

abbrev pub others : ℕ
others = 27

-- the count after another operation
abbrev pub given : ℕ
given = 28

abbrev pub fresh : ℕ
fresh = 29

abbrev pub next : ℕ
next = 30

abbrev pub next_count : ℕ
next_count = 31

abbrev pub offers : ℕ
offers = 32

abbrev pub tells : ℕ
tells = 33

abbrev pub rows : List Row
rows =
    One role.Clock 1 Input
    ∷ Each role.Ask 1 Input
    ∷ Each role.Operation 2 Input
    ∷ Each role.Argument 64 Input
    ∷ Each role.Grant 1 Input
    ∷ Each role.State 1 (Register 0)
    ∷ One role.State 64 (Register 0)
    ∷ One role.Wire 2 (Constant 0)
    ∷ One role.Wire 2 (Constant 1)
    ∷ One role.Wire 2 (Constant 3)
    ∷ One role.Wire 1 (Constant 0)
    ∷ One role.Wire 1 (Constant 1)
    ∷ One role.Wire 64 (Constant 0)
    ∷ One role.Wire 64 (Constant 1)
    ∷ Each role.Wire 1 (Binary Equal (Same operations) (Only wait))
    ∷ Each role.Wire 1 (Binary And (Same waits) (Same waiting))
    ∷ Each role.Wire 1 (Conditional (Same bars) (Only none) (Same asks))
    ∷ Chain role.Wire 2 (Constant 3) (Conditional (Same grants) (Same operations) (Before operation))
    ∷ Chain role.Wire 64 (Constant 0) (Conditional (Same grants) (Same counts) (Before new_count))
    ∷ Each role.Wire 1 (Conditional (Same grants) (Only some) (Same waiting))
    ∷ Each role.Wire 64 (Conditional (Same bits) (Only unit) (Only nought))
    ∷ Chain role.Wire 64 (Constant 0) (Binary Add (Before sum) (Same ones))
    ∷ One role.Wire 1 (Binary Less (Last sum) (Only count))
    ∷ One role.Wire 1 (Binary Equal (Last operation) (Only wait))
    ∷ One role.Wire 1 (Binary Equal (Last operation) (Only nothing))
    ∷ One role.Wire 1 (Binary Equal (Last operation) (Only init))
    ∷ Each role.Wire 1 (Conditional (Only short) (Same bits) (Only none))
    ∷ Each role.Wire 1 (Conditional (Only is_nothing) (Same waiting) (Only none))
    ∷ One role.Wire 64 (Conditional (Only is_init) (Last new_count) (Only nought))
    ∷ One role.Wire 64 (Conditional (Only is_nothing) (Only count) (Only given))
    ∷ Each role.Wire 1 (Conditional (Only is_wait) (Same stays) (Same others))
    ∷ One role.Wire 64 (Conditional (Only is_wait) (Only count) (Only fresh))
    ∷ Each role.Offer 1 (Output (Same may))
    ∷ Each role.Told 1 (Output (Same waiting))
    ∷ []
