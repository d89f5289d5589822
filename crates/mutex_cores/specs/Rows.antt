-- The table of a mutex's module. Its rows are named by their numbers.
use Rattle.std.specs.Prelude.{ℕ, List, [], ◌∷◌}
use Rattle.verilog_tree.specs.declared.tree.BinaryOperator.TheVariants.{Equal, Less, And}
use Rattle.circuit.specs.declared.rows.Role.TheVariants as role
use Rattle.circuit.specs.declared.table.Operand.TheVariants.{Same, Only, Before}
use Rattle.circuit.specs.declared.table.Form.TheVariants.{Input, Register, Constant, Count, Copy, Output, Binary, Conditional}
use Rattle.circuit.specs.declared.table.Row.{Row}
use Rattle.circuit.specs.declared.table.Row.TheVariants.{One, Each, Chain}

abbrev pub asks : ℕ
asks = 1

-- 0 init, 1 lock, 2 unlock, 3 destroy
abbrev pub operations : ℕ
operations = 2

abbrev pub grants : ℕ
grants = 3

-- the register: 0 unset, 1 free, 2 + i owned by thread i
abbrev pub owner : ℕ
owner = 4

abbrev pub unset : ℕ
unset = 5

abbrev pub free : ℕ
free = 6

abbrev pub lock : ℕ
lock = 7

abbrev pub destroy : ℕ
destroy = 8

abbrev pub none : ℕ
none = 9

-- whether a thread owns the mutex
abbrev pub owned : ℕ
owned = 10

-- whether each asks to lock
abbrev pub locks : ℕ
locks = 11

-- whether each asks to lock where a thread owns the mutex
abbrev pub barred : ℕ
barred = 12

-- whether each asks, and may be granted
abbrev pub allowed : ℕ
allowed = 13

abbrev pub numbers : ℕ
numbers = 14

abbrev pub destroys : ℕ
destroys = 15

abbrev pub others : ℕ
others = 16

-- the next word of the register, were each granted
abbrev pub values : ℕ
values = 17

-- hands on the granted thread's, else the register's
abbrev pub chain : ℕ
chain = 18

abbrev pub offers : ℕ
offers = 19

-- with a first word of the register
abbrev pub rows : ℕ → List Row
rows first =
    One role.Clock 1 Input
    ∷ Each role.Ask 1 Input
    ∷ Each role.Operation 2 Input
    ∷ Each role.Grant 1 Input
    ∷ One role.State 8 (Register first)
    ∷ One role.Wire 8 (Constant 0)
    ∷ One role.Wire 8 (Constant 1)
    ∷ One role.Wire 2 (Constant 1)
    ∷ One role.Wire 2 (Constant 3)
    ∷ One role.Wire 1 (Constant 0)
    ∷ One role.Wire 1 (Binary Less (Only free) (Only owner))
    ∷ Each role.Wire 1 (Binary Equal (Same operations) (Only lock))
    ∷ Each role.Wire 1 (Binary And (Same locks) (Only owned))
    ∷ Each role.Wire 1 (Conditional (Same barred) (Only none) (Same asks))
    ∷ Each role.Wire 8 (Count 2)
    ∷ Each role.Wire 1 (Binary Equal (Same operations) (Only destroy))
    ∷ Each role.Wire 8 (Conditional (Same destroys) (Only unset) (Only free))
    ∷ Each role.Wire 8 (Conditional (Same locks) (Same numbers) (Same others))
    ∷ Chain role.Wire 8 (Copy (Only owner)) (Conditional (Same grants) (Same values) (Before chain))
    ∷ Each role.Offer 1 (Output (Same allowed))
    ∷ []
