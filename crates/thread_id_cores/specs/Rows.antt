-- The table of the module of the thread ids. Its rows are named by their numbers.
use Rattle.std.specs.Prelude.{ℕ, List, [], ◌∷◌}
use Rattle.verilog_tree.specs.declared.tree.BinaryOperator.TheVariants.{Equal}
use Rattle.circuit.specs.declared.rows.Role.TheVariants as role
use Rattle.circuit.specs.declared.table.Operand.TheVariants.{Same, Only, Before}
use Rattle.circuit.specs.declared.table.Form.TheVariants.{Input, Constant, Count, Output, Binary, Conditional, MemoryRead}
use Rattle.circuit.specs.declared.table.Row.{Row}
use Rattle.circuit.specs.declared.table.Row.TheVariants.{One, Each, Chain}

abbrev pub asks : ℕ
asks = 1

-- 0 creates, 1 joins, 2 and 3 finish
abbrev pub operations : ℕ
operations = 2

abbrev pub ids : ℕ
ids = 3

abbrev pub arguments : ℕ
arguments = 4

abbrev pub grants : ℕ
grants = 5

abbrev pub zero_code : ℕ
zero_code = 6

abbrev pub one_code : ℕ
one_code = 7

abbrev pub two_code : ℕ
two_code = 8

abbrev pub none : ℕ
none = 9

abbrev pub some : ℕ
some = 10

-- the status of the id that each names
abbrev pub statuses : ℕ
statuses = 11

abbrev pub running : ℕ
running = 12

abbrev pub finished : ℕ
finished = 13

abbrev pub creates : ℕ
creates = 14

abbrev pub joins : ℕ
joins = 15

-- whether each may be granted, by what it asks
abbrev pub may_create : ℕ
may_create = 16

abbrev pub may_join : ℕ
may_join = 17

abbrev pub others : ℕ
others = 18

abbrev pub may : ℕ
may = 19

-- the number of each thread
abbrev pub numbers : ℕ
numbers = 20

-- the word that each would store to: that of the id, and of a finish its own
abbrev pub aims : ℕ
aims = 21

abbrev pub targets : ℕ
targets = 22

-- the status that each would store
abbrev pub ends : ℕ
ends = 23

abbrev pub values : ℕ
values = 24

-- what each is told: whether it runs, and its argument
abbrev pub own : ℕ
own = 25

abbrev pub runs : ℕ
runs = 26

abbrev pub given : ℕ
given = 27

-- chains that hand on what the granted thread stores, and where
abbrev pub going : ℕ
going = 28

abbrev pub target : ℕ
target = 29

abbrev pub value : ℕ
value = 30

abbrev pub argument : ℕ
argument = 31

abbrev pub create : ℕ
create = 32

abbrev pub offers : ℕ
offers = 33

abbrev pub tells : ℕ
tells = 34

abbrev pub handed : ℕ
handed = 35

abbrev pub rows : List Row
rows =
    One role.Clock 1 Input
    ∷ Each role.Ask 1 Input
    ∷ Each role.Operation 2 Input
    ∷ Each role.Address 64 Input
    ∷ Each role.Data 64 Input
    ∷ Each role.Grant 1 Input
    ∷ One role.Wire 2 (Constant 0)
    ∷ One role.Wire 2 (Constant 1)
    ∷ One role.Wire 2 (Constant 2)
    ∷ One role.Wire 1 (Constant 0)
    ∷ One role.Wire 1 (Constant 1)
    ∷ Each role.Wire 2 (MemoryRead 0 (Same ids))
    ∷ Each role.Wire 1 (Binary Equal (Same statuses) (Only one_code))
    ∷ Each role.Wire 1 (Binary Equal (Same statuses) (Only two_code))
    ∷ Each role.Wire 1 (Binary Equal (Same operations) (Only zero_code))
    ∷ Each role.Wire 1 (Binary Equal (Same operations) (Only one_code))
    ∷ Each role.Wire 1 (Conditional (Same running) (Only none) (Same asks))
    ∷ Each role.Wire 1 (Conditional (Same finished) (Same asks) (Only none))
    ∷ Each role.Wire 1 (Conditional (Same joins) (Same may_join) (Same asks))
    ∷ Each role.Wire 1 (Conditional (Same creates) (Same may_create) (Same others))
    ∷ Each role.Wire 64 (Count 0)
    ∷ Each role.Wire 64 (Conditional (Same joins) (Same ids) (Same numbers))
    ∷ Each role.Wire 64 (Conditional (Same creates) (Same ids) (Same aims))
    ∷ Each role.Wire 2 (Conditional (Same joins) (Only zero_code) (Only two_code))
    ∷ Each role.Wire 2 (Conditional (Same creates) (Only one_code) (Same ends))
    ∷ Each role.Wire 2 (MemoryRead 0 (Same numbers))
    ∷ Each role.Wire 1 (Binary Equal (Same own) (Only one_code))
    ∷ Each role.Wire 64 (MemoryRead 1 (Same numbers))
    ∷ Chain role.Wire 1 (Constant 0) (Conditional (Same grants) (Only some) (Before going))
    ∷ Chain role.Wire 64 (Constant 0) (Conditional (Same grants) (Same targets) (Before target))
    ∷ Chain role.Wire 2 (Constant 0) (Conditional (Same grants) (Same values) (Before value))
    ∷ Chain role.Wire 64 (Constant 0) (Conditional (Same grants) (Same arguments) (Before argument))
    ∷ Chain role.Wire 1 (Constant 0) (Conditional (Same grants) (Same creates) (Before create))
    ∷ Each role.Offer 1 (Output (Same may))
    ∷ Each role.Told 1 (Output (Same runs))
    ∷ Each role.Told 64 (Output (Same given))
    ∷ []
