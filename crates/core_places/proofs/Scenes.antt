-- The cores of three threads with a bank, two mutexes, a barrier and thread ids: the places of their modules, and the ports of a thread.
use Rattle.std.proofs.Common.{◌≡◌, ℕ, List, [], ◌∷◌, map, true, false, refl}
use Rattle.std.specs.Prelude.{codes}
use Rattle.bank_cores.specs.declared.bank.Shape.{Shape as BankShape}
use Rattle.mutex_cores.specs.declared.mutex.Shape.{Shape as MutexShape}
use Rattle.leaf_machine.specs.Ports.{CorePort, asks_of, told_of, ask_place, told_place}
use Rattle.core_tables.specs.Family.{port_of}
use Rattle.core_tables.specs.Tables.{PlacedCore}
use Rattle.core_family.specs.declared.cores.Cores.{Cores}
use Rattle.core_places.specs.Placing.{placed}

abbrev bank : BankShape
bank = record { threads = 3; name = codes "x"; number = 0; address_width = 64; width = 32; initial = 0 ∷ [] }

abbrev with : List MutexShape → Cores
with mutexes = record { threads = 3; banks = bank ∷ []; mutexes = mutexes; barriers = 1; thread_ids = true; printer = record { threads = 3; values = 4; sites = [] } }

abbrev unset : MutexShape
unset = record { threads = 3; initialised = false }

abbrev free : MutexShape
free = record { threads = 3; initialised = true }

abbrev kinds : Cores → List ℕ
kinds w = map (λ (c : PlacedCore). c.place) (placed w)

abbrev ports : List CorePort
ports = map (λ (c : PlacedCore). port_of c.kind) (placed (with (unset ∷ free ∷ [])))

-- each has a module of its own; two mutexes that begin alike have one
apart : kinds (with (unset ∷ free ∷ [])) ≡ 0 ∷ 1 ∷ 2 ∷ 3 ∷ 4 ∷ 5 ∷ []
apart = refl

alike : kinds (with (free ∷ free ∷ [])) ≡ 0 ∷ 1 ∷ 1 ∷ 2 ∷ 3 ∷ 4 ∷ []
alike = refl

free_before : kinds (with (free ∷ unset ∷ [])) ≡ 0 ∷ 2 ∷ 1 ∷ 3 ∷ 4 ∷ 5 ∷ []
free_before = refl

numbers : map (λ (c : PlacedCore). c.number) (placed (with (unset ∷ free ∷ []))) ≡ 0 ∷ 0 ∷ 1 ∷ 0 ∷ 0 ∷ 0 ∷ []
numbers = refl

-- what a thread asks: the bank, the mutexes, the barrier, the thread ids, the printer; and what it is told: a word, whether it waits, whether it runs,
-- its argument
asks : asks_of ports ≡
    1 ∷ 1 ∷ 64 ∷ 32 ∷ 1 ∷ 2 ∷ 1 ∷ 2 ∷ 1 ∷ 2 ∷ 64 ∷ 1 ∷ 2 ∷ 64 ∷ 64 ∷ 1 ∷ 16 ∷ 64 ∷ 64 ∷ 64 ∷ 64 ∷ []
asks = refl

told : told_of ports ≡ 32 ∷ 1 ∷ 1 ∷ 64 ∷ []
told = refl

barrier_asked : ask_place ports 3 ≡ 8
barrier_asked = refl

ids_told : told_place ports 4 ≡ 2
ids_told = refl
