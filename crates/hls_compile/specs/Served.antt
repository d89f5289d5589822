-- The names of the cores of a program's hardware, in the order of their arbiters: whose preference each input pref_k of the outermost module is.
use Rattle.std.specs.Prelude.{ℕ, ◌+◌, nat_lt, List, [], ◌∷◌, ◌++◌, codes}
use Rattle.c_program.specs.Tree.{GlobalVariable, Program}
use Rattle.c_program.specs.Limits.{mutex_elements, barrier_elements}
use Rattle.c_program.specs.Weight.{thread_count}
use Rattle.bank_partition.specs.Counts.{bank_count}
use Rattle.global_naming.specs.Naming.{naming_threads}
use Rattle.program_bodies.specs.Served.{numbered_names, thread_ids_names}

-- the banks of these globals, the first of which has number x, in order of declaration, and of each global by number: as many as the hardware threads that
-- name it ask for
abbrev pub bank_names : Program → ℕ → List GlobalVariable → List (List ℕ)
bank_names P x [] = []
bank_names P x (g ∷ globals) = numbered_names (codes "u_" ++ g.name) (bank_count (naming_threads P x) g.length) ++ bank_names P (x + 1) globals

-- THE NAMES OF THE CORES: the banks; a mutex and a barrier for each element that is declared, numbered from 0; the core of the thread ids where there are
-- threads beside main; the printer
abbrev pub core_names : Program → List (List ℕ)
core_names P =
    bank_names P 0 P.globals ++ numbered_names (codes "umutex") (mutex_elements P) ++ numbered_names (codes "ubarrier") (barrier_elements P)
    ++ thread_ids_names (nat_lt 1 (thread_count P)) ++ codes "uprinter_0" ∷ []
