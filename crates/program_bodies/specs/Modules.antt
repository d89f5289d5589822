-- The modules of all threads of a program: one for each thread function, main's first, and behind them one for threads without a function.
use Rattle.std.specs.Prelude.{◌≡◌, ℕ, nat_eq, List, [], length, Some, slice_get, slice_index_or}
use Rattle.c_program.specs.Tree.{Program}
use Rattle.c_program.specs.Weight.{thread_functions}
use Rattle.bank_partition.specs.declared.banks.Spread.{Spread}
use Rattle.block_refine.specs.Routines.{RoutineCode}
use Rattle.netlist.specs.declared.netlist.Module.{Module}
use Rattle.core_family.specs.declared.cores.Cores.{Cores}
use Rattle.thread_slots.specs.declared.shape.Shape.{Shape}
use Rattle.law_net.specs.Bodies.{ThreadBody}
use Rattle.law_net.specs.Parts.{code_at, thread_module}
use Rattle.program_bodies.specs.Bodies.{shape_of, laid_body, IsLaid}

-- what surrounds module k
abbrev pub module_shape : Program → List Spread → Cores → ℕ → Shape
module_shape P spreads w k = shape_of P spreads w (nat_eq k 0) (thread_module P (slice_get (thread_functions P) k))

-- the first n modules, each laid out for its code
pub record AreLaid (P : Program) (spreads : List Spread) (w : Cores) (made : List RoutineCode) (n : ℕ) (modules : List Module) : Type 0 where
  pub count : length modules ≡ n
  pub each : (k : ℕ) (m : Module) → slice_get modules k ≡ Some m → IsLaid (module_shape P spreads w k) (code_at made k) m

abbrev pub no_module : Module
no_module = record { name = []; signals = []; memories = []; actions = []; instances = [] }

-- module k with its ports and registers
abbrev pub bodies_of : Program → List Spread → Cores → List RoutineCode → List Module → ℕ → ThreadBody
bodies_of P spreads w made modules k = laid_body (module_shape P spreads w k) (code_at made k) (slice_index_or modules k no_module)
