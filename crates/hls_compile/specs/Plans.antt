-- The plans of the thread functions of a program, and the modules of a net that run their codes by them.
use Rattle.std.specs.Prelude.{◌≡◌, ℕ, nat_eq, List, Some, slice_get}
use Rattle.c_program.specs.Tree.{Program}
use Rattle.c_program.specs.Weight.{thread_functions}
use Rattle.bank_partition.specs.declared.banks.Spread.{Spread}
use Rattle.bank_partition.specs.Shapes.{spreads_from}
use Rattle.global_naming.specs.Naming.{AreCounts}
use Rattle.netlist.specs.declared.netlist.Module.{Module}
use Rattle.netlist.specs.declared.netlist.Netlist.{Netlist}
use Rattle.verilog_meaning.specs.Names.{module_named}
use Rattle.net_emitter.specs.Cores.{Cores}
use Rattle.program_cores.specs.Cores.{AreCoresOf}
use Rattle.program_modules.specs.Numbers.{function_module}
use Rattle.program_bodies.specs.Thread.{IsServed}
use Rattle.program_bodies.specs.PlannedFunction.{PlannedFunction}
use Rattle.program_bodies.specs.Plans.{routine_of, ArePlanned}
use Rattle.program_bodies.specs.Bodies.{shape_of, IsLaid}

-- beside these banks and cores, the module `fn_NAME` of the net, NAME being that of the thread function f, runs the function's code by its plan
pub record RunsPlanned (P : Program) (spreads : List Spread) (w : Cores) (n : Netlist) (f : ℕ) (p : PlannedFunction) : Type 0 where
  pub module_ : Module
  pub listed : module_named n.modules (function_module P f) ≡ Some module_
  pub served : IsServed (shape_of P spreads w (nat_eq f P.main) (function_module P f)) p.code p.plan
  pub laid : IsLaid (shape_of P spreads w (nat_eq f P.main) (function_module P f)) (routine_of p) module_

-- the globals have banks by the numbers of hardware threads that name them, and beside these and the cores of the program each thread function has such a
-- module
pub record RunPlanned (P : Program) (n : Netlist) (plans : List PlannedFunction) : Type 0 where
  pub counts : List ℕ
  pub counted : AreCounts P counts
  pub cores : Cores
  pub are_cores : AreCoresOf P (spreads_from counts 0 0 P.globals) cores
  pub each : (k f : ℕ) (p : PlannedFunction) → slice_get (thread_functions P) k ≡ Some f → slice_get plans k ≡ Some p →
      RunsPlanned P (spreads_from counts 0 0 P.globals) cores n f p

-- THE PLANS: of each thread function, main first, the name, the code, with the calls in it inlined, and the one plan of this code; and the net runs them
pub record ArePlans (P : Program) (n : Netlist) (plans : List PlannedFunction) : Type 0 where
  pub planned : ArePlanned P plans
  pub run : RunPlanned P n plans
