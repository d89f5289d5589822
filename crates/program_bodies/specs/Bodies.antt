-- The modules of threads as they are laid out, beside the cores of a program.
use Rattle.std.specs.Prelude.{◌≡◌, ℕ, Bool, true, false, List, None, length}
use Rattle.c_program.specs.Tree.{Program}
use Rattle.c_program.specs.Resolved.{IsResolved}
use Rattle.c_limits.specs.Counts.{first_passed}
use Rattle.bank_partition.specs.declared.banks.Spread.{Spread}
use Rattle.block_refine.specs.Routines.{RoutineCode}
use Rattle.verilog_tree.specs.Scope.{is_clk}
use Rattle.netlist.specs.declared.netlist.Module.{Module}
use Rattle.leaf_machine.specs.Steady.{IsSteadyMain}
use Rattle.law_banks.specs.Partition.{globals_of}
use Rattle.core_family.specs.declared.cores.Cores.{Cores}
use Rattle.thread_slots.specs.declared.shape.Served.{Served}
use Rattle.thread_slots.specs.declared.shape.Shape.{Shape}
use Rattle.fsm_datapath.specs.Thread.{inputs_of, places_of, IsServed}
use Rattle.fsm_datapath.specs.Leaf.{leaf_of}
use Rattle.fsm_datapath.specs.Runs.{ServesCode}
use Rattle.fsm_datapath.specs.SoundLeaf.{IsLeafOfServedCode}
use Rattle.fsm_datapath.specs.Routine.{IsRoutineOfServedCode}
use Rattle.fsm_datapath.specs.Steady.{IsSteadyServedCode}
use Rattle.law_net.specs.Plans.{IsRoutine}
use Rattle.law_net.specs.Cores.{AreCoresOf}
use Rattle.law_net.specs.Bodies.{ThreadBody, core_count, IsBody}

-- the cores that acts ask
abbrev pub served_by : Cores → Served
served_by w = record { mutexes = length w.mutexes; barriers = w.barriers; thread_ids = w.thread_ids; printer = record { site_width = 16; values = w.printer.values } }

-- what surrounds the module of a thread, main's or another's
abbrev pub shape_of : Program → List Spread → Cores → Bool → List ℕ → Shape
shape_of P spreads w main name = record { name = name; is_main = main; globals = globals_of P; spreads = spreads; served = served_by w }

-- it has its ports and registers where it is laid out
abbrev pub laid_body : Shape → RoutineCode → Module → ThreadBody
laid_body shape c m = record { body = m; inputs = inputs_of shape; leaf = leaf_of shape m; places = places_of (inputs_of shape) c.code c.plan }

-- a module as `module` promises it
pub record IsLaid (shape : Shape) (c : RoutineCode) (m : Module) : Type 0 where
  pub serves : ServesCode shape c.code c.plan m
  pub leaf : IsLeafOfServedCode shape c.code c.plan m
  pub routine : IsRoutineOfServedCode shape c.code c.plan m
  pub steady : IsSteadyServedCode shape c.code c.plan m

-- LAID MODULES ARE BODIES: so is each beside a program's cores, where its code is served, under a name that is not the clock's
abbrev pub LaidAreBodies : Type 0
LaidAreBodies =
    (P : Program) (spreads : List Spread) (w : Cores) (main : Bool) (name : List ℕ) (c : RoutineCode) (m : Module) → AreCoresOf P spreads w → is_clk name ≡ false →
    IsServed (shape_of P spreads w main name) c.code c.plan → IsLaid (shape_of P spreads w main name) c m →
    IsBody P spreads w main c name (laid_body (shape_of P spreads w main name) c m)

-- and main's stays where it has ended
abbrev pub LaidMainStays : Type 0
LaidMainStays =
    (P : Program) (spreads : List Spread) (w : Cores) (name : List ℕ) (c : RoutineCode) (m : Module) → AreCoresOf P spreads w → IsServed (shape_of P spreads w true name) c.code c.plan →
    IsLaid (shape_of P spreads w true name) c m → IsSteadyMain (core_count w) m (leaf_of (shape_of P spreads w true name) m)

-- CODES ARE SERVED: the typed code of a thread function, by a right plan, is, beside a program's cores
abbrev pub CodesAreServed : Type 0
CodesAreServed =
    (P : Program) (spreads : List Spread) (w : Cores) (f : ℕ) (c : RoutineCode) → IsResolved P → first_passed P ≡ None → AreCoresOf P spreads w → IsRoutine P f c →
    (main : Bool) (name : List ℕ) → IsServed (shape_of P spreads w main name) c.code c.plan
