-- The parts of a program's hardware, of what is made of the program: the codes of its thread functions with their plans, a module for each of them, and
-- the cores.
use Rattle.std.specs.Prelude.{◌≡◌, ℕ, zero, suc, ◌+◌, true, false, nat_eq, List, [], ◌∷◌, length, Option, Some, None, slice_get, slice_index, codes}
use Rattle.hls_ints.specs.Residues.{bit_of}
use Rattle.c_program.specs.Tree.{Program}
use Rattle.c_program.specs.Resolved.{IsResolved}
use Rattle.c_program.specs.Weight.{thread_count, thread_functions, hardware_routines}
use Rattle.bank_partition.specs.declared.banks.Spread.{Spread}
use Rattle.block_refine.specs.Routines.{RoutineCode, Codes}
use Rattle.netlist.specs.declared.netlist.Module.{Module}
use Rattle.netlist.specs.declared.netlist.Netlist.{Netlist}
use Rattle.verilog_meaning.specs.Names.{module_named, top_of}
use Rattle.verilog_meaning.specs.Cycles.{module_at}
use Rattle.verilog_meaning.specs.Threads.{slot, IsThreaded}
use Rattle.leaf_machine.specs.Steady.{IsSteadyMain}
use Rattle.law_cycle.specs.Cores.{Cores}
use Rattle.law_routines.specs.Built.{Parts}
use Rattle.law_cycle.specs.Bodies.{ThreadBody, core_count, IsBody}
use Rattle.law_routines.specs.Plans.{IsRoutine}
use Rattle.good_verilog.specs.GoodVerilog.{IsGoodVerilog}
use Rattle.law_net.specs.Grants.{IsGranting}
use Rattle.law_net.specs.Served.{AreServed, names_of}
use Rattle.net_emitter.specs.Portable.{IsPortable, IsFreelyNamed}
use Rattle.net_emitter.specs.Written.{IsTextOf}
use Rattle.law_net.specs.Texts.{IsNetOf}
use Rattle.program_cores.specs.Cores.{AreCoresOf}
use Rattle.program_modules.specs.Numbers.{place_in, module_numbers, has_idle, function_module}

-- ---- what is made

-- the code of threads without a function
abbrev pub no_code : RoutineCode
no_code = record { code = record { argument = None; variables = []; names = []; arrays = []; stages = [] }; plan = record { stages = []; registers = 0 } }

abbrev pub code_at : List RoutineCode → ℕ → RoutineCode
code_at [] k = no_code
code_at (c ∷ cs) zero = c
code_at (c ∷ cs) (suc k) = code_at cs k

-- ---- the parts

module _ (P : Program) (spreads : List Spread) (cores : Cores) (made : List RoutineCode) (bodies : ℕ → ThreadBody) where
  -- by function
  abbrev pub codes_of : Codes
  codes_of f = code_at made (place_in (thread_functions P) f)

  -- by thread
  abbrev pub body_of : ℕ → ThreadBody
  body_of i = bodies (slice_index (module_numbers P) i)

  abbrev pub parts_of : Parts
  parts_of = record { cores = cores; spreads = spreads; codes = codes_of; bodies = body_of }

-- ---- what is promised of the modules

-- the code of each thread function, in their order, by a right plan, and a module for each; and one for threads without a function, where there are such
pub record AreBodies (P : Program) (spreads : List Spread) (cores : Cores) (made : List RoutineCode) (bodies : ℕ → ThreadBody) (routines : List Module) : Type 0 where
  pub count : length made ≡ length (thread_functions P)
  pub thread_codes : (k f : ℕ) (c : RoutineCode) → slice_get (thread_functions P) k ≡ Some f → slice_get made k ≡ Some c → IsRoutine P f c
  pub total : length routines ≡ length made + bit_of (has_idle P)
  pub listed : (k : ℕ) (m : Module) → slice_get routines k ≡ Some m → m ≡ (bodies k).body
  pub each : (k f : ℕ) (c : RoutineCode) → slice_get (thread_functions P) k ≡ Some f → slice_get made k ≡ Some c →
      IsBody P spreads cores (nat_eq k 0) c (function_module P f) (bodies k)
  pub idle : has_idle P ≡ true → IsBody P spreads cores false no_code (codes "idle") (bodies (length made))
  pub main : IsSteadyMain (core_count cores) (bodies 0).body (bodies 0).leaf
  -- nothing in them is called by a reserved word
  pub free : (k : ℕ) (m : Module) → slice_get routines k ≡ Some m → IsFreelyNamed m

-- ---- the whole

-- a netlist of so many threads is threaded: what their modules do while they need no core hangs on nothing outside them; and in each of its cycles a core
-- changes only where it grants a thread, which needs it, and whose slot changes
pub record IsThreadedNet (n : Netlist) (threads : ℕ) : Type 0 where
  pub top : Module
  pub is_top : top_of n.modules ≡ Some top
  pub threaded : IsThreaded n.modules top threads
  pub granting : IsGranting n.modules top threads

-- the module of a thread that runs a function, or none
abbrev pub thread_module : Program → Option ℕ → List ℕ
thread_module P None = codes "idle"
thread_module P (Some f) = function_module P f

-- each thread's instance is one of the module of its function, or of `idle`
abbrev pub HaveModules : Program → Netlist → Module → Type 0
HaveModules P n top =
    (i : ℕ) (o : Option ℕ) → slice_get (hardware_routines P) i ≡ Some o →
    (m : Module) × (module_named n.modules (thread_module P o) ≡ Some m) × (module_at n.modules top (slot n.modules top (thread_count P) i) ≡ Some m)

-- and its cores are of these names
pub record IsGoodText (P : Program) (names : List (List ℕ)) (n : Netlist) (text : List ℕ) : Type 0 where
  pub good : IsGoodVerilog P text
  pub net : IsNetOf (thread_count P) n text
  pub portable : IsPortable net.net
  pub threaded : IsThreadedNet n (thread_count P)
  pub modules : HaveModules P n threaded.top
  pub served : AreServed n.modules threaded.top (thread_count P) threaded.granting.has names

-- PARTS ARE GOOD: the text that is written of a program's modules and cores is good Verilog of it, and reads as a threaded net
abbrev pub PartsAreGood : Type 0
PartsAreGood =
    (P : Program) (spreads : List Spread) (cores : Cores) (made : List RoutineCode) (bodies : ℕ → ThreadBody) (routines : List Module) (n : Netlist) (text : List ℕ) →
    IsResolved P → AreCoresOf P spreads cores → AreBodies P spreads cores made bodies routines → IsTextOf (module_numbers P) routines cores n text →
    IsGoodText P (names_of cores) n text
