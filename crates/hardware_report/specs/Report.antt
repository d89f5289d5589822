-- THE REPORT OF A HARDWARE: the globals of the program and who asks for them, the plans of its thread functions, and the net.
use Rattle.std.specs.Prelude.{ℕ, Bool, false, List, [], ◌++◌, nat_eq, codes, string_bytes, if◌then◌else◌}
use Rattle.std.specs.List.{flat_map, list_any}
use Rattle.c_program.specs.Tree.{Program, GlobalVariable}
use Rattle.c_program.specs.Weight.{thread_count}
use Rattle.block_ir.specs.declared.block.Operation.{Operation}
use Rattle.block_ir.specs.declared.block.Operation.TheVariants.{Unary, Binary, ReadGlobal, WriteGlobal, ReadArray, WriteArray}
use Rattle.block_ir.specs.declared.code.Stage.{Stage}
use Rattle.block_ir.specs.declared.code.Stage.TheVariants as stage
use Rattle.block_ir.specs.declared.code.ThreadCode.{ThreadCode}
use Rattle.netlist.specs.declared.netlist.Netlist.{Netlist}
use Rattle.program_plans.specs.declared.PlannedFunction.{PlannedFunction}
use Rattle.plan_report.specs.Words.{word, number, type_words, numbered}
use Rattle.plan_report.specs.Code.{code_lines}
use Rattle.net_report.specs.Net.{named, net_lines}

-- a global: its number in order of declaration, its words, their type, and its name
abbrev pub global_line : ℕ → GlobalVariable → List ℕ
global_line k g = codes "global" ++ number k ++ number g.length ++ type_words g.ty ++ named g.name

-- an operation reads or writes a global
abbrev pub names_global : ℕ → Operation → Bool
names_global x (ReadGlobal y n i) = nat_eq y x
names_global x (WriteGlobal y n i a) = nat_eq y x
names_global x (Unary operator ty a) = false
names_global x (Binary operator ty a b) = false
names_global x (ReadArray y n i) = false
names_global x (WriteArray y n i a) = false

abbrev pub stage_names : ℕ → Stage → Bool
stage_names x (stage.Run b) = list_any (names_global x) b.operations
stage_names x (stage.Act a next) = false

-- a thread function asks for the words of a global
abbrev pub asks : ℕ → ThreadCode → Bool
asks x code = list_any (stage_names x) code.stages

abbrev pub asks_line : ℕ → PlannedFunction → List ℕ
asks_line x p = if asks x p.code then codes "asks" ++ number x ++ named (string_bytes p.name) else []

abbrev pub global_lines : List PlannedFunction → ℕ → GlobalVariable → List ℕ
global_lines plans x g = global_line x g ++ flat_map (asks_line x) plans

-- a thread function: its name, its code and its plan
abbrev pub function_lines : PlannedFunction → List ℕ
function_lines p = codes "function" ++ named (string_bytes p.name) ++ code_lines p.code p.plan

abbrev pub report_of : Program → Netlist → List PlannedFunction → List ℕ
report_of P n plans = numbered (global_lines plans) 0 P.globals ++ flat_map function_lines plans ++ net_lines (thread_count P) n.modules
