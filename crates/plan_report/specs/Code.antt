-- THE REPORT OF A CODE: its variables, registers and local arrays, and its stages with their plans.
use Rattle.std.specs.Prelude.{ℕ, List, [], ◌∷◌, ◌++◌, Option, Some, None, codes, slice_get, slice_index_or, map, string_bytes}
use Rattle.std.specs.List.{flat_map}
use Rattle.hls_ints.specs.Types.{IntegerType}
use Rattle.block_ir.specs.declared.block.Block.{Block}
use Rattle.block_ir.specs.declared.block.Final.{Final}
use Rattle.block_ir.specs.declared.block.Next.{Next}
use Rattle.block_ir.specs.declared.block.Next.TheVariants.{Jump, Branch}
use Rattle.block_ir.specs.declared.code.Array.{Array}
use Rattle.block_ir.specs.declared.code.Stage.{Stage}
use Rattle.block_ir.specs.declared.code.Stage.TheVariants as stage
use Rattle.block_ir.specs.declared.code.ThreadCode.{ThreadCode}
use Rattle.block_ir.specs.declared.plan.BlockPlan.{BlockPlan}
use Rattle.block_ir.specs.declared.plan.StagePlan.{StagePlan}
use Rattle.block_ir.specs.declared.plan.StagePlan.TheVariants as planned
use Rattle.block_ir.specs.declared.plan.Planned.{Planned}
use Rattle.op_graph.specs.Graph.{nodes_of}
use Rattle.plan_report.specs.Words.{word, number, type_words, fact, pair, triple, numbered}
use Rattle.plan_report.specs.Operations.{operand_words, operand_line, planned_lines}
use Rattle.plan_report.specs.Acts.{act_lines}

-- what a variable holds after the block
abbrev pub final_line : Final → List ℕ
final_line f = codes "final" ++ number f.variable ++ operand_words f.value

-- where a block leads
abbrev pub next_lines : Next → List ℕ
next_lines (Jump target) = fact (codes "jump") target
next_lines (Branch test nonzero zero) = pair (codes "branch") nonzero zero ++ operand_line (codes "test") test

-- a block with its plan: how many states it has and how many steps of C it takes; its operations, what it leaves, where it leads
abbrev pub block_lines : ℕ → Block → BlockPlan → List ℕ
block_lines k b p =
    triple (codes "block") k p.states b.steps ++ numbered (planned_lines (nodes_of b.operations) p) 0 b.operations
    ++ flat_map final_line b.finals ++ next_lines b.next

-- stage k by its plan: a block, or an act, the stage after it and what it asks
abbrev pub stage_lines : ℕ → Stage → StagePlan → List ℕ
stage_lines k (stage.Run b) (planned.Run p) = block_lines k b p
stage_lines k (stage.Run b) planned.Act = []
stage_lines k (stage.Act a next) plan = pair (codes "act") k next ++ act_lines a

abbrev pub planned_stage : ℕ → Stage → Option StagePlan → List ℕ
planned_stage k s (Some plan) = stage_lines k s plan
planned_stage k s None = []

abbrev pub stage_at : List StagePlan → ℕ → Stage → List ℕ
stage_at plans k s = planned_stage k s (slice_get plans k)

-- the name of the C local that a variable is, empty where it is none
abbrev pub name_at : List (List ℕ) → ℕ → List ℕ
name_at names k = slice_index_or names k []

abbrev pub name_word : List ℕ → List ℕ
name_word [] = codes " -"
name_word (b ∷ bs) = word (b ∷ bs)

abbrev pub variable_line : ℕ → IntegerType → List ℕ → List ℕ
variable_line k ty name = codes "variable" ++ number k ++ type_words ty ++ name_word name ++ 10 ∷ []

abbrev pub variable_at : List (List ℕ) → ℕ → IntegerType → List ℕ
variable_at names k ty = variable_line k ty (name_at names k)

-- a local array: its words and their type
abbrev pub array_line : ℕ → Array → List ℕ
array_line k a = codes "array" ++ number k ++ number a.length ++ type_words a.ty ++ 10 ∷ []

-- the variable that has the argument of the create
abbrev pub argument_line : Option ℕ → List ℕ
argument_line None = []
argument_line (Some x) = fact (codes "argument") x

abbrev pub code_lines : ThreadCode → Planned → List ℕ
code_lines code plan =
    fact (codes "registers") plan.registers ++ argument_line code.argument
    ++ numbered (variable_at (map string_bytes code.names)) 0 code.variables
    ++ numbered array_line 0 code.arrays ++ numbered (stage_at plan.stages) 0 code.stages
