-- A run of the code's block and one of what a plan sees of it are alike; and what is in order there is in order here.
use Rattle.std.specs.Prelude.{◌≡◌, ℕ, suc, ◌<◌, ℤ, List, [], ◌∷◌, length, slice_get}
use Rattle.planned_block.specs.Memory.{Location}
use Rattle.block_ir.specs.Run.{Cells, or_zero, variables_after, stage_after, Running as CodeRunning, block_run as code_run}
use Rattle.block_ir.specs.declared.operand.Source.{Source}
use Rattle.block_ir.specs.declared.operand.Source.TheVariants.{Constant as FromConstant, Variable as FromVariable, Value as FromValue}
use Rattle.block_ir.specs.declared.operand.Operand.{Operand as CodeOperand}
use Rattle.block_ir.specs.declared.block.Operation.{Operation as CodeOperation}
use Rattle.block_ir.specs.declared.block.Operation.TheVariants.{Unary, Binary, ReadGlobal, WriteGlobal, ReadArray, WriteArray}
use Rattle.block_ir.specs.declared.block.Final.{Final as CodeFinal}
use Rattle.block_ir.specs.declared.block.Next.{Next as CodeNext}
use Rattle.block_ir.specs.declared.block.Next.TheVariants.{Jump as CodeJump, Branch as CodeBranch}
use Rattle.block_ir.specs.declared.block.Block.{Block as CodeBlock}
use Rattle.planned_block.specs.Block.{operand_value, finished, leads_to}
use Rattle.planned_block.specs.Run.{Running, block_run}
use Rattle.plan_blocks.specs.View.{planned_view, memory_of, accesses_view}

-- the two runs of a block, r of the code and s of its view, from these variables
pub record AreAlike (b : CodeBlock) (variables : ℕ → ℤ) (r : CodeRunning) (s : Running) : Type 0 where
  -- the operations have the same values; past the last one it is 0
  pub values : (k : ℕ) → s.values k ≡ or_zero (slice_get r.values k)
  pub arrays : (l : Location) → s.arrays l ≡ memory_of r.arrays l
  pub memory : (l : Location) → s.memory l ≡ memory_of r.globals l
  pub accesses : s.accesses ≡ accesses_view r.accesses
  -- the variables after it, and where it leads
  pub variables_after_it : (x : ℕ) → finished (operand_value variables s.values) (planned_view b).finals variables x ≡ variables_after b variables r x
  pub stage : leads_to (operand_value variables s.values) (planned_view b).next ≡ stage_after b variables r

-- THE VIEW: from any variables, arrays and globals
abbrev pub RunsAlike : CodeBlock → Type 0
RunsAlike b =
    (variables : ℕ → ℤ) (arrays globals : Cells) →
    AreAlike b variables (code_run b variables arrays globals) (block_run (planned_view b) variables (memory_of arrays) (memory_of globals))

-- the operand needs no value but those of the first n operations
abbrev pub SourceNeedsBelow : ℕ → Source → Type 0
SourceNeedsBelow n (FromConstant ty v) = Unit {0}
SourceNeedsBelow n (FromVariable x ty) = Unit {0}
SourceNeedsBelow n (FromValue k ty) = k < n

abbrev pub NeedsBelow : ℕ → CodeOperand → Type 0
NeedsBelow n o = SourceNeedsBelow n o.source

abbrev pub OperationNeedsBelow : ℕ → CodeOperation → Type 0
OperationNeedsBelow n (Unary operator ty a) = NeedsBelow n a
OperationNeedsBelow n (Binary operator ty a b) = NeedsBelow n a × NeedsBelow n b
OperationNeedsBelow n (ReadGlobal x size i) = NeedsBelow n i
OperationNeedsBelow n (WriteGlobal x size i a) = NeedsBelow n i × NeedsBelow n a
OperationNeedsBelow n (ReadArray x size i) = NeedsBelow n i
OperationNeedsBelow n (WriteArray x size i a) = NeedsBelow n i × NeedsBelow n a

-- each of the operations from n on needs earlier ones alone
abbrev pub EachNeedsEarlier : ℕ → List CodeOperation → Type 0
EachNeedsEarlier n [] = Unit {0}
EachNeedsEarlier n (o ∷ os) = OperationNeedsBelow n o × EachNeedsEarlier (suc n) os

abbrev pub FinalsNeedBelow : ℕ → List CodeFinal → Type 0
FinalsNeedBelow n [] = Unit {0}
FinalsNeedBelow n (f ∷ fs) = NeedsBelow n f.value × FinalsNeedBelow n fs

abbrev pub NextNeedsBelow : ℕ → CodeNext → Type 0
NextNeedsBelow n (CodeJump l) = Unit {0}
NextNeedsBelow n (CodeBranch test l k) = NeedsBelow n test

-- a block of the code whose operations use earlier ones, and whose end uses its operations
pub record IsInOrder (b : CodeBlock) : Type 0 where
  pub operations : EachNeedsEarlier 0 b.operations
  pub finals : FinalsNeedBelow (length b.operations) b.finals
  pub next : NextNeedsBelow (length b.operations) b.next
