-- The lines of an act at a core.
use Rattle.std.specs.Prelude.{ℕ, List, [], ◌∷◌, ◌++◌, codes}
use Rattle.std.specs.Fmt.{signed_decimal}
use Rattle.std.specs.List.{flat_map}
use Rattle.block_ir.specs.declared.code.Act.{Act}
use Rattle.block_ir.specs.declared.code.Act.TheVariants as act
use Rattle.block_ir.specs.declared.code.ActOperand.{ActOperand}
use Rattle.block_ir.specs.declared.code.ActOperand.TheVariants.{Constant, Variable}
use Rattle.plan_report.specs.Words.{number, type_words, fact}

abbrev pub operand_words : ActOperand → List ℕ
operand_words (Constant ty v) = codes " constant " ++ signed_decimal v ++ type_words ty
operand_words (Variable x ty) = codes " variable" ++ number x ++ type_words ty

-- an operand that the act hands to the core
abbrev pub act_operand_line : ActOperand → List ℕ
act_operand_line a = codes "handed" ++ operand_words a ++ 10 ∷ []

-- a line, and those of one operand or of two
abbrev pub one : List ℕ → ActOperand → List ℕ
one line a = line ++ act_operand_line a

abbrev pub two : List ℕ → ActOperand → ActOperand → List ℕ
two line a b = line ++ act_operand_line a ++ act_operand_line b

abbrev pub print_lines : ℕ → List ActOperand → List ℕ
print_lines site values = fact (codes "print") site ++ flat_map act_operand_line values

-- what is asked (POSIX pthread_create and its kin; C99 7.19.6.3), and the operands in the order of the call
abbrev pub act_lines : Act → List ℕ
act_lines (act.Print site values) = print_lines site values
act_lines (act.Create thread argument) = two (codes "create\n") thread argument
act_lines (act.Join thread) = one (codes "join\n") thread
act_lines (act.MutexInit mutex) = one (codes "mutex_init\n") mutex
act_lines (act.MutexDestroy mutex) = one (codes "mutex_destroy\n") mutex
act_lines (act.MutexLock mutex) = one (codes "mutex_lock\n") mutex
act_lines (act.MutexUnlock mutex) = one (codes "mutex_unlock\n") mutex
act_lines (act.BarrierInit barrier count) = two (codes "barrier_init\n") barrier count
act_lines (act.BarrierDestroy barrier) = one (codes "barrier_destroy\n") barrier
act_lines (act.BarrierWait barrier) = one (codes "barrier_wait\n") barrier
act_lines act.Return = codes "return\n"
