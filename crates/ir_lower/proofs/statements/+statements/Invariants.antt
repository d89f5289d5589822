use Rattle.std.proofs.Common.{◌≡◌, ◌≤◌, ◌+◌, ◌*◌, suc, true}
use Rattle.std.specs.Prelude.{is_some}
use Rattle.c_program.specs.Plain.{program_of, statement_of}
use Rattle.ir_lower.specs.Taken.{has_turning, is_taken}
use Rattle.code_places.specs.Doing.{Proceeds}
use Rattle.code_control.proofs.NestedStatements.{IsVia}
use Rattle.code_control.proofs.ControlSize.{IsBehind}
use Rattle.code_control.specs.Deciding.{is_cut, ComesThrough}
use Rattle.ir_lower.proofs.Sizes.{nested_size, all_sizes}
use Rattle.ir_lower.proofs.statements.+statements.Given as goal

abbrev pub decreases-lower_statement : goal.decreases-lower_statement
decreases-lower_statement l = l.depth * suc (all_sizes (program_of l.program.now).functions) + nested_size (statement_of l.statement.now)

abbrev pub decreases-lower_condition : goal.decreases-lower_condition
decreases-lower_condition l = l.depth * suc (all_sizes (program_of l.program.now).functions) + nested_size (statement_of l.condition.now)

-- what asks a condition
abbrev pub decreases-lower_truth : goal.decreases-lower_truth
decreases-lower_truth l = l.depth * suc (all_sizes (program_of l.program.now).functions) + suc (nested_size (statement_of l.condition.now))

abbrev pub decreases-open_choice : goal.decreases-open_choice
decreases-open_choice l = l.depth * suc (all_sizes (program_of l.program.now).functions) + suc (nested_size (statement_of l.condition.now))

abbrev pub decreases-open_turn : goal.decreases-open_turn
decreases-open_turn l = l.depth * suc (all_sizes (program_of l.program.now).functions) + suc (nested_size (statement_of l.condition.now))

abbrev pub decreases-ask_reached : goal.decreases-ask_reached
decreases-ask_reached l = l.depth * suc (all_sizes (program_of l.program.now).functions) + suc (nested_size (statement_of l.condition.now))

abbrev pub decreases-close_do : goal.decreases-close_do
decreases-close_do l = l.depth * suc (all_sizes (program_of l.program.now).functions) + suc (suc (nested_size (statement_of l.condition.now)))

-- the body of a switch is a statement itself
abbrev pub decreases-lower_cases : goal.decreases-lower_cases
decreases-lower_cases l = l.depth * suc (all_sizes (program_of l.program.now).functions) + suc (nested_size (statement_of l.body.now))

abbrev pub decreases-lower_switch : goal.decreases-lower_switch
decreases-lower_switch l = l.depth * suc (all_sizes (program_of l.program.now).functions) + suc (suc (nested_size (statement_of l.body.now)))

abbrev pub decreases-lower_call : goal.decreases-lower_call
decreases-lower_call l = l.depth * suc (all_sizes (program_of l.program.now).functions)

abbrev pub invariant-lower_statement-loop-rest : goal.invariant-lower_statement-loop-rest
invariant-lower_statement-loop-rest l = record {
  less : nested_size (statement_of l.rest) ≤ nested_size (statement_of l.fn.statement);
  behind : IsBehind (program_of l.program) l.depth (statement_of l.fn.statement) (statement_of l.rest) l.fn.code l.code;
  taken : is_taken (is_some l.around) (has_turning l.around) (statement_of l.rest) ≡ true;
  proceeds : Proceeds l.around l.fn.code l.code;
  through : is_cut (statement_of l.fn.statement) ≡ true → l.fn.code.reached ≡ true → (is_cut (statement_of l.rest) ≡ true) × ComesThrough l.fn.code l.code;
  via : IsVia (program_of l.program) l.around (statement_of l.fn.statement) (statement_of l.rest) l.fn.code l.code;
}
