use Rattle.c_resolved_program.proofs.Laws.{value_law, format_law, body_law}
use Rattle.c_resolved_program.proofs.Assembly.{gathered_law}
use Rattle.c_resolved_program.proofs.SpelledLaw.{spelled_law}
use Rattle.c_resolved_program.proofs.AcceptedLaws.{leaves_law, numbers_law, resolved_law}
use Rattle.c_resolved_program.proofs.law.programs_are_resolved.Goals as goal

pub returns-clause-value_is_expression : goal.returns-clause-value_is_expression
returns-clause-value_is_expression c = value_law

pub returns-clause-format_is_pieces : goal.returns-clause-format_is_pieces
returns-clause-format_is_pieces c = format_law

pub returns-clause-body_is_in_order : goal.returns-clause-body_is_in_order
returns-clause-body_is_in_order c = body_law

pub returns-clause-gathered_is_resolved : goal.returns-clause-gathered_is_resolved
returns-clause-gathered_is_resolved c = gathered_law

pub returns-clause-spelled_is_resolved : goal.returns-clause-spelled_is_resolved
returns-clause-spelled_is_resolved c = spelled_law

pub returns-clause-accepted_has_valid_leaves : goal.returns-clause-accepted_has_valid_leaves
returns-clause-accepted_has_valid_leaves c = leaves_law

pub returns-clause-accepted_is_numbered : goal.returns-clause-accepted_is_numbered
returns-clause-accepted_is_numbered c = numbers_law

pub returns-clause-accepted_is_resolved : goal.returns-clause-accepted_is_resolved
returns-clause-accepted_is_resolved c = resolved_law
