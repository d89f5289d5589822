use Rattle.circuit.proofs.Within.{has_settled_given, has_settled}
use Rattle.circuit.proofs.States.{keeps_states}
use Rattle.circuit.proofs.law.fitting_nets_settle.Goals as goal

pub returns-clause-has_settled_given : goal.returns-clause-has_settled_given
returns-clause-has_settled_given c = has_settled_given

pub returns-clause-has_settled : goal.returns-clause-has_settled
returns-clause-has_settled c = has_settled

pub returns-clause-keeps_states : goal.returns-clause-keeps_states
returns-clause-keeps_states c = keeps_states
