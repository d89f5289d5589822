use Rattle.std.proofs.Common.{◌≡◌, take}
use Rattle.c_rules.specs.Walks.{Outcome, visited}
use Rattle.c_resolution.specs.States.{state}
use Rattle.c_resolution.specs.Functions as spec
use Rattle.c_definitions.proofs.functions.parameters.Given as goal

abbrev pub invariant-loop-next : goal.invariant-loop-next
invariant-loop-next l =
    visited (spec.parameter l.is_routine l.has_body) (take l.next-index l.list) (state l.initial.scope l.initial.found)
    ≡ Outcome.Gives tt (state l.scope l.found)
