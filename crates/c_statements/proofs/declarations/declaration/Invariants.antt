use Rattle.std.proofs.Common.{◌≡◌, map, take, ◌++◌, ◌∷◌, []}
use Rattle.c_program.specs.Plain.{boxed_statement_of}
use Rattle.c_rules.specs.Walks.{Outcome, through, pure, ◌>>=◌}
use Rattle.c_resolution.specs.States.{state}
use Rattle.c_resolution.specs.Locals.{declarator}
use Rattle.c_statements.proofs.declarations.declaration.Given as goal

abbrev pub invariant-loop-declared : goal.invariant-loop-declared
invariant-loop-declared l =
    through (λ done x. declarator l.words x >>= (λ step. pure (done ++ step ∷ []))) (map boxed_statement_of l.initial.steps.items)
    (take l.declared-index l.declaration.declarators) (state l.initial.scope l.initial.found)
    ≡ Outcome.Gives (map boxed_statement_of l.steps.items) (state l.scope l.found)
