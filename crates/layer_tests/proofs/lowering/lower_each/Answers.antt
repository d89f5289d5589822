use Rattle.std.proofs.Common.{get_or, subst}
use Rattle.std.specs.Prelude.{Contains}
use Rattle.std.proofs.lemmas.List.Elements.{Contains-get_or}
use Rattle.layer_tests.proofs.lowering.lower_each.Goals as goal

pub lower_function-requires-clause-resolved : goal.lower_function-requires-clause-resolved
lower_function-requires-clause-resolved c = c.requires.resolved

pub lower_function-requires-clause-runs : goal.lower_function-requires-clause-runs
lower_function-requires-clause-runs c =
    let fs = c.args.functions.now in
    let i = c.loop-function.function-index in
    subst (λ xs. Contains xs (get_or fs i 0)) c.requires.threads (Contains-get_or fs i 0 c.loop-function-test.true)
