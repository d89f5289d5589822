use Rattle.std.proofs.Common.{ℕ, [], get_or, sym, subst}
use Rattle.std.specs.Prelude.{Contains}
use Rattle.std.proofs.lemmas.List.Elements.{Contains-get_or}
use Rattle.c_program.specs.Plain.{program_of}
use Rattle.code_following.specs.Idle.{operation_limit}
use Rattle.code_merge.specs.Maximal.{IsMaximal}
use Rattle.program_plans.specs.Steps.{AreCodes}
use Rattle.program_plans.proofs.CodesInOrder.{codes_next, codes_whole}
use Rattle.program_plans.proofs.codes.codes.Goals as goal

pub loop-function-init : goal.loop-function-init
loop-function-init c = subst (AreCodes (program_of c.args.program.now) []) (sym c.new-codes.ensures) tt

pub code-requires-clause-resolved : goal.code-requires-clause-resolved
code-requires-clause-resolved c = c.requires.resolved

pub code-requires-clause-limits : goal.code-requires-clause-limits
code-requires-clause-limits c = c.requires.limits

pub code-requires-clause-weight : goal.code-requires-clause-weight
code-requires-clause-weight c = c.requires.weight

pub code-requires-clause-runs : goal.code-requires-clause-runs
code-requires-clause-runs c =
    let fs = c.args.functions.now in
    let i = c.loop-function.function-index in
    subst (λ xs. Contains xs (get_or fs i 0)) c.requires.threads (Contains-get_or fs i 0 c.loop-function-test.true)

pub loop-function-preserved : goal.loop-function-preserved
loop-function-preserved c =
    codes_next (program_of c.args.program.now) c.args.functions.now c.loop-function.function-index c.loop-function.codes _ c.in_ok-code.code
    c.loop-function-test.true c.loop-function.invariant
    (record {
      code = c.in_ok-code.ensures.code;
      maximal = subst (λ (w : ℕ). IsMaximal (operation_limit w c.in_ok-code.code.stages) c.in_ok-code.code) c.requires.weight c.in_ok-code.ensures.maximal;
    })
    c.in_ok-push.ensures.ok

pub returns : goal.returns
returns c =
    codes_whole (program_of c.args.program.now) c.args.functions.now c.loop-function.function-index c.loop-function.codes c.loop-function-test.false
    c.loop-function.invariant
