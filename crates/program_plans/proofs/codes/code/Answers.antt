use Rattle.std.proofs.Common.{◌≡◌, ℕ, ◌-◌, ◌*◌, ◌≤◌, Result, Ok, Err, IfOk, sym, ap, ◌∙◌, subst, arith}
use Rattle.c_program.specs.Plain.{program_of}
use Rattle.c_program.specs.Weight.{weight}
use Rattle.code_following.specs.Idle.{idle_count, operation_limit}
use Rattle.code_merge.specs.Maximal.{IsMaximal}
use Rattle.program_plans.proofs.codes.code.Goals as goal

-- what follows from two facts of a result
both : {X Y : Type 0} (r : Result X Y) (P Q R : X → Type 0) → ((x : X) → P x → Q x → R x) → IfOk r P → IfOk r Q → IfOk r R
both (Ok x) P Q R f p q = f x p q
both (Err e) P Q R f p q = tt

pub lowered-requires-clause-resolved : goal.lowered-requires-clause-resolved
lowered-requires-clause-resolved c = c.requires.resolved

pub lowered-requires-clause-limits : goal.lowered-requires-clause-limits
lowered-requires-clause-limits c = c.requires.limits

pub lowered-requires-clause-runs : goal.lowered-requires-clause-runs
lowered-requires-clause-runs c = c.requires.runs

-- what merging may make is within what a block of the program may have
within : (capped weight idle most : ℕ) → capped ≤ weight → most ≡ 4 * capped - 2 * idle → most ≤ 4 * weight - 2 * idle
within capped weight idle most le is = omega (arith, le, is)

pub returns-clause-code : goal.returns-clause-code
returns-clause-code c =
    let capped = c.requires.weight in
    let P = program_of c.args.program.now in
    let limit = c.most_operations-most.ensures ∙ ap (operation_limit c.args.weight) c.as_slice.ensures in
    let size = within c.args.weight (weight P) (idle_count c.in_ok-code.code.stages) c.most_operations-most.result (omega (arith, capped)) limit in
    let typed = c.in_ok-merged.ensures.typed P c.args.function size c.in_ok-code.ensures.typed in
    let lowered = c.in_ok-merged.ensures.lowered P c.args.function size c.in_ok-code.ensures.typed c.in_ok-code.ensures.lowered in
    both c.drop_empty.result _ _ _ (λ kept t l. record { lowered = l P c.args.function lowered; typed = t P c.args.function typed }) c.drop_empty.ensures.typed
    c.drop_empty.ensures.lowered

pub returns-clause-maximal : goal.returns-clause-maximal
returns-clause-maximal c =
    let capped = c.requires.weight in
    let P = program_of c.args.program.now in
    let limit = c.most_operations-most.ensures ∙ ap (operation_limit c.args.weight) c.as_slice.ensures in
    let size = within c.args.weight (weight P) (idle_count c.in_ok-code.code.stages) c.most_operations-most.result (omega (arith, capped)) limit in
    let count = c.in_ok-merged.ensures.idle P c.args.function size c.in_ok-code.ensures.typed in
    both c.drop_empty.result _ _ _
    (λ kept is same. subst (λ n. IsMaximal n kept) (limit ∙ ap (λ n. 4 * c.args.weight - 2 * n) (sym (same ∙ count))) (is c.most_operations-most.result c.in_ok-merged.ensures.maximal))
    c.drop_empty.ensures.maximal c.drop_empty.ensures.idle
