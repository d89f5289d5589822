use Rattle.std.proofs.Common.{sym, ◌∙◌}
use Rattle.c_program.specs.Plain.{program_of}
use Rattle.c_profile.proofs.WithinLimits.{accepted, of_ok}
use Rattle.c_profile.proofs.AboveLimits.{refused_by_limit, refused_for_tree, of_err}
use Rattle.c_profile.proofs.text.program_or_refusal.Goals as goal

pub returns-in-Ok-clause-refused : goal.returns-in-Ok-clause-refused
returns-in-Ok-clause-refused c =
    of_err c.within.result _ _ (λ e p r is. refused_by_limit c.args.text.now c.in_ok-tree.tree (program_of c.in-Ok.program) r c.in_ok-tree.ensures.ok c.in-Ok.ensures.spelled
    (p r is)) c.within.ensures.refused

pub returns-in-Ok-clause-ok : goal.returns-in-Ok-clause-ok
returns-in-Ok-clause-ok c =
    of_ok c.within.result _ _ _ (λ a same within. accepted c.args.text.now c.in_ok-tree.tree (program_of c.in-Ok.program)
    (program_of a.program) a.weight c.in_ok-tree.ensures.ok c.in-Ok.ensures.spelled same within) c.within.ensures.same c.within.ensures.ok

pub returns-clause-refused : goal.returns-clause-refused
returns-clause-refused c =
    λ r told. refused_for_tree c.args.text.now c.in_ok-tree.tree c.in-Err.error r c.in_ok-tree.ensures.ok c.in-Err.ensures.broken c.in-Err.ensures.no_main (sym c.answer_to.ensures ∙ told)
