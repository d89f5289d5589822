use Rattle.std.proofs.Common.{ap, ◌∙◌}
use Rattle.c_program.specs.Plain.{program_of}
use Rattle.program_modules.specs.Numbers.{module_name}
use Rattle.program_plans.specs.Plans.{routine_of}
use Rattle.program_bodies.specs.Bodies.{shape_of}
use Rattle.program_bodies.proofs.LaidModules.{laid_for}
use Rattle.program_bodies.proofs.threads.routine_module.Goals as goal

pub returns : goal.returns
returns c =
    let made = c.in_ok-made.ensures in
    laid_for c.in_ok-shape.shape _ (routine_of c.args.planned.now) c.in_ok-made.made
    (c.in_ok-shape.ensures
    ∙ ap (shape_of (program_of c.args.program.now) c.args.spreads.now c.args.wanted.now c.args.is_main) (c.in_ok-name.ensures ∙ ap module_name c.as_str.ensures.value))
    made.serves made.leaf made.routine made.steady
