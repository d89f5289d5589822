use Rattle.std.proofs.Common.{false, codes, subst}
use Rattle.c_program.specs.Plain.{program_of}
use Rattle.block_refine.specs.Routines.{RoutineCode}
use Rattle.program_bodies.specs.Bodies.{shape_of, IsLaid}
use Rattle.program_bodies.proofs.LaidModules.{code_of, empty_code, laid_for}
use Rattle.program_bodies.proofs.threads.idle_module.Goals as goal

pub returns : goal.returns
returns c =
    let made = c.in_ok-made.ensures in
    let shape = shape_of (program_of c.args.program.now) c.args.spreads.now c.args.wanted.now false (codes "idle") in
    subst (λ (code : RoutineCode). IsLaid shape code c.in_ok-made.made)
    (empty_code c.new.result c.new-2.result c.new-3.result c.new-4.result c.new-5.result c.new.ensures c.new-2.ensures c.new-3.ensures c.new-4.ensures c.new-5.ensures)
    (laid_for c.in_ok-shape.shape shape (code_of c.new.result c.new-2.result c.new-3.result c.new-4.result c.new-5.result) c.in_ok-made.made c.in_ok-shape.ensures made.serves
    made.leaf made.routine made.steady)
