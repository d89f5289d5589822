use Rattle.std.proofs.Common.{List, ◌+◌, length, map, sym, ◌∙◌, subst}
use Rattle.hls_ints.specs.Residues.{bit_of}
use Rattle.c_program.specs.Plain.{program_of}
use Rattle.c_program.specs.Weight.{thread_functions}
use Rattle.netlist.specs.declared.netlist.Module.{Module}
use Rattle.program_modules.specs.Numbers.{has_idle}
use Rattle.program_plans.specs.Plans.{routine_of}
use Rattle.program_bodies.specs.Modules.{AreLaid}
use Rattle.program_bodies.proofs.LaidModules.{as_many, without_idle, with_idle, finished}
use Rattle.program_bodies.proofs.threads.modules.Goals as goal

pub returns-then-not-has_idle-clause-laid : goal.returns-then-not-has_idle-clause-laid
returns-then-not-has_idle-clause-laid c =
    without_idle (program_of c.args.program.now) c.args.spreads.now c.args.wanted.now (map routine_of c.args.plans.now)
    (length (thread_functions (program_of c.args.program.now))) c.in_ok-modules.modules c.in_ok-modules.ensures
    (sym c.has_idle.ensures ∙ c.if-not-has_idle.true)

pub returns-then-not-has_idle-clause-bodies : goal.returns-then-not-has_idle-clause-bodies
returns-then-not-has_idle-clause-bodies c =
    finished (program_of c.args.program.now) c.requires.resolved c.requires.limits c.args.spreads.now c.args.wanted.now c.requires.cores c.args.plans.now c.requires.planned
    c.planned_are_routines.ensures c.in_ok-modules.modules
    (without_idle (program_of c.args.program.now) c.args.spreads.now c.args.wanted.now (map routine_of c.args.plans.now)
    (length (thread_functions (program_of c.args.program.now))) c.in_ok-modules.modules c.in_ok-modules.ensures
    (sym c.has_idle.ensures ∙ c.if-not-has_idle.true))

pub returns-clause-laid : goal.returns-clause-laid
returns-clause-laid c =
    let P = program_of c.args.program.now in
    subst
    (λ (ms : List Module). AreLaid P c.args.spreads.now c.args.wanted.now (map routine_of c.args.plans.now) (length (thread_functions P) + bit_of (has_idle P)) ms)
    (sym c.in_ok-push.ensures.ok)
    (with_idle P c.args.spreads.now c.args.wanted.now (map routine_of c.args.plans.now) (as_many P c.requires.resolved c.args.plans.now c.requires.planned)
    c.in_ok-modules.modules c.in_ok-idle.idle c.in_ok-modules.ensures c.in_ok-idle.ensures (sym c.has_idle.ensures ∙ c.if-not-has_idle.false))

pub returns-clause-bodies : goal.returns-clause-bodies
returns-clause-bodies c =
    let P = program_of c.args.program.now in
    finished P c.requires.resolved c.requires.limits c.args.spreads.now c.args.wanted.now c.requires.cores c.args.plans.now c.requires.planned c.planned_are_routines.ensures _
    (subst
    (λ (ms : List Module). AreLaid P c.args.spreads.now c.args.wanted.now (map routine_of c.args.plans.now) (length (thread_functions P) + bit_of (has_idle P)) ms)
    (sym c.in_ok-push.ensures.ok)
    (with_idle P c.args.spreads.now c.args.wanted.now (map routine_of c.args.plans.now) (as_many P c.requires.resolved c.args.plans.now c.requires.planned)
    c.in_ok-modules.modules c.in_ok-idle.idle c.in_ok-modules.ensures c.in_ok-idle.ensures (sym c.has_idle.ensures ∙ c.if-not-has_idle.false)))
