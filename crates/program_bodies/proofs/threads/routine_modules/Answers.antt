use Rattle.std.proofs.Common.{◌≡◌, ◌+◌, List, Some, slice_get, length, map, sym, ap, ◌∙◌, subst, arith}
use Rattle.std.proofs.lemmas.Option.{slice_get-get_or}
use Rattle.c_program.specs.Plain.{program_of}
use Rattle.netlist.specs.declared.netlist.Module.{Module}
use Rattle.program_plans.specs.Plans.{routine_of}
use Rattle.program_bodies.specs.Modules.{AreLaid}
use Rattle.program_bodies.proofs.LaidModules.{none_laid, one_more, function_named, laid_at_place}
use Rattle.program_bodies.proofs.threads.routine_modules.Goals as goal

pub loop-k-init : goal.loop-k-init
loop-k-init c =
    subst (λ (ms : List Module). AreLaid (program_of c.args.program.now) c.args.spreads.now c.args.wanted.now (map routine_of c.args.plans.now) 0 ms) (sym c.new-modules.ensures)
    (none_laid (program_of c.args.program.now) c.args.spreads.now c.args.wanted.now (map routine_of c.args.plans.now))

pub routine_module-requires : goal.routine_module-requires
routine_module-requires c =
    let at : slice_get c.args.plans.now c.loop-k.k ≡ Some c.index-plans-k.result = slice_get-get_or c.args.plans.now c.loop-k.k _ c.loop-k-test.true ∙ ap Some (sym c.index-plans-k.is) in
    function_named (program_of c.args.program.now) c.requires.resolved c.args.plans.now c.requires.planned c.loop-k.k c.index-plans-k.result at

pub loop-k-preserved : goal.loop-k-preserved
loop-k-preserved c =
    let P = program_of c.args.program.now in
    let plans = c.args.plans.now in
    let k = c.loop-k.k in
    let at : slice_get plans k ≡ Some c.index-plans-k.result = slice_get-get_or plans k _ c.loop-k-test.true ∙ ap Some (sym c.index-plans-k.is) in
    subst (λ (ms : List Module). AreLaid P c.args.spreads.now c.args.wanted.now (map routine_of plans) (k + 1) ms) (sym c.in_ok-push.ensures.ok)
    (one_more P c.args.spreads.now c.args.wanted.now (map routine_of plans) k c.loop-k.modules c.in_ok-made.made c.loop-k.invariant
    (laid_at_place P c.requires.resolved plans c.requires.planned c.args.spreads.now c.args.wanted.now k c.index-plans-k.result c.in_ok-made.made at c.in_ok-made.ensures))

pub returns : goal.returns
returns c =
    let all : c.loop-k.k ≡ length c.args.plans.now = omega arith in
    subst (λ n. AreLaid (program_of c.args.program.now) c.args.spreads.now c.args.wanted.now (map routine_of c.args.plans.now) n c.loop-k.modules)
    (all ∙ c.requires.planned.count) c.loop-k.invariant
