use Rattle.c_resolution.proofs.Once.{resolves_only, breaks_only, lacks_main_only}
use Rattle.c_types.proofs.resolving.resolve.Goals as goal

pub returns-clause-spells : goal.returns-clause-spells
returns-clause-spells c =
    resolves_only c.args.tree.now c.program_or_fault.result (c.program_or_fault.ensures.spelled, c.program_or_fault.ensures.broken, c.program_or_fault.ensures.no_main)

pub returns-clause-breaks : goal.returns-clause-breaks
returns-clause-breaks c =
    breaks_only c.args.tree.now c.program_or_fault.result (c.program_or_fault.ensures.spelled, c.program_or_fault.ensures.broken, c.program_or_fault.ensures.no_main)

pub returns-clause-lacks : goal.returns-clause-lacks
returns-clause-lacks c =
    lacks_main_only c.args.tree.now c.program_or_fault.result (c.program_or_fault.ensures.spelled, c.program_or_fault.ensures.broken, c.program_or_fault.ensures.no_main)
