use Rattle.sim_events.proofs.Flags.{flagged_all}
use Rattle.sim_events.proofs.pending.all_pending.Goals as goal

pub returns-clause-flagged : goal.returns-clause-flagged
returns-clause-flagged c = flagged_all c.args.steps c.in_ok-steps.steps.items c.in_ok-blocks.blocks.items (c.in_ok-steps.ensures.items_if_clones_equal (λ y e. e)) (c.in_ok-blocks.ensures.items_if_clones_equal (λ y e. e))
