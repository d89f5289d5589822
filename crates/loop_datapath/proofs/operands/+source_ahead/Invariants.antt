use Rattle.loop_datapath.proofs.operands.+source_ahead.Given as goal

abbrev pub decreases-source_ahead : goal.decreases-source_ahead
decreases-source_ahead l = l.depth
