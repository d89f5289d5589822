use Rattle.loop_datapath.proofs.rounds.+reach_of.Given as goal

abbrev pub decreases-reach_of : goal.decreases-reach_of
decreases-reach_of l = l.most
