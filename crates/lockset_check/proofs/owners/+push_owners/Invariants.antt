use Rattle.lockset_check.proofs.owners.+push_owners.Given as goal

abbrev pub decreases-push_owners : goal.decreases-push_owners
decreases-push_owners l = l.left
