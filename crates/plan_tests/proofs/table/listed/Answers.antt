use Rattle.plan_tests.proofs.table.listed.Goals as goal

pub reduced_constraints-requires : goal.reduced_constraints-requires
reduced_constraints-requires c = rw c.as_slice-then-is_reduced.ensures.value c.in_ok-graph.ensures.earlier

pub constraints-requires : goal.constraints-requires
constraints-requires c = rw c.as_slice-else-is_reduced.ensures.value c.in_ok-graph.ensures.earlier
