-- The sum of the table's numbers is that of the definition's.
use Rattle.c_program.specs.Plain.{program_of}
use Rattle.c_program.proofs.Tables.{weight_from_table}
use Rattle.c_limits.proofs.counts.measure.Goals as goal

pub returns-clause-weight : goal.returns-clause-weight
returns-clause-weight c =
    let made = rw (c.deref-3.ensures.value, c.deref-4.ensures.value) at c.total-weight.ensures in
    weight_from_table (program_of c.args.program.now) c.in_ok-weights.weights.items c.in_ok-functions.functions.items c.total-weight.result
    c.in_ok-weights.ensures c.in_ok-functions.ensures made
