use Rattle.verilog_text.proofs.expressions.expression.Goals as goal

pub returns-in_ok-guard-in-Division-clause-text : goal.returns-in_ok-guard-in-Division-clause-text
returns-in_ok-guard-in-Division-clause-text c =
    let h = rw c.in_ok-guard-in-Division.ensures.text at c.division.ensures.text in
    rw c.in-Division.is h

pub returns-in_ok-guard-in-SignedDivision-clause-text : goal.returns-in_ok-guard-in-SignedDivision-clause-text
returns-in_ok-guard-in-SignedDivision-clause-text c =
    let h = rw c.in_ok-guard-in-SignedDivision.ensures.text at c.signed_division.ensures.text in
    rw c.in-SignedDivision.is h

pub returns-in_ok-guard-in-MemoryRead-clause-text : goal.returns-in_ok-guard-in-MemoryRead-clause-text
returns-in_ok-guard-in-MemoryRead-clause-text c =
    let h = rw c.in_ok-guard-in-MemoryRead.ensures.text at c.memory_read.ensures.text in
    rw c.in-MemoryRead.is h
