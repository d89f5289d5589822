-- The small block, worked out.
use Rattle.std.proofs.Common.{refl}
use Rattle.planned_block.specs.Example.{RunReadsAndWrites, StallsTwice, SequentialRows}

pub run_reads_and_writes : RunReadsAndWrites
run_reads_and_writes = refl

pub stalls_twice : StallsTwice
stalls_twice = record { waits = refl; over = refl; variable = refl }

pub sequential_rows : SequentialRows
sequential_rows = record { copy_start = refl; copy_end = refl; empty_end = refl }
