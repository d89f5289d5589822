use Rattle.std.proofs.Common.{◌≡◌, ◌++◌, map}
use Rattle.c_program.specs.Plain.{global_of}
use Rattle.bank_partition.specs.Shapes.{shape_of, spread, bank_of}
use Rattle.bank_partition.proofs.banks.push_banks.Given as goal

abbrev pub invariant-loop-number : goal.invariant-loop-number
invariant-loop-number l = map shape_of l.banks.items ≡ map shape_of l.initial.banks.items ++ spread (bank_of l.variable (global_of l.global) l.count) 0 l.number
