use Rattle.std.proofs.Common.{◌≡◌, ◌+◌, ◌*◌}
use Rattle.c_program.specs.Plain.{global_of}
use Rattle.bank_partition.specs.Shapes.{spread, first_value}
use Rattle.bank_partition.proofs.banks.first_values.Given as goal

abbrev pub invariant-loop-address : goal.invariant-loop-address
invariant-loop-address l = l.values.items ≡ spread (λ a. first_value (global_of l.global) (a * l.count + l.number)) 0 l.address
