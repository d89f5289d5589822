use Rattle.first_printed.proofs.FirstPrinted.{first_prints, rounds_print}
use Rattle.first_printed.proofs.first_prints.Goals as goal

pub returns : goal.returns
returns c = record { prints = first_prints; rounds = rounds_print }
