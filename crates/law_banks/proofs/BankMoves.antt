-- A bank's machine moves as the cycle of the banks says.
use Rattle.std.specs.Prelude.{Some, None}
use Rattle.std.proofs.Common.{refl}
use Rattle.law_banks.specs.Laws.{BankMoves}

pub bank_moves : BankMoves
bank_moves b s numbers None = refl
bank_moves b s numbers (Some w) = refl
