-- What waits for its operands works on registers.
use Rattle.std.proofs.Common.{◌≡◌, ◌<◌, true, false, ◌⊎◌, inl, inr, refl, arith}
use Rattle.std.proofs.lemmas.Bool.{cases_Bool}
use Rattle.plan_blocks.specs.Block.{Kind, Simple, Multiply, Divide, BankRead, BankWrite, ArrayRead, ArrayWrite, operation_at}
use Rattle.plan_blocks.specs.Plan.{is_simple, last_state}
use Rattle.plan_blocks.specs.Slot.{is_request}
use Rattle.plan_blocks.proofs.Tables.{simple_now}
use Rattle.plan_conditions.specs.Right.{TableGivesRegisters}

-- a request is no mere logic
pub request_is_slow : (kind : Kind) → is_request kind ≡ true → is_simple kind ≡ false
request_is_slow (Simple f) e = absurd cc
request_is_slow (Multiply f) e = refl
request_is_slow (Divide f) e = refl
request_is_slow (BankRead x) e = refl
request_is_slow (BankWrite x) e = refl
request_is_slow (ArrayRead x) e = refl
request_is_slow (ArrayWrite x) e = refl

pub works_from_registers : TableGivesRegisters
works_from_registers b p t j k below complex uses = by_kind (cases_Bool (is_simple (operation_at b j).kind))
  where
    by_kind : (is_simple (operation_at b j).kind ≡ true) ⊎ (is_simple (operation_at b j).kind ≡ false) → last_state b p j < p.start k
    by_kind (inl simple) =
        let gap = t.kept j k below uses simple complex in
        let none = simple_now (operation_at b j).kind simple in
        omega (arith, gap, none)
    by_kind (inr slow) = let gap = t.awaited j k below uses slow in omega (arith, gap)
