use Rattle.std.proofs.Common.{refl}
use Rattle.thread_requests.proofs.BankAsks.{one_none, one_more}
use Rattle.thread_requests.proofs.banks.one_bank_each.Goals as goal

pub loop-number-preserved : goal.loop-number-preserved
loop-number-preserved c = one_more c.loop-number.spreads c.push.new.self c.loop-number.number _ c.loop-number.invariant refl c.in_ok-push.ensures.ok

pub loop-number-init : goal.loop-number-init
loop-number-init c = one_none c.new-spreads.result c.new-spreads.ensures
