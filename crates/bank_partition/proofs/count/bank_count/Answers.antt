use Rattle.std.proofs.Common.{◌≡◌, sym, subst, rules}
use Rattle.bank_partition.specs.Counts.{bank_count, IsBankCount}
use Rattle.bank_partition.proofs.BankCount.{count_is}
use Rattle.bank_partition.proofs.count.bank_count.Goals as goal

pub returns-clause-law : goal.returns-clause-law
returns-clause-law c l =
    let same : c.power_within.result ≡ bank_count c.args.threads c.args.length = search rules in
    subst (IsBankCount c.args.threads c.args.length) (sym same) (count_is c.args.threads c.args.length l)
