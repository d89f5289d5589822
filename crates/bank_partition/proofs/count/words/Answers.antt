use Rattle.std.proofs.Common.{◌≡◌, ◌+◌, ◌/◌, ◌%◌, nat_lt, true, false, sym, ap, ◌∙◌, arith}
use Rattle.std.proofs.lemmas.Bool.Decides.{nat_tests}
use Rattle.bank_partition.specs.Counts.{one_if}
use Rattle.bank_partition.proofs.BankCount.{words_are}
use Rattle.bank_partition.proofs.count.words.Goals as goal

pub returns-then-number-length : goal.returns-then-number-length
returns-then-number-length c =
    let t : nat_lt c.args.number (c.args.length % c.args.count) ≡ true = let l = c.if-number-length.true in grind (arith, nat_tests) in
    sym (words_are c.args.count c.args.number c.args.length c.requires ∙ ap (λ b. c.args.length / c.args.count + one_if b) t)

pub returns-else-number-length : goal.returns-else-number-length
returns-else-number-length c =
    let t : nat_lt c.args.number (c.args.length % c.args.count) ≡ false = let l = c.if-number-length.false in grind (arith, nat_tests) in
    let z : c.args.length / c.args.count + 0 ≡ c.args.length / c.args.count = omega arith in
    sym (words_are c.args.count c.args.number c.args.length c.requires ∙ ap (λ b. c.args.length / c.args.count + one_if b) t ∙ z)
