use Rattle.c_program.specs.Plain.{global_of}
use Rattle.bank_partition.specs.Shapes.{bank_of}
use Rattle.bank_partition.proofs.OneBankMore.{bank_pushed}
use Rattle.bank_partition.proofs.banks.push_banks.Goals as goal

pub loop-number-preserved : goal.loop-number-preserved
loop-number-preserved c =
    bank_pushed c.args.banks.now.items c.loop-number.banks.items c.push.new.self.items c.in_ok-bank.bank (bank_of c.args.variable (global_of c.args.global.now) c.args.count) c.loop-number.number
    c.loop-number.invariant c.in_ok-push.ensures.items c.in_ok-bank.ensures
