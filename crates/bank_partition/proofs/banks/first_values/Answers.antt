use Rattle.std.proofs.Common.{◌≡◌, ◌+◌, ◌*◌, ◌<◌, arith}
use Rattle.c_program.specs.Plain.{global_of}
use Rattle.bank_partition.specs.Counts.{words_of}
use Rattle.bank_partition.specs.Shapes.{first_value}
use Rattle.bank_partition.proofs.BankCount.{has_element}
use Rattle.bank_partition.proofs.OneBankMore.{value_pushed}
use Rattle.bank_partition.proofs.banks.first_values.Goals as goal

pub overflow_mul-address : goal.overflow_mul-address
overflow_mul-address c =
    let w : c.words-words.result ≡ words_of c.args.count c.args.number c.args.global.now.length = c.words-words.ensures in
    let inside : c.loop-address.address * c.args.count + c.args.number < c.args.global.now.length =
    has_element c.args.count c.args.number c.args.global.now.length c.loop-address.address c.requires (omega arith) in
    omega arith

pub overflow_add-address : goal.overflow_add-address
overflow_add-address c =
    let w : c.words-words.result ≡ words_of c.args.count c.args.number c.args.global.now.length = c.words-words.ensures in
    let inside : c.loop-address.address * c.args.count + c.args.number < c.args.global.now.length =
    has_element c.args.count c.args.number c.args.global.now.length c.loop-address.address c.requires (omega arith) in
    omega arith

pub loop-address-preserved : goal.loop-address-preserved
loop-address-preserved c =
    value_pushed c.loop-address.values.items c.push.new.self.items (λ a. first_value (global_of c.args.global.now) (a * c.args.count + c.args.number)) c.loop-address.address
    c.first_value.result c.loop-address.invariant c.in_ok-push.ensures.items c.first_value.ensures
