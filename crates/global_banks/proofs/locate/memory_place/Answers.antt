use Rattle.std.proofs.Common.{codes, arith}
use Rattle.std.proofs.lemmas.Grind.{common_steps}
use Rattle.netlist.specs.declared.netlist.Memory.{Memory}
use Rattle.global_banks.specs.Banks.{is_rest, rest_of}
use Rattle.global_banks.proofs.Places.{found, passed}
use Rattle.global_banks.proofs.locate.memory_place.Goals as goal

pub returns-then-is_rest : goal.returns-then-is_rest
returns-then-is_rest c =
    found (λ (t : Memory). is_rest (rest_of (codes "bank_") c.args.global.now t.name) c.args.digits.now) c.args.memories.now c.loop-number.number c.index-memories-number.result
    c.loop-number-test.true c.index-memories-number.is (grind (arith, common_steps)) c.loop-number.invariant

pub loop-number-preserved : goal.loop-number-preserved
loop-number-preserved c =
    passed (λ (t : Memory). is_rest (rest_of (codes "bank_") c.args.global.now t.name) c.args.digits.now) c.args.memories.now c.loop-number.number c.index-memories-number.result
    c.loop-number-test.true c.index-memories-number.is (grind (arith, common_steps)) c.loop-number.invariant
