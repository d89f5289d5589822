use Rattle.std.proofs.Common.{codes, arith}
use Rattle.std.proofs.lemmas.Grind.{common_steps}
use Rattle.netlist.specs.declared.netlist.Instance.{Instance}
use Rattle.global_banks.specs.Banks.{is_rest, rest_of}
use Rattle.global_banks.proofs.Places.{found, passed}
use Rattle.global_banks.proofs.locate.instance_place.Goals as goal

pub returns-then-is_rest : goal.returns-then-is_rest
returns-then-is_rest c =
    found (λ (t : Instance). is_rest (rest_of (codes "u_") c.args.global.now t.name) c.args.digits.now) c.args.instances.now c.loop-number.number c.index-instances-number.result
    c.loop-number-test.true c.index-instances-number.is (grind (arith, common_steps)) c.loop-number.invariant

pub loop-number-preserved : goal.loop-number-preserved
loop-number-preserved c =
    passed (λ (t : Instance). is_rest (rest_of (codes "u_") c.args.global.now t.name) c.args.digits.now) c.args.instances.now c.loop-number.number c.index-instances-number.result
    c.loop-number-test.true c.index-instances-number.is (grind (arith, common_steps)) c.loop-number.invariant
