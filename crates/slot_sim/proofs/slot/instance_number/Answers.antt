use Rattle.std.proofs.Common.{sym, ◌∙◌}
use Rattle.std.specs.Str.{bytes_eq}
use Rattle.netlist.specs.declared.netlist.Instance.{Instance}
use Rattle.global_banks.proofs.Places.{found, passed}
use Rattle.slot_sim.proofs.slot.instance_number.Goals as goal

pub returns-then-is_named : goal.returns-then-is_named
returns-then-is_named c =
    found (λ (n : Instance). bytes_eq c.args.name.now n.name) c.args.instances.now c.loop-number.number c.index-instances-number.result
    c.loop-number-test.true c.index-instances-number.is (sym c.is_named.ensures ∙ c.if-is_named.true) c.loop-number.invariant

pub loop-number-preserved : goal.loop-number-preserved
loop-number-preserved c =
    passed (λ (n : Instance). bytes_eq c.args.name.now n.name) c.args.instances.now c.loop-number.number c.index-instances-number.result
    c.loop-number-test.true c.index-instances-number.is (sym c.is_named.ensures ∙ c.if-is_named.false) c.loop-number.invariant
