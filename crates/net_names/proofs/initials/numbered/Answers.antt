use Rattle.std.proofs.Common.{◌∙◌, refl, arith}
use Rattle.net_names.proofs.NumberTables.{no_constant, next_constant}
use Rattle.net_names.proofs.initials.numbered.Goals as goal

pub loop-number-init : goal.loop-number-init
loop-number-init c = no_constant _ c.args.list.now _ c.new-words.ensures.empty refl

pub loop-number-preserved : goal.loop-number-preserved
loop-number-preserved c =
    let some = c.loop-number-test.true in
    next_constant _ _ c.args.list.now c.loop-number.number _ _ c.index-list-number.result c.as_bytes-name.result (omega (arith, some)) c.loop-number.auto.number
    c.index-list-number.is (c.as_bytes-name.ensures.value ∙ c.as_str.ensures.bytes) c.in_ok-insert.ensures.updates.0 c.loop-number.invariant
