use Rattle.std.proofs.Common.{rules, ◌<◌}
use Rattle.std.proofs.lemmas.Result.{IfOk-weaker}
use Rattle.operator_wires.proofs.ResizedWords.{resizes_low, resizes_not, resizes_sign, resizes_zeros}
use Rattle.operator_wires.proofs.TypedWords.{resized_low, resized_not, resized_sign, resized_zeros}
use Rattle.operator_wires.proofs.wires.Wires.resized.Goals as goal

pub returns-then-to-from-clause-shows : goal.returns-then-to-from-clause-shows
returns-then-to-from-clause-shows c =
    IfOk-weaker c.low_bits.result _ _
    (λ place u. resizes_low c.args.self.now.signals c.low_bits.new.self.signals c.args.of c.args.from c.args.to place c.args.signed (search rules) u)
    c.low_bits.ensures.shows

pub returns-then-to-from-clause-wired : goal.returns-then-to-from-clause-wired
returns-then-to-from-clause-wired c =
    IfOk-weaker c.low_bits.result _ _
    (λ place u. resized_low c.args.self.now.signals c.low_bits.new.self.signals c.args.of c.args.from c.args.to place c.args.signed (search rules) u)
    c.low_bits.ensures.wired

pub returns-then-from-to-clause-shows : goal.returns-then-from-to-clause-shows
returns-then-from-to-clause-shows c = resizes_not c.args.self.now.signals c.args.of c.args.from c.args.to c.args.signed (search rules)

pub returns-then-from-to-clause-wired : goal.returns-then-from-to-clause-wired
returns-then-from-to-clause-wired c = resized_not c.args.self.now.signals c.args.of c.args.from c.args.to c.args.signed (search rules)

pub returns-then-signed-clause-shows : goal.returns-then-signed-clause-shows
returns-then-signed-clause-shows c =
    let below : c.args.from < c.args.to = search rules in
    IfOk-weaker c.with_sign.result _ _
    (λ place u. resizes_sign c.args.self.now.signals c.with_sign.new.self.signals c.args.of c.args.from c.args.to place c.args.signed below (search rules) u)
    c.with_sign.ensures.shows

pub returns-then-signed-clause-wired : goal.returns-then-signed-clause-wired
returns-then-signed-clause-wired c =
    let below : c.args.from < c.args.to = search rules in
    IfOk-weaker c.with_sign.result _ _
    (λ place u. resized_sign c.args.self.now.signals c.with_sign.new.self.signals c.args.of c.args.from c.args.to place c.args.signed below (search rules) u)
    c.with_sign.ensures.wired

pub returns-else-signed-clause-shows : goal.returns-else-signed-clause-shows
returns-else-signed-clause-shows c =
    let below : c.args.from < c.args.to = search rules in
    IfOk-weaker c.with_zeros.result _ _
    (λ place u. resizes_zeros c.args.self.now.signals c.with_zeros.new.self.signals c.args.of c.args.from c.args.to place c.args.signed below (search rules) u)
    c.with_zeros.ensures.shows

pub returns-else-signed-clause-wired : goal.returns-else-signed-clause-wired
returns-else-signed-clause-wired c =
    let below : c.args.from < c.args.to = search rules in
    IfOk-weaker c.with_zeros.result _ _
    (λ place u. resized_zeros c.args.self.now.signals c.with_zeros.new.self.signals c.args.of c.args.from c.args.to place c.args.signed below u)
    c.with_zeros.ensures.wired
