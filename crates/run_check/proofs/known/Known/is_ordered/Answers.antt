use Rattle.std.proofs.Common.{◌≡◌, refl, rules}
use Rattle.std.specs.Prelude.{true}
use Rattle.race_check.specs.Access.{touches_of}
use Rattle.run_check.specs.Clocks.{row}
use Rattle.run_check.proofs.Noted.{missed_access, missed_act, missed_last}
use Rattle.run_check.proofs.known.Known.is_ordered.Goals as goal

pub returns-then-not-are_ordered-clause-unordered : goal.returns-then-not-are_ordered-clause-unordered
returns-then-not-are_ordered-clause-unordered c e =
    let k = c.args.self.now in
    let heard = c.clock_of-clock.result.now in
    let own : heard ≡ row k.clocks.items c.args.thread = search rules in
    missed_access k c.args.thread c.args.class (touches_of c.args.accesses.now) c.args.ended heard c.deref-2.result.now own c.deref-2.ensures.value
    (c.if-not-are_ordered.ensures.unordered refl)

pub returns-then-not-is_act_ordered-clause-unordered : goal.returns-then-not-is_act_ordered-clause-unordered
returns-then-not-is_act_ordered-clause-unordered c e =
    let k = c.args.self.now in
    let heard = c.clock_of-clock.result.now in
    let own : heard ≡ row k.clocks.items c.args.thread = search rules in
    missed_act k c.args.thread c.args.class (touches_of c.args.accesses.now) c.args.ended heard own (c.if-not-is_act_ordered.ensures.unordered refl)

pub returns-else-not-ended-clause-unordered : goal.returns-else-not-ended-clause-unordered
returns-else-not-ended-clause-unordered c e =
    let k = c.args.self.now in
    let heard = c.clock_of-clock.result.now in
    let own : heard ≡ row k.clocks.items c.args.thread = search rules in
    let over : c.args.ended ≡ true = search rules in
    missed_last k c.args.thread c.args.class (touches_of c.args.accesses.now) c.args.ended heard c.deref-else-not-ended.result.now own
    c.deref-else-not-ended.ensures.value over (c.is_behind_all.ensures.missed e)
