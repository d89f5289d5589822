use Rattle.thread_requests.proofs.BankAsks.{chosen_none, chosen_more}
use Rattle.thread_requests.proofs.banks.choose_each.Goals as goal

pub loop-number-preserved : goal.loop-number-preserved
loop-number-preserved c =
    chosen_more c.args.wires.now.signals c.loop-number.wires.signals c.is_number.new.self.signals c.choice.new.self.signals c.args.want c.args.last c.args.never c.args.bits
    c.loop-number.number c.in_ok-shown.shown c.in_ok-one.one c.loop-number.chosen c.push.new.self c.loop-number.invariant c.in_ok-shown.ensures.shows c.in_ok-shown.ensures.wired
    c.in_ok-one.ensures.shows c.in_ok-one.ensures.wired c.in_ok-push.ensures.ok

pub loop-number-init : goal.loop-number-init
loop-number-init c = chosen_none c.args.wires.now.signals c.args.want c.args.last c.args.never c.args.bits c.new-chosen.result c.new-chosen.ensures
