use Rattle.std.proofs.Common.{refl, arith}
use Rattle.std.proofs.lemmas.Grind.{common_steps}
use Rattle.thread_slots.proofs.StandingStores.{put_answered}
use Rattle.thread_slots.proofs.PutStores.{word_answered}
use Rattle.thread_slots.proofs.stores.put.Goals as goal

pub returns-clause-wired : goal.returns-clause-wired
returns-clause-wired c =
    put_answered c.push.result c.args.wires.now.signals c.in_state.new.wires.signals c.address.new.wires.signals c.converted.new.self.signals c.args.registers.now c.args.memory
    c.args.array
    c.args.index c.args.value c.in_ok-source.source c.args.moment c.in_ok-condition.condition c.in_ok-address.address c.args.stores.now c.push.new.self _
    c.in_ok-condition.ensures.wired
    c.in_ok-address.ensures.wired c.in_ok-source.ensures.wired refl refl refl refl c.push.ensures.ok

pub returns-clause-puts : goal.returns-clause-puts
returns-clause-puts c =
    word_answered c.push.result c.args.wires.now.signals c.in_state.new.wires.signals c.address.new.wires.signals c.converted.new.self.signals c.args.registers.now c.args.memory
    c.args.array
    c.args.index c.args.value c.in_ok-source.source c.args.moment c.in_ok-condition.condition c.in_ok-address.address c.args.stores.now c.push.new.self _
    c.in_ok-condition.ensures.shows
    c.in_ok-address.ensures.shows c.in_ok-source.ensures.shows refl refl refl refl c.push.ensures.ok

pub returns-clause-grows : goal.returns-clause-grows
returns-clause-grows c = grind (arith, common_steps)
