use Rattle.std.proofs.Common.{◌≡◌, ◌*◌, length, max, subst, arith}
use Rattle.thread_slots.specs.Bits.{MakesBits, MakesAny}
use Rattle.thread_slots.proofs.BitLists.{bits_none}
use Rattle.loop_datapath.specs.declared.states.StateSet.TheVariants.{From}
use Rattle.loop_datapath.specs.States.{contains, PartOf}
use Rattle.loop_datapath.proofs.StateBits.{part_more, some_wired_none, some_wired_more}
use Rattle.loop_datapath.proofs.states.round_bits.Goals as goal

pub loop-round-preserved : goal.loop-round-preserved
loop-round-preserved c = record {
  shows =
      part_more c.args.wires.now.signals c.loop-round.wires.signals c.any_state.new.wires.signals c.args.never c.args.states.now (λ k. From (k * c.args.times.now.interval))
      c.loop-round.round c.in_ok-bit.bit c.loop-round.bits c.push.new.self c.loop-round.invariant.shows
      (subst (λ n. MakesAny c.loop-round.wires.signals c.any_state.new.wires.signals c.args.never c.args.states.now (contains (From (c.loop-round.round * n)))
      (length c.args.states.now) c.in_ok-bit.bit) c.from.ensures c.in_ok-bit.ensures.shows)
      c.in_ok-push.ensures.ok;
  wired =
      some_wired_more c.args.wires.now.signals c.loop-round.wires.signals c.any_state.new.wires.signals c.args.never c.in_ok-bit.bit c.args.states.now c.loop-round.bits
      c.push.new.self c.loop-round.invariant.wired c.in_ok-bit.ensures.wired c.in_ok-push.ensures.ok;
}

pub loop-round-init : goal.loop-round-init
loop-round-init c = record {
  shows = bits_none (PartOf c.args.never c.args.states.now (λ k. From (k * c.args.times.now.interval))) c.args.wires.now.signals c.new-bits.result c.new-bits.ensures;
  wired = some_wired_none c.args.wires.now.signals c.args.never c.args.states.now c.new-bits.result c.new-bits.ensures;
}

pub returns-clause-shows : goal.returns-clause-shows
returns-clause-shows c =
    let all : c.loop-round.round ≡ max 2 c.args.times.now.stages = omega arith in
    subst (λ n. MakesBits c.args.wires.now.signals c.loop-round.wires.signals n c.loop-round.bits
    (PartOf c.args.never c.args.states.now (λ k. From (k * c.args.times.now.interval)))) all
    c.loop-round.invariant.shows

pub returns-clause-wired : goal.returns-clause-wired
returns-clause-wired c = c.loop-round.invariant.wired
