use Rattle.std.proofs.Common.{true, List, ℕ, length, subst, ◌∙◌}
use Rattle.bank_partition.specs.declared.banks.Spread.{Spread}
use Rattle.thread_states.specs.declared.control.Edge.{Edge}
use Rattle.thread_slots.specs.Bits.{BothOf, MakesBits, AddsBoths}
use Rattle.thread_states.specs.Control.{Remembers, AddsRemembered}
use Rattle.thread_states.proofs.LeftStates.{control_made}
use Rattle.thread_slots.proofs.BitLists.{both_as, adds_both_as, not_as, adds_not_as, any_as, adds_any_as}
use Rattle.thread_states.proofs.ControlWires.{control_wired}
use Rattle.thread_states.proofs.control.control.Goals as goal

pub returns-clause-controls : goal.returns-clause-controls
returns-clause-controls c =
    let edge : Edge = record {
      asks = c.in_ok-asks.asks;
      leave = c.in_ok-leave.leave;
      state = c.in_ok-state.state;
      beat = c.in_ok-beat.beat;
      moved = c.in_ok-moved.moved;
      granted = c.in_ok-granted.granted;
    } in
    control_made c.args.wires.now.signals c.both_with.new.wires.signals c.both_each.new.wires.signals c.not_each.new.wires.signals c.both_each-2.new.wires.signals
    c.any_of.new.wires.signals
    c.not.new.self.signals c.both.new.self.signals c.next_state.new.wires.signals c.not-2.new.self.signals c.any_of-2.new.wires.signals c.not-3.new.self.signals
    c.remember.new.wires.signals
    c.args.registers.now c.args.inputs.now c.args.chains.now c.args.opens.now c.args.granted.now edge c.in_ok-got.got c.in_ok-missing.missing c.in_ok-unmet.unmet
    c.in_ok-blocked.blocked
    c.in_ok-free.free c.in_ok-stay.stay c.in_ok-asks.ensures.shows
    (both_as c.both_with.new.wires.signals c.both_each.new.wires.signals c.as_slice.result.now c.as_slice-2.result.now c.in_ok-asks.asks c.args.inputs.now.grants c.in_ok-got.got
    c.as_slice.ensures c.as_slice-2.ensures c.in_ok-got.ensures.shows)
    (not_as c.both_each.new.wires.signals c.not_each.new.wires.signals c.as_slice-3.result.now c.in_ok-got.got c.in_ok-missing.missing c.as_slice-3.ensures
    c.in_ok-missing.ensures.shows)
    (subst (λ (z : List ℕ). MakesBits c.not_each.new.wires.signals c.both_each-2.new.wires.signals (length c.args.opens.now) c.in_ok-unmet.unmet (BothOf c.args.opens.now z))
    c.as_slice-4.ensures
    c.in_ok-unmet.ensures.shows)
    (any_as c.both_each-2.new.wires.signals c.any_of.new.wires.signals c.args.chains.now.waits c.in_ok-blocked.blocked
    (λ k. true) c.as_slice-5.result.now c.in_ok-unmet.unmet c.as_slice-5.ensures
    c.in_ok-blocked.ensures.shows)
    c.in_ok-free.ensures.shows c.in_ok-leave.ensures.shows c.in_ok-state.ensures.follows c.in_ok-beat.ensures.shows
    (any_as c.not-2.new.self.signals c.any_of-2.new.wires.signals c.in_ok-leave.leave c.in_ok-moved.moved (λ k. true) c.as_slice-6.result.now c.in_ok-got.got c.as_slice-6.ensures
    c.in_ok-moved.ensures.shows)
    c.in_ok-stay.ensures.shows
    (subst (λ (z : List ℕ). Remembers c.not-3.new.self.signals c.remember.new.wires.signals c.args.granted.now z c.args.registers.now.spreads c.in_ok-stay.stay
    (length c.args.granted.now)
    c.in_ok-granted.granted) c.as_slice-7.ensures
    (subst (λ (z : List Spread). Remembers c.not-3.new.self.signals c.remember.new.wires.signals c.args.granted.now c.as_slice-7.result.now z c.in_ok-stay.stay
    (length c.args.granted.now)
    c.in_ok-granted.granted) c.as_slice-8.ensures c.in_ok-granted.ensures.shows))

pub returns-clause-wired : goal.returns-clause-wired
returns-clause-wired c = λ base steered.
    let edge : Edge = record {
      asks = c.in_ok-asks.asks;
      leave = c.in_ok-leave.leave;
      state = c.in_ok-state.state;
      beat = c.in_ok-beat.beat;
      moved = c.in_ok-moved.moved;
      granted = c.in_ok-granted.granted;
    } in
    let gots =
    both_as c.both_with.new.wires.signals c.both_each.new.wires.signals c.as_slice.result.now c.as_slice-2.result.now c.in_ok-asks.asks c.args.inputs.now.grants c.in_ok-got.got
    c.as_slice.ensures c.as_slice-2.ensures c.in_ok-got.ensures.shows in
    let misses =
    not_as c.both_each.new.wires.signals c.not_each.new.wires.signals c.as_slice-3.result.now c.in_ok-got.got c.in_ok-missing.missing c.as_slice-3.ensures
    c.in_ok-missing.ensures.shows in
    control_wired base c.args.wires.now.signals c.both_with.new.wires.signals c.both_each.new.wires.signals c.not_each.new.wires.signals c.both_each-2.new.wires.signals
    c.any_of.new.wires.signals
    c.not.new.self.signals c.both.new.self.signals c.next_state.new.wires.signals c.not-2.new.self.signals c.any_of-2.new.wires.signals c.not-3.new.self.signals
    c.remember.new.wires.signals
    c.args.registers.now c.args.inputs.now c.args.chains.now c.args.opens.now c.args.granted.now edge c.in_ok-got.got c.in_ok-missing.missing c.in_ok-unmet.unmet
    c.in_ok-blocked.blocked
    c.in_ok-free.free c.in_ok-stay.stay steered c.in_ok-asks.ensures.laid (misses.count ∙ gots.count ∙ c.in_ok-asks.ensures.laid.count) c.in_ok-asks.ensures.wired
    (adds_both_as c.both_with.new.wires.signals c.both_each.new.wires.signals c.as_slice.result.now c.as_slice-2.result.now c.in_ok-asks.asks c.args.inputs.now.grants
    c.in_ok-got.got
    c.as_slice.ensures c.as_slice-2.ensures c.in_ok-got.ensures.wired)
    (adds_not_as c.both_each.new.wires.signals c.not_each.new.wires.signals c.as_slice-3.result.now c.in_ok-got.got c.in_ok-missing.missing c.as_slice-3.ensures
    c.in_ok-missing.ensures.wired)
    (subst (λ (z : List ℕ). AddsBoths c.not_each.new.wires.signals c.both_each-2.new.wires.signals c.args.opens.now z c.in_ok-unmet.unmet) c.as_slice-4.ensures
    c.in_ok-unmet.ensures.wired)
    (adds_any_as c.both_each-2.new.wires.signals c.any_of.new.wires.signals c.args.chains.now.waits c.in_ok-blocked.blocked c.as_slice-5.result.now c.in_ok-unmet.unmet
    c.as_slice-5.ensures
    c.in_ok-blocked.ensures.wired)
    (c.in_ok-free.ensures.wired base) (c.in_ok-leave.ensures.wired base) (c.in_ok-state.ensures.wired base) (c.in_ok-beat.ensures.wired base)
    (adds_any_as c.not-2.new.self.signals c.any_of-2.new.wires.signals c.in_ok-leave.leave c.in_ok-moved.moved c.as_slice-6.result.now c.in_ok-got.got c.as_slice-6.ensures
    c.in_ok-moved.ensures.wired)
    (c.in_ok-stay.ensures.wired base)
    (subst (λ (z : List ℕ). AddsRemembered c.not-3.new.self.signals c.remember.new.wires.signals c.args.granted.now z c.in_ok-stay.stay c.in_ok-granted.granted)
    c.as_slice-7.ensures
    c.in_ok-granted.ensures.wired)
