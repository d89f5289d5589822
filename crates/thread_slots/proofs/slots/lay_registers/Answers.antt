use Rattle.std.proofs.Common.{◌∙◌, ◌≡◌, ◌+◌, ◌<◌, ◌^◌, ℕ, Option, Some, length, ap, subst, if◌then◌else◌, refl, arith}
use Rattle.std.specs.Prelude.{SomeIff}
use Rattle.std.proofs.lemmas.List.{length-map}
use Rattle.std.proofs.lemmas.Nat.{pow_pos}
use Rattle.hls_ints.specs.Types.{width_of}
use Rattle.thread_slots.specs.Slots.{LaysSlot}
use Rattle.thread_slots.proofs.LaidRegisters.{slot_laid, stands_long, stands_grow}
use Rattle.thread_slots.proofs.SlotWires.{first_fits, types_fit, slots_behind}
use Rattle.thread_slots.proofs.slots.lay_registers.Goals as goal

twice : (sum : Option ℕ) (most end : ℕ) → SomeIff sum (end + end < 2 ^ 64) (end + end) → sum ≡ Some most → most ≡ end + end
twice sum most end t is = (subst (λ (s : Option ℕ). SomeIff s (end + end < 2 ^ 64) (end + end)) is t).1

pub returns-clause-slot : goal.returns-clause-slot
returns-clause-slot c =
    let most_is = twice c.checked_add.result c.in_ok-most.most c.len-end.result c.checked_add.ensures c.in_ok-most.ensures.ok_part in
    let first : c.first_stage-first.result ≡ (if c.args.is_main then 0 else length c.args.code.now.stages) =
    c.first_stage-first.ensures ∙ ap (λ (n : ℕ). if c.args.is_main then 0 else n) c.len-end.ensures in
    subst (λ (n : ℕ).
    LaysSlot c.args.code.now c.args.planned.now n c.args.kept_widths.now c.args.words c.args.spreads c.args.wires.now.signals c.lay_all.new.wires.signals
    (record {
      stage = c.in_ok-stage.stage;
      state = c.in_ok-state.state;
      beat = c.in_ok-beat.beat;
      variables = c.in_ok-variables.variables;
      kept = c.in_ok-kept.kept;
      words =
          c.args.words;
      spreads = c.args.spreads;
      units = c.new-units.result;
    })) first
    (slot_laid c.args.wires.now.signals c.lay_register.new.wires.signals c.lay_register-2.new.wires.signals c.register.new.self.signals c.lay_variables.new.wires.signals
    c.lay_all.new.wires.signals
    c.args.code.now c.args.planned.now c.first_stage-first.result c.len-end.result c.most_states-states.result c.width_of-width.result c.state_width-state_width.result
    c.as_slice-3.result.now
    c.args.kept_widths.now c.as_slice-2.result.now c.as_slice.result.now c.args.words c.args.spreads
    (record {
      stage = c.in_ok-stage.stage;
      state = c.in_ok-state.state;
      beat = c.in_ok-beat.beat;
      variables = c.in_ok-variables.variables;
      kept = c.in_ok-kept.kept;
      words =
          c.args.words;
      spreads = c.args.spreads;
      units = c.new-units.result;
    })
    refl refl c.as_slice.ensures c.as_slice-2.ensures (c.as_slice-3.ensures ∙ c.in_ok-widths.ensures) c.len-end.ensures
    (subst (λ (n : ℕ). n < 2 ^ c.width_of-width.result) most_is c.width_of-width.ensures.room)
    c.state_width-state_width.ensures.room c.state_width-state_width.ensures.fits c.most_states-states.ensures
    c.in_ok-stage.ensures.lays c.in_ok-state.ensures.lays c.in_ok-beat.ensures.stands c.in_ok-beat.ensures.laid c.in_ok-variables.ensures.lays c.in_ok-variables.ensures.named
    c.in_ok-kept.ensures.lays)

pub returns-clause-long : goal.returns-clause-long
returns-clause-long c =
    let one = stands_long c.args.wires.now.signals c.lay_register.new.wires.signals _ _ _ c.in_ok-stage.ensures.lays.stands in
    let two = stands_long c.lay_register.new.wires.signals c.lay_register-2.new.wires.signals _ _ _ c.in_ok-state.ensures.lays.stands in
    let three = stands_long c.lay_register-2.new.wires.signals c.register.new.self.signals _ _ _ c.in_ok-beat.ensures.stands in
    let four = c.in_ok-variables.ensures.lays.long in
    let five = c.in_ok-kept.ensures.lays.long in
    let count : length c.as_slice-3.result.now ≡ length c.args.code.now.variables =
    ap length (c.as_slice-3.ensures ∙ c.in_ok-widths.ensures) ∙ length-map c.as_slice-2.result.now width_of ∙ ap length c.as_slice-2.ensures in
    omega arith

pub returns-clause-wired : goal.returns-clause-wired
returns-clause-wired c = λ fit.
    let most_is = twice c.checked_add.result c.in_ok-most.most c.len-end.result c.checked_add.ensures c.in_ok-most.ensures.ok_part in
    let inputs = length c.args.wires.now.signals in
    let one = stands_long c.args.wires.now.signals c.lay_register.new.wires.signals _ _ _ c.in_ok-stage.ensures.lays.stands in
    let two = stands_long c.lay_register.new.wires.signals c.lay_register-2.new.wires.signals _ _ _ c.in_ok-state.ensures.lays.stands in
    slots_behind c.args.wires.now.signals c.lay_register.new.wires.signals c.lay_register-2.new.wires.signals c.register.new.self.signals c.lay_variables.new.wires.signals
    c.lay_all.new.wires.signals
    _ (omega arith) c.in_ok-beat.ensures.laid
    (stands_grow c.lay_register.new.wires.signals c.lay_register-2.new.wires.signals _ _ _ c.in_ok-state.ensures.lays.stands)
    c.in_ok-variables.ensures.lays.grows c.in_ok-kept.ensures.lays.grows
    (c.in_ok-stage.ensures.wired inputs refl
    (first_fits c.args.is_main c.len-end.result c.first_stage-first.result c.width_of-width.result c.first_stage-first.ensures
    (let room = c.width_of-width.ensures.room in omega arith))
    c.width_of-width.ensures.low c.width_of-width.ensures.high)
    (c.in_ok-state.ensures.wired inputs refl (pow_pos c.state_width-state_width.result) c.state_width-state_width.ensures.low c.state_width-state_width.ensures.high)
    (c.in_ok-variables.ensures.wired inputs (types_fit _ c.as_slice-2.result.now (c.as_slice-3.ensures ∙ c.in_ok-widths.ensures))) (c.in_ok-kept.ensures.wired inputs refl fit)
