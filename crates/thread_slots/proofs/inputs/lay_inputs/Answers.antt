use Rattle.std.proofs.Common.{◌≡◌, ◌≤◌, ℕ, ◌+◌, zero, suc, length, Some, refl, sym, ap, ◌∙◌, arith}
use Rattle.std.specs.Prelude.{replicate, slice_get}
use Rattle.std.proofs.lemmas.List.{replicate-append-replicate}
use Rattle.operator_wires.specs.declared.wires.Role.TheVariants.{Clock, Enable}
use Rattle.thread_slots.specs.Wired.{IsInnerInput, AreFit}
use Rattle.thread_slots.proofs.InputPorts.{inputs_laid}
use Rattle.thread_slots.proofs.LaidRegisters.{stands_grow, stands_long}
use Rattle.thread_slots.proofs.SlotWires.{behind_then, input_behind}
use Rattle.thread_slots.proofs.inputs.lay_inputs.Goals as goal

ones_fit : (n x w : ℕ) → slice_get (replicate n 1) x ≡ Some w → (1 ≤ w) × (w ≤ 64)
ones_fit zero x w e = absurd cc
ones_fit (suc n) zero w e = let one : 1 ≡ w = cc in (omega arith, omega arith)
ones_fit (suc n) (suc x) w e = ones_fit n x w e

pub returns-clause-lays : goal.returns-clause-lays
returns-clause-lays c =
    inputs_laid c.args.wires.now.signals c.input.new.self.signals c.input-2.new.self.signals c.lay_many.new.wires.signals (c.args.banks + c.args.others) _ c.in_ok-enable.enable
    c.as_slice.result.now c.in_ok-held.held c.as_slice-2.result.now (record { enable = c.in_ok-enable.enable; grants = c.in_ok-grants.grants }) c.in_ok-input.ensures.stands
    c.in_ok-enable.ensures.stands refl (c.as_slice.ensures ∙ c.in_ok-ones.ensures ∙ replicate-append-replicate c.args.banks c.args.others 1)
    c.in_ok-held.ensures.lays c.as_slice-2.ensures c.in_ok-grants.ensures
    c.in_ok-input.ensures.laid

pub returns-clause-wired : goal.returns-clause-wired
returns-clause-wired c = λ empty.
    let one = stands_long c.args.wires.now.signals c.input.new.self.signals 1 _ _ c.in_ok-input.ensures.stands in
    let ones : c.as_slice.result.now ≡ replicate (c.args.banks + c.args.others) 1 =
    c.as_slice.ensures ∙ c.in_ok-ones.ensures ∙ replicate-append-replicate c.args.banks c.args.others 1 in
    let fit : AreFit c.as_slice.result.now = λ x w there. ones_fit (c.args.banks + c.args.others) x w (ap (λ l. slice_get l x) (sym ones) ∙ there) in
    behind_then IsInnerInput c.args.wires.now.signals c.input-2.new.self.signals c.lay_many.new.wires.signals c.in_ok-held.ensures.lays.grows
    (behind_then IsInnerInput c.args.wires.now.signals c.input.new.self.signals c.input-2.new.self.signals
    (stands_grow c.input.new.self.signals c.input-2.new.self.signals 1 _ _ c.in_ok-enable.ensures.stands)
    (input_behind c.args.wires.now.signals c.input.new.self.signals Clock 1 _ c.in_ok-input.ensures.laid (λ small n inputs. ap Some (sym empty)) (omega arith) (omega arith))
    (input_behind c.input.new.self.signals c.input-2.new.self.signals Enable 1 _ c.in_ok-enable.ensures.laid
    (λ small n inputs. (let at : 1 ≡ length c.input.new.self.signals = omega arith in ap Some at))
    (omega arith) (omega arith)))
    (c.in_ok-held.ensures.wired refl fit)
