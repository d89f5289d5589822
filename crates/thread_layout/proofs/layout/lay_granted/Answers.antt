use Rattle.std.proofs.Common.{◌≡◌, ◌≤◌, ℕ, zero, suc, false, List, length, Some, refl, sym, ap, subst, ◌∙◌, arith}
use Rattle.std.specs.Prelude.{replicate, slice_get}
use Rattle.std.proofs.lemmas.List.{length-replicate}
use Rattle.netlist.specs.declared.netlist.Source.TheVariants.{Register}
use Rattle.block_datapath.specs.declared.registers.Held.{Held}
use Rattle.operator_wires.proofs.MadeWords.{of_ok}
use Rattle.thread_slots.specs.Slots.{LaysAll}
use Rattle.thread_slots.specs.Wired.{AreFit, Behind, IsSlotRegister}
use Rattle.thread_layout.proofs.layout.lay_granted.Goals as goal

ones_fit : (n x w : ℕ) → slice_get {X = ℕ} (replicate n 1) x ≡ Some w → (1 ≤ w) × (w ≤ 64)
ones_fit zero x w e = absurd cc
ones_fit (suc n) zero w e = let one : 1 ≡ w = cc in (omega arith, omega arith)
ones_fit (suc n) (suc x) w e = ones_fit n x w e

pub returns-clause-lays : goal.returns-clause-lays
returns-clause-lays c =
    let same : c.as_slice.result.now ≡ replicate c.args.globals 1 = c.as_slice.ensures ∙ c.in_ok-ones.ensures in
    of_ok c.lay_all.result (LaysAll (Register 0) c.args.wires.now.signals c.lay_all.new.wires.signals c.as_slice.result.now (length c.as_slice.result.now))
    (LaysAll (Register 0) c.args.wires.now.signals c.lay_all.new.wires.signals (replicate c.args.globals 1) c.args.globals)
    (λ held t.
    subst (λ n. LaysAll (Register 0) c.args.wires.now.signals c.lay_all.new.wires.signals (replicate c.args.globals 1) n held) (length-replicate c.args.globals 1)
    (subst (λ (z : List ℕ). LaysAll (Register 0) c.args.wires.now.signals c.lay_all.new.wires.signals z (length z) held) same t)) c.lay_all.ensures.lays

pub returns-clause-wired : goal.returns-clause-wired
returns-clause-wired c =
    let same : c.as_slice.result.now ≡ replicate c.args.globals 1 = c.as_slice.ensures ∙ c.in_ok-ones.ensures in
    let fit : AreFit c.as_slice.result.now = λ x w there. ones_fit c.args.globals x w (ap (λ l. slice_get l x) (sym same) ∙ there) in
    of_ok c.lay_all.result (λ (held : List Held). (inputs : ℕ) → false ≡ false → AreFit c.as_slice.result.now → Behind (IsSlotRegister inputs) c.args.wires.now.signals c.lay_all.new.wires.signals)
    (λ (held : List Held). (inputs : ℕ) → Behind (IsSlotRegister inputs) c.args.wires.now.signals c.lay_all.new.wires.signals) (λ held t inputs. t inputs refl fit) c.lay_all.ensures.wired
