-- A block has at most one plan.
use Rattle.std.proofs.Common.{◌≡◌, ℕ, ◌+◌, ◌<◌, List, length, take, ap, subst, sym, ◌∙◌, arith}
use Rattle.std.specs.Prelude.{slice_index, max}
use Rattle.std.proofs.lemmas.List.{ext_get_or}
use Rattle.op_graph.specs.declared.node.Node.{Node}
use Rattle.op_graph.specs.Graph.{nodes_of}
use Rattle.unit_binding.specs.Units.{AreUnits, UnitsAgree}
use Rattle.register_binding.specs.Used.{is_used_at_end}
use Rattle.register_binding.specs.Registers.{AreRegisters, RegistersAgree}
use Rattle.fsm_plan.specs.Planned.{AreLeastStarts, PlansAgree}

pub same_starts : (nodes : List Node) (s t : List ℕ) → AreLeastStarts nodes s → AreLeastStarts nodes t → s ≡ t
same_starts nodes s t a b = ext_get_or 0 s t (a.count ∙ sym b.count) (λ i l.
    let c = a.count in
    let w : i < length nodes + 1 = omega arith in
    let x = a.least (slice_index t) b.meets i w in
    let y = b.least (slice_index s) a.meets i w in
    omega arith)

pub plans_agree : UnitsAgree → RegistersAgree → PlansAgree
plans_agree units registers b p q x y =
    let s : x.starts ≡ y.starts = same_starts (nodes_of b.operations) x.starts y.starts x.least y.least in
    let u : AreUnits (nodes_of b.operations) x.starts q.units =
    subst (λ (z : List ℕ). AreUnits (nodes_of b.operations) z q.units) (sym s) y.units in
    let r : AreRegisters (nodes_of b.operations) x.starts (is_used_at_end b) q.registers =
    subst (λ (z : List ℕ). AreRegisters (nodes_of b.operations) z (is_used_at_end b) q.registers) (sym s) y.registers in
    let starts : p.starts ≡ q.starts = x.starts_are ∙ (ap (λ (z : List ℕ). take (length b.operations) z) s ∙ sym y.starts_are) in
    let states : p.states ≡ q.states = x.states ∙ (ap (λ (z : List ℕ). max 1 (slice_index z (length b.operations))) s ∙ sym y.states) in
    let same_units : p.units ≡ q.units = units (nodes_of b.operations) x.starts p.units q.units x.units u in
    let same_registers : p.registers ≡ q.registers = registers (nodes_of b.operations) x.starts (is_used_at_end b) p.registers q.registers x.registers r in
    λ i. record { starts = starts i; states = states i; units = same_units i; registers = same_registers i }
