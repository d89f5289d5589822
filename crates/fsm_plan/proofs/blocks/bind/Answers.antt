use Rattle.std.proofs.Common.{◌≡◌, ◌∙◌, ap, length, arith, List, subst}
use Rattle.op_graph.specs.declared.node.Node.{Node}
use Rattle.op_graph.specs.Graph.{nodes_of}
use Rattle.unit_binding.specs.Units.{AreUnits}
use Rattle.register_binding.specs.Used.{is_used_at_end}
use Rattle.register_binding.specs.Registers.{AreRegisters, AreCrowded}
use Rattle.fsm_plan.proofs.Bridge.{length-nodes}
use Rattle.fsm_plan.proofs.LeastStarts.{done_fits}
use Rattle.fsm_plan.proofs.Whole.{bindings}
use Rattle.fsm_plan.proofs.blocks.bind.Goals as goal

pub bind_units-requires-clause-starts : goal.bind_units-requires-clause-starts
bind_units-requires-clause-starts c = let n = c.requires.least.count in omega arith

pub bind_units-requires-clause-fits : goal.bind_units-requires-clause-fits
bind_units-requires-clause-fits c =
    let n : length c.args.graph.now ≡ length c.args.block.now.operations = ap (λ (l : List Node). length l) c.requires.graph ∙ length-nodes c.args.block.now.operations in
    let few = c.requires.few in
    done_fits c.args.graph.now c.args.starts.now c.requires.soon (omega arith)

pub bind_registers-requires-clause-nodes : goal.bind_registers-requires-clause-nodes
bind_registers-requires-clause-nodes c = ap (λ (l : List Node). length l) c.requires.graph ∙ length-nodes c.args.block.now.operations

pub bind_registers-requires-clause-starts : goal.bind_registers-requires-clause-starts
bind_registers-requires-clause-starts c = c.requires.least.count

pub bind_registers-requires-clause-fits : goal.bind_registers-requires-clause-fits
bind_registers-requires-clause-fits c =
    let n : length c.args.graph.now ≡ length c.args.block.now.operations = ap (λ (l : List Node). length l) c.requires.graph ∙ length-nodes c.args.block.now.operations in
    let few = c.requires.few in
    done_fits c.args.graph.now c.args.starts.now c.requires.soon (omega arith)

pub returns : goal.returns
returns c =
    let block = c.args.block.now in
    let starts = c.args.starts.now in
    let units : AreUnits (nodes_of block.operations) starts c.in_ok-units.units.unit.items =
    subst (λ (g : List Node). AreUnits g starts c.in_ok-units.units.unit.items) c.requires.graph c.in_ok-units.ensures.units in
    let registers : AreRegisters (nodes_of block.operations) starts (is_used_at_end block) c.in_ok-registers.registers.register.items =
    subst (λ (g : List Node). AreRegisters g starts (is_used_at_end block) c.in_ok-registers.registers.register.items) c.requires.graph c.in_ok-registers.ensures.registers in
    let crowd : AreCrowded (nodes_of block.operations) starts (is_used_at_end block) c.in_ok-registers.registers.count c.in_ok-registers.registers.crowded =
    subst (λ (g : List Node). AreCrowded g starts (is_used_at_end block) c.in_ok-registers.registers.count c.in_ok-registers.registers.crowded) c.requires.graph
    c.in_ok-registers.ensures.crowd in
    bindings block starts c.requires.few _ _ _ _ _ _ _ units registers c.in_ok-registers.ensures.below crowd
    (rw c.as_slice.ensures.value at c.in_ok-unit_numbers.ensures) (rw c.as_slice-2.ensures.value at c.in_ok-register_names.ensures) c.number.ensures
